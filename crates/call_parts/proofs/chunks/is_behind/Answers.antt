use Rattle.std.proofs.Common.{sym}
use Rattle.std.proofs.lemmas.Bool.{leb-true}
use Rattle.call_parts.proofs.Pieces.{behind_last}
use Rattle.call_parts.proofs.chunks.is_behind.Goals as goal

pub returns-in-Some-clause-yes : goal.returns-in-Some-clause-yes
returns-in-Some-clause-yes c = λ behind.
    behind_last c.args.limit c.args.pieces.now c.in-Some.last.now c.requires (sym c.in-Some.ensures.value) (leb-true c.args.limit c.in-Some.last.now.start behind)

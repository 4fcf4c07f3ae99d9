use Rattle.std.proofs.Common.{◌∙◌, take, ap}
use Rattle.call_parts.proofs.Pieces.{last_cut, last_stands}
use Rattle.call_parts.proofs.chunks.cut_last.Goals as goal

pub returns-in-Some-clause-bytes : goal.returns-in-Some-clause-bytes
returns-in-Some-clause-bytes c =
    last_cut c.args.limit c.args.pieces.now c.in-Some.last.now c.truncate.new.self c.requires.stand c.in-Some.ensures.item.3.0 c.in-Some.ensures.item.1 c.requires.before
    (c.truncate.ensures ∙ ap (λ n. take n c.in-Some.last.now.bytes) c.saturating_sub-kept.ensures)

pub returns-in-Some-clause-stand : goal.returns-in-Some-clause-stand
returns-in-Some-clause-stand c =
    last_stands c.args.limit c.args.pieces.now c.in-Some.last.now c.truncate.new.self c.requires.stand c.in-Some.ensures.item.3.0 c.in-Some.ensures.item.1 c.requires.before
    (c.truncate.ensures ∙ ap (λ n. take n c.in-Some.last.now.bytes) c.saturating_sub-kept.ensures)

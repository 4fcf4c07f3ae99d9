use Rattle.std.proofs.Common.{sym, ap, ◌∙◌, length}
use Rattle.std.specs.Option.{unwrap_or}
use Rattle.hdfs_values.proofs.Cuts.{place_of_byte}
use Rattle.hdfs_values.proofs.pieces.byte_at.Goals as goal

pub returns-in-Some-clause-place : goal.returns-in-Some-clause-place
returns-in-Some-clause-place c =
    ap (λ found. unwrap_or found (length c.args.text.now)) (sym c.in-Some.is)
    ∙ place_of_byte c.args.byte c.args.text.now c.memchr.result c.memchr.ensures

pub returns-in-None-clause-place : goal.returns-in-None-clause-place
returns-in-None-clause-place c =
    ap (λ found. unwrap_or found (length c.args.text.now)) (sym c.in-None.is)
    ∙ place_of_byte c.args.byte c.args.text.now c.memchr.result c.memchr.ensures

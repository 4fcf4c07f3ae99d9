-- The number of the last eight bytes, shifted down to that of the seventh byte on.
use Rattle.std.proofs.Common.{◌∙◌, arith}
use Rattle.std.specs.Int.{w64, from_le_bytes}
use Rattle.hdfs_values.proofs.Words.{of_eight, behind_are}
use Rattle.hdfs_values.proofs.short_text.behind_six.Goals as goal

pub returns : goal.returns
returns c =
    c.to_le_bytes.ensures
    ∙ behind_are 6 8 (from_le_bytes w64) of_eight (omega arith) c.args.bytes.now c.eight-last.result (omega arith) c.requires.least c.requires.most (λ i. (c.type_inv.bytes i).fits) c.eight-last.ensures

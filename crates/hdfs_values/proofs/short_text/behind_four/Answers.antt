-- The number of the last four bytes, shifted down to that of the fifth byte on.
use Rattle.std.proofs.Common.{◌∙◌, arith}
use Rattle.std.specs.Int.{w32, from_le_bytes}
use Rattle.hdfs_values.proofs.Words.{of_four, behind_are}
use Rattle.hdfs_values.proofs.short_text.behind_four.Goals as goal

pub returns : goal.returns
returns c =
    c.to_le_bytes.ensures
    ∙ behind_are 4 4 (from_le_bytes w32) of_four (omega arith) c.args.bytes.now c.four-last.result c.requires.least c.requires.least c.requires.most (λ i. (c.type_inv.bytes i).fits) c.four-last.ensures

use Rattle.std.proofs.Common.{◌∙◌, ap}
use Rattle.block_tables.specs.Kept.{holds}
use Rattle.block_tables.proofs.block_table.BlockTable.are_holders_among.Goals as goal

pub returns : goal.returns
returns c = λ yes node block held.
    c.are_busy_among.ensures yes node block (c.self.invariant node block ∙ (ap (λ table. holds table node block) c.self.view_is ∙ held))

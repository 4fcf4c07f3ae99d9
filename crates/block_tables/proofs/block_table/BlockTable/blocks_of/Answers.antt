use Rattle.std.proofs.Common.{◌≡◌, ◌∙◌, ap, subst, IfOk}
use Rattle.block_tables.specs.Kept.{blocks_on}
use Rattle.block_tables.proofs.Held.{held_blocks}
use Rattle.block_tables.proofs.block_table.BlockTable.blocks_of.Goals as goal

pub returns-clause-blocks : goal.returns-clause-blocks
returns-clause-blocks c = subst
    (λ own. IfOk c.blocks-2.result (λ blocks. blocks.items ≡ own))
    (held_blocks c.self.inside.records.entries c.self.inside.held c.args.node c.self.invariant c.len-count.ensures.ordered c.blocks-2.ensures.ascending
    ∙ ap (λ table. blocks_on table c.args.node) c.self.view_is)
    c.blocks-2.ensures.blocks

use Rattle.std.proofs.Common.{◌≡◌, ◌≤◌, ◌∙◌, ap, length, arith}
use Rattle.block_index.specs.Relation.{blocks_at}
use Rattle.block_tables.specs.Kept.{blocks_on, load}
use Rattle.block_tables.proofs.Held.{held_blocks, few_held}
use Rattle.block_tables.proofs.block_table.BlockTable.load.Goals as goal

pub returns : goal.returns
returns c =
    let table = c.self.inside.records.entries in
    let same : blocks_at c.self.inside.held c.args.node ≡ blocks_on table c.args.node = held_blocks table c.self.inside.held c.args.node c.self.invariant c.len.ensures.ordered c.count.ensures.ascending in
    let few : length (blocks_on table c.args.node) ≤ length table = few_held table c.args.node in
    let here : c.min.result ≡ length (blocks_on table c.args.node) = omega (arith, c.min.ensures, c.count.ensures.count, ap length same, c.len.ensures.len, few) in
    here ∙ ap (λ own. load own c.args.node) c.self.view_is

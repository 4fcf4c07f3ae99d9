use Rattle.std.proofs.Common.{◌≡◌, ◌∙◌, IfOk, subst, ap}
use Rattle.block_changes.specs.Behind as behind
use Rattle.block_changes.specs.declared.behind.NewBlock.{NewBlock}
use Rattle.block_map.specs.BlockFacts.{Blocks}
use Rattle.block_map.specs.BlockEffects.{given_behind}
use Rattle.block_map.proofs.Planned.{given_same}
use Rattle.block_map.proofs.blocks.Blocks.plan_behind.Goals as goal

pub returns-clause-given : goal.returns-clause-given
returns-clause-given c =
    let inside = c.self.inside in
    let facts : Blocks = record { retry = inside.retry; known = inside.known; nodes = inside.nodes; marks = inside.marks; queued = inside.queue } in
    subst
    (λ (own : NewBlock). IfOk c.plan_behind.result (λ new. new ≡ own))
    (ap (behind.new_block_behind c.args.last.now inside.known c.args.replication) c.in_ok-live.ensures
    ∙ (given_same facts c.args.last.now c.args.now c.args.replication ∙ ap (λ (own : Blocks). given_behind own c.args.last.now c.args.now c.args.replication) c.self.view_is))
    c.plan_behind.ensures.given

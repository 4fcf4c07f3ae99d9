use Rattle.std.proofs.Common.{◌≡◌, None, OnOk, subst, sym}
use Rattle.known_blocks.specs.Known.{refused_new_block}
use Rattle.block_changes.specs.Behind.{refused_last_length}
use Rattle.block_map.specs.BlockFacts.{Blocks}
use Rattle.block_map.specs.BlockEffects.{given_behind, added_behind}
use Rattle.block_map.proofs.Planned.{allowed, planned_where_done}
use Rattle.block_map.proofs.blocks.Blocks.add_planned.Goals as goal

pub add_planned-requires : goal.add_planned-requires
add_planned-requires c =
    let both =
    subst (λ (facts : Blocks). (refused_new_block facts.known ≡ None) × (refused_last_length c.args.last.now facts.known ≡ None)) (sym c.self.view_is)
    (allowed c.args.self.now c.args.last.now c.args.now c.requires.allowed)
    in
    record { numbers = both.0; last = both.1 }

pub returns-clause-added : goal.returns-clause-added
returns-clause-added c =
    let inside = c.self.inside in
    let facts : Blocks = record { retry = inside.retry; known = inside.known; nodes = inside.nodes; marks = inside.marks; queued = inside.queue } in
    let given = subst (λ (own : Blocks). c.args.targets ≡ (given_behind own c.args.last.now c.args.now c.args.replication).targets) (sym c.self.view_is) c.requires.given in
    subst
    (λ (own : Blocks). OnOk c.add_planned.result (record facts { known = c.add_planned.new.known; marks = c.add_planned.new.marks } ≡ added_behind own c.args.last.now c.args.now c.args.replication))
    c.self.view_is
    (planned_where_done c.add_planned.result facts c.args.last.now c.args.targets c.args.replication c.args.now c.add_planned.new.known c.add_planned.new.marks given
    c.add_planned.ensures.added c.add_planned.ensures.marked)

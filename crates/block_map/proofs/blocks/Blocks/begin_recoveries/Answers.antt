use Rattle.std.proofs.Common.{◌≡◌, ◌∙◌, OnOk, ap, subst, sym}
use Rattle.block_changes.specs.Leaders.{blocks_with_leaders}
use Rattle.block_map.specs.BlockFacts.{Blocks}
use Rattle.block_map.specs.BlockEffects.{recoveries_begun, with_recoveries_begun}
use Rattle.block_map.proofs.InTurn.{all_begun_where_done}
use Rattle.block_map.proofs.blocks.Blocks.begin_recoveries.Goals as goal

pub begin_all-requires : goal.begin_all-requires
begin_all-requires c = (
  blocks_with_leaders c.self.inside.known c.self.inside.nodes c.args.blocks.now c.args.now,
  c.requires ∙ ap (λ (facts : Blocks). recoveries_begun facts c.args.blocks.now c.args.now) (sym c.self.view_is),
)

pub returns-clause-begun : goal.returns-clause-begun
returns-clause-begun c =
    let inside = c.self.inside in
    let facts : Blocks = record { retry = inside.retry; known = inside.known; nodes = inside.nodes; marks = inside.marks; queued = inside.queue } in
    let planned = c.requires ∙ ap (λ (own : Blocks). recoveries_begun own c.args.blocks.now c.args.now) (sym c.self.view_is) in
    subst
    (λ (own : Blocks). OnOk c.begin_all.result (record facts { known = c.begin_all.new.self; queued = c.begin_all.new.queue } ≡ with_recoveries_begun own c.args.blocks.now c.args.now))
    c.self.view_is
    (all_begun_where_done c.begin_all.result facts c.args.blocks.now c.args.now c.args.planned.now c.begin_all.new.self c.begin_all.new.queue planned
    c.begin_all.ensures.begun c.begin_all.ensures.queued)

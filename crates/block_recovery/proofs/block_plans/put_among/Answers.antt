use Rattle.std.proofs.Common.{ap, ◌∙◌, List, ℕ}
use Rattle.std.specs.BTreeMap.{insert_entry}
use Rattle.std.specs.Ordering.{nat_cmp}
use Rattle.block_records.proofs.Standing.{set_there, inserted_in_gap}
use Rattle.block_recovery.specs.declared.plan.Plan.{Plan}
use Rattle.block_recovery.proofs.block_plans.put_among.Goals as goal

pub returns-in-Ok-clause-ok : goal.returns-in-Ok-clause-ok
returns-in-Ok-clause-ok c =
    set_there c.args.stamp c.args.plan c.make_room.new.plans.items c.in-Ok.at (rw (← c.deref.ensures.value) c.in-Ok.ensures.there)
    ∙ ap (λ (plans : List (ℕ × Plan)). insert_entry nat_cmp plans c.args.stamp c.args.plan) c.make_room.ensures

pub returns-in_ok-insert-in-Err-clause-ok : goal.returns-in_ok-insert-in-Err-clause-ok
returns-in_ok-insert-in-Err-clause-ok c =
    c.in_ok-insert-in-Err.ensures.items
    ∙ (inserted_in_gap c.args.stamp c.args.plan c.make_room.new.plans.items c.in-Err.at (rw (← c.deref.ensures.value) c.in-Err.ensures.absent)
    ∙ ap (λ (plans : List (ℕ × Plan)). insert_entry nat_cmp plans c.args.stamp c.args.plan) c.make_room.ensures)

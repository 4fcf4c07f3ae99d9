use Rattle.std.proofs.Common.{◌∙◌, ap}
use Rattle.std.specs.BTreeMap.{insert_entry}
use Rattle.std.specs.Ordering.{nat_cmp}
use Rattle.block_recovery.specs.Plans.{PlanTable}
use Rattle.block_recovery.proofs.Newest.{newest_put}
use Rattle.block_recovery.proofs.plans.Plans.put.Goals as goal

pub returns-clause-ok : goal.returns-clause-ok
returns-clause-ok c =
    newest_put c.self.inside.by_block.entries c.insert.new.self.entries c.insert.ensures.was_ordered c.insert.ensures.ordered c.args.block c.args.own c.in_ok-insert.ensures.updates.0
    ∙ ap (λ (table : PlanTable). insert_entry nat_cmp table c.args.block c.args.own) c.self.view_is

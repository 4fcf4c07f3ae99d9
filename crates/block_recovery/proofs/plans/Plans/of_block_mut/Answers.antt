use borrow.Follows.Closed.{read_of}
use Rattle.std.proofs.Common.{◌≡◌, ◌∙◌, ℕ, List, ap, subst}
use Rattle.std.specs.List.Sorted.{IsStrictlySortedBy}
use Rattle.std.specs.Map.{keys_of, set_value}
use Rattle.std.specs.Option.{ghost_name_of}
use Rattle.std.specs.Ordering.{nat_cmp}
use Rattle.block_records.specs.Numbers.{is_number, entry_at}
use Rattle.block_recovery.specs.Kept.{in_order}
use Rattle.block_recovery.specs.Plans.{PlanTable}
use Rattle.block_recovery.specs.declared.plan.Plan.{Plan}
use Rattle.block_recovery.proofs.Newest.{found_newest, in_order_ascends, newest_set}
use Rattle.block_recovery.proofs.plans.Plans.of_block_mut.Goals as goal

pub returns : goal.returns
returns c =
    let block = c.args.block in
    let kept = c.self.inside.by_block.entries in
    let set : (own : List (ℕ × Plan)) → in_order (c.get_mut.follows.lender own).entries ≡ set_value (is_number block) c.args.self.now own = λ own.
    ap in_order (c.get_mut.follows.holds own).0 ∙ (newest_set block own kept c.get_mut.ensures.ordered ∙ ap (λ (table : PlanTable). set_value (is_number block) table own) c.self.view_is) in
    let same : in_order c.get_mut.follows.lender-at-none.entries ≡ c.args.self.now = ap in_order (ap (λ m. m.entries) c.get_mut.follows.holds-at-none) ∙ c.self.view_is in (
      λ t. read_of (ghost_name_of c.get_mut.result) (λ own. set own t) (same t),
      record {
        writes_back = tt;
        value = c.get_mut.ensures.value ∙ (found_newest block kept c.get_mut.ensures.ordered ∙ ap (entry_at block) c.self.view_is);
        ascending = subst (λ (table : PlanTable). IsStrictlySortedBy nat_cmp (keys_of table)) c.self.view_is (in_order_ascends kept c.get_mut.ensures.ordered);
      },
    )

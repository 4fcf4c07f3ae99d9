use Rattle.std.proofs.Common.{◌≡◌, sym, ap, ◌∙◌, subst, List, ℕ}
use Rattle.std.specs.List.Sorted.{IsStrictlySortedBy}
use Rattle.std.specs.Ordering.{nat_cmp}
use Rattle.block_records.specs.Numbers.{entry_at}
use Rattle.recovery_queue.specs.Queue.{without_led_by, without_each, is_led}
use Rattle.recovery_queue.proofs.Queued.{led_blocks, told_indexed, taken_out}
use Rattle.recovery_queue.proofs.queue.RecoveryQueue.forget_led.Goals as goal

pub invariant_of-self : goal.invariant_of-self
invariant_of-self c =
    let queue = c.self.inside.primaries.entries in
    let listed = led_blocks queue c.self.inside.blocks c.args.node c.self.invariant c.len-count.ensures.ordered (subst (λ (xs : List ℕ). IsStrictlySortedBy nat_cmp xs) c.take-blocks.ensures.blocks c.take-blocks.ensures.ascending) in
    let left : c.remove_from.new.table.entries ≡ without_led_by queue c.args.node =
    c.remove_from.ensures ∙ (ap (without_each queue) (c.take-blocks.ensures.blocks ∙ listed) ∙ taken_out c.args.node queue c.len-count.ensures.ordered) in
    λ n b.
    told_indexed queue c.self.inside.blocks c.take-blocks.new.self c.args.node c.self.invariant c.len-count.ensures.ordered c.take-blocks.ensures.left n b
    ∙ ap (λ own. is_led n (entry_at b own)) (sym left)

pub returns : goal.returns
returns c =
    let queue = c.self.inside.primaries.entries in
    let listed = led_blocks queue c.self.inside.blocks c.args.node c.self.invariant c.len-count.ensures.ordered (subst (λ (xs : List ℕ). IsStrictlySortedBy nat_cmp xs) c.take-blocks.ensures.blocks c.take-blocks.ensures.ascending) in
    c.remove_from.ensures
    ∙ (ap (without_each queue) (c.take-blocks.ensures.blocks ∙ listed)
    ∙ (taken_out c.args.node queue c.len-count.ensures.ordered
    ∙ ap (λ own. without_led_by own c.args.node) c.self.view_is))

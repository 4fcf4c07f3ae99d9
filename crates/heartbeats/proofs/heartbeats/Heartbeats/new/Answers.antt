use Rattle.std.proofs.Common.{sym, subst, List, ℕ}
use Rattle.block_records.proofs.Standing.{IsOrdered, none_ordered}
use Rattle.heartbeats.proofs.heartbeats.Heartbeats.new.Goals as goal

pub invariant_of-result : goal.invariant_of-result
invariant_of-result c = subst (λ (entries : List (ℕ × ℕ)). IsOrdered entries) (sym c.new.ensures.items) (none_ordered ℕ)

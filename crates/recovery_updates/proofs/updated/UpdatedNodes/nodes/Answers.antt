use Rattle.std.proofs.Common.{◌≡◌, sym, subst, List, ℕ, rules}
use Rattle.std.proofs.lemmas.Map.Keys.{IsStrictlyIncreasing-from_sorted}
use Rattle.std.specs.List.Sorted.{IsStrictlyIncreasing}
use Rattle.recovery_updates.proofs.updated.UpdatedNodes.nodes.Goals as goal

pub of_ascending-requires : goal.of_ascending-requires
of_ascending-requires c =
    let kept : c.in_ok-nodes.nodes.items ≡ c.self.inside.nodes.keys = search rules in
    subst (λ (xs : List ℕ). IsStrictlyIncreasing xs) (sym kept) (IsStrictlyIncreasing-from_sorted c.self.inside.nodes.keys c.len-count.ensures.ordered)

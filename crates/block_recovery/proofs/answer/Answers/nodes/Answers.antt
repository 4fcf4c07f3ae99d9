use Rattle.std.proofs.Common.{◌≡◌, sym, subst, List, ℕ, rules}
use Rattle.std.proofs.lemmas.Map.Keys.{IsStrictlyIncreasing-from_sorted}
use Rattle.std.specs.List.Sorted.{IsStrictlyIncreasing}
use Rattle.std.specs.Map.{keys_of}
use Rattle.block_recovery.proofs.answer.Answers.nodes.Goals as goal

pub of_ascending-requires : goal.of_ascending-requires
of_ascending-requires c =
    let kept : c.in_ok-nodes.nodes.items ≡ keys_of c.self.inside.by_node.items = search rules in
    subst (λ (xs : List ℕ). IsStrictlyIncreasing xs) (sym kept) (IsStrictlyIncreasing-from_sorted (keys_of c.self.inside.by_node.items) c.self.invariant)

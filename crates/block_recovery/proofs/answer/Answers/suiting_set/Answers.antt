use Rattle.std.proofs.Common.{◌≡◌, ◌∙◌, sym, ap, subst, List, ℕ}
use Rattle.std.proofs.lemmas.Map.Keys.{IsStrictlyIncreasing-from_sorted}
use Rattle.std.specs.List.Sorted.{IsStrictlyIncreasing}
use Rattle.block_records.proofs.Ascending.{kept_ascending}
use Rattle.block_recovery.specs.Decision.{suits, suiting_nodes}
use Rattle.block_recovery.proofs.answer.Answers.suiting_set.Goals as goal

pub of_ascending-requires : goal.of_ascending-requires
of_ascending-requires c =
    let kept : c.in_ok-nodes.nodes.items ≡ suiting_nodes c.args.length c.self.inside.by_node.items = c.in_ok-nodes.ensures ∙ ap (suiting_nodes c.args.length) (sym c.self.view_is) in
    subst (λ (xs : List ℕ). IsStrictlyIncreasing xs) (sym kept)
    (IsStrictlyIncreasing-from_sorted (suiting_nodes c.args.length c.self.inside.by_node.items) (kept_ascending (λ own. suits c.args.length own.1) c.self.inside.by_node.items c.self.invariant))

use Rattle.std.proofs.Common.{◌≡◌, not, sym, subst, filter, List, ℕ, rules}
use Rattle.std.specs.List.Sorted.{IsStrictlyIncreasing}
use Rattle.block_records.proofs.Ascending.{filtered_increasing}
use Rattle.block_changes.specs.Copies.{reports}
use Rattle.block_changes.proofs.transfer.lacking.Goals as goal

pub of_ascending-requires : goal.of_ascending-requires
of_ascending-requires c =
    let kept : c.in_ok-lacking.lacking.items ≡ filter (λ node. not (reports c.args.own.now node)) c.args.nodes.now = search rules in
    subst (λ (xs : List ℕ). IsStrictlyIncreasing xs) (sym kept) (filtered_increasing (λ node. not (reports c.args.own.now node)) c.args.nodes.now c.as_slice.ensures.ascending)

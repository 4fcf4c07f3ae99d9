use Rattle.std.proofs.Common.{◌≡◌, ◌∙◌, ap, sym, subst, filter, map, nat_lt, List, ℕ}
use Rattle.std.specs.List.{count_by}
use Rattle.std.specs.List.Sorted.{IsStrictlyIncreasing}
use Rattle.block_records.proofs.Ascending.{filtered_increasing}
use Rattle.block_placement.proofs.Chosen.{targeted}
use Rattle.block_placement.specs.Placement.{beside, is_chosen, comes_before, targets}
use Rattle.block_placement.specs.declared.candidate.Candidate.{Candidate}
use Rattle.block_tables.specs.Kept.{load_without}
use Rattle.block_tables.proofs.Chosen.{chosen_nodes}
use Rattle.block_tables.proofs.block_table.BlockTable.targets_without.Goals as goal

pub of_ascending-requires : goal.of_ascending-requires
of_ascending-requires c =
    let load = load_without c.args.self.now c.args.leaving.now in
    let last = c.last_chosen-last.result in
    let nodes = c.as_slice.result.now in
    let listed : c.deref-2.result.now ≡ map (beside load) nodes = c.deref-2.ensures.value ∙ c.in_ok-candidates.ensures in
    let kept : c.in_ok-chosen.chosen.items ≡ filter (λ node. is_chosen last (beside load node)) nodes =
    c.in_ok-chosen.ensures ∙ ap (λ (own : List Candidate). map (λ (one : Candidate). one.node) (filter (is_chosen last) own)) listed ∙ chosen_nodes load last nodes in
    let ascending : IsStrictlyIncreasing nodes = subst (λ (xs : List ℕ). IsStrictlyIncreasing xs) (sym c.as_slice.ensures.nodes) c.as_slice.ensures.ascending in
    subst (λ (xs : List ℕ). IsStrictlyIncreasing xs) (sym kept) (filtered_increasing (λ node. is_chosen last (beside load node)) nodes ascending)

pub returns : goal.returns
returns c =
    let load = load_without c.args.self.now c.args.leaving.now in
    let last = c.last_chosen-last.result in
    let nodes = c.as_slice.result.now in
    let listed : c.deref-2.result.now ≡ map (beside load) nodes = c.deref-2.ensures.value ∙ c.in_ok-candidates.ensures in
    let kept : c.in_ok-chosen.chosen.items ≡ filter (λ node. is_chosen last (beside load node)) nodes =
    c.in_ok-chosen.ensures ∙ ap (λ (own : List Candidate). map (λ (one : Candidate). one.node) (filter (is_chosen last) own)) listed ∙ chosen_nodes load last nodes in
    c.of_ascending.ensures ∙ (kept
    ∙ (targeted load nodes c.args.count last
    (λ own. c.last_chosen-last.ensures own ∙ ap (λ (items : List Candidate). nat_lt (count_by (λ other. comes_before other own) items) c.args.count) (c.in_ok-from_slice.ensures.items ∙ (c.deref.ensures.value ∙ c.in_ok-candidates.ensures)))
    ∙ ap (λ (own : List ℕ). targets load c.args.count own) c.as_slice.ensures.nodes))

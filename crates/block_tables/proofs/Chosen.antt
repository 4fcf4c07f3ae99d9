-- Of candidates beside their loads those are chosen that a test of their nodes keeps.
use Rattle.std.proofs.Common.{◌≡◌, ℕ, Bool, true, false, List, [], ◌∷◌, Option, filter, map, refl, ap, cond}
use Rattle.block_placement.specs.Placement.{beside, is_chosen}
use Rattle.block_placement.specs.declared.candidate.Candidate.{Candidate}

pub chosen_nodes : (load : ℕ → ℕ) (last : Option Candidate) (nodes : List ℕ)
    → map (λ (own : Candidate). own.node) (filter (is_chosen last) (map (beside load) nodes)) ≡ filter (λ node. is_chosen last (beside load node)) nodes
chosen_nodes load last [] = refl
chosen_nodes load last (node ∷ nodes) = by (is_chosen last (beside load node)) (chosen_nodes load last nodes)
  where
    kept : List Candidate
    kept = filter (is_chosen last) (map (beside load) nodes)

    others : List ℕ
    others = filter (λ n. is_chosen last (beside load n)) nodes

    by : (b : Bool) → map (λ (own : Candidate). own.node) kept ≡ others → map (λ (own : Candidate). own.node) (cond b (beside load node ∷ kept) kept) ≡ cond b (node ∷ others) others
    by true rest = ap (λ ns. node ∷ ns) rest
    by false rest = rest

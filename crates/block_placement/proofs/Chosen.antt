-- The last of so many candidates tells which are chosen.
use Rattle.std.proofs.Common.{◌≡◌, ℕ, ◌+◌, ◌-◌, ◌<◌, ◌==◌, Bool, true, false, not, ◌&&◌, ◌||◌, nat_lt, List, [], ◌∷◌, map, filter, length, Option, Some, None, refl, sym, ap, ◌∙◌, cond, arith, Bor}
use Rattle.std.proofs.lemmas.Bool.{lt-ltb, le-ltb, ltb-true, ltb-false}
use Rattle.std.proofs.lemmas.List.Sorted.{ranks_by, sum_by-IsPermutation}
use Rattle.std.proofs.lemmas.List.Sums.{count_by-le-length, sum_by-cons}
use Rattle.std.proofs.lemmas.Option.{slice_get_past, slice_get_read}
use Rattle.std.specs.Cmp.{IsStrictWeakOrder, IsTotalOrder, nat_cmp_total, on_total, then_total}
use Rattle.std.specs.List.{count_by, slice_get}
use Rattle.std.specs.List.Sorted.{IsSortedBy, IsPermutation}
use Rattle.std.specs.Option.{option_map}
use Rattle.std.specs.Slice.{IsItemAt}
use Rattle.std.specs.Ordering.{is_lt, nat_cmp, ordering_then}
use Rattle.std.specs.declared.cmp.Ordering.{Ordering}
use Rattle.std.specs.declared.cmp.Ordering.TheVariants.{Less, Equal, Greater}
use Rattle.block_placement.specs.Placement.{comes_before, is_chosen, beside, is_ahead, rank, targets}
use Rattle.block_placement.specs.declared.candidate.Candidate.{Candidate}
use Rattle.block_placement.proofs.Ranks.{rises, none_more, no_fewer, none_at}

abbrev pub candidate_cmp : Candidate → Candidate → Ordering
candidate_cmp own other = ordering_then (nat_cmp own.load other.load) (nat_cmp own.node other.node)

candidates_ranked : IsTotalOrder candidate_cmp
candidates_ranked = then_total (on_total (λ (own : Candidate). own.load) nat_cmp_total) (on_total (λ (own : Candidate). own.node) nat_cmp_total)

abbrev pub is_before : Candidate → Candidate → Bool
is_before own other = is_lt (candidate_cmp own other)

by_tests : (a b c d : Bool) → is_lt (ordering_then (cond a Less (cond b Equal Greater)) (cond c Less (cond d Equal Greater))) ≡ (a || (b && c))
by_tests true b c d = refl
by_tests false true true d = refl
by_tests false true false true = refl
by_tests false true false false = refl
by_tests false false c d = refl

pub before_is : (own other : Candidate) → is_before own other ≡ comes_before own other
before_is own other = by_tests (nat_lt own.load other.load) (own.load == other.load) (nat_lt own.node other.node) (own.node == other.node)

before_ranked : IsStrictWeakOrder is_before
before_ranked = ranks_by candidates_ranked (λ (own : Candidate). own)

same_count : (own : Candidate) (items : List Candidate) → count_by (λ other. is_before other own) items ≡ count_by (λ other. comes_before other own) items
same_count own items = ap (λ (p : Candidate → Bool). count_by p items) (λ i other. before_is other own i)

chosen_by : (own : Candidate) (sorted : List Candidate) (k : ℕ) (last : Option Candidate) → IsSortedBy is_before sorted → slice_get sorted k ≡ last
    → is_chosen last own ≡ nat_lt (count_by (λ other. is_before other own) sorted) (k + 1)
chosen_by own sorted k None up there =
    sym (lt-ltb (count_by (λ other. is_before other own) sorted) (k + 1) (omega (arith, none_at is_before before_ranked sorted k there, count_by-le-length (λ other. is_before other own) sorted)))
chosen_by own sorted k (Some p) up there = ap not (sym (before_is p own)) ∙ by (is_before p own) refl
  where
    by : (b : Bool) → is_before p own ≡ b → not b ≡ nat_lt (count_by (λ other. is_before other own) sorted) (k + 1)
    by true here = sym (le-ltb (count_by (λ other. is_before other own) sorted) (k + 1) (omega (arith, no_fewer is_before before_ranked own p sorted k (rises is_before before_ranked sorted up) there here)))
    by false here = sym (lt-ltb (count_by (λ other. is_before other own) sorted) (k + 1) (omega (arith, none_more is_before before_ranked own p sorted k (rises is_before before_ranked sorted up) there here)))

-- what `get` lends is the element at the place
pub item_at : {X : Type 0} (found : Option (Bor X)) (xs : List X) (k : ℕ) → IsItemAt xs k found → slice_get xs k ≡ option_map (λ (item : Bor X). item.now) found
item_at None xs k item = slice_get_past xs k (ltb-false k (length xs) (sym item.0))
item_at (Some found) xs k item = slice_get_read xs (length xs) k found.now refl (ltb-true k (length xs) (sym item.0)) item.1

pub chosen : (own : Candidate) (items sorted : List Candidate) (count : ℕ) (last : Option Candidate) → 0 < count → IsPermutation items sorted → IsSortedBy is_before sorted → slice_get sorted (count - 1) ≡ last
    → is_chosen last own ≡ nat_lt (count_by (λ other. comes_before other own) items) count
chosen own items sorted count last some moved up there =
    let places : count - 1 + 1 ≡ count = omega arith in
    chosen_by own sorted (count - 1) last up there
    ∙ (ap (λ n. nat_lt (count_by (λ other. is_before other own) sorted) n) places
    ∙ ap (λ n. nat_lt n count) (sum_by-IsPermutation (λ other. cond (is_before other own) 1 0) items sorted moved ∙ same_count own items))

count_beside : (load : ℕ → ℕ) (node : ℕ) (nodes : List ℕ) → count_by (λ other. comes_before other (beside load node)) (map (beside load) nodes) ≡ rank load nodes node
count_beside load node [] = refl
count_beside load node (first ∷ nodes) =
    sum_by-cons (λ other. cond (comes_before other (beside load node)) 1 0) (beside load first) (map (beside load) nodes)
    ∙ (ap (λ n. cond (is_ahead load first node) 1 0 + n) (count_beside load node nodes)
    ∙ sym (sum_by-cons (λ other. cond (is_ahead load other node) 1 0) first nodes))

-- the nodes that are chosen by the last candidate are the targets
pub targeted : (load : ℕ → ℕ) (nodes : List ℕ) (count : ℕ) (last : Option Candidate)
    → ((own : Candidate) → is_chosen last own ≡ nat_lt (count_by (λ other. comes_before other own) (map (beside load) nodes)) count)
    → filter (λ node. is_chosen last (beside load node)) nodes ≡ targets load count nodes
targeted load nodes count last is = ap (λ (p : ℕ → Bool). filter p nodes) (λ i node. by node i)
  where
    by : (node : ℕ) → is_chosen last (beside load node) ≡ nat_lt (rank load nodes node) count
    by node = is (beside load node) ∙ ap (λ n. nat_lt n count) (count_beside load node nodes)

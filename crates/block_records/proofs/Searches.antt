-- What a binary search in ascending numbers says: whether they have the number.
use Rattle.std.proofs.Common.{◌≡◌, ℕ, ◌<◌, ◌≤◌, ◌==◌, true, false, length, get_or, List, Result, Ok, Err, is_ok, sym, ⊎_elim, arith}
use Rattle.std.proofs.lemmas.Bool.{cases_lt}
use Rattle.std.proofs.lemmas.Bool.Decides.{nat_tests}
use Rattle.std.proofs.lemmas.List.Elements.{All-from_get_or}
use Rattle.std.proofs.lemmas.List.Folds.{list_any_at, list_any_none}
use Rattle.std.proofs.lemmas.List.Sorted.{searched}
use Rattle.std.proofs.lemmas.Map.Keys.{sorted_from_strictly_increasing, non_decreasing_from_sorted}
use Rattle.std.specs.List.Sorted.{IsBinarySearchResult, IsStrictlyIncreasing}
use Rattle.std.specs.Ordering.{nat_cmp}
use Rattle.block_records.specs.Numbers.{has_number}

equal_passes : (a b : ℕ) → a ≡ b → (a == b) ≡ true
equal_passes a b same = grind (arith, nat_tests)

lower_fails : (a b : ℕ) → a < b → (a == b) ≡ false
lower_fails a b below = grind (arith, nat_tests)

higher_fails : (a b : ℕ) → b < a → (a == b) ≡ false
higher_fails a b above = grind (arith, nat_tests)

-- numbers that are lower up to a place and higher from it on have none that is equal
none_equal : (numbers : List ℕ) (x i : ℕ) → ((k : ℕ) → k < i → get_or numbers k 0 < x) → ((k : ℕ) → i ≤ k → k < length numbers → x < get_or numbers k 0) → has_number x numbers ≡ false
none_equal numbers x i lower higher = list_any_none (λ other. other == x) numbers (All-from_get_or (λ other. (other == x) ≡ false) numbers 0 each)
  where
    each : (k : ℕ) → k < length numbers → (get_or numbers k 0 == x) ≡ false
    each k short = ⊎_elim (λ before. lower_fails (get_or numbers k 0) x (lower k before)) (λ behind. higher_fails (get_or numbers k 0) x (higher k behind short)) (cases_lt k i)

weakly : (numbers : List ℕ) → IsStrictlyIncreasing numbers → (i j : ℕ) → i ≤ j → j < length numbers → get_or numbers i 0 ≤ get_or numbers j 0
weakly numbers up i j le short = non_decreasing_from_sorted numbers (sorted_from_strictly_increasing numbers up) i j 0 le short

pub found_number : (numbers : List ℕ) (x : ℕ) (r : Result ℕ ℕ) → IsBinarySearchResult (λ y. nat_cmp y x) numbers r → IsStrictlyIncreasing numbers → is_ok r ≡ has_number x numbers
found_number numbers x (Ok i) is up =
    let at = searched numbers x (Ok i) is (weakly numbers up) in
    sym (list_any_at (λ other. other == x) numbers i 0 at.0 (equal_passes (get_or numbers i 0) x at.1))
found_number numbers x (Err i) is up =
    let parted = searched numbers x (Err i) is (weakly numbers up) in
    sym (none_equal numbers x i parted.1 parted.2)

-- Ascending lists of numbers: two that have the same numbers are one list.
use Rattle.std.proofs.Common.{◌≡◌, ℕ, Bool, true, false, ◌||◌, List, [], ◌∷◌, filter, refl, sym, ap, ◌∙◌, cond, subst, true≢false}
use Rattle.std.proofs.lemmas.Map.Keys.{sorted_head, sorted_tail, sorted_from_strictly_increasing, IsStrictlyIncreasing-from_sorted}
use Rattle.std.proofs.lemmas.List.Kept.{IsStrictlySortedBy-filter}
use Rattle.std.specs.Cmp.{nat_cmp_total, tied_itself}
use Rattle.std.specs.List.{AllByRecursion, list_any}
use Rattle.std.specs.List.Sorted.{IsStrictlySortedBy, IsStrictlyIncreasing}
use Rattle.std.specs.Map.{keys_of}
use Rattle.std.specs.Ordering.{is_eq, nat_cmp, ordering_reverse}
use Rattle.std.specs.declared.cmp.Ordering.{Ordering}
use Rattle.std.specs.declared.cmp.Ordering.TheVariants.{Less, Equal, Greater}
use Rattle.block_records.specs.Numbers.{is_number}
use Rattle.block_records.proofs.Numbers.{number_is}

abbrev pub AreAbove : ℕ → List ℕ → Type 0
AreAbove low numbers = AllByRecursion (λ y. nat_cmp low y ≡ Less) numbers

pub lacks_lower : (low : ℕ) (numbers : List ℕ) → AreAbove low numbers → list_any (is_number low) numbers ≡ false
lacks_lower low [] above = refl
lacks_lower low (n ∷ numbers) above = ap (λ o. is_eq o || list_any (is_number low) numbers) above.0 ∙ lacks_lower low numbers above.1

pub above_lower : (lower low : ℕ) (numbers : List ℕ) → nat_cmp lower low ≡ Less → AreAbove low numbers → AreAbove lower numbers
above_lower lower low [] less above = above
above_lower lower low (n ∷ numbers) less above = (nat_cmp_total.trans lower low n less above.0, above_lower lower low numbers less above.1)

has_itself : (n : ℕ) (numbers : List ℕ) → list_any (is_number n) (n ∷ numbers) ≡ true
has_itself n numbers = ap (λ o. is_eq o || list_any (is_number n) numbers) (tied_itself nat_cmp_total n)

flipped : (x y : ℕ) → nat_cmp x y ≡ Greater → nat_cmp y x ≡ Less
flipped x y greater = by (nat_cmp y x) refl
  where
    by : (o : Ordering) → nat_cmp y x ≡ o → o ≡ Less
    by Less is = refl
    by Equal is = let e : Greater ≡ Equal = sym greater ∙ (nat_cmp_total.antisymm x y ∙ ap (λ o. ordering_reverse o) is) in cc
    by Greater is = let e : Greater ≡ Less = sym greater ∙ (nat_cmp_total.antisymm x y ∙ ap (λ o. ordering_reverse o) is) in cc

-- the first of one list isn't below the first of the other
not_below : (x y : ℕ) (xs ys : List ℕ) → AreAbove y ys → nat_cmp x y ≡ Less → list_any (is_number x) (x ∷ xs) ≡ list_any (is_number x) (y ∷ ys) → {A : Type 0} → A
not_below x y xs ys above less same =
    absurd (true≢false (sym (has_itself x xs) ∙ (same ∙ lacks_lower x (y ∷ ys) (less, above_lower x y ys less above))))

tails : (x q : ℕ) (xs ys : List ℕ) → AreAbove x xs → AreAbove x ys → list_any (is_number q) (x ∷ xs) ≡ list_any (is_number q) (x ∷ ys) → list_any (is_number q) xs ≡ list_any (is_number q) ys
tails x q xs ys above others same = by (is_number q x) refl same
  where
    by : (b : Bool) → is_number q x ≡ b → (b || list_any (is_number q) xs) ≡ (b || list_any (is_number q) ys) → list_any (is_number q) xs ≡ list_any (is_number q) ys
    by false at rest = rest
    by true at rest =
        let e : q ≡ x = number_is q x at in
        ap (λ n. list_any (is_number n) xs) e ∙ (lacks_lower x xs above ∙ (sym (lacks_lower x ys others) ∙ ap (λ n. list_any (is_number n) ys) (sym e)))

pub same_ascending : (xs ys : List ℕ) → IsStrictlySortedBy nat_cmp xs → IsStrictlySortedBy nat_cmp ys → ((q : ℕ) → list_any (is_number q) xs ≡ list_any (is_number q) ys) → xs ≡ ys
same_ascending [] [] up down same = refl
same_ascending [] (y ∷ ys) up down same = absurd (true≢false (sym (has_itself y ys) ∙ sym (same y)))
same_ascending (x ∷ xs) [] up down same = absurd (true≢false (sym (has_itself x xs) ∙ same x))
same_ascending (x ∷ xs) (y ∷ ys) up down same = by (nat_cmp x y) refl (same_ascending xs ys (sorted_tail nat_cmp x xs up) (sorted_tail nat_cmp y ys down))
  where
    level : x ≡ y → (((q : ℕ) → list_any (is_number q) xs ≡ list_any (is_number q) ys) → xs ≡ ys) → (x ∷ xs) ≡ (y ∷ ys)
    level e rest =
        let above : AreAbove x ys = subst (λ n. AreAbove n ys) (sym e) (sorted_head nat_cmp y ys down) in
        ap (λ n. n ∷ xs) e ∙ ap (λ l. y ∷ l) (rest (λ q. tails x q xs ys (sorted_head nat_cmp x xs up) above (same q ∙ ap (λ n. list_any (is_number q) (n ∷ ys)) (sym e))))

    by : (o : Ordering) → nat_cmp x y ≡ o → (((q : ℕ) → list_any (is_number q) xs ≡ list_any (is_number q) ys) → xs ≡ ys) → (x ∷ xs) ≡ (y ∷ ys)
    by Less less rest = not_below x y xs ys (sorted_head nat_cmp y ys down) less (same x)
    by Equal is rest = level (number_is x y (ap is_eq is)) rest
    by Greater greater rest = not_below y x ys xs (sorted_head nat_cmp x xs up) (flipped x y greater) (sym (same y))

kept_above : {X : Type 0} (low : ℕ) (p : ℕ × X → Bool) (entries : List (ℕ × X)) → AreAbove low (keys_of entries) → AreAbove low (keys_of (filter p entries))
kept_above low p [] above = above
kept_above {X} low p (entry ∷ entries) above = by (p entry) (kept_above low p entries above.1)
  where
    by : (b : Bool) → AreAbove low (keys_of (filter p entries)) → AreAbove low (keys_of (cond b (entry ∷ filter p entries) (filter p entries)))
    by true rest = (above.0, rest)
    by false rest = rest

-- some of the entries are in order too
pub kept_ascending : {X : Type 0} (p : ℕ × X → Bool) (entries : List (ℕ × X)) → IsStrictlySortedBy nat_cmp (keys_of entries) → IsStrictlySortedBy nat_cmp (keys_of (filter p entries))
unfolding IsStrictlySortedBy
kept_ascending p [] up = up
kept_ascending {X} p (entry ∷ entries) up =
    by (p entry) (kept_above entry.0 p entries (sorted_head nat_cmp entry.0 (keys_of entries) up)) (kept_ascending p entries (sorted_tail nat_cmp entry.0 (keys_of entries) up))
  where
    by : (b : Bool) → AreAbove entry.0 (keys_of (filter p entries)) → IsStrictlySortedBy nat_cmp (keys_of (filter p entries)) → IsStrictlySortedBy nat_cmp (keys_of (cond b (entry ∷ filter p entries) (filter p entries)))
    by true above rest = (above, rest)
    by false above rest = rest

-- some of ascending numbers ascend
pub filtered_increasing : (p : ℕ → Bool) (numbers : List ℕ) → IsStrictlyIncreasing numbers → IsStrictlyIncreasing (filter p numbers)
filtered_increasing p numbers up = IsStrictlyIncreasing-from_sorted (filter p numbers) (IsStrictlySortedBy-filter nat_cmp p numbers (sorted_from_strictly_increasing numbers up))

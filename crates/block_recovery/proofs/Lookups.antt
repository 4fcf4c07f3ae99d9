-- What a look-up finds behind a change of a table by numbers.
use Rattle.std.proofs.Common.{◌≡◌, ℕ, Bool, true, false, ◌||◌, List, [], ◌∷◌, Option, Some, None, unwrap_or, refl, sym, ap, ◌∙◌, cond}
use Rattle.std.proofs.lemmas.Map.{lookup-set_value}
use Rattle.std.proofs.lemmas.Map.Keys.{sorted_head, sorted_tail}
use Rattle.std.specs.BTreeMap.{insert_entry}
use Rattle.std.specs.BTreeSet.{insert_key}
use Rattle.std.specs.Cmp.{eq_by_cmp_equiv, nat_cmp_total, nat_cmp_is}
use Rattle.std.specs.List.{list_any}
use Rattle.std.specs.List.Sorted.{IsStrictlySortedBy}
use Rattle.std.specs.Map.{keys_of, set_value}
use Rattle.std.specs.Option.{is_some, option_map}
use Rattle.std.specs.Ordering.{is_eq, nat_cmp, match_ordering, ordering_reverse}
use Rattle.std.specs.declared.cmp.Ordering.{Ordering}
use Rattle.std.specs.declared.cmp.Ordering.TheVariants.{Less, Equal, Greater}
use Rattle.block_records.specs.Numbers.{is_number, entry_at}
use Rattle.block_records.proofs.Ascending.{AreAbove, above_lower}
use Rattle.block_records.proofs.Numbers.{number_is}
use Rattle.block_recovery.specs.Plans.{with_entry_changed, altered_by}
use Rattle.block_recovery.proofs.Tables.{itself}

greater_equal : {A : Type 0} → Greater ≡ Equal → A
greater_equal e = cc

level : (x y : ℕ) → x ≡ y → nat_cmp x y ≡ Equal
level x y e = sym (nat_cmp_is x y Equal e)

-- ---- one entry more, or another in its place

pub lookup_inserted : {X : Type 0} (k q : ℕ) (v : X) (es : List (ℕ × X)) → entry_at q (insert_entry nat_cmp es k v) ≡ cond (is_number q k) (Some v) (entry_at q es)
lookup_inserted k q v [] = refl
lookup_inserted {X} k q v (e ∷ es) = by (nat_cmp k e.0) refl (lookup_inserted k q v es)
  where
    same : (b : Bool) → cond b (Some v) (entry_at q es) ≡ cond b (Some v) (cond b (Some e.1) (entry_at q es))
    same true = refl
    same false = refl

    apart : (b : Bool) → is_number q e.0 ≡ b → (d : Bool) → is_number q k ≡ d → nat_cmp k e.0 ≡ Greater → cond b (Some e.1) (cond d (Some v) (entry_at q es)) ≡ cond d (Some v) (cond b (Some e.1) (entry_at q es))
    apart true at true to greater = greater_equal (sym greater ∙ level k e.0 (sym (number_is q k to) ∙ number_is q e.0 at))
    apart true at false to greater = refl
    apart false at d to greater = refl

    by : (o : Ordering) → nat_cmp k e.0 ≡ o → entry_at q (insert_entry nat_cmp es k v) ≡ cond (is_number q k) (Some v) (entry_at q es)
        → entry_at q (match_ordering o ((k, v) ∷ e ∷ es) ((e.0, v) ∷ es) (e ∷ insert_entry nat_cmp es k v)) ≡ cond (is_number q k) (Some v) (cond (is_number q e.0) (Some e.1) (entry_at q es))
    by Less is rest = refl
    by Equal is rest = same (is_number q e.0) ∙ ap (λ n. cond (is_number q n) (Some v) (cond (is_number q e.0) (Some e.1) (entry_at q es))) (sym (number_is k e.0 (ap is_eq is)))
    by Greater is rest = ap (cond (is_number q e.0) (Some e.1)) rest ∙ apart (is_number q e.0) refl (is_number q k) refl is

set_there : {X : Type 0} (k q : ℕ) (v w : X) (es : List (ℕ × X)) → entry_at k es ≡ Some v → entry_at q (set_value (is_number k) es w) ≡ cond (is_number k q) (Some w) (entry_at q es)
set_there k q v w es found =
    lookup-set_value (eq_by_cmp_equiv nat_cmp_total) (is_number k) (λ x y at. ap (λ n. is_number n y) (number_is k x at)) q w es (ap is_some found)

pub lookup_altered : {X : Type 0} (change : X → X) (k q : ℕ) (table : List (ℕ × X)) → entry_at q (with_entry_changed change k table) ≡ cond (is_number k q) (option_map change (entry_at q table)) (entry_at q table)
lookup_altered {X} change k q table = by (entry_at k table) refl
  where
    here : (found : Option X) → entry_at k table ≡ found → is_number k q ≡ true → entry_at q table ≡ found
    here found is at = ap (λ n. entry_at n table) (sym (number_is k q at)) ∙ is

    none : (b : Bool) → is_number k q ≡ b → entry_at k table ≡ None → entry_at q table ≡ cond b (option_map change (entry_at q table)) (entry_at q table)
    none true at is = here None is at ∙ sym (ap (option_map change) (here None is at))
    none false at is = refl

    some : (own : X) (b : Bool) → is_number k q ≡ b → entry_at k table ≡ Some own → cond b (Some (change own)) (entry_at q table) ≡ cond b (option_map change (entry_at q table)) (entry_at q table)
    some own true at is = sym (ap (option_map change) (here (Some own) is at))
    some own false at is = refl

    by : (found : Option X) → entry_at k table ≡ found → entry_at q (altered_by change k found table) ≡ cond (is_number k q) (option_map change (entry_at q table)) (entry_at q table)
    by None is = none (is_number k q) refl is
    by (Some own) is = set_there k q own (change own) table is ∙ some own (is_number k q) refl is

-- ---- keys that ascend

flipped : (x y : ℕ) → nat_cmp x y ≡ Greater → nat_cmp y x ≡ Less
flipped x y greater = by (nat_cmp y x) refl
  where
    by : (o : Ordering) → nat_cmp y x ≡ o → o ≡ Less
    by Less is = refl
    by Equal is = let e : Greater ≡ Equal = sym greater ∙ (nat_cmp_total.antisymm x y ∙ ap (λ o. ordering_reverse o) is) in cc
    by Greater is = let e : Greater ≡ Less = sym greater ∙ (nat_cmp_total.antisymm x y ∙ ap (λ o. ordering_reverse o) is) in cc

above_inserted : {X : Type 0} (low k : ℕ) (v : X) (es : List (ℕ × X)) → nat_cmp low k ≡ Less → AreAbove low (keys_of es) → AreAbove low (keys_of (insert_entry nat_cmp es k v))
above_inserted low k v [] less above = (less, tt)
above_inserted {X} low k v (e ∷ es) less above = by (nat_cmp k e.0) (above_inserted low k v es less above.1)
  where
    by : (o : Ordering) → AreAbove low (keys_of (insert_entry nat_cmp es k v)) → AreAbove low (keys_of (match_ordering o ((k, v) ∷ e ∷ es) ((e.0, v) ∷ es) (e ∷ insert_entry nat_cmp es k v)))
    by Less rest = (less, above)
    by Equal rest = above
    by Greater rest = (above.0, rest)

pub inserted_ascending : {X : Type 0} (k : ℕ) (v : X) (es : List (ℕ × X)) → IsStrictlySortedBy nat_cmp (keys_of es) → IsStrictlySortedBy nat_cmp (keys_of (insert_entry nat_cmp es k v))
unfolding IsStrictlySortedBy
inserted_ascending k v [] up = (tt, tt)
inserted_ascending {X} k v (e ∷ es) up = by (nat_cmp k e.0) refl (sorted_head nat_cmp e.0 (keys_of es) up) (inserted_ascending k v es (sorted_tail nat_cmp e.0 (keys_of es) up))
  where
    by : (o : Ordering) → nat_cmp k e.0 ≡ o → AreAbove e.0 (keys_of es) → IsStrictlySortedBy nat_cmp (keys_of (insert_entry nat_cmp es k v))
        → IsStrictlySortedBy nat_cmp (keys_of (match_ordering o ((k, v) ∷ e ∷ es) ((e.0, v) ∷ es) (e ∷ insert_entry nat_cmp es k v)))
    by Less less head rest = ((less, above_lower k e.0 (keys_of es) less head), up)
    by Equal at head rest = up
    by Greater greater head rest = (above_inserted e.0 k v es (flipped k e.0 greater) head, rest)

-- ---- a set

pub has_inserted : (k q : ℕ) (ks : List ℕ) → list_any (is_number q) (insert_key nat_cmp ks k) ≡ (is_number q k || list_any (is_number q) ks)
has_inserted k q [] = refl
has_inserted k q (x ∷ xs) = by (nat_cmp k x) refl (has_inserted k q xs)
  where
    twice : (b d : Bool) → (b || d) ≡ (b || (b || d))
    twice true d = refl
    twice false d = refl

    over : (b d r : Bool) → (b || (d || r)) ≡ (d || (b || r))
    over true true r = refl
    over true false r = refl
    over false d r = refl

    by : (o : Ordering) → nat_cmp k x ≡ o → list_any (is_number q) (insert_key nat_cmp xs k) ≡ (is_number q k || list_any (is_number q) xs)
        → list_any (is_number q) (match_ordering o (k ∷ x ∷ xs) (x ∷ xs) (x ∷ insert_key nat_cmp xs k)) ≡ (is_number q k || (is_number q x || list_any (is_number q) xs))
    by Less is rest = refl
    by Equal is rest = twice (is_number q x) (list_any (is_number q) xs) ∙ ap (λ n. is_number q n || (is_number q x || list_any (is_number q) xs)) (sym (number_is k x (ap is_eq is)))
    by Greater is rest = ap (λ b. is_number q x || b) rest ∙ over (is_number q x) (is_number q k) (list_any (is_number q) xs)

-- ---- two tables that find the same

none_some : {X : Type 0} {A : Type 0} (x : X) → None ≡ Some x → A
none_some x e = cc

at_itself : {X : Type 0} (e : ℕ × X) (es : List (ℕ × X)) → entry_at e.0 (e ∷ es) ≡ Some e.1
at_itself e es = ap (λ b. cond b (Some e.1) (entry_at e.0 es)) (itself e.0)

none_below : {X : Type 0} (low : ℕ) (table : List (ℕ × X)) → AreAbove low (keys_of table) → entry_at low table ≡ None
none_below low [] above = refl
none_below low (e ∷ es) above = ap (λ o. cond (is_eq o) (Some e.1) (entry_at low es)) above.0 ∙ none_below low es above.1

-- the first of one table isn't below the first of the other
not_first : {X : Type 0} {A : Type 0} (x y : ℕ × X) (xs ys : List (ℕ × X)) → AreAbove y.0 (keys_of ys) → nat_cmp x.0 y.0 ≡ Less → entry_at x.0 (x ∷ xs) ≡ entry_at x.0 (y ∷ ys) → A
not_first x y xs ys above less same =
    none_some x.1 (sym (none_below x.0 (y ∷ ys) (less, above_lower x.0 y.0 (keys_of ys) less above)) ∙ (sym same ∙ at_itself x xs))

pub same_table : {X : Type 0} (xs ys : List (ℕ × X)) → IsStrictlySortedBy nat_cmp (keys_of xs) → IsStrictlySortedBy nat_cmp (keys_of ys) → ((q : ℕ) → entry_at q xs ≡ entry_at q ys) → xs ≡ ys
same_table [] [] up down same = refl
same_table [] (y ∷ ys) up down same = none_some y.1 (same y.0 ∙ at_itself y ys)
same_table (x ∷ xs) [] up down same = none_some x.1 (sym (same x.0) ∙ at_itself x xs)
same_table {X} (x ∷ xs) (y ∷ ys) up down same = by (nat_cmp x.0 y.0) refl (same_table xs ys (sorted_tail nat_cmp x.0 (keys_of xs) up) (sorted_tail nat_cmp y.0 (keys_of ys) down))
  where
    tails : x.0 ≡ y.0 → (q : ℕ) → entry_at q xs ≡ entry_at q ys
    tails e q = one (is_number q x.0) refl (same q)
      where
        one : (b : Bool) → is_number q x.0 ≡ b → cond b (Some x.1) (entry_at q xs) ≡ entry_at q (y ∷ ys) → entry_at q xs ≡ entry_at q ys
        one true at is =
            let first : q ≡ x.0 = number_is q x.0 at in
            ap (λ n. entry_at n xs) first
            ∙ (none_below x.0 xs (sorted_head nat_cmp x.0 (keys_of xs) up)
            ∙ (sym (none_below y.0 ys (sorted_head nat_cmp y.0 (keys_of ys) down)) ∙ ap (λ n. entry_at n ys) (sym (first ∙ e))))
        one false at is = is ∙ ap (λ b. cond b (Some y.1) (entry_at q ys)) (ap (is_number q) (sym e) ∙ at)

    level_values : x.0 ≡ y.0 → x.1 ≡ y.1
    level_values e = ap (λ o. unwrap_or o x.1) (sym (at_itself x xs) ∙ (same x.0 ∙ (ap (λ n. entry_at n (y ∷ ys)) e ∙ at_itself y ys)))

    by : (o : Ordering) → nat_cmp x.0 y.0 ≡ o → (((q : ℕ) → entry_at q xs ≡ entry_at q ys) → xs ≡ ys) → (x ∷ xs) ≡ (y ∷ ys)
    by Less less rest = not_first x y xs ys (sorted_head nat_cmp y.0 (keys_of ys) down) less (same x.0)
    by Equal is rest =
        let e : x.0 ≡ y.0 = number_is x.0 y.0 (ap is_eq is) in
        ap (λ (n : ℕ). (n, x.1) ∷ xs) e ∙ (ap (λ (v : X). (y.0, v) ∷ xs) (level_values e) ∙ ap (λ l. y ∷ l) (rest (tails e)))
    by Greater greater rest = not_first y x ys xs (sorted_head nat_cmp x.0 (keys_of xs) up) (flipped x.0 y.0 greater) (sym (same y.0))

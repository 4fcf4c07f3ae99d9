-- A table by numbers in which the greatest stands first, and the same table in order.
use mathlib.Core.List.{reverse-cons}
use Rattle.std.proofs.Common.{◌≡◌, ℕ, Bool, true, false, List, [], ◌∷◌, ◌++◌, map, Option, Some, None, refl, sym, ap, ◌∙◌, cond, subst}
use Rattle.std.proofs.lemmas.Map.Keys.{sorted_head, sorted_tail}
use Rattle.std.specs.BTreeMap.{insert_entry}
use Rattle.std.specs.Cmp.{nat_cmp_total}
use Rattle.std.specs.List.{AllByRecursion}
use Rattle.std.specs.List.Sorted.{IsStrictlySortedBy}
use Rattle.std.specs.Map.{keys_of, lookup, set_value}
use Rattle.std.specs.Ordering.{is_eq, nat_cmp, ordering_reverse}
use Rattle.std.specs.declared.cmp.Ordering.{Ordering}
use Rattle.std.specs.declared.cmp.Ordering.TheVariants.{Less, Equal, Greater}
use Rattle.std.specs.declared.cmp.Reverse.{Reverse}
use Rattle.block_records.specs.Numbers.{is_number, entry_at}
use Rattle.block_records.proofs.Ascending.{AreAbove}
use Rattle.block_records.proofs.Numbers.{number_is}
use Rattle.block_recovery.specs.Kept.{in_order}
use Rattle.block_recovery.proofs.Lookups.{inserted_ascending, lookup_inserted, same_table}

-- a greater number comes before a less one
abbrev pub newest_first : Reverse ℕ → Reverse ℕ → Ordering
newest_first x y = nat_cmp y.0 x.0

-- what such a table has at a number
abbrev newest_at : {X : Type 0} → ℕ → List (Reverse ℕ × X) → Option X
newest_at number entries = lookup (λ key. is_eq (nat_cmp key.0 number)) entries

abbrev turned : {X : Type 0} → List (Reverse ℕ × X) → List (ℕ × X)
turned [] = []
turned (e ∷ es) = turned es ++ ((e.0.0, e.1) ∷ [])

is_turned : {X : Type 0} (es : List (Reverse ℕ × X)) → in_order es ≡ turned es
is_turned [] = refl
is_turned {X} (e ∷ es) =
    reverse-cons (e.0.0, e.1) (map (λ (entry : Reverse ℕ × X). (entry.0.0, entry.1)) es) ∙ ap (λ (l : List (ℕ × X)). l ++ ((e.0.0, e.1) ∷ [])) (is_turned es)

-- ---- look-ups

turned_eq : (o : Ordering) → is_eq (ordering_reverse o) ≡ is_eq o
turned_eq Less = refl
turned_eq Equal = refl
turned_eq Greater = refl

tied : (q k : ℕ) → is_eq (nat_cmp k q) ≡ is_number q k
tied q k = ap is_eq (nat_cmp_total.antisymm k q) ∙ turned_eq (nat_cmp q k)

some_none : {X : Type 0} {A : Type 0} (x : X) → Some x ≡ None → A
some_none x e = cc

-- what isn't in one table is looked for in the next
behind : {X : Type 0} (q : ℕ) (xs ys : List (ℕ × X)) → entry_at q xs ≡ None → entry_at q (xs ++ ys) ≡ entry_at q ys
behind q [] ys none = refl
behind {X} q (x ∷ xs) ys none = by (is_number q x.0) none (behind q xs ys)
  where
    by : (b : Bool) → cond b (Some x.1) (entry_at q xs) ≡ None → (entry_at q xs ≡ None → entry_at q (xs ++ ys) ≡ entry_at q ys) → cond b (Some x.1) (entry_at q (xs ++ ys)) ≡ entry_at q ys
    by true none rest = some_none x.1 none
    by false none rest = rest none

before : {X : Type 0} (q : ℕ) (xs ys : List (ℕ × X)) (v : X) → entry_at q xs ≡ Some v → entry_at q (xs ++ ys) ≡ Some v
before q [] ys v found = some_none v (sym found)
before {X} q (x ∷ xs) ys v found = by (is_number q x.0) found (before q xs ys v)
  where
    by : (b : Bool) → cond b (Some x.1) (entry_at q xs) ≡ Some v → (entry_at q xs ≡ Some v → entry_at q (xs ++ ys) ≡ Some v) → cond b (Some x.1) (entry_at q (xs ++ ys)) ≡ Some v
    by true found rest = found
    by false found rest = rest found

none_lower : {X : Type 0} (q : ℕ) (es : List (Reverse ℕ × X)) → AllByRecursion (λ y. nat_cmp y.0 q ≡ Less) (keys_of es) → newest_at q es ≡ None
none_lower q [] below = refl
none_lower q (e ∷ es) below = ap (λ o. cond (is_eq o) (Some e.1) (newest_at q es)) below.0 ∙ none_lower q es below.1

looked : {X : Type 0} (q : ℕ) (es : List (Reverse ℕ × X)) → IsStrictlySortedBy newest_first (keys_of es) → newest_at q es ≡ entry_at q (turned es)
looked q [] down = refl
looked {X} q (e ∷ es) down = by (is_eq (nat_cmp e.0.0 q)) refl (looked q es (sorted_tail newest_first e.0 (keys_of es) down))
  where
    last : List (ℕ × X)
    last = (e.0.0, e.1) ∷ []

    absent : is_number q e.0.0 ≡ true → newest_at q es ≡ None
    absent at = none_lower q es (subst (λ n. AllByRecursion (λ y. nat_cmp y.0 n ≡ Less) (keys_of es)) (sym (number_is q e.0.0 at)) (sorted_head newest_first e.0 (keys_of es) down))

    there : (found : Option X) → newest_at q es ≡ found → newest_at q es ≡ entry_at q (turned es) → is_number q e.0.0 ≡ false → newest_at q es ≡ entry_at q (turned es ++ last)
    there None is rest at = is ∙ sym (behind q (turned es) last (sym rest ∙ is) ∙ ap (λ b. cond b (Some e.1) None) at)
    there (Some v) is rest at = is ∙ sym (before q (turned es) last v (sym rest ∙ is))

    by : (b : Bool) → is_eq (nat_cmp e.0.0 q) ≡ b → newest_at q es ≡ entry_at q (turned es) → cond b (Some e.1) (newest_at q es) ≡ entry_at q (turned es ++ last)
    by true at rest =
        let here : is_number q e.0.0 ≡ true = sym (tied q e.0.0) ∙ at in
        sym (behind q (turned es) last (sym rest ∙ absent here) ∙ ap (λ b. cond b (Some e.1) None) here)
    by false at rest = there (newest_at q es) refl rest (sym (tied q e.0.0) ∙ at)

pub found_newest : {X : Type 0} (q : ℕ) (es : List (Reverse ℕ × X)) → IsStrictlySortedBy newest_first (keys_of es) → newest_at q es ≡ entry_at q (in_order es)
found_newest q es down = looked q es down ∙ ap (entry_at q) (sym (is_turned es))

-- ---- keys that ascend

abbrev AreBelow : ℕ → List ℕ → Type 0
AreBelow high numbers = AllByRecursion (λ y. nat_cmp y high ≡ Less) numbers

above_pushed : {X : Type 0} (low : ℕ) (e : ℕ × X) (xs : List (ℕ × X)) → AreAbove low (keys_of xs) → nat_cmp low e.0 ≡ Less → AreAbove low (keys_of (xs ++ e ∷ []))
above_pushed low e [] above less = (less, tt)
above_pushed low e (x ∷ xs) above less = (above.0, above_pushed low e xs above.1 less)

below_pushed : {X : Type 0} (high : ℕ) (e : ℕ × X) (xs : List (ℕ × X)) → AreBelow high (keys_of xs) → nat_cmp e.0 high ≡ Less → AreBelow high (keys_of (xs ++ e ∷ []))
below_pushed high e [] below less = (less, tt)
below_pushed high e (x ∷ xs) below less = (below.0, below_pushed high e xs below.1 less)

pushed : {X : Type 0} (e : ℕ × X) (xs : List (ℕ × X)) → IsStrictlySortedBy nat_cmp (keys_of xs) → AreBelow e.0 (keys_of xs) → IsStrictlySortedBy nat_cmp (keys_of (xs ++ e ∷ []))
unfolding IsStrictlySortedBy
pushed e [] up below = (tt, tt)
pushed e (x ∷ xs) up below = (above_pushed x.0 e xs (sorted_head nat_cmp x.0 (keys_of xs) up) below.0, pushed e xs (sorted_tail nat_cmp x.0 (keys_of xs) up) below.1)

below_turned : {X : Type 0} (high : ℕ) (es : List (Reverse ℕ × X)) → AllByRecursion (λ y. nat_cmp y.0 high ≡ Less) (keys_of es) → AreBelow high (keys_of (turned es))
below_turned high [] below = tt
below_turned high (e ∷ es) below = below_pushed high (e.0.0, e.1) (turned es) (below_turned high es below.1) below.0

ascending : {X : Type 0} (es : List (Reverse ℕ × X)) → IsStrictlySortedBy newest_first (keys_of es) → IsStrictlySortedBy nat_cmp (keys_of (turned es))
unfolding IsStrictlySortedBy
ascending [] down = tt
ascending (e ∷ es) down =
    pushed (e.0.0, e.1) (turned es) (ascending es (sorted_tail newest_first e.0 (keys_of es) down)) (below_turned e.0.0 es (sorted_head newest_first e.0 (keys_of es) down))

pub in_order_ascends : {X : Type 0} (es : List (Reverse ℕ × X)) → IsStrictlySortedBy newest_first (keys_of es) → IsStrictlySortedBy nat_cmp (keys_of (in_order es))
in_order_ascends es down = subst (λ table. IsStrictlySortedBy nat_cmp (keys_of table)) (sym (is_turned es)) (ascending es down)

-- ---- an entry gets another value

set_behind : {X : Type 0} (q : ℕ) (w : X) (xs ys : List (ℕ × X)) → entry_at q xs ≡ None → set_value (is_number q) (xs ++ ys) w ≡ xs ++ set_value (is_number q) ys w
set_behind q w [] ys none = refl
set_behind {X} q w (x ∷ xs) ys none = by (is_number q x.0) none (set_behind q w xs ys)
  where
    by : (b : Bool) → cond b (Some x.1) (entry_at q xs) ≡ None → (entry_at q xs ≡ None → set_value (is_number q) (xs ++ ys) w ≡ xs ++ set_value (is_number q) ys w)
        → cond b ((x.0, w) ∷ (xs ++ ys)) (x ∷ set_value (is_number q) (xs ++ ys) w) ≡ x ∷ (xs ++ set_value (is_number q) ys w)
    by true none rest = some_none x.1 none
    by false none rest = ap (λ l. x ∷ l) (rest none)

set_before : {X : Type 0} (q : ℕ) (w : X) (xs : List (ℕ × X)) (e : ℕ × X) → is_number q e.0 ≡ false → set_value (is_number q) (xs ++ e ∷ []) w ≡ set_value (is_number q) xs w ++ e ∷ []
set_before q w [] e other = ap (λ b. cond b ((e.0, w) ∷ []) (e ∷ [])) other
set_before {X} q w (x ∷ xs) e other = by (is_number q x.0) (set_before q w xs e other)
  where
    by : (b : Bool) → set_value (is_number q) (xs ++ e ∷ []) w ≡ set_value (is_number q) xs w ++ e ∷ []
        → cond b ((x.0, w) ∷ (xs ++ e ∷ [])) (x ∷ set_value (is_number q) (xs ++ e ∷ []) w) ≡ cond b ((x.0, w) ∷ xs) (x ∷ set_value (is_number q) xs w) ++ e ∷ []
    by true rest = refl
    by false rest = ap (λ l. x ∷ l) rest

set_turned : {X : Type 0} (q : ℕ) (w : X) (es : List (Reverse ℕ × X)) → IsStrictlySortedBy newest_first (keys_of es)
    → turned (set_value (λ key. is_eq (nat_cmp key.0 q)) es w) ≡ set_value (is_number q) (turned es) w
set_turned q w [] down = refl
set_turned {X} q w (e ∷ es) down = by (is_eq (nat_cmp e.0.0 q)) refl (set_turned q w es (sorted_tail newest_first e.0 (keys_of es) down))
  where
    last : List (ℕ × X)
    last = (e.0.0, e.1) ∷ []

    absent : is_number q e.0.0 ≡ true → entry_at q (turned es) ≡ None
    absent at =
        sym (looked q es (sorted_tail newest_first e.0 (keys_of es) down))
        ∙ none_lower q es (subst (λ n. AllByRecursion (λ y. nat_cmp y.0 n ≡ Less) (keys_of es)) (sym (number_is q e.0.0 at)) (sorted_head newest_first e.0 (keys_of es) down))

    by : (b : Bool) → is_eq (nat_cmp e.0.0 q) ≡ b → turned (set_value (λ key. is_eq (nat_cmp key.0 q)) es w) ≡ set_value (is_number q) (turned es) w
        → turned (cond b ((e.0, w) ∷ es) (e ∷ set_value (λ key. is_eq (nat_cmp key.0 q)) es w)) ≡ set_value (is_number q) (turned es ++ last) w
    by true at rest =
        let here : is_number q e.0.0 ≡ true = sym (tied q e.0.0) ∙ at in
        sym (set_behind q w (turned es) last (absent here) ∙ ap (λ b. turned es ++ cond b ((e.0.0, w) ∷ []) last) here)
    by false at rest = ap (λ (l : List (ℕ × X)). l ++ last) rest ∙ sym (set_before q w (turned es) (e.0.0, e.1) (sym (tied q e.0.0) ∙ at))

pub newest_set : {X : Type 0} (q : ℕ) (w : X) (es : List (Reverse ℕ × X)) → IsStrictlySortedBy newest_first (keys_of es)
    → in_order (set_value (λ key. is_eq (nat_cmp key.0 q)) es w) ≡ set_value (is_number q) (in_order es) w
newest_set q w es down = is_turned (set_value (λ key. is_eq (nat_cmp key.0 q)) es w) ∙ (set_turned q w es down ∙ ap (λ table. set_value (is_number q) table w) (sym (is_turned es)))

-- ---- an entry is put in

module _ {X : Type 0} (es left : List (Reverse ℕ × X)) (down : IsStrictlySortedBy newest_first (keys_of es)) (after : IsStrictlySortedBy newest_first (keys_of left)) (k : ℕ) (v : X)
    (updated : (q : Reverse ℕ) → newest_at q.0 left ≡ cond (is_number q.0 k) (Some v) (newest_at q.0 es)) where
  now : (q : ℕ) → entry_at q (in_order left) ≡ cond (is_number q k) (Some v) (entry_at q (in_order es))
  now q = sym (found_newest q left after) ∙ (updated (record { 0 = q }) ∙ ap (cond (is_number q k) (Some v)) (found_newest q es down))

  pub newest_put : in_order left ≡ insert_entry nat_cmp (in_order es) k v
  newest_put =
      same_table (in_order left) (insert_entry nat_cmp (in_order es) k v) (in_order_ascends left after) (inserted_ascending k v (in_order es) (in_order_ascends es down))
      (λ q. now q ∙ sym (lookup_inserted k q v (in_order es)))

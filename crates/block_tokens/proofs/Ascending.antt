-- Serials that ascend, in a ring that rolls and in keys that were left out.
use Rattle.std.proofs.Common.{◌≡◌, ℕ, ◌<◌, ◌≤◌, Bool, true, false, cond, List, [], ◌∷◌, ◌++◌, length, take, ◌∙◌, Some, None, sym, subst, ap, arith}
use Rattle.std.proofs.lemmas.List.{map-append, take_all}
use Rattle.std.proofs.lemmas.List.Elements.{filter-append}
use Rattle.std.specs.Cmp.{nat_cmp_is}
use Rattle.std.proofs.lemmas.Bool.Decides.{nat_tests}
use Rattle.std.specs.Prelude.{filter}
use Rattle.std.specs.List.{AllByRecursion}
use Rattle.std.specs.List.Sorted.{IsStrictlySortedBy}
use Rattle.std.specs.Map.{keys_of}
use Rattle.std.specs.Ordering.{nat_cmp}
use Rattle.std.specs.declared.cmp.Ordering.TheVariants.{Less}
use Rattle.block_tokens.specs.KeyList.{KeyList, AreKeys, usable_keys, expires_after}
use Rattle.block_tokens.specs.Ring.{next_serial}
use Rattle.block_answers.specs.declared.key_list.HeldKey.{HeldKey}

all_push : (P : ℕ → Type 0) (ks : List ℕ) (t : ℕ) → AllByRecursion P ks → P t → AllByRecursion P (ks ++ t ∷ [])
all_push P [] t h p = (p, tt)
all_push P (k ∷ ks) t h p = (h.0, all_push P ks t h.1 p)

last_of : (P : ℕ → Type 0) (ks : List ℕ) (s : ℕ) → AllByRecursion P (ks ++ s ∷ []) → P s
last_of P [] s h = h.0
last_of P (k ∷ ks) s h = last_of P ks s h.1

pub less : (a b : ℕ) → a < b → nat_cmp a b ≡ Less
less a b lt = sym (nat_cmp_is a b Less lt)

pub less_is : (a b : ℕ) → nat_cmp a b ≡ Less → a < b
less_is a b e = grind (arith, nat_tests)

all_below : (ks : List ℕ) (s t : ℕ) → IsStrictlySortedBy nat_cmp (ks ++ s ∷ []) → s < t → AllByRecursion (λ k. k < t) (ks ++ s ∷ [])
unfolding IsStrictlySortedBy
all_below [] s t h lt = (lt, tt)
all_below (k ∷ ks) s t h lt =
    let below : k < s = less_is k s (last_of (λ y. nat_cmp k y ≡ Less) ks s h.0) in
    (omega arith, all_below ks s t h.1 lt)

sorted_push : (ks : List ℕ) (t : ℕ) → IsStrictlySortedBy nat_cmp ks → AllByRecursion (λ k. k < t) ks → IsStrictlySortedBy nat_cmp (ks ++ t ∷ [])
unfolding IsStrictlySortedBy
sorted_push [] t h below = (tt, tt)
sorted_push (k ∷ ks) t h below = (all_push (λ y. nat_cmp k y ≡ Less) ks t h.0 (less k t below.0), sorted_push ks t h.1 below.1)

-- only serials count
pub keys_push : (older : KeyList) (s t : ℕ) (a b d : HeldKey) → AreKeys (older ++ (s, a) ∷ []) → s < t → AreKeys ((older ++ (s, b) ∷ []) ++ (t, d) ∷ [])
keys_push older s t a b d h lt =
    let ks : List ℕ = keys_of older in
    let before : IsStrictlySortedBy nat_cmp (ks ++ s ∷ []) = subst (IsStrictlySortedBy nat_cmp) (map-append (λ (e : ℕ × HeldKey). e.0) older ((s, a) ∷ [])) h in
    let after : IsStrictlySortedBy nat_cmp ((ks ++ s ∷ []) ++ t ∷ []) = sorted_push (ks ++ s ∷ []) t before (all_below ks s t before lt) in
    rw (map-append (λ (e : ℕ × HeldKey). e.0) (older ++ (s, b) ∷ []) ((t, d) ∷ []), map-append (λ (e : ℕ × HeldKey). e.0) older ((s, b) ∷ [])) after

pub first_key : (s : ℕ) (a : HeldKey) → AreKeys ([] ++ (s, a) ∷ [])
unfolding IsStrictlySortedBy
first_key s a = (tt, tt)

all_kept : (P : ℕ → Type 0) (p : ℕ × HeldKey → Bool) (keys : KeyList) → AllByRecursion P (keys_of keys) → AllByRecursion P (keys_of (filter p keys))
all_kept P p [] h = tt
all_kept P p (e ∷ keys) h = elim (p e) as (λ b. AllByRecursion P (keys_of (cond b (e ∷ filter p keys) (filter p keys)))) [ true ↦ (h.0, all_kept P p keys h.1) | false ↦ all_kept P p keys h.1 ]

sorted_kept : (p : ℕ × HeldKey → Bool) (keys : KeyList) → AreKeys keys → AreKeys (filter p keys)
unfolding IsStrictlySortedBy
sorted_kept p [] h = tt
sorted_kept p (e ∷ keys) h =
    elim (p e) as (λ b. AreKeys (cond b (e ∷ filter p keys) (filter p keys)))
    [ true ↦ (all_kept (λ y. nat_cmp e.0 y ≡ Less) p keys h.0, sorted_kept p keys h.1) | false ↦ sorted_kept p keys h.1 ]

pub usable_ascend : (now : ℕ) (keys : KeyList) → AreKeys keys → AreKeys (usable_keys now keys)
usable_ascend now keys h = sorted_kept (λ entry. expires_after now entry.1.expiry) keys h

pub next_above : (s t : ℕ) → Some t ≡ next_serial s → s < t
next_above s t e = grind (arith, nat_tests)

-- the current key has no expiry, so it is listed, after the others
pub update_is : (now : ℕ) (older : KeyList) (s : ℕ) (key : List ℕ) → usable_keys now (older ++ (s, record { key = key; expiry = None }) ∷ []) ≡ usable_keys now older ++ (s, record { key = key; expiry = None }) ∷ []
update_is now older s key = filter-append (λ (entry : ℕ × HeldKey). expires_after now entry.1.expiry) older ((s, record { key = key; expiry = None }) ∷ [])

pub update_ascends : (now : ℕ) (older items keys new : KeyList) (i s : ℕ) (key : List ℕ) → items ≡ older → length items ≤ i → keys ≡ usable_keys now (take i items)
    → new ≡ keys ++ (s, record { key = key; expiry = None }) ∷ [] → AreKeys (older ++ (s, record { key = key; expiry = None }) ∷ []) → AreKeys new
update_ascends now older items keys new i s key same all listed pushed h =
    let whole : usable_keys now (take i items) ≡ usable_keys now older = ap (usable_keys now) (take_all i items all ∙ same) in
    let made : new ≡ usable_keys now (older ++ (s, record { key = key; expiry = None }) ∷ []) = rw (pushed, listed, whole) (sym (update_is now older s key)) in
    subst AreKeys (sym made) (usable_ascend now (older ++ (s, record { key = key; expiry = None }) ∷ []) h)

-- What a change of the map's entries makes of the renewals.
use Rattle.std.proofs.Common.{◌≡◌, ◌≤◌, ℕ, ◌-◌, Bool, true, false, not, cond, Option, List, [], ◌∷◌, ◌++◌, append-nil, filter, length, map, reverse, take, None, Some, is_some, refl, sym, ap, ◌∙◌, subst, true≢false}
use Rattle.std.proofs.lemmas.List.{map-append, reverse-append, reverse-reverse, take_all}
use Rattle.std.proofs.lemmas.List.Elements.{filter-append}
use Rattle.std.proofs.lemmas.List.Sorted.{IsPermutation-reverse}
use Rattle.std.proofs.lemmas.Map.Keys.{IsDistinct-IsPermutation}
use Rattle.std.specs.List.{AllByRecursion, IsDistinct}
use Rattle.std.specs.Map.{keys_of, lookup, lookup_entry, remove_entry, set_value}
use Rattle.std.specs.Option.{option_map, option_map_or, option_or}
use Rattle.lru.proofs.CallerLemmas.{Contains-lookup_entry}
use Rattle.lru.specs.LruCache.{lru_cache, promoted, put_entries}
use Rattle.hdfs_values.proofs.Texts.{same_is, same_symm}
use Rattle.hdfs_values.specs.Text.{same}
use Rattle.lease_manager.specs.Leases.{Renewal, AreInOrder, AreRenewals, clients, renewals_without, renewals_with, renewal_of}
use Rattle.lease_manager.specs.Shown.{renewals_of}

abbrev pub Entries : Type 0
Entries = List (List ℕ × ℕ)

abbrev pub renewal : List ℕ × ℕ → Renewal
renewal entry = record { client = entry.0; moment = entry.1 }

-- ---- the entries turned round

-- the first entry is the last renewal
first_is_last : (e : List ℕ × ℕ) (es : Entries) → renewals_of (e ∷ es) ≡ renewals_of es ++ renewal e ∷ []
first_is_last e es = ap (map renewal) (reverse-append (e ∷ []) es) ∙ map-append renewal (reverse es) (e ∷ [])

-- the last entry is the first renewal
pub last_is_first : (e : List ℕ × ℕ) (es rest : Entries) → es ≡ rest ++ e ∷ [] → renewals_of es ≡ renewal e ∷ renewals_of rest
last_is_first e es rest is = ap renewals_of is ∙ ap (map renewal) (reverse-append rest (e ∷ []))

-- ---- one entry goes

goes : (client : List ℕ) (e : List ℕ × ℕ) (es : Entries) → same client e.0 ≡ true → renewals_without client (renewals_of (e ∷ es)) ≡ renewals_without client (renewals_of es)
goes client e es one =
    ap (renewals_without client) (first_is_last e es)
    ∙ filter-append (λ r. not (same client r.client)) (renewals_of es) (renewal e ∷ [])
    ∙ ap (λ b. renewals_without client (renewals_of es) ++ cond (not b) (renewal e ∷ []) []) one
    ∙ append-nil (renewals_without client (renewals_of es))

stays : (client : List ℕ) (e : List ℕ × ℕ) (es : Entries) → same client e.0 ≡ false → renewals_without client (renewals_of (e ∷ es)) ≡ renewals_without client (renewals_of es) ++ renewal e ∷ []
stays client e es other =
    ap (renewals_without client) (first_is_last e es)
    ∙ filter-append (λ r. not (same client r.client)) (renewals_of es) (renewal e ∷ [])
    ∙ ap (λ b. renewals_without client (renewals_of es) ++ cond (not b) (renewal e ∷ []) []) other

-- a client that isn't there
none_goes : (client : List ℕ) (es : Entries) → AllByRecursion (λ key. same client key ≡ false) (keys_of es) → renewals_without client (renewals_of es) ≡ renewals_of es
none_goes client [] apart = refl
none_goes client (e ∷ es) apart =
    stays client e es apart.0
    ∙ ap (λ rs. rs ++ renewal e ∷ []) (none_goes client es apart.1)
    ∙ sym (first_is_last e es)

first_goes : (client : List ℕ) (e : List ℕ × ℕ) (es : Entries) → IsDistinct same (keys_of (e ∷ es)) → same client e.0 ≡ true → renewals_without client (renewals_of (e ∷ es)) ≡ renewals_of es
unfolding IsDistinct
first_goes client e es distinct one =
    goes client e es one ∙ none_goes client es (subst (λ k. AllByRecursion (λ key. same k key ≡ false) (keys_of es)) (sym (same_is client e.0 one)) distinct.0)

pub removed : (client : List ℕ) (es : Entries) → IsDistinct same (keys_of es) → renewals_of (remove_entry (same client) es) ≡ renewals_without client (renewals_of es)
unfolding IsDistinct
removed client [] distinct = refl
removed client (e ∷ es) distinct = by (same client e.0) refl (removed client es distinct.1)
  where
    by : (b : Bool) → same client e.0 ≡ b → renewals_of (remove_entry (same client) es) ≡ renewals_without client (renewals_of es)
        → renewals_of (remove_entry (same client) (e ∷ es)) ≡ renewals_without client (renewals_of (e ∷ es))
    by true one rest = ap (λ b. renewals_of (cond b es (e ∷ remove_entry (same client) es))) one ∙ sym (first_goes client e es distinct one)
    by false other rest =
        ap (λ b. renewals_of (cond b es (e ∷ remove_entry (same client) es))) other
        ∙ first_is_last e (remove_entry (same client) es)
        ∙ ap (λ rs. rs ++ renewal e ∷ []) rest
        ∙ sym (stays client e es other)

-- ---- one entry is renewed

-- the value that a look-up finds is of the entry that it finds
lookup_of_entry : (client : List ℕ) (es : Entries) → lookup (same client) es ≡ option_map (λ e. e.1) (lookup_entry (same client) es)
lookup_of_entry client [] = refl
lookup_of_entry client (e ∷ es) =
    elim (same client e.0) as (λ b. cond b (Some e.1) (lookup (same client) es) ≡ option_map (λ e. e.1) (cond b (Some e) (lookup_entry (same client) es)))
    [ true ↦ refl | false ↦ lookup_of_entry client es ]

-- an entry that is used goes first, and is written there
used_first : (client : List ℕ) (now : ℕ) (es : Entries) (found : Option (List ℕ × ℕ)) → lookup_entry (same client) es ≡ found → is_some (lookup (same client) es) ≡ true
    → set_value (same client) (option_map_or (λ e. e ∷ remove_entry (same client) es) found es) now ≡ (client, now) ∷ remove_entry (same client) es
used_first client now es None at there = absurd (true≢false (sym there ∙ ap is_some (lookup_of_entry client es) ∙ ap (λ o. is_some (option_map (λ e. e.1) o)) at))
used_first client now es (Some e) at there = let own = Contains-lookup_entry (same client) es e at in
    ap (λ b. cond b ((e.0, now) ∷ remove_entry (same client) es) (e ∷ set_value (same client) (remove_entry (same client) es) now)) own.1
    ∙ ap (λ who. (who, now) ∷ remove_entry (same client) es) (sym (same_is client e.0 own.1))

pub renewed : (client : List ℕ) (now : ℕ) (es left : Entries) → IsDistinct same (keys_of es) → is_some (lookup (same client) es) ≡ true
    → left ≡ set_value (same client) (promoted (same client) es) now → renewals_of left ≡ renewals_with client now (renewals_of es)
renewed client now es left distinct there written =
    ap renewals_of (written ∙ used_first client now es (lookup_entry (same client) es) refl there)
    ∙ first_is_last (client, now) (remove_entry (same client) es)
    ∙ ap (λ rs. rs ++ renewal (client, now) ∷ []) (removed client es distinct)

-- ---- what a look-up finds

-- behind the renewals comes one more
found_behind : (client : List ℕ) (rs : List Renewal) (r : Renewal) → renewal_of client (rs ++ r ∷ []) ≡ option_or (renewal_of client rs) (cond (same client r.client) (Some r) None)
found_behind client [] r = refl
found_behind client (q ∷ rs) r =
    elim (same client q.client) as (λ b. cond b (Some q) (renewal_of client (rs ++ r ∷ [])) ≡ option_or (cond b (Some q) (renewal_of client rs)) (cond (same client r.client) (Some r) None))
    [ true ↦ refl | false ↦ found_behind client rs r ]

found_first : (client : List ℕ) (e : List ℕ × ℕ) (es : Entries) → renewal_of client (renewals_of (e ∷ es)) ≡ option_or (renewal_of client (renewals_of es)) (cond (same client e.0) (Some (renewal e)) None)
found_first client e es = ap (renewal_of client) (first_is_last e es) ∙ found_behind client (renewals_of es) (renewal e)

or_none : {X : Type 0} (o : Option X) → option_or o None ≡ o
or_none None = refl
or_none (Some x) = refl

not_found : (client : List ℕ) (es : Entries) → AllByRecursion (λ key. same client key ≡ false) (keys_of es) → renewal_of client (renewals_of es) ≡ None
not_found client [] apart = refl
not_found client (e ∷ es) apart =
    found_first client e es
    ∙ ap (λ b. option_or (renewal_of client (renewals_of es)) (cond b (Some (renewal e)) None)) apart.0
    ∙ or_none (renewal_of client (renewals_of es))
    ∙ not_found client es apart.1

pub looked_up : {T : Type 0} (f : ℕ → T) (client : List ℕ) (es : Entries) → IsDistinct same (keys_of es)
    → option_map (λ (found : Renewal). f found.moment) (renewal_of client (renewals_of es)) ≡ option_map f (lookup (same client) es)
unfolding IsDistinct
looked_up f client [] distinct = refl
looked_up {T} f client (e ∷ es) distinct = ap (option_map (λ (found : Renewal). f found.moment)) (found_first client e es) ∙ by (same client e.0) refl (looked_up f client es distinct.1)
  where
    by : (b : Bool) → same client e.0 ≡ b → option_map (λ (found : Renewal). f found.moment) (renewal_of client (renewals_of es)) ≡ option_map f (lookup (same client) es)
        → option_map (λ (found : Renewal). f found.moment) (option_or (renewal_of client (renewals_of es)) (cond b (Some (renewal e)) None)) ≡ option_map f (cond b (Some e.1) (lookup (same client) es))
    by true one rest =
        ap (λ o. option_map (λ (found : Renewal). f found.moment) (option_or o (Some (renewal e))))
        (not_found client es (subst (λ k. AllByRecursion (λ key. same k key ≡ false) (keys_of es)) (sym (same_is client e.0 one)) distinct.0))
    by false other rest = ap (option_map (λ (found : Renewal). f found.moment)) (or_none (renewal_of client (renewals_of es))) ∙ rest

pub is_there : (client : List ℕ) (es : Entries) → is_some (renewal_of client (renewals_of es)) ≡ is_some (lookup (same client) es)
is_there client [] = refl
is_there client (e ∷ es) = ap is_some (found_first client e es) ∙ by (same client e.0) (renewal_of client (renewals_of es)) (is_there client es)
  where
    by : (b : Bool) (o : Option Renewal) → is_some o ≡ is_some (lookup (same client) es) → is_some (option_or o (cond b (Some (renewal e)) None)) ≡ is_some (cond b (Some e.1) (lookup (same client) es))
    by true None rest = refl
    by true (Some r) rest = refl
    by false None rest = rest
    by false (Some r) rest = rest

-- ---- a new client

absent_goes : (client : List ℕ) (rs : List Renewal) → is_some (renewal_of client rs) ≡ false → renewals_without client rs ≡ rs
absent_goes client [] none = refl
absent_goes client (r ∷ rs) none = by (same client r.client) none (absent_goes client rs)
  where
    by : (b : Bool) → is_some (cond b (Some r) (renewal_of client rs)) ≡ false → (is_some (renewal_of client rs) ≡ false → renewals_without client rs ≡ rs)
        → cond (not b) (r ∷ renewals_without client rs) (renewals_without client rs) ≡ r ∷ rs
    by true none rest = absurd (true≢false none)
    by false none rest = ap (λ rs. r ∷ rs) (rest none)

no_entry : (client : List ℕ) (es : Entries) → is_some (lookup (same client) es) ≡ false → lookup_entry (same client) es ≡ None
no_entry client [] none = refl
no_entry client (e ∷ es) none = by (same client e.0) none (no_entry client es)
  where
    by : (b : Bool) → is_some (cond b (Some e.1) (lookup (same client) es)) ≡ false → (is_some (lookup (same client) es) ≡ false → lookup_entry (same client) es ≡ None)
        → cond b (Some e) (lookup_entry (same client) es) ≡ None
    by true none rest = absurd (true≢false none)
    by false none rest = rest none

pub added : (client key : List ℕ) (now cap : ℕ) (es put : Entries) → length es ≤ cap - 1 → key ≡ client → put ≡ put_entries same (lru_cache es cap) key now
    → is_some (renewal_of client (renewals_of es)) ≡ false → renewals_of put ≡ renewals_with client now (renewals_of es)
added client key now cap es put room copied made none =
    ap renewals_of
    (made ∙ ap (λ who. put_entries same (lru_cache es cap) who now) copied
    ∙ ap (λ own. option_map_or (λ e. (e.0, now) ∷ remove_entry (same client) es) own ((client, now) ∷ take (cap - 1) es)) (no_entry client es (sym (is_there client es) ∙ none))
    ∙ ap (λ rest. (client, now) ∷ rest) (take_all (cap - 1) es room))
    ∙ first_is_last (client, now) es
    ∙ ap (λ rs. rs ++ renewal (client, now) ∷ []) (sym (absent_goes client (renewals_of es) none))

-- ---- what a list of renewals keeps

turned_clients : (es : Entries) → clients (map renewal es) ≡ keys_of es
turned_clients [] = refl
turned_clients (e ∷ es) = ap (λ keys. e.0 ∷ keys) (turned_clients es)

turned_keys : (es : Entries) → keys_of (reverse es) ≡ reverse (keys_of es)
turned_keys [] = refl
turned_keys (e ∷ es) =
    ap keys_of (reverse-append (e ∷ []) es)
    ∙ map-append (λ entry. entry.0) (reverse es) (e ∷ [])
    ∙ ap (λ keys. keys ++ e.0 ∷ []) (turned_keys es)
    ∙ sym (reverse-append (e.0 ∷ []) (keys_of es))

clients_are_keys : (es : Entries) → clients (renewals_of es) ≡ reverse (keys_of es)
clients_are_keys es = turned_clients (reverse es) ∙ turned_keys es

turned_distinct : (keys : List (List ℕ)) → IsDistinct same keys → IsDistinct same (reverse keys)
turned_distinct keys distinct = IsDistinct-IsPermutation same same_symm keys (reverse keys) (IsPermutation-reverse keys) distinct

pub distinct_keys : (es : Entries) → AreRenewals (renewals_of es) → IsDistinct same (keys_of es)
distinct_keys es kept = subst (IsDistinct same) (reverse-reverse (keys_of es)) (turned_distinct (reverse (keys_of es)) (subst (IsDistinct same) (clients_are_keys es) kept.0))

pub are_renewals : (es : Entries) → IsDistinct same (keys_of es) → AreInOrder (renewals_of es) → AreRenewals (renewals_of es)
are_renewals es distinct order = (subst (IsDistinct same) (sym (clients_are_keys es)) (turned_distinct (keys_of es) distinct), order)

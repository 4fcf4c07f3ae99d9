-- The entry that decides: what a mask bounds, and who is judged by the entry of all others.
use Rattle.std.proofs.Common.{◌≡◌, ℕ, Bool, true, false, ◌||◌, List, [], ◌∷◌, ◌++◌, map, cond, Option, Some, None, refl, ap, ◌∙◌, arith}
use Rattle.std.specs.Prelude.{filter, unwrap_or}
use Rattle.std.specs.Int.RustNames.{bit_and}
use Rattle.std.specs.List.{find, list_any, slice_get}
use Rattle.std.specs.Option.{option_map_or, option_or}
use Rattle.std.proofs.lemmas.Bool.{eqb-true}
use Rattle.std.proofs.lemmas.Bool.Decides.{nat_tests}
use Rattle.std.proofs.lemmas.Nat.{and_assoc, and_le_r}
use Rattle.hdfs_values.specs.Text.{same}
use Rattle.hdfs_values.specs.Groups.{has_group}
use Rattle.permission_bits.specs.Rights.{covers}
use Rattle.permission_bits.specs.declared.rights.Rights.{Rights}
use Rattle.permission_specs.specs.declared.entry.Entry.{Entry}
use Rattle.permission_specs.specs.declared.entry.EntryKind.TheVariants.{User, Group, Other}
use Rattle.permission_specs.specs.declared.entry.Scope.TheVariants.{Access}
use Rattle.acl_entries.specs.declared.entry_list.NamedEntry.{NamedEntry}
use Rattle.acl_entries.specs.Acl.{base_entry, named_entry}
use Rattle.acl_entries.specs.JudgedEntry.{Chosen, judged_by, judged_by_groups, group_entries, best_judgement, effective_rights}
use Rattle.default_acl.specs.Laws.{is_of_masked_class, MasksBoundWhatIsGranted, StrangersAreOthers}

-- ---- what a mask bounds

-- where an entry behind a mask grants what is needed, the mask has it
mask_covers : (granted mask need : ℕ) → covers (bit_and granted mask) need ≡ true → covers mask need ≡ true
mask_covers granted mask need h =
    let within : bit_and (bit_and granted mask) need ≡ need = eqb-true _ _ h in
    let has : bit_and mask need ≡ need =
    omega (arith, within, and_assoc need granted mask, and_le_r granted (bit_and mask need), and_le_r mask need) in
    grind (arith, nat_tests)

module _ (mask : Option Rights) (need : Rights) where
  abbrev has_need : Bool
  has_need = option_map_or (λ own. covers own.0 need.0) mask true

  -- a judgement that grants only what the mask has
  abbrev IsBound : Chosen → Type 0
  IsBound judgement = judgement.granted ≡ true → is_of_masked_class judgement.entry ≡ true → has_need ≡ true

  bound : (entry : Entry) → IsBound (judged_by entry mask need)
  bound entry h k = by mask h
    where
      by : (own : Option Rights) → covers (effective_rights own entry.rights).0 need.0 ≡ true → option_map_or (λ own. covers own.0 need.0) own true ≡ true
      by None g = refl
      by (Some own) g = mask_covers entry.rights.0 own.0 need.0 g

  found_bound : (entries : List Entry) (other : Chosen) → IsBound other → IsBound (unwrap_or (find (λ j. j.granted) (map (λ entry. judged_by entry mask need) entries)) other)
  found_bound [] other h = h
  found_bound (e ∷ es) other h = by (judged_by e mask need).granted (found_bound es other h)
    where
      by : (b : Bool) → IsBound (unwrap_or (find (λ j. j.granted) (map (λ entry. judged_by entry mask need) es)) other)
          → IsBound (unwrap_or (cond b (Some (judged_by e mask need)) (find (λ j. j.granted) (map (λ entry. judged_by entry mask need) es))) other)
      by true others = bound e
      by false others = others

  first_bound : (entries : List Entry) (other : Chosen) → IsBound other → IsBound (unwrap_or (slice_get (map (λ entry. judged_by entry mask need) entries) 0) other)
  first_bound [] other h = h
  first_bound (e ∷ es) other h = bound e

  best_bound : (entries : List Entry) (other : Chosen) → IsBound other → IsBound (unwrap_or (best_judgement (map (λ entry. judged_by entry mask need) entries)) other)
  best_bound entries other h =
      by (find (λ j. j.granted) (map (λ entry. judged_by entry mask need) entries)) (slice_get (map (λ entry. judged_by entry mask need) entries) 0)
      (found_bound entries (unwrap_or (slice_get (map (λ entry. judged_by entry mask need) entries) 0) other) (first_bound entries other h))
    where
      by : (found first : Option Chosen) → IsBound (unwrap_or found (unwrap_or first other)) → IsBound (unwrap_or (option_or found first) other)
      by None first g = g
      by (Some judgement) first g = g

  by_entry : (users : List NamedEntry) (caller : List ℕ) (other : Chosen) → IsBound other
      → IsBound (option_map_or (λ entry. judged_by (named_entry Access User entry) mask need) (find (λ entry. same caller entry.name) users) other)
  by_entry users caller other h = by (find (λ entry. same caller entry.name) users)
    where
      by : (entry : Option NamedEntry) → IsBound (option_map_or (λ entry. judged_by (named_entry Access User entry) mask need) entry other)
      by None = h
      by (Some entry) = bound (named_entry Access User entry)

pub masks_bound : MasksBoundWhatIsGranted
masks_bound owner group acl caller groups need = by (same caller owner)
  where
    others : IsBound acl.access.mask need (judged_by_groups group acl.access groups need)
    others = best_bound acl.access.mask need (group_entries group acl.access groups) (judged_by (base_entry Access Other acl.access.other) None need) (λ h k. cc)

    by : (b : Bool) → IsBound acl.access.mask need (cond b (judged_by (base_entry Access User acl.access.user) None need)
        (option_map_or (λ entry. judged_by (named_entry Access User entry) acl.access.mask need) (find (λ entry. same caller entry.name) acl.access.users) (judged_by_groups group acl.access groups need)))
    by true h k = cc
    by false h k = by_entry acl.access.mask need acl.access.users caller (judged_by_groups group acl.access groups need) others h k

-- ---- who is judged by the entry of all others

none_found : {X : Type 0} (p : X → Bool) (xs : List X) → list_any p xs ≡ false → find p xs ≡ None
none_found p [] h = refl
none_found p (x ∷ xs) h = by (p x) h (none_found p xs)
  where
    by : (b : Bool) → (b || list_any p xs) ≡ false → (list_any p xs ≡ false → find p xs ≡ None) → cond b (Some x) (find p xs) ≡ None
    by true k others = cc
    by false k others = others k

none_left : {X : Type 0} (p : X → Bool) (xs : List X) → list_any p xs ≡ false → filter p xs ≡ []
none_left p [] h = refl
none_left p (x ∷ xs) h = by (p x) h (none_left p xs)
  where
    by : (b : Bool) → (b || list_any p xs) ≡ false → (list_any p xs ≡ false → filter p xs ≡ []) → cond b (x ∷ filter p xs) (filter p xs) ≡ []
    by true k others = cc
    by false k others = others k

pub strangers : StrangersAreOthers
strangers owner group acl caller groups need stranger =
    let other = judged_by (base_entry Access Other acl.access.other) None need in
    let named = λ (entry : NamedEntry). judged_by (named_entry Access User entry) acl.access.mask need in
    let judge = λ (entry : Entry). judged_by entry acl.access.mask need in
    ap (λ b. cond b (judged_by (base_entry Access User acl.access.user) None need)
    (option_map_or named (find (λ entry. same caller entry.name) acl.access.users) (judged_by_groups group acl.access groups need))) stranger.no_owner
    ∙ ap (λ entry. option_map_or named entry (judged_by_groups group acl.access groups need)) (none_found (λ entry. same caller entry.name) acl.access.users stranger.no_named_user)
    ∙ ap (λ b. unwrap_or (best_judgement (map judge (cond b (base_entry Access Group acl.access.group ∷ []) [] ++ map (named_entry Access Group) (filter (λ entry. has_group groups entry.name) acl.access.groups)))) other) stranger.not_in_group
    ∙ ap (λ entries. unwrap_or (best_judgement (map judge (map (named_entry Access Group) entries))) other) (none_left (λ entry. has_group groups entry.name) acl.access.groups stranger.in_no_named_group)

-- The best judgement of the groups' entries is found by searches of the list.
use Rattle.std.proofs.Common.{◌≡◌, ℕ, Bool, true, false, ◌&&◌, List, [], ◌∷◌, ◌++◌, map, cond, Option, Some, None, refl, sym, ap, ◌∙◌}
use Rattle.std.specs.Prelude.{filter, unwrap_or, if◌then◌else◌}
use Rattle.std.specs.List.{find, slice_get}
use Rattle.std.specs.Option.{option_map, option_or}
use Rattle.hdfs_values.specs.Groups.{has_group}
use Rattle.permission_bits.specs.Rights.{covers}
use Rattle.permission_bits.specs.declared.rights.Rights.{Rights}
use Rattle.permission_specs.specs.declared.entry.EntryKind.TheVariants.{Group, Other}
use Rattle.permission_specs.specs.declared.entry.Scope.TheVariants.{Access}
use Rattle.acl_entries.specs.declared.entry_list.NamedEntry.{NamedEntry}
use Rattle.acl_entries.specs.Acl.{EntryList, base_entry, named_entry}
use Rattle.acl_entries.specs.JudgedEntry.{Chosen, judged_by, judged_by_groups, best_judgement, effective_rights}

module _ {X Y : Type 0} (p : X → Bool) (g : X → Y) (f : Y → Chosen) where
  abbrev judged : List X → List Chosen
  judged xs = map f (map g (filter p xs))

  granting : (xs : List X) → find (λ j. j.granted) (judged xs) ≡ option_map (λ x. f (g x)) (find (λ x. p x && (f (g x)).granted) xs)
  granting [] = refl
  granting (x ∷ xs) = by (p x) (f (g x)).granted refl refl (granting xs)
    where
      by : (b d : Bool) → p x ≡ b → (f (g x)).granted ≡ d
          → find (λ j. j.granted) (judged xs) ≡ option_map (λ y. f (g y)) (find (λ y. p y && (f (g y)).granted) xs)
          → find (λ j. j.granted) (map f (map g (cond b (x ∷ filter p xs) (filter p xs)))) ≡ option_map (λ y. f (g y)) (cond (b && d) (Some x) (find (λ y. p y && (f (g y)).granted) xs))
      by true true h k others = rw k refl
      by true false h k others = rw k others
      by false d h k others = others

  matching : (xs : List X) → slice_get (judged xs) 0 ≡ option_map (λ x. f (g x)) (find p xs)
  matching [] = refl
  matching (x ∷ xs) = by (p x) (matching xs)
    where
      by : (b : Bool) → slice_get (judged xs) 0 ≡ option_map (λ y. f (g y)) (find p xs)
          → slice_get (map f (map g (cond b (x ∷ filter p xs) (filter p xs)))) 0 ≡ option_map (λ y. f (g y)) (cond b (Some x) (find p xs))
      by true others = refl
      by false others = others

-- whether the caller is in the owning group, its entry's judgement, the searches of the named groups, and the judgement by others
abbrev chosen_of : Bool → Chosen → Option Chosen → Option Chosen → Chosen → Chosen
chosen_of true own found first other = if own.granted then own else unwrap_or found own
chosen_of false own found first other = unwrap_or found (unwrap_or first other)

chosen_is : (member : Bool) (own : Chosen) (others : List Chosen) (other : Chosen) (found first : Option Chosen)
    → find (λ j. j.granted) others ≡ found → slice_get others 0 ≡ first
    → unwrap_or (best_judgement (cond member (own ∷ others) others)) other ≡ chosen_of member own found first other
chosen_is true own others other found first h k = by own.granted
  where
    by : (b : Bool) → unwrap_or (option_or (cond b (Some own) (find (λ j. j.granted) others)) (Some own)) other ≡ cond b own (unwrap_or found own)
    by true = refl
    by false = rw h (last found)
      where
        last : (o : Option Chosen) → unwrap_or (option_or o (Some own)) other ≡ unwrap_or o own
        last None = refl
        last (Some j) = refl
chosen_is false own others other found first h k = rw (h, k) (last found)
  where
    last : (o : Option Chosen) → unwrap_or (option_or o first) other ≡ unwrap_or o (unwrap_or first other)
    last None = refl
    last (Some j) = refl

module _ (group : List ℕ) (list : EntryList) (groups : List (List ℕ)) (need : Rights) where
  abbrev by_named : NamedEntry → Chosen
  by_named entry = judged_by (named_entry Access Group entry) list.mask need

  abbrev own : Chosen
  own = judged_by (base_entry Access Group list.group) list.mask need

  abbrev other : Chosen
  other = judged_by (base_entry Access Other list.other) None need

  abbrev granting_entry : Option NamedEntry
  granting_entry = find (λ entry. has_group groups entry.name && covers (effective_rights list.mask entry.rights).0 need.0) list.groups

  abbrev matching_entry : Option NamedEntry
  matching_entry = find (λ entry. has_group groups entry.name) list.groups

  abbrev judge : List Chosen
  judge = map (λ entry. judged_by entry list.mask need) (map (named_entry Access Group) (filter (λ entry. has_group groups entry.name) list.groups))

  pub by_searches : judged_by_groups group list groups need ≡ chosen_of (has_group groups group) own (option_map by_named granting_entry) (option_map by_named matching_entry) other
  by_searches = by (has_group groups group)
    where
      by : (member : Bool)
          → unwrap_or (best_judgement (map (λ entry. judged_by entry list.mask need) (cond member (base_entry Access Group list.group ∷ []) [] ++ map (named_entry Access Group) (filter (λ entry. has_group groups entry.name) list.groups)))) other
          ≡ chosen_of member own (option_map by_named granting_entry) (option_map by_named matching_entry) other
      by true = chosen_is true own judge other _ _ (granting (λ entry. has_group groups entry.name) (named_entry Access Group) (λ entry. judged_by entry list.mask need) list.groups) (matching (λ entry. has_group groups entry.name) (named_entry Access Group) (λ entry. judged_by entry list.mask need) list.groups)
      by false = chosen_is false own judge other _ _ (granting (λ entry. has_group groups entry.name) (named_entry Access Group) (λ entry. judged_by entry list.mask need) list.groups) (matching (λ entry. has_group groups entry.name) (named_entry Access Group) (λ entry. judged_by entry list.mask need) list.groups)

  module _ (mask : Option Rights) (named : List NamedEntry) (m : mask ≡ list.mask) (n : named ≡ list.groups) (entry : NamedEntry) where
    abbrev found_granting : Option NamedEntry
    found_granting = find (λ e. has_group groups e.name && covers (effective_rights mask e.rights).0 need.0) named

    granting_is : found_granting ≡ granting_entry
    granting_is = rw (m, n) refl

    judged_is : judged_by (named_entry Access Group entry) mask need ≡ by_named entry
    judged_is = ap (λ x. judged_by (named_entry Access Group entry) x need) m

    pub granting_for_member : has_group groups group ≡ true → own.granted ≡ false → found_granting ≡ Some entry → judged_by (named_entry Access Group entry) mask need ≡ judged_by_groups group list groups need
    granting_for_member member plain found = judged_is ∙ sym (by_searches ∙ ap (λ b. chosen_of b own (option_map by_named granting_entry) (option_map by_named matching_entry) other) member
        ∙ ap (λ b. cond b own (unwrap_or (option_map by_named granting_entry) own)) plain ∙ ap (λ o. unwrap_or (option_map by_named o) own) (sym granting_is ∙ found))

    stranger : has_group groups group ≡ false → judged_by_groups group list groups need ≡ unwrap_or (option_map by_named granting_entry) (unwrap_or (option_map by_named matching_entry) other)
    stranger h = by_searches ∙ ap (λ b. chosen_of b own (option_map by_named granting_entry) (option_map by_named matching_entry) other) h

    pub granting_for_stranger : has_group groups group ≡ false → found_granting ≡ Some entry → judged_by (named_entry Access Group entry) mask need ≡ judged_by_groups group list groups need
    granting_for_stranger h found = judged_is ∙ sym (stranger h ∙ ap (λ o. unwrap_or (option_map by_named o) (unwrap_or (option_map by_named matching_entry) other)) (sym granting_is ∙ found))

    pub matching_for_stranger : has_group groups group ≡ false → found_granting ≡ None → find (λ e. has_group groups e.name) named ≡ Some entry → judged_by (named_entry Access Group entry) mask need ≡ judged_by_groups group list groups need
    matching_for_stranger h none found = judged_is ∙ sym (stranger h
        ∙ ap (λ o. unwrap_or (option_map by_named o) (unwrap_or (option_map by_named matching_entry) other)) (sym granting_is ∙ none)
        ∙ ap (λ o. unwrap_or (option_map by_named o) other) (ap (λ xs. find (λ e. has_group groups e.name) xs) (sym n) ∙ found))

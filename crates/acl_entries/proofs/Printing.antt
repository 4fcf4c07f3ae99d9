-- What is printed entry by entry is the texts of the entries joined by commas.
use Rattle.std.proofs.Common.{◌≡◌, ℕ, List, [], ◌∷◌, ◌++◌, map, Option, Some, None, refl, sym, ap, ◌∙◌, append_assoc}
use Rattle.std.specs.List.{flat_map, join_with_byte}
use Rattle.std.specs.Option.{option_map_or}
use Rattle.permission_specs.specs.Entry.{entry_text}
use Rattle.permission_specs.specs.declared.entry.Entry.{Entry}
use Rattle.permission_specs.specs.declared.entry.EntryKind.TheVariants.{User, Group, Other}
use Rattle.permission_specs.specs.declared.entry.Scope.{Scope}
use Rattle.permission_specs.specs.declared.entry.Scope.TheVariants.{Access, Default}
use Rattle.acl_entries.specs.Acl.{Acl, EntryList, base_entry, named_entry, mask_entries, entries_in, entries}
use Rattle.acl_entries.specs.Printed.{behind_comma, text_in, default_text, acl_text}

no_more : (xs : List ℕ) → xs ++ [] ≡ xs
no_more [] = refl
no_more (x ∷ xs) = ap (λ t. x ∷ t) (no_more xs)

first_and_others : (e : Entry) (es : List Entry) → join_with_byte 44 (map entry_text (e ∷ es)) ≡ entry_text e ++ flat_map behind_comma es
first_and_others e [] = sym (no_more (entry_text e))
first_and_others e (next ∷ es) = ap (λ x. entry_text e ++ (44 ∷ x)) (first_and_others next es)

flat_append : {X : Type 0} (f : X → List ℕ) (xs ys : List X) → flat_map f (xs ++ ys) ≡ flat_map f xs ++ flat_map f ys
flat_append f [] ys = refl
flat_append f (x ∷ xs) ys = ap (λ t. f x ++ t) (flat_append f xs ys) ∙ sym (append_assoc (f x) (flat_map f xs) (flat_map f ys))

flat_map_map : {X Y : Type 0} (f : Y → List ℕ) (g : X → Y) (xs : List X) → flat_map f (map g xs) ≡ flat_map (λ x. f (g x)) xs
flat_map_map f g [] = refl
flat_map_map f g (x ∷ xs) = ap (λ t. f (g x) ++ t) (flat_map_map f g xs)

module _ (scope : Scope) (list : EntryList) where
  abbrev first : Entry
  first = base_entry scope User list.user

  abbrev last : List Entry
  last = mask_entries scope list.mask ++ base_entry scope Other list.other ∷ []

  abbrev from_groups : List Entry
  from_groups = map (named_entry scope Group) list.groups ++ last

  abbrev others : List Entry
  others = map (named_entry scope User) list.users ++ base_entry scope Group list.group ∷ from_groups

  last_text : flat_map behind_comma last ≡ flat_map behind_comma (mask_entries scope list.mask) ++ behind_comma (base_entry scope Other list.other)
  last_text = flat_append behind_comma (mask_entries scope list.mask) (base_entry scope Other list.other ∷ [])
      ∙ ap (λ t. flat_map behind_comma (mask_entries scope list.mask) ++ t) (no_more (behind_comma (base_entry scope Other list.other)))

  groups_text : flat_map behind_comma from_groups ≡ flat_map (λ entry. behind_comma (named_entry scope Group entry)) list.groups
      ++ (flat_map behind_comma (mask_entries scope list.mask) ++ behind_comma (base_entry scope Other list.other))
  groups_text = flat_append behind_comma (map (named_entry scope Group) list.groups) last
      ∙ ap (λ t. t ++ flat_map behind_comma last) (flat_map_map behind_comma (named_entry scope Group) list.groups)
      ∙ ap (λ t. flat_map (λ entry. behind_comma (named_entry scope Group entry)) list.groups ++ t) last_text

  others_text : entry_text first ++ flat_map behind_comma others ≡ text_in scope list
  others_text = ap (λ t. entry_text first ++ t) (flat_append behind_comma (map (named_entry scope User) list.users) (base_entry scope Group list.group ∷ from_groups)
      ∙ ap (λ t. t ++ flat_map behind_comma (base_entry scope Group list.group ∷ from_groups)) (flat_map_map behind_comma (named_entry scope User) list.users)
      ∙ ap (λ t. flat_map (λ entry. behind_comma (named_entry scope User entry)) list.users ++ (behind_comma (base_entry scope Group list.group) ++ t)) groups_text)

default_is : (default : Option EntryList) → flat_map behind_comma (option_map_or (entries_in Default) default []) ≡ default_text default
default_is None = refl
default_is (Some list) = ap (λ t. 44 ∷ t) (others_text Default list)

pub joined : (acl : Acl) → acl_text acl ≡ join_with_byte 44 (map entry_text (entries acl))
joined acl = sym (first_and_others (first Access acl.access) (others Access acl.access ++ option_map_or (entries_in Default) acl.default [])
    ∙ ap (λ t. entry_text (first Access acl.access) ++ t) (flat_append behind_comma (others Access acl.access) (option_map_or (entries_in Default) acl.default []))
    ∙ sym (append_assoc (entry_text (first Access acl.access)) (flat_map behind_comma (others Access acl.access)) (flat_map behind_comma (option_map_or (entries_in Default) acl.default [])))
    ∙ ap (λ t. t ++ flat_map behind_comma (option_map_or (entries_in Default) acl.default [])) (others_text Access acl.access)
    ∙ ap (λ t. text_in Access acl.access ++ t) (default_is acl.default))

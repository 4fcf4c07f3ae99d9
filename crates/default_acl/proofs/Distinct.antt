-- No two entries of a list have the same scope, kind and name: its entries are a spec.
use Rattle.std.proofs.Common.{◌≡◌, ℕ, Bool, true, false, ◌&&◌, ◌||◌, List, [], ◌∷◌, ◌++◌, map, cond, Option, Some, None, refl, ap, ◌∙◌, Ordering, Less, Equal, Greater, is_eq}
use Rattle.std.specs.List.{list_any}
use Rattle.std.specs.Option.{option_eq}
use Rattle.std.specs.Ordering.{is_lt}
use Rattle.hdfs_values.specs.Text.{same, text_cmp}
use Rattle.permission_specs.specs.Spec.{IsSpec, has_duplicate, is_named_base, same_key, same_kind, same_scope}
use Rattle.permission_bits.specs.declared.rights.Rights.{Rights}
use Rattle.permission_specs.specs.declared.entry.Entry.{Entry}
use Rattle.permission_specs.specs.declared.entry.EntryKind.{EntryKind}
use Rattle.permission_specs.specs.declared.entry.EntryKind.TheVariants.{User, Group, Mask, Other}
use Rattle.permission_specs.specs.declared.entry.Scope.{Scope}
use Rattle.permission_specs.proofs.SpecKeys.{same_scope_symm}
use Rattle.hdfs_values.specs.declared.fault.AclFault.TheVariants.{Duplicate, NamedBase}
use Rattle.acl_entries.specs.declared.entry_list.NamedEntry.{NamedEntry}
use Rattle.acl_entries.specs.Acl.{EntryList, ascend, base_entry, mask_entries, named_entry}
use Rattle.partial_acl.specs.AclChange.{touches}
use Rattle.partial_acl.proofs.Tests.{both, and_false}
use Rattle.partial_acl.proofs.NamedLists.{ascend_tail, ascend_past}
use Rattle.partial_acl.proofs.Completing.{Good}
use Rattle.default_acl.proofs.Repeating.{or_false}
use Rattle.default_acl.proofs.Listed.{before}

-- neither of two
neither : (a b : Bool) → a ≡ false → b ≡ false → (a || b) ≡ false
neither a b h k = ap (λ c. c || b) h ∙ k

-- ---- what has another key

-- an entry has no other's key
abbrev IsNew : Entry → List Entry → Type 0
IsNew entry others = list_any (same_key entry) others ≡ false

other_kind : (e f : Entry) → same_kind e.kind f.kind ≡ false → same_key e f ≡ false
other_kind e f h = and_false (same_scope e.scope f.scope) _ (ap (λ b. b && option_eq same e.name f.name) h)

other_name : (e f : Entry) → option_eq same e.name f.name ≡ false → same_key e f ≡ false
other_name e f h = and_false (same_scope e.scope f.scope) _ (and_false (same_kind e.kind f.kind) _ h)

other_scope : (e : Entry) (others : List Entry) → touches e.scope others ≡ false → IsNew e others
other_scope e [] h = refl
other_scope e (f ∷ fs) h =
    let parts = or_false (same_scope f.scope e.scope) (touches e.scope fs) h in
    neither (same_key e f) (list_any (same_key e) fs)
    (ap (λ b. b && (same_kind e.kind f.kind && option_eq same e.name f.name)) (same_scope_symm e.scope f.scope ∙ parts.0)) (other_scope e fs parts.1)

new_past_named : (e : Entry) (scope : Scope) (kind : EntryKind) (named : List NamedEntry) (others : List Entry) → ((entry : NamedEntry) → same_key e (named_entry scope kind entry) ≡ false)
    → IsNew e others → IsNew e (map (named_entry scope kind) named ++ others)
new_past_named e scope kind [] others h k = k
new_past_named e scope kind (n ∷ ns) others h k = neither (same_key e (named_entry scope kind n)) _ (h n) (new_past_named e scope kind ns others h k)

new_past_mask : (e : Entry) (scope : Scope) (mask : Option Rights) (others : List Entry) → ((granted : Rights) → same_key e (base_entry scope Mask granted) ≡ false)
    → IsNew e others → IsNew e (mask_entries scope mask ++ others)
new_past_mask e scope None others h k = k
new_past_mask e scope (Some mask) others h k = neither (same_key e (base_entry scope Mask mask)) _ (h mask) k

new_past : (e f : Entry) (others : List Entry) → same_key e f ≡ false → IsNew e others → IsNew e (f ∷ others)
new_past e f others h k = neither (same_key e f) (list_any (same_key e) others) h k

-- ---- named entries of one kind

lesser_is_other : (a b : List ℕ) → is_lt (text_cmp a b) ≡ true → same a b ≡ false
lesser_is_other a b h = by (text_cmp a b) h
  where
    by : (o : Ordering) → is_lt o ≡ true → is_eq o ≡ false
    by Less k = refl
    by Equal k = cc
    by Greater k = cc

module _ (scope : Scope) (kind : EntryKind) (others : List Entry) where
  new_among : (e : NamedEntry) (named : List NamedEntry) → ascend (e ∷ named) ≡ true → IsNew (named_entry scope kind e) others
      → IsNew (named_entry scope kind e) (map (named_entry scope kind) named ++ others)
  new_among e [] h k = k
  new_among e (n ∷ ns) h k =
      new_past (named_entry scope kind e) (named_entry scope kind n) (map (named_entry scope kind) ns ++ others)
      (other_name (named_entry scope kind e) (named_entry scope kind n) (lesser_is_other e.name n.name (both (is_lt (text_cmp e.name n.name)) (ascend (n ∷ ns)) h).0))
      (new_among e ns (ascend_past e n ns h) k)

  named_once : (named : List NamedEntry) → ascend named ≡ true → ((entry : NamedEntry) → IsNew (named_entry scope kind entry) others) → has_duplicate others ≡ false
      → has_duplicate (map (named_entry scope kind) named ++ others) ≡ false
  named_once [] h k once = once
  named_once (n ∷ ns) h k once =
      neither (list_any (same_key (named_entry scope kind n)) (map (named_entry scope kind) ns ++ others)) _ (new_among n ns h (k n)) (named_once ns (ascend_tail n ns h) k once)

-- ---- a whole list

module _ (scope : Scope) (list : EntryList) (others : List Entry) (parts : Good list) (apart : touches scope others ≡ false) where
  abbrev other : Entry
  other = base_entry scope Other list.other

  abbrev last : List Entry
  last = other ∷ others

  abbrev from_mask : List Entry
  from_mask = mask_entries scope list.mask ++ last

  abbrev from_groups : List Entry
  from_groups = map (named_entry scope Group) list.groups ++ from_mask

  abbrev from_group : List Entry
  from_group = base_entry scope Group list.group ∷ from_groups

  abbrev from_users : List Entry
  from_users = map (named_entry scope User) list.users ++ from_group

  base_new_last : (kind : EntryKind) (granted : Rights) → same_kind kind Other ≡ false → IsNew (base_entry scope kind granted) last
  base_new_last kind granted h =
      let e = base_entry scope kind granted in new_past e other others (other_kind e other h) (other_scope e others apart)

  base_new_mask : (kind : EntryKind) (granted : Rights) → same_kind kind Other ≡ false → same_kind kind Mask ≡ false → IsNew (base_entry scope kind granted) from_mask
  base_new_mask kind granted h k =
      let e = base_entry scope kind granted in
      new_past_mask e scope list.mask last (λ mask. other_kind e (base_entry scope Mask mask) k) (base_new_last kind granted h)

  base_new_groups : (kind : EntryKind) (granted : Rights) → same_kind kind Other ≡ false → same_kind kind Mask ≡ false → IsNew (base_entry scope kind granted) from_groups
  base_new_groups kind granted h k =
      let e = base_entry scope kind granted in
      new_past_named e scope Group list.groups from_mask (λ entry. other_name e (named_entry scope Group entry) refl) (base_new_mask kind granted h k)

  user_new : IsNew (base_entry scope User list.user) from_users
  user_new =
      let e = base_entry scope User list.user in
      new_past_named e scope User list.users from_group (λ entry. other_name e (named_entry scope User entry) refl)
      (new_past e (base_entry scope Group list.group) from_groups (other_kind e (base_entry scope Group list.group) refl) (base_new_groups User list.user refl refl))

  named_new_mask : (kind : EntryKind) (entry : NamedEntry) → IsNew (named_entry scope kind entry) from_mask
  named_new_mask kind entry =
      let e = named_entry scope kind entry in
      new_past_mask e scope list.mask last (λ mask. other_name e (base_entry scope Mask mask) refl)
      (new_past e other others (other_name e other refl) (other_scope e others apart))

  named_user_new : (entry : NamedEntry) → IsNew (named_entry scope User entry) from_group
  named_user_new entry =
      let e = named_entry scope User entry in
      new_past e (base_entry scope Group list.group) from_groups (other_name e (base_entry scope Group list.group) refl)
      (new_past_named e scope Group list.groups from_mask (λ group. other_kind e (named_entry scope Group group) refl) (named_new_mask User entry))

  mask_once : (mask : Option Rights) → has_duplicate last ≡ false → has_duplicate (mask_entries scope mask ++ last) ≡ false
  mask_once None once = once
  mask_once (Some mask) once = neither (list_any (same_key (base_entry scope Mask mask)) last) (has_duplicate last) (base_new_last Mask mask refl) once

  pub once_before : has_duplicate others ≡ false → has_duplicate (before scope list others) ≡ false
  once_before once =
      let last_once : has_duplicate last ≡ false = neither (list_any (same_key other) others) (has_duplicate others) (other_scope other others apart) once in
      let groups_once = named_once scope Group from_mask list.groups parts.groups_ascend (named_new_mask Group) (mask_once list.mask last_once) in
      let group_once : has_duplicate from_group ≡ false =
      neither (list_any (same_key (base_entry scope Group list.group)) from_groups) (has_duplicate from_groups) (base_new_groups Group list.group refl refl) groups_once in
      let users_once = named_once scope User from_group list.users parts.users_ascend named_user_new group_once in
      neither (list_any (same_key (base_entry scope User list.user)) from_users) (has_duplicate from_users) user_new users_once

-- ---- names stand on users and groups alone

no_named_base : (scope : Scope) (kind : EntryKind) (named : List NamedEntry) (others : List Entry) → (same_kind kind Mask || same_kind kind Other) ≡ false
    → list_any is_named_base (map (named_entry scope kind) named ++ others) ≡ list_any is_named_base others
no_named_base scope kind [] others h = refl
no_named_base scope kind (n ∷ ns) others h = ap (λ b. b || list_any is_named_base (map (named_entry scope kind) ns ++ others)) h ∙ no_named_base scope kind ns others h

no_named_mask : (scope : Scope) (mask : Option Rights) (others : List Entry) → list_any is_named_base (mask_entries scope mask ++ others) ≡ list_any is_named_base others
no_named_mask scope None others = refl
no_named_mask scope (Some mask) others = refl

pub named_right_before : (scope : Scope) (list : EntryList) (others : List Entry) → list_any is_named_base (before scope list others) ≡ list_any is_named_base others
named_right_before scope list others =
    let last = base_entry scope Other list.other ∷ others in
    let from_mask = mask_entries scope list.mask ++ last in
    no_named_base scope User list.users (base_entry scope Group list.group ∷ (map (named_entry scope Group) list.groups ++ from_mask)) refl
    ∙ no_named_base scope Group list.groups from_mask refl ∙ no_named_mask scope list.mask last

pub is_spec : (spec : List Entry) → has_duplicate spec ≡ false → list_any is_named_base spec ≡ false → IsSpec spec
is_spec spec h k = ap (λ b. cond b (Some Duplicate) (cond (list_any is_named_base spec) (Some NamedBase) None)) h ∙ ap (λ b. cond b (Some NamedBase) None) k

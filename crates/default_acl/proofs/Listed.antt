-- What the entries of a list say as a spec: the list itself.
use Rattle.std.proofs.Common.{◌≡◌, ◌<◌, ◌%◌, Bool, true, false, ◌&&◌, ◌||◌, List, [], ◌∷◌, ◌++◌, map, cond, Option, Some, None, refl, ap, ◌∙◌, arith, append_assoc, append-nil}
use Rattle.std.specs.Prelude.{filter}
use Rattle.std.specs.List.{list_any, find, filter_map}
use Rattle.std.specs.Option.{is_some, option_map, option_map_or}
use Rattle.std.proofs.lemmas.Bool.Decides.{nat_tests}
use Rattle.permission_bits.specs.Rights.{rights}
use Rattle.permission_specs.specs.Spec.{same_kind, same_scope}
use Rattle.permission_bits.specs.declared.rights.Rights.{Rights}
use Rattle.permission_specs.specs.declared.entry.Entry.{Entry}
use Rattle.permission_specs.specs.declared.entry.EntryKind.{EntryKind}
use Rattle.permission_specs.specs.declared.entry.EntryKind.TheVariants.{User, Group, Mask, Other}
use Rattle.permission_specs.specs.declared.entry.Scope.{Scope}
use Rattle.acl_entries.specs.declared.entry_list.NamedEntry.{NamedEntry}
use Rattle.acl_entries.specs.Acl.{EntryList, are_rights, base_entry, entries_in, grant_rights, mask_entries, named_entry}
use Rattle.partial_acl.specs.AclChange.{base_rights, rights_granted, has_base, is_base_of, is_entry_for, named_in, touches, with_name}
use Rattle.partial_acl.proofs.Tests.{both, and, and_false}
use Rattle.partial_acl.proofs.Completing.{Good}
use Rattle.default_acl.proofs.Repeating.{scope_self, kind_self}

-- the entries of a list, before others
abbrev pub before : Scope → EntryList → List Entry → List Entry
before scope list others =
    base_entry scope User list.user ∷ (map (named_entry scope User) list.users
    ++ base_entry scope Group list.group ∷ (map (named_entry scope Group) list.groups
    ++ (mask_entries scope list.mask ++ base_entry scope Other list.other ∷ others)))

pub before_is : (scope : Scope) (list : EntryList) (others : List Entry) → entries_in scope list ++ others ≡ before scope list others
before_is scope list others = simp append_assoc

granted_is : (granted : Rights) → are_rights granted ≡ true → rights (granted.0 % 8) ≡ granted
granted_is granted h =
    let below : granted.0 < 8 = grind (arith, nat_tests) in
    let is : granted.0 % 8 ≡ granted.0 = omega arith in
    ap rights is

-- ---- one entry after another

module _ (scope : Scope) (kind : EntryKind) where
  -- entries of another scope or kind
  abbrev is_own : Scope → EntryKind → Bool
  is_own s k = same_scope s scope && same_kind k kind

  given_here : (granted : Rights) (others : List Entry) → are_rights granted ≡ true → base_rights scope kind (base_entry scope kind granted ∷ others) ≡ Some granted
  given_here granted others h =
      ap (λ b. option_map rights_granted (cond b (Some (base_entry scope kind granted)) (find (is_base_of scope kind) others)))
      (and (same_scope scope scope) (same_kind kind kind && true) (scope_self scope) (and (same_kind kind kind) true (kind_self kind) refl))
      ∙ ap (λ own. Some own) (granted_is granted h)

  given_past : (s : Scope) (k : EntryKind) (granted : Rights) (others : List Entry) → is_own s k ≡ false → base_rights scope kind (base_entry s k granted ∷ others) ≡ base_rights scope kind others
  given_past s k granted others h =
      ap (λ b. option_map rights_granted (cond b (Some (base_entry s k granted)) (find (is_base_of scope kind) others))) (apart (same_scope s scope) (same_kind k kind) h)
    where
      apart : (a b : Bool) → (a && b) ≡ false → (a && (b && true)) ≡ false
      apart true true h = cc
      apart true false h = refl
      apart false b h = refl

  given_past_named : (s : Scope) (k : EntryKind) (named : List NamedEntry) (others : List Entry) → base_rights scope kind (map (named_entry s k) named ++ others) ≡ base_rights scope kind others
  given_past_named s k [] others = refl
  given_past_named s k (n ∷ ns) others =
      ap (λ b. option_map rights_granted (cond b (Some (named_entry s k n)) (find (is_base_of scope kind) (map (named_entry s k) ns ++ others))))
      (and_false (same_scope s scope) (same_kind k kind && false) (and_false (same_kind k kind) false refl))
      ∙ given_past_named s k ns others

  given_past_mask : (s : Scope) (mask : Option Rights) (others : List Entry) → is_own s Mask ≡ false → base_rights scope kind (mask_entries s mask ++ others) ≡ base_rights scope kind others
  given_past_mask s None others h = refl
  given_past_mask s (Some mask) others h = given_past s Mask mask others h

  named_past_base : (s : Scope) (k : EntryKind) (granted : Rights) (others : List Entry) → named_in scope kind (base_entry s k granted ∷ others) ≡ named_in scope kind others
  named_past_base s k granted others = by (is_own s k)
    where
      by : (b : Bool) → filter_map with_name (cond b (base_entry s k granted ∷ filter (is_entry_for scope kind) others) (filter (is_entry_for scope kind) others)) ≡ named_in scope kind others
      by true = refl
      by false = refl

  named_past_mask : (s : Scope) (mask : Option Rights) (others : List Entry) → named_in scope kind (mask_entries s mask ++ others) ≡ named_in scope kind others
  named_past_mask s None others = refl
  named_past_mask s (Some mask) others = named_past_base s Mask mask others

  named_past : (s : Scope) (k : EntryKind) (named : List NamedEntry) (others : List Entry) → is_own s k ≡ false → named_in scope kind (map (named_entry s k) named ++ others) ≡ named_in scope kind others
  named_past s k [] others h = refl
  named_past s k (n ∷ ns) others h =
      ap (λ b. filter_map with_name (cond b (named_entry s k n ∷ filter (is_entry_for scope kind) (map (named_entry s k) ns ++ others)) (filter (is_entry_for scope kind) (map (named_entry s k) ns ++ others)))) h
      ∙ named_past s k ns others h

  named_here : (named : List NamedEntry) (others : List Entry) → grant_rights named ≡ true → named_in scope kind (map (named_entry scope kind) named ++ others) ≡ named ++ named_in scope kind others
  named_here [] others h = refl
  named_here (n ∷ ns) others h =
      let parts = both (are_rights n.rights) (grant_rights ns) h in
      ap (λ b. filter_map with_name (cond b (named_entry scope kind n ∷ filter (is_entry_for scope kind) (map (named_entry scope kind) ns ++ others)) (filter (is_entry_for scope kind) (map (named_entry scope kind) ns ++ others))))
      (and (same_scope scope scope) (same_kind kind kind) (scope_self scope) (kind_self kind))
      ∙ ap (λ own. record { name = n.name; rights = own } ∷ named_in scope kind (map (named_entry scope kind) ns ++ others)) (granted_is n.rights parts.0)
      ∙ ap (λ list. n ∷ list) (named_here ns others parts.1)

-- ---- a whole list, in its scope

-- a spec says this list of a scope
pub record Says (scope : Scope) (spec : List Entry) (list : EntryList) : Type 0 where
  pub user : base_rights scope User spec ≡ Some list.user
  pub users : named_in scope User spec ≡ list.users
  pub group : base_rights scope Group spec ≡ Some list.group
  pub groups : named_in scope Group spec ≡ list.groups
  pub mask : base_rights scope Mask spec ≡ list.mask
  pub other : base_rights scope Other spec ≡ Some list.other

-- and others say nothing of it
pub record IsSilent (scope : Scope) (others : List Entry) : Type 0 where
  pub mask : base_rights scope Mask others ≡ None
  pub users : named_in scope User others ≡ []
  pub groups : named_in scope Group others ≡ []

module _ (scope : Scope) (list : EntryList) (others : List Entry) (parts : Good list) (silent : IsSilent scope others) where
  abbrev last : List Entry
  last = base_entry scope Other list.other ∷ others

  abbrev from_mask : List Entry
  from_mask = mask_entries scope list.mask ++ last

  abbrev from_group : List Entry
  from_group = base_entry scope Group list.group ∷ (map (named_entry scope Group) list.groups ++ from_mask)

  to_group : (kind : EntryKind) → same_kind User kind ≡ false → base_rights scope kind (before scope list others) ≡ base_rights scope kind from_group
  to_group kind h = given_past scope kind scope User list.user (map (named_entry scope User) list.users ++ from_group) (and_false (same_scope scope scope) (same_kind User kind) h)
      ∙ given_past_named scope kind scope User list.users from_group

  to_mask : (kind : EntryKind) → same_kind User kind ≡ false → same_kind Group kind ≡ false → base_rights scope kind (before scope list others) ≡ base_rights scope kind from_mask
  to_mask kind h k = to_group kind h
      ∙ given_past scope kind scope Group list.group (map (named_entry scope Group) list.groups ++ from_mask) (and_false (same_scope scope scope) (same_kind Group kind) k)
      ∙ given_past_named scope kind scope Group list.groups from_mask

  mask_here : (mask : Option Rights) → option_map_or are_rights mask true ≡ true → base_rights scope Mask (mask_entries scope mask ++ last) ≡ mask
  mask_here None h = given_past scope Mask scope Other list.other others (and_false (same_scope scope scope) false refl) ∙ silent.mask
  mask_here (Some mask) h = given_here scope Mask mask last h

  users_here : named_in scope User (before scope list others) ≡ list.users
  users_here = named_past_base scope User scope User list.user (map (named_entry scope User) list.users ++ from_group)
      ∙ named_here scope User list.users from_group parts.users_grant
      ∙ ap (λ more. list.users ++ more) (named_past_base scope User scope Group list.group (map (named_entry scope Group) list.groups ++ from_mask)
      ∙ named_past scope User scope Group list.groups from_mask (and_false (same_scope scope scope) false refl)
      ∙ named_past_mask scope User scope list.mask last
      ∙ named_past_base scope User scope Other list.other others
      ∙ silent.users)
      ∙ append-nil list.users

  groups_here : named_in scope Group (before scope list others) ≡ list.groups
  groups_here = named_past_base scope Group scope User list.user (map (named_entry scope User) list.users ++ from_group)
      ∙ named_past scope Group scope User list.users from_group (and_false (same_scope scope scope) false refl)
      ∙ named_past_base scope Group scope Group list.group (map (named_entry scope Group) list.groups ++ from_mask)
      ∙ named_here scope Group list.groups from_mask parts.groups_grant
      ∙ ap (λ more. list.groups ++ more) (named_past_mask scope Group scope list.mask last ∙ named_past_base scope Group scope Other list.other others ∙ silent.groups)
      ∙ append-nil list.groups

  pub says : Says scope (before scope list others) list
  says = record {
    user = given_here scope User list.user (map (named_entry scope User) list.users ++ from_group) parts.user;
    users = users_here;
    group = to_group Group refl ∙ given_here scope Group list.group (map (named_entry scope Group) list.groups ++ from_mask) parts.group;
    groups = groups_here;
    mask = to_mask Mask refl refl ∙ mask_here list.mask parts.mask;
    other = to_mask Other refl refl
        ∙ given_past_mask scope Other scope list.mask last (and_false (same_scope scope scope) false refl)
        ∙ given_here scope Other list.other others parts.other;
  }

-- ---- a whole list, in another scope

module _ (scope s : Scope) (list : EntryList) (others : List Entry) (apart : same_scope s scope ≡ false) where
  apart_from : (k kind : EntryKind) → (same_scope s scope && same_kind k kind) ≡ false
  apart_from k kind = ap (λ b. b && same_kind k kind) apart

  given_beside : (kind : EntryKind) → base_rights scope kind (before s list others) ≡ base_rights scope kind others
  given_beside kind =
      let last = base_entry s Other list.other ∷ others in
      let from_mask = mask_entries s list.mask ++ last in
      let from_group = base_entry s Group list.group ∷ (map (named_entry s Group) list.groups ++ from_mask) in
      given_past scope kind s User list.user (map (named_entry s User) list.users ++ from_group) (apart_from User kind)
      ∙ given_past_named scope kind s User list.users from_group
      ∙ given_past scope kind s Group list.group (map (named_entry s Group) list.groups ++ from_mask) (apart_from Group kind)
      ∙ given_past_named scope kind s Group list.groups from_mask
      ∙ given_past_mask scope kind s list.mask last (apart_from Mask kind)
      ∙ given_past scope kind s Other list.other others (apart_from Other kind)

  named_beside : (kind : EntryKind) → named_in scope kind (before s list others) ≡ named_in scope kind others
  named_beside kind =
      let last = base_entry s Other list.other ∷ others in
      let from_mask = mask_entries s list.mask ++ last in
      let from_group = base_entry s Group list.group ∷ (map (named_entry s Group) list.groups ++ from_mask) in
      named_past_base scope kind s User list.user (map (named_entry s User) list.users ++ from_group)
      ∙ named_past scope kind s User list.users from_group (apart_from User kind)
      ∙ named_past_base scope kind s Group list.group (map (named_entry s Group) list.groups ++ from_mask)
      ∙ named_past scope kind s Group list.groups from_mask (apart_from Group kind)
      ∙ named_past_mask scope kind s list.mask last
      ∙ named_past_base scope kind s Other list.other others

  touches_named : (kind : EntryKind) (named : List NamedEntry) (more : List Entry) → touches scope (map (named_entry s kind) named ++ more) ≡ touches scope more
  touches_named kind [] more = refl
  touches_named kind (n ∷ ns) more = ap (λ b. b || touches scope (map (named_entry s kind) ns ++ more)) apart ∙ touches_named kind ns more

  touches_mask : (mask : Option Rights) (more : List Entry) → touches scope (mask_entries s mask ++ more) ≡ touches scope more
  touches_mask None more = refl
  touches_mask (Some mask) more = ap (λ b. b || touches scope more) apart

  pub touches_beside : touches scope (before s list others) ≡ touches scope others
  touches_beside =
      let last = base_entry s Other list.other ∷ others in
      let from_mask = mask_entries s list.mask ++ last in
      let from_group = base_entry s Group list.group ∷ (map (named_entry s Group) list.groups ++ from_mask) in
      ap (λ b. b || touches scope (map (named_entry s User) list.users ++ from_group)) apart
      ∙ touches_named User list.users from_group
      ∙ ap (λ b. b || touches scope (map (named_entry s Group) list.groups ++ from_mask)) apart
      ∙ touches_named Group list.groups from_mask
      ∙ touches_mask list.mask last
      ∙ ap (λ b. b || touches scope others) apart

  pub silent_beside : IsSilent scope others → IsSilent scope (before s list others)
  silent_beside silent = record { mask = given_beside Mask ∙ silent.mask; users = named_beside User ∙ silent.users; groups = named_beside Group ∙ silent.groups }

  pub says_beside : (own : EntryList) → Says scope others own → Says scope (before s list others) own
  says_beside own others_say = record {
    user = given_beside User ∙ others_say.user;
    users = named_beside User ∙ others_say.users;
    group = given_beside Group ∙ others_say.group;
    groups = named_beside Group ∙ others_say.groups;
    mask = given_beside Mask ∙ others_say.mask;
    other = given_beside Other ∙ others_say.other;
  }

-- ---- what is given stands there

any_found : (p : Entry → Bool) (spec : List Entry) → list_any p spec ≡ is_some (find p spec)
any_found p [] = refl
any_found p (e ∷ es) = by (p e) (any_found p es)
  where
    by : (b : Bool) → list_any p es ≡ is_some (find p es) → (b || list_any p es) ≡ is_some (cond b (Some e) (find p es))
    by true others = refl
    by false others = others

pub has_given : (scope : Scope) (kind : EntryKind) (spec : List Entry) (granted : Rights) → base_rights scope kind spec ≡ Some granted → has_base scope kind spec ≡ true
has_given scope kind spec granted h = any_found (is_base_of scope kind) spec ∙ stays (find (is_base_of scope kind) spec) ∙ ap is_some h
  where
    stays : (entry : Option Entry) → is_some entry ≡ is_some (option_map rights_granted entry)
    stays None = refl
    stays (Some entry) = refl

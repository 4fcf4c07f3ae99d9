-- Whom a change gives an entry, whose it takes and whose it leaves, what it gives to bases and masks, and the mask that nobody names.
use Rattle.std.proofs.Common.{◌≡◌, ℕ, Bool, true, false, ◌&&◌, ◌||◌, List, [], ◌∷◌, ◌++◌, cond, Option, Some, None, refl, sym, ap, subst, ◌∙◌}
use Rattle.std.specs.Prelude.{unwrap_or}
use Rattle.std.specs.List.{find, list_any}
use Rattle.std.specs.Option.{is_none, is_some, option_map, option_map_or, option_or}
use Rattle.permission_specs.specs.Spec.{same_kind, same_scope}
use Rattle.permission_bits.specs.Rights.{covers}
use Rattle.permission_bits.specs.declared.rights.Rights.{Rights}
use Rattle.permission_specs.specs.declared.entry.Entry.{Entry}
use Rattle.permission_specs.specs.declared.entry.EntryKind.{EntryKind}
use Rattle.permission_specs.specs.declared.entry.EntryKind.TheVariants.{User, Group, Mask, Other}
use Rattle.permission_specs.specs.declared.entry.Scope.{Scope}
use Rattle.permission_specs.specs.declared.entry.Scope.TheVariants.{Access, Default}
use Rattle.permission_specs.specs.declared.acl_change.AclChange.{AclChange}
use Rattle.permission_specs.specs.declared.acl_change.AclChange.TheVariants.{Set, Modify, Remove, RemoveDefault, Clear}
use Rattle.acl_entries.specs.declared.entry_list.NamedEntry.{NamedEntry}
use Rattle.acl_entries.specs.Acl.{Acl, EntryList, base_entries, has_named, intersection, union_of_group_class, union_of_named}
use Rattle.partial_acl.specs.AclChange.{PartialList, access_after, access_where, acl_after, after_addition, after_removal, all_of, as_kept, base_rights, completed_list, default_after, default_left, default_where, entries_without, has_no_entry, is_base_of, is_empty, is_entry_for, named_in, no_entries, rights_granted, spec_in, touches, with_bases_of, with_each}
use Rattle.partial_acl.proofs.Tests.{both}
use Rattle.acl_laws.specs.Laws.{BasesAreAsGiven, IsWithin, MasksAreAsGiven, MissingBasesComeFromTheAccessList, NamedEntriesAreAsGiven, RemovedNamesHaveNoEntry, UnnamedMasksAreTheUnion, WhoIsNotNamedKeepsHisEntry, edits, gives, granted_to, groups_in, has_bit, names, somebody_has, users_in}
use Rattle.acl_laws.proofs.Bits.{all_wider, covers_right, covers_self, either_of_three, union_from, union_has, union_has_each}
use Rattle.acl_laws.proofs.Changed.{groups_kept, made_is, users_kept}
use Rattle.acl_laws.proofs.Finding.{each_beside, entry_for, given_last, left_beside, names_are, none_left, silent_names_nobody}

-- ---- named users and named groups alike

abbrev part : Bool → EntryList → List NamedEntry
part true list = list.users
part false list = list.groups

abbrev part_left : Bool → PartialList → List NamedEntry
part_left true list = list.users
part_left false list = list.groups

abbrev kind_of : Bool → EntryKind
kind_of true = User
kind_of false = Group

abbrev part_of_default : Bool → Option EntryList → List NamedEntry
part_of_default true default = option_map_or (λ list. list.users) default []
part_of_default false default = option_map_or (λ list. list.groups) default []

abbrev part_in : Bool → Scope → Acl → List NamedEntry
part_in true scope acl = users_in scope acl
part_in false scope acl = groups_in scope acl

-- ---- the named entries of a list that was changed

part_kept : (users : Bool) (mask : Option Rights) (old : EntryList) (list : PartialList) → part users (as_kept (completed_list mask old list)) ≡ part_left users list
part_kept true mask old list = users_kept (completed_list mask old list)
part_kept false mask old list = groups_kept (completed_list mask old list)

part_where : (users b : Bool) (mask : Option Rights) (old : EntryList) (list : PartialList) → part users (access_where b mask old list) ≡ cond b (part_left users list) (part users old)
part_where users true mask old list = part_kept users mask old list
part_where users false mask old list = refl

default_part_where : (users b : Bool) (mask : Option Rights) (old : Option EntryList) (access : EntryList) (list : PartialList)
    → part_of_default users (default_where b mask old access list) ≡ cond b (part_left users list) (part_of_default users old)
default_part_where true true mask old access list = refl
default_part_where false true mask old access list = refl
default_part_where users false mask old access list = refl

nobody : (named : List NamedEntry) → is_empty named ≡ true → named ≡ []
nobody [] h = refl
nobody (e ∷ es) h = cc

emptied : (users : Bool) (list : PartialList) → has_no_entry list ≡ true → part_left users list ≡ []
emptied users list h =
    let first = both (is_none list.user) (is_none list.group && (is_none list.other && (is_empty list.users && is_empty list.groups))) h in
    let second = both (is_none list.group) (is_none list.other && (is_empty list.users && is_empty list.groups)) first.1 in
    let third = both (is_none list.other) (is_empty list.users && is_empty list.groups) second.1 in
    let named = both (is_empty list.users) (is_empty list.groups) third.1 in
    by users named.0 named.1
  where
    by : (users : Bool) → is_empty list.users ≡ true → is_empty list.groups ≡ true → part_left users list ≡ []
    by true k m = nobody list.users k
    by false k m = nobody list.groups m

no_part : (users : Bool) → part_of_default users None ≡ []
no_part true = refl
no_part false = refl

default_part_left : (users b : Bool) (old : Option EntryList) (access : EntryList) (list : PartialList)
    → part_of_default users (default_left b old access list) ≡ cond b (part_left users list) (part_of_default users old)
default_part_left users true old access list = by (has_no_entry list) refl
  where
    by : (none : Bool) → has_no_entry list ≡ none → part_of_default users (cond none None (default_where true None old access list)) ≡ part_left users list
    by true h = no_part users ∙ sym (emptied users list h)
    by false h = default_part_where users true None old access list
default_part_left users false old access list = default_part_where users false None old access list

-- the entries from which a default list is changed
from_default : (users : Bool) (old : Option EntryList) → part_left users (option_map_or all_of old no_entries) ≡ part_of_default users old
from_default true None = refl
from_default true (Some list) = refl
from_default false None = refl
from_default false (Some list) = refl

added_to : (users : Bool) (scope : Scope) (spec : List Entry) (list : PartialList) → part_left users (after_addition scope spec list) ≡ with_each (part_left users list) (named_in scope (kind_of users) spec)
added_to true scope spec list = refl
added_to false scope spec list = refl

taken_from : (users : Bool) (scope : Scope) (spec : List Entry) (list : PartialList) → part_left users (after_removal scope spec list) ≡ entries_without (part_left users list) (named_in scope (kind_of users) spec)
taken_from true scope spec list = refl
taken_from false scope spec list = refl

all_parts : (users : Bool) (list : EntryList) → part_left users (all_of list) ≡ part users list
all_parts true list = refl
all_parts false list = refl

no_parts : (users : Bool) → part_left users no_entries ≡ []
no_parts true = refl
no_parts false = refl

access_part : (users : Bool) (acl : Acl) → part_in users Access acl ≡ part users acl.access
access_part true acl = refl
access_part false acl = refl

default_part : (users : Bool) (acl : Acl) → part_in users Default acl ≡ part_of_default users acl.default
default_part true acl = refl
default_part false acl = refl

module _ (users : Bool) (spec : List Entry) (acl : Acl) where
  -- where the spec says something of the list, and where not
  abbrev either : Scope → List NamedEntry → List NamedEntry
  either scope there = cond (touches scope spec) there (part_in users scope acl)

  modified : (scope : Scope) → part_in users scope (acl_after (Modify spec) acl) ≡ either scope (with_each (part_in users scope acl) (named_in scope (kind_of users) spec))
  modified Access =
      let list = after_addition Access spec (all_of acl.access) in
      access_part users (acl_after (Modify spec) acl) ∙ part_where users (touches Access spec) (base_rights Access Mask spec) acl.access list
      ∙ ap (λ named. cond (touches Access spec) named (part users acl.access)) (added_to users Access spec (all_of acl.access) ∙ ap (λ named. with_each named (named_in Access (kind_of users) spec)) (all_parts users acl.access))
      ∙ ap (λ named. cond (touches Access spec) (with_each named (named_in Access (kind_of users) spec)) named) (sym (access_part users acl))
  modified Default =
      let base = option_map_or all_of acl.default no_entries in
      default_part users (acl_after (Modify spec) acl)
      ∙ default_part_where users (touches Default spec) (base_rights Default Mask spec) acl.default (access_after (Modify spec) acl.access) (after_addition Default spec base)
      ∙ ap (λ named. cond (touches Default spec) named (part_of_default users acl.default)) (added_to users Default spec base ∙ ap (λ named. with_each named (named_in Default (kind_of users) spec)) (from_default users acl.default))
      ∙ ap (λ named. cond (touches Default spec) (with_each named (named_in Default (kind_of users) spec)) named) (sym (default_part users acl))

  was_set : (scope : Scope) → part_in users scope (acl_after (Set spec) acl) ≡ either scope (with_each [] (named_in scope (kind_of users) spec))
  was_set Access =
      access_part users (acl_after (Set spec) acl) ∙ part_where users (touches Access spec) (base_rights Access Mask spec) acl.access (after_addition Access spec no_entries)
      ∙ ap (λ named. cond (touches Access spec) named (part users acl.access)) (added_to users Access spec no_entries ∙ ap (λ named. with_each named (named_in Access (kind_of users) spec)) (no_parts users))
      ∙ ap (λ named. cond (touches Access spec) (with_each [] (named_in Access (kind_of users) spec)) named) (sym (access_part users acl))
  was_set Default =
      default_part users (acl_after (Set spec) acl)
      ∙ default_part_where users (touches Default spec) (base_rights Default Mask spec) acl.default (access_after (Set spec) acl.access) (after_addition Default spec no_entries)
      ∙ ap (λ named. cond (touches Default spec) named (part_of_default users acl.default)) (added_to users Default spec no_entries ∙ ap (λ named. with_each named (named_in Default (kind_of users) spec)) (no_parts users))
      ∙ ap (λ named. cond (touches Default spec) (with_each [] (named_in Default (kind_of users) spec)) named) (sym (default_part users acl))

  removed : (scope : Scope) → part_in users scope (acl_after (Remove spec) acl) ≡ either scope (entries_without (part_in users scope acl) (named_in scope (kind_of users) spec))
  removed Access =
      access_part users (acl_after (Remove spec) acl) ∙ part_where users (touches Access spec) None acl.access (after_removal Access spec (all_of acl.access))
      ∙ ap (λ named. cond (touches Access spec) named (part users acl.access)) (taken_from users Access spec (all_of acl.access) ∙ ap (λ named. entries_without named (named_in Access (kind_of users) spec)) (all_parts users acl.access))
      ∙ ap (λ named. cond (touches Access spec) (entries_without named (named_in Access (kind_of users) spec)) named) (sym (access_part users acl))
  removed Default =
      let base = option_map_or all_of acl.default no_entries in
      default_part users (acl_after (Remove spec) acl)
      ∙ default_part_left users (touches Default spec) acl.default (access_after (Remove spec) acl.access) (after_removal Default spec base)
      ∙ ap (λ named. cond (touches Default spec) named (part_of_default users acl.default)) (taken_from users Default spec base ∙ ap (λ named. entries_without named (named_in Default (kind_of users) spec)) (from_default users acl.default))
      ∙ ap (λ named. cond (touches Default spec) (entries_without named (named_in Default (kind_of users) spec)) named) (sym (default_part users acl))

-- ---- others

module _ (name : List ℕ) where
  abbrev told : List NamedEntry → Option Rights
  told named = granted_to name named

  told_of : (xs ys : List NamedEntry) → entry_for name xs ≡ entry_for name ys → told xs ≡ told ys
  told_of xs ys h = ap (option_map (λ (entry : NamedEntry). entry.rights)) h

  either_way : (b : Bool) (xs ys : List NamedEntry) → told xs ≡ told ys → told (cond b xs ys) ≡ told ys
  either_way true xs ys h = h
  either_way false xs ys h = refl

  keeps : (users : Bool) (scope : Scope) (change : AclChange) (acl : Acl) → edits change ≡ true → names scope (kind_of users) name (spec_in change) ≡ false
      → told (part_in users scope (acl_after change acl)) ≡ told (part_in users scope acl)
  keeps users scope (Modify spec) acl h k =
      let named = named_in scope (kind_of users) spec in
      let old = part_in users scope acl in
      ap told (modified users spec acl scope) ∙ either_way (touches scope spec) (with_each old named) old (told_of _ _ (each_beside name old named (names_are scope (kind_of users) name spec ∙ k)))
  keeps users scope (Remove spec) acl h k =
      let named = named_in scope (kind_of users) spec in
      let old = part_in users scope acl in
      ap told (removed users spec acl scope) ∙ either_way (touches scope spec) (entries_without old named) old (told_of _ _ (left_beside name named old (names_are scope (kind_of users) name spec ∙ k)))
  keeps users scope _ acl h k = cc

  -- where somebody of a list is named, something is said of it
  said : (scope : Scope) (kind : EntryKind) (spec : List Entry) → names scope kind name spec ≡ true → touches scope spec ≡ true
  said scope kind spec h = by (touches scope spec) refl
    where
      by : (b : Bool) → touches scope spec ≡ b → b ≡ true
      by true k = refl
      by false k = let clash : names scope kind name spec ≡ false = silent_names_nobody scope kind name spec k in cc

  gone : (users : Bool) (scope : Scope) (spec : List Entry) (acl : Acl) → names scope (kind_of users) name spec ≡ true → told (part_in users scope (acl_after (Remove spec) acl)) ≡ None
  gone users scope spec acl h =
      let named = named_in scope (kind_of users) spec in
      let old = part_in users scope acl in
      ap told (removed users spec acl scope) ∙ ap (λ b. told (cond b (entries_without old named) old)) (said scope (kind_of users) spec h)
      ∙ ap (option_map (λ (entry : NamedEntry). entry.rights)) (none_left name named old (names_are scope (kind_of users) name spec ∙ h))

pub others_keep : WhoIsNotNamedKeepsHisEntry
others_keep change kind acl later scope name h done =
    let is = made_is change kind acl later done in (
      λ k. ap (λ own. granted_to name (users_in scope own)) is ∙ keeps name true scope change acl h k,
      λ k. ap (λ own. granted_to name (groups_in scope own)) is ∙ keeps name false scope change acl h k,
    )

pub removed_have_none : RemovedNamesHaveNoEntry
removed_have_none spec kind acl later scope name done =
    let is = made_is (Remove spec) kind acl later done in (
      λ k. ap (λ own. granted_to name (users_in scope own)) is ∙ gone name true scope spec acl k,
      λ k. ap (λ own. granted_to name (groups_in scope own)) is ∙ gone name false scope spec acl k,
    )

-- ---- who is given an entry

-- a spec says something of the list of which it has an entry
said_by : (scope : Scope) (kind : EntryKind) (entry : Entry) (front behind : List Entry) → is_entry_for scope kind entry ≡ true → touches scope (front ++ entry ∷ behind) ≡ true
said_by scope kind entry [] behind h = by (same_scope entry.scope scope) h
  where
    by : (b : Bool) → (b && same_kind entry.kind kind) ≡ true → (b || touches scope behind) ≡ true
    by true k = refl
    by false k = cc
said_by scope kind entry (f ∷ fs) behind h = by (same_scope f.scope scope) (said_by scope kind entry fs behind h)
  where
    by : (b : Bool) → touches scope (fs ++ entry ∷ behind) ≡ true → (b || touches scope (fs ++ entry ∷ behind)) ≡ true
    by true k = refl
    by false k = k

module _ (name : List ℕ) (front behind : List Entry) (entry : Entry) (own : entry.name ≡ Some name) where
  abbrev spec : List Entry
  spec = front ++ entry ∷ behind

  put_last : (scope : Scope) (kind : EntryKind) (old : List NamedEntry) → is_entry_for scope kind entry ≡ true → names scope kind name behind ≡ false
      → told name (with_each old (named_in scope kind spec)) ≡ Some (rights_granted entry)
  put_last scope kind old here last = ap (option_map (λ (entry : NamedEntry). entry.rights)) (given_last scope kind name entry own here behind last front old)

  is_given : (users : Bool) (scope : Scope) (change : AclChange) (acl : Acl) → gives change ≡ true → spec_in change ≡ spec → is_entry_for scope (kind_of users) entry ≡ true
      → names scope (kind_of users) name behind ≡ false → told name (part_in users scope (acl_after change acl)) ≡ Some (rights_granted entry)
  is_given users scope (Set all) acl h is here last =
      ap (λ all. told name (part_in users scope (acl_after (Set all) acl))) is ∙ ap (told name) (was_set users spec acl scope)
      ∙ ap (λ b. told name (cond b (with_each [] (named_in scope (kind_of users) spec)) (part_in users scope acl))) (said_by scope (kind_of users) entry front behind here)
      ∙ put_last scope (kind_of users) [] here last
  is_given users scope (Modify all) acl h is here last =
      let old = part_in users scope acl in
      ap (λ all. told name (part_in users scope (acl_after (Modify all) acl))) is ∙ ap (told name) (modified users spec acl scope)
      ∙ ap (λ b. told name (cond b (with_each old (named_in scope (kind_of users) spec)) old)) (said_by scope (kind_of users) entry front behind here) ∙ put_last scope (kind_of users) old here last
  is_given users scope (Remove all) acl h is here last = cc
  is_given users scope RemoveDefault acl h is here last = cc
  is_given users scope Clear acl h is here last = cc

pub named_are_given : NamedEntriesAreAsGiven
named_are_given change kind acl later scope name front behind entry h all own done =
    let is = made_is change kind acl later done in (
      λ here last. ap (λ own. granted_to name (users_in scope own)) is ∙ is_given name front behind entry own true scope change acl h all here last,
      λ here last. ap (λ own. granted_to name (groups_in scope own)) is ∙ is_given name front behind entry own false scope change acl h all here last,
    )

-- ---- bases and masks that are named

-- an entry that a spec has of a list says something of it
base_says : (scope : Scope) (kind : EntryKind) (spec : List Entry) (granted : Rights) → base_rights scope kind spec ≡ Some granted → touches scope spec ≡ true
base_says scope kind [] granted h = cc
base_says scope kind (e ∷ es) granted h = by (same_scope e.scope scope) h (base_says scope kind es granted)
  where
    by : (b : Bool) → option_map rights_granted (cond (b && (same_kind e.kind kind && is_none e.name)) (Some e) (find (is_base_of scope kind) es)) ≡ Some granted
        → (base_rights scope kind es ≡ Some granted → touches scope es ≡ true) → (b || touches scope es) ≡ true
    by true k rest = refl
    by false k rest = rest k

-- an access list that was changed, kept with the mask that is due
module _ (named : Option Rights) (old : EntryList) (list : PartialList) where
  abbrev made : EntryList
  made = completed_list named old list

  abbrev kept_where : Bool → EntryList
  kept_where extended = cond extended made (base_entries made.user (option_map_or (intersection made.group) made.mask made.group) made.other)

  kept_user : (extended : Bool) → (kept_where extended).user ≡ unwrap_or list.user old.user
  kept_user true = refl
  kept_user false = refl

  kept_other : (extended : Bool) → (kept_where extended).other ≡ unwrap_or list.other old.other
  kept_other true = refl
  kept_other false = refl

  kept_group : (extended : Bool) → is_some (kept_where extended).mask ≡ true → (kept_where extended).group ≡ unwrap_or list.group old.group
  kept_group true h = refl
  kept_group false h = cc

  kept_mask : (extended : Bool) (mask : Rights) → named ≡ Some mask → ((own : Rights) → (kept_where extended).mask ≡ Some own → own ≡ mask) × ((kept_where extended).mask ≡ None → covers mask.0 (kept_where extended).group.0 ≡ true)
  kept_mask true mask is =
      (λ own h. ap (λ found. unwrap_or found own) (sym h) ∙ ap (λ due. unwrap_or due (union_of_group_class (with_bases_of old list))) is, λ h. cc)
  kept_mask false mask is = (
    λ own h. cc,
    λ h. ap (λ due. covers mask.0 (intersection made.group (unwrap_or due (union_of_group_class (with_bases_of old list)))).0) is ∙ covers_right made.group.0 mask.0,
  )

-- the list that a change leaves, where it says something of it
module _ (spec : List Entry) (said_of_it : touches Access spec ≡ true) where
  abbrev added_list : EntryList → PartialList → EntryList
  added_list old base = as_kept (completed_list (base_rights Access Mask spec) old (after_addition Access spec base))

  is_added : (old : EntryList) (base : PartialList) → access_where (touches Access spec) (base_rights Access Mask spec) old (after_addition Access spec base) ≡ added_list old base
  is_added old base = ap (λ b. access_where b (base_rights Access Mask spec) old (after_addition Access spec base)) said_of_it

-- what holds of a list with something added holds of what a change leaves
left_by : (P : EntryList → Type 0) (change : AclChange) (old : EntryList) → gives change ≡ true → touches Access (spec_in change) ≡ true
    → ((base : PartialList) → P (as_kept (completed_list (base_rights Access Mask (spec_in change)) old (after_addition Access (spec_in change) base)))) → P (access_after change old)
left_by P (Set spec) old h k all = subst P (sym (is_added spec k old no_entries)) (all no_entries)
left_by P (Modify spec) old h k all = subst P (sym (is_added spec k old (all_of old))) (all (all_of old))
left_by P (Remove spec) old h k all = cc
left_by P RemoveDefault old h k all = cc
left_by P Clear old h k all = cc

chosen : (given old : Option Rights) (other granted : Rights) → given ≡ Some granted → unwrap_or (option_or given old) other ≡ granted
chosen given old other granted h = ap (λ own. unwrap_or (option_or own old) other) h

module _ (change : AclChange) (old : EntryList) (h : gives change ≡ true) where
  abbrev all : List Entry
  all = spec_in change

  user_given : (granted : Rights) → base_rights Access User all ≡ Some granted → (access_after change old).user ≡ granted
  user_given granted k = left_by (λ list. list.user ≡ granted) change old h (base_says Access User all granted k) (λ base.
      let list = after_addition Access all base in
      kept_user (base_rights Access Mask all) old list (has_named (completed_list (base_rights Access Mask all) old list)) ∙ chosen (base_rights Access User all) base.user old.user granted k)

  other_given : (granted : Rights) → base_rights Access Other all ≡ Some granted → (access_after change old).other ≡ granted
  other_given granted k = left_by (λ list. list.other ≡ granted) change old h (base_says Access Other all granted k) (λ base.
      let list = after_addition Access all base in
      kept_other (base_rights Access Mask all) old list (has_named (completed_list (base_rights Access Mask all) old list)) ∙ chosen (base_rights Access Other all) base.other old.other granted k)

  group_given : (granted : Rights) → base_rights Access Group all ≡ Some granted → is_some (access_after change old).mask ≡ true → (access_after change old).group ≡ granted
  group_given granted k = left_by (λ list. is_some list.mask ≡ true → list.group ≡ granted) change old h (base_says Access Group all granted k) (λ base masked.
      let list = after_addition Access all base in
      kept_group (base_rights Access Mask all) old list (has_named (completed_list (base_rights Access Mask all) old list)) masked ∙ chosen (base_rights Access Group all) base.group old.group granted k)

  mask_given : (mask : Rights) → base_rights Access Mask all ≡ Some mask
      → ((own : Rights) → (access_after change old).mask ≡ Some own → own ≡ mask) × ((access_after change old).mask ≡ None → covers mask.0 (access_after change old).group.0 ≡ true)
  mask_given mask k =
      left_by (λ list. ((own : Rights) → list.mask ≡ Some own → own ≡ mask) × (list.mask ≡ None → covers mask.0 list.group.0 ≡ true)) change old h (base_says Access Mask all mask k) (λ base.
      let list = after_addition Access all base in
      kept_mask (base_rights Access Mask all) old list (has_named (completed_list (base_rights Access Mask all) old list)) mask k)

pub bases_given : BasesAreAsGiven
bases_given change kind acl later granted h done =
    let is = made_is change kind acl later done in (
      λ k. ap (λ own. own.access.user) is ∙ user_given change acl.access h granted k,
      λ k masked. ap (λ own. own.access.group) is ∙ group_given change acl.access h granted k (ap (λ own. is_some own.access.mask) (sym is) ∙ masked),
      λ k. ap (λ own. own.access.other) is ∙ other_given change acl.access h granted k,
    )

pub masks_given : MasksAreAsGiven
masks_given change kind acl later mask h k done =
    let is = made_is change kind acl later done in
    subst (λ (own : Acl). ((found : Rights) → own.access.mask ≡ Some found → found ≡ mask) × (own.access.mask ≡ None → covers mask.0 own.access.group.0 ≡ true)) (sym is) (mask_given change acl.access h mask k)

-- ---- a default list that is new

lacking : (given : Option Rights) (other : Rights) → given ≡ None → unwrap_or (option_or given None) other ≡ other
lacking given other h = ap (λ own. unwrap_or (option_or own None) other) h

module _ (spec : List Entry) (access list : EntryList) where
  abbrev new_default : Bool → Option EntryList
  new_default b = default_where b (base_rights Default Mask spec) None access (after_addition Default spec no_entries)

  abbrev HasMissing : Type 0
  HasMissing = (base_rights Default User spec ≡ None → list.user ≡ access.user) × (base_rights Default Group spec ≡ None → list.group ≡ access.group) × (base_rights Default Other spec ≡ None → list.other ≡ access.other)

  has_missing : (b : Bool) → new_default b ≡ Some list → HasMissing
  has_missing true h =
      let is : completed_list (base_rights Default Mask spec) access (after_addition Default spec no_entries) ≡ list = ap (λ found. unwrap_or found list) h in (
        λ none. ap (λ own. own.user) (sym is) ∙ lacking (base_rights Default User spec) access.user none,
        λ none. ap (λ own. own.group) (sym is) ∙ lacking (base_rights Default Group spec) access.group none,
        λ none. ap (λ own. own.other) (sym is) ∙ lacking (base_rights Default Other spec) access.other none,
      )
  has_missing false h = cc

missing_from : (change : AclChange) (access list : EntryList) → gives change ≡ true → default_after change access None ≡ Some list → HasMissing (spec_in change) access list
missing_from (Set spec) access list h k = has_missing spec access list (touches Default spec) k
missing_from (Modify spec) access list h k = has_missing spec access list (touches Default spec) k
missing_from (Remove spec) access list h k = cc
missing_from RemoveDefault access list h k = cc
missing_from Clear access list h k = cc

pub missing_bases : MissingBasesComeFromTheAccessList
missing_bases change kind acl later list h new done there =
    let is = made_is change kind acl later done in
    subst (λ (own : Acl). HasMissing (spec_in change) own.access list) (sym is)
    (missing_from change (access_after change acl.access) list h
    (ap (λ old. default_after change (access_after change acl.access) old) (sym new) ∙ ap (λ own. own.default) (sym is) ∙ there))

-- ---- masks that nobody names

union_bounds : (list : EntryList) → IsWithin (union_of_group_class list).0 list
union_bounds list =
    let users = union_of_named list.group list.users in
    let all = union_of_group_class list in
    let wider : covers all.0 users.0 ≡ true = union_has users list.groups users.0 (covers_self users.0) in (
      union_has users list.groups list.group.0 (union_has list.group list.users list.group.0 (covers_self list.group.0)),
      all_wider all.0 users.0 list.users wider (union_has_each list.group list.users),
      union_has_each users list.groups,
    )

or_right : (a b : Bool) → b ≡ true → (a || b) ≡ true
or_right true b k = refl
or_right false b k = k

union_is_somebodys : (bit : ℕ) (list : EntryList) → has_bit bit (union_of_group_class list).0 ≡ true → somebody_has bit list ≡ true
union_is_somebodys bit list h =
    let in_groups = list_any (λ (entry : NamedEntry). has_bit bit entry.rights.0) list.groups in
    let in_users = list_any (λ (entry : NamedEntry). has_bit bit entry.rights.0) list.users in
    either_of_three (has_bit bit list.group.0) in_users in_groups
    (by (has_bit bit (union_of_named list.group list.users).0) refl (union_from bit (union_of_named list.group list.users) list.groups h))
  where
    by : (b : Bool) → has_bit bit (union_of_named list.group list.users).0 ≡ b → (b || list_any (λ (entry : NamedEntry). has_bit bit entry.rights.0) list.groups) ≡ true
        → ((has_bit bit list.group.0 || list_any (λ (entry : NamedEntry). has_bit bit entry.rights.0) list.users) || list_any (λ (entry : NamedEntry). has_bit bit entry.rights.0) list.groups) ≡ true
    by true k rest = ap (λ b. b || list_any (λ (entry : NamedEntry). has_bit bit entry.rights.0) list.groups) (union_from bit list.group list.users k)
    by false k rest = or_right (has_bit bit list.group.0 || list_any (λ (entry : NamedEntry). has_bit bit entry.rights.0) list.users) _ rest

-- the mask of a list is the union of its group class
abbrev IsTheUnion : Rights → EntryList → Type 0
IsTheUnion mask list = IsWithin mask.0 list × ((bit : ℕ) → has_bit bit mask.0 ≡ true → somebody_has bit list ≡ true)

module _ (old : EntryList) (list : PartialList) (mask : Rights) where
  completed_union : (extended : Bool) → (kept_where None old list extended).mask ≡ Some mask → IsTheUnion mask (kept_where None old list extended)
  completed_union true h =
      let is : union_of_group_class (with_bases_of old list) ≡ mask = ap (λ own. unwrap_or own mask) h in
      subst (λ own. IsTheUnion own (completed_list None old list)) is (union_bounds (with_bases_of old list), λ bit k. union_is_somebodys bit (with_bases_of old list) k)
  completed_union false h = cc

union_where : (b : Bool) (named : Option Rights) (old : EntryList) (list : PartialList) (mask : Rights) → b ≡ true → named ≡ None → (access_where b named old list).mask ≡ Some mask
    → IsTheUnion mask (access_where b named old list)
union_where true named old list mask h is k =
    subst (λ own. IsTheUnion mask (as_kept (completed_list own old list))) (sym is)
    (completed_union old list mask (has_named (completed_list None old list)) (ap (λ own. (as_kept (completed_list own old list)).mask) (sym is) ∙ k))
union_where false named old list mask h is k = cc

union_after : (change : AclChange) (old : EntryList) (mask : Rights) → touches Access (spec_in change) ≡ true → base_rights Access Mask (spec_in change) ≡ None
    → (access_after change old).mask ≡ Some mask → IsTheUnion mask (access_after change old)
union_after (Set spec) old mask h none k = union_where (touches Access spec) (base_rights Access Mask spec) old (after_addition Access spec no_entries) mask h none k
union_after (Modify spec) old mask h none k = union_where (touches Access spec) (base_rights Access Mask spec) old (after_addition Access spec (all_of old)) mask h none k
union_after (Remove spec) old mask h none k = union_where (touches Access spec) None old (after_removal Access spec (all_of old)) mask h refl k
union_after RemoveDefault old mask h none k = cc
union_after Clear old mask h none k = cc

pub masks_are_unions : UnnamedMasksAreTheUnion
masks_are_unions change kind acl later mask h none done there =
    let is = made_is change kind acl later done in
    subst (λ (own : Acl). IsTheUnion mask own.access) (sym is) (union_after change acl.access mask h none (ap (λ own. own.access.mask) (sym is) ∙ there))

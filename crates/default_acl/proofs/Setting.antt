-- Setting a list to the entries of another copies them, and so does setting it to what their text says.
use Rattle.std.proofs.Common.{◌≡◌, Bool, true, false, not, ◌&&◌, List, [], ◌∷◌, ◌++◌, cond, Option, Some, None, Result, Ok, Err, IsTrue, refl, sym, ap, subst, ◌∙◌, Greater, is_eq, append_assoc, append-nil, arith}
use Rattle.std.specs.Prelude.{unwrap_or}
use Rattle.std.specs.List.{list_all, list_any}
use Rattle.std.specs.Option.{is_none, is_some, option_map_or, option_or}
use Rattle.std.specs.Ordering.{is_lt, ordering_reverse}
use Rattle.std.specs.Int.Bits.{and_self}
use Rattle.std.proofs.lemmas.Bool.Decides.{nat_tests}
use Rattle.std.proofs.lemmas.Cmp.{nat_list_cmp_total}
use Rattle.hdfs_values.specs.Text.{text_cmp}
use Rattle.permission_bits.specs.Rights.{rights}
use Rattle.permission_specs.specs.Spec.{IsSpec, has_duplicate, is_named_base}
use Rattle.permission_bits.specs.declared.rights.Rights.{Rights}
use Rattle.permission_specs.specs.declared.entry.Entry.{Entry}
use Rattle.permission_specs.specs.declared.entry.EntryKind.TheVariants.{User, Group, Mask, Other}
use Rattle.permission_specs.specs.declared.entry.Scope.{Scope}
use Rattle.permission_specs.specs.declared.entry.Scope.TheVariants.{Access, Default}
use Rattle.permission_specs.specs.declared.acl_change.AclChange.TheVariants.{Set}
use Rattle.hdfs_values.specs.declared.fault.AclFault.{AclFault}
use Rattle.hdfs_values.specs.declared.fault.AclFault.TheVariants.{NoBase}
use Rattle.file_states.specs.declared.kind.ObjectKind.TheVariants.{Directory}
use Rattle.refusals.specs.declared.refusal.Refusal.TheVariants.{TooManyEntries}
use Rattle.acl_entries.specs.declared.entry_list.NamedEntry.{NamedEntry}
use Rattle.acl_entries.specs.Acl.{Acl, EntryList, IsEntryList, ascend, base_entries, intersection, entries, entries_in, fits_in_scope, has_named, is_access_list, is_entry_list}
use Rattle.permission_specs.specs.SpecText.{is_printable, spec_of, spec_text}
use Rattle.partial_acl.specs.AclChange.{acl_after, access_after, after_addition, all_of, as_kept, completed_list, default_after, default_where, first_acl_fault, base_rights, has_base, named_in, no_entries, with_entry, touches, unless_fault, acl_change, with_each}
use Rattle.default_acl.specs.Laws.{SettingToEntriesCopies, WhatIsPrintedIsSetAgain, with_entries_of}
use Rattle.partial_acl.proofs.Tests.{both, and}
use Rattle.partial_acl.proofs.NamedLists.{ascend_tail, less_through, less_is}
use Rattle.partial_acl.proofs.Completing.{Good, good, empty_is, kept_is_bases, kept_named}
use Rattle.default_acl.proofs.Changing.{masked_where_named}
use Rattle.default_acl.proofs.Listed.{before, before_is, IsSilent, Says, has_given, says, says_beside, silent_beside, touches_beside}
use Rattle.default_acl.proofs.Distinct.{is_spec, named_right_before, once_before}

-- ---- entries that are put in one after another, in the order of their names

last_is_greater : (e : NamedEntry) (front : List NamedEntry) (new : NamedEntry) (others : List NamedEntry) → ascend (e ∷ (front ++ new ∷ others)) ≡ true → is_lt (text_cmp e.name new.name) ≡ true
last_is_greater e [] new others h = (both (is_lt (text_cmp e.name new.name)) (ascend (new ∷ others)) h).0
last_is_greater e (f ∷ fs) new others h =
    let parts = both (is_lt (text_cmp e.name f.name)) (ascend (f ∷ (fs ++ new ∷ others))) h in
    less_through e.name f.name new.name parts.0 (last_is_greater f fs new others parts.1)

put_last : (new : NamedEntry) (front others : List NamedEntry) → ascend (front ++ new ∷ others) ≡ true → with_entry new front ≡ front ++ new ∷ []
put_last new [] others h = refl
put_last new (e ∷ es) others h =
    let order : text_cmp new.name e.name ≡ Greater =
    nat_list_cmp_total.antisymm new.name e.name ∙ ap ordering_reverse (less_is (text_cmp e.name new.name) (last_is_greater e es new others h)) in
    ap (λ o. cond (is_eq o) (new ∷ es) (cond (is_lt o) (new ∷ e ∷ es) (e ∷ with_entry new es))) order
    ∙ ap (λ list. e ∷ list) (put_last new es others (ascend_tail e (es ++ new ∷ others) h))

with_each_behind : (front others : List NamedEntry) → ascend (front ++ others) ≡ true → with_each front others ≡ front ++ others
with_each_behind front [] h = sym (append-nil front)
with_each_behind front (o ∷ os) h =
    let whole : (front ++ o ∷ []) ++ os ≡ front ++ o ∷ os = append_assoc front (o ∷ []) os in
    ap (λ list. with_each list os) (put_last o front os h)
    ∙ with_each_behind (front ++ o ∷ []) os (ap ascend whole ∙ h)
    ∙ whole

-- ---- a list that is completed from its own parts

mask_stays : (mask : Option Rights) (sum : Rights) → is_some mask ≡ true → Some (unwrap_or mask sum) ≡ mask
mask_stays None sum h = cc
mask_stays (Some mask) sum h = refl

masked_again : (list other : EntryList) → is_some list.mask ≡ true → completed_list list.mask other (all_of list) ≡ list
masked_again list other h = ap (λ mask. record list { mask = mask }) (mask_stays list.mask _ h)

no_mask : (mask : Option Rights) → is_none mask ≡ true → mask ≡ None
no_mask None h = refl
no_mask (Some mask) h = cc

base_entries_are : (list : EntryList) → list.users ≡ [] → list.groups ≡ [] → list.mask ≡ None → base_entries list.user list.group list.other ≡ list
base_entries_are list users groups mask =
    ap (λ named. record list { users = named; groups = []; mask = None }) (sym users)
    ∙ ap (λ named. record list { groups = named; mask = None }) (sym groups)
    ∙ ap (λ own. record list { mask = own }) (sym mask)

-- the union of the owning group alone is what it has
alone : (group : Rights) → intersection group group ≡ group
alone group = ap rights (and_self group.0)

plain_again : (list other : EntryList) → is_access_list list ≡ true → has_named list ≡ false → as_kept (completed_list list.mask other (all_of list)) ≡ list
plain_again list other h none =
    let unmasked : list.mask ≡ None = no_mask list.mask (ap (λ b. cond b (is_some list.mask) (is_none list.mask)) (sym none) ∙ h) in
    let users : list.users ≡ [] = empty_is list.users (grind (arith, nat_tests)) in
    let groups : list.groups ≡ [] = empty_is list.groups (grind (arith, nat_tests)) in
    kept_is_bases list.mask other (all_of list) none
    ∙ ap (λ mask. base_entries list.user (intersection list.group (unwrap_or mask list.group)) list.other) unmasked
    ∙ ap (λ granted. base_entries list.user granted list.other) (alone list.group)
    ∙ base_entries_are list users groups unmasked

kept_again : (list other : EntryList) → is_access_list list ≡ true → as_kept (completed_list list.mask other (all_of list)) ≡ list
kept_again list other h = by (has_named list) refl
  where
    by : (b : Bool) → has_named list ≡ b → as_kept (completed_list list.mask other (all_of list)) ≡ list
    by true k = kept_named (completed_list list.mask other (all_of list)) k ∙ masked_again list other (masked_where_named list h k)
    by false k = plain_again list other h k

-- ---- what a spec adds to nothing, where it says a list

says_all : (scope : Scope) (spec : List Entry) (list : EntryList) → Says scope spec list → Good list → after_addition scope spec no_entries ≡ all_of list
says_all scope spec list s parts =
    ap (λ own. record {
      user = option_or own None;
      users = with_each [] (named_in scope User spec);
      group = option_or (base_rights scope Group spec) None;
      groups = with_each [] (named_in scope Group spec);
      other = option_or (base_rights scope Other spec) None;
    }) s.user
    ∙ ap (λ named. record {
      user = Some list.user;
      users = named;
      group = option_or (base_rights scope Group spec) None;
      groups = with_each [] (named_in scope Group spec);
      other = option_or (base_rights scope Other spec) None;
    }) (ap (with_each []) s.users ∙ with_each_behind [] list.users parts.users_ascend)
    ∙ ap (λ own. record {
      user = Some list.user;
      users = list.users;
      group = option_or own None;
      groups = with_each [] (named_in scope Group spec);
      other = option_or (base_rights scope Other spec) None;
    }) s.group
    ∙ ap (λ named. record {
      user = Some list.user;
      users = list.users;
      group = Some list.group;
      groups = named;
      other = option_or (base_rights scope Other spec) None;
    }) (ap (with_each []) s.groups ∙ with_each_behind [] list.groups parts.groups_ascend)
    ∙ ap (λ own. record { user = Some list.user; users = list.users; group = Some list.group; groups = list.groups; other = option_or own None }) s.other

says_completed : (scope : Scope) (spec : List Entry) (list other : EntryList) → Says scope spec list → Good list
    → completed_list (base_rights scope Mask spec) other (after_addition scope spec no_entries) ≡ completed_list list.mask other (all_of list)
says_completed scope spec list other s parts =
    ap (λ mask. completed_list mask other (after_addition scope spec no_entries)) s.mask ∙ ap (λ added. completed_list list.mask other added) (says_all scope spec list s parts)

-- ---- the entries of both scopes

abbrev default_entries : Option EntryList → List Entry
default_entries default = option_map_or (entries_in Default) default []

-- the entries of a default list
record IsBehind (default : Option EntryList) : Type 0 where
  silent : IsSilent Access (default_entries default)
  apart : touches Access (default_entries default) ≡ false
  touched : touches Default (default_entries default) ≡ is_some default
  once : has_duplicate (default_entries default) ≡ false
  named_right : list_any is_named_base (default_entries default) ≡ false

behind : (default : Option EntryList) → option_map_or is_entry_list default true ≡ true → IsBehind default
behind None h = record { silent = record { mask = refl; users = refl; groups = refl }; apart = refl; touched = refl; once = refl; named_right = refl }
behind (Some list) h = record {
  silent = silent_beside Access Default list [] refl (record { mask = refl; users = refl; groups = refl });
  apart = touches_beside Access Default list [] refl;
  touched = refl;
  once = once_before Default list [] (good list h) refl refl;
  named_right = named_right_before Default list [];
}

module _ (access : EntryList) (default : Option EntryList) (good_access : IsEntryList access) (good_default : option_map_or is_entry_list default true ≡ true) where
  abbrev spec : List Entry
  spec = entries_in Access access ++ default_entries default

  abbrev spread : List Entry
  spread = before Access access (default_entries default)

  spread_is : spread ≡ spec
  spread_is = sym (before_is Access access (default_entries default))

  rest : IsBehind default
  rest = behind default good_default

  says_access : Says Access spec access
  says_access = subst (λ list. Says Access list access) spread_is (says Access access (default_entries default) (good access good_access) rest.silent)

  touches_default : touches Default spec ≡ is_some default
  touches_default = ap (touches Default) (sym spread_is) ∙ touches_beside Default Access access (default_entries default) refl ∙ rest.touched

  is_a_spec : IsSpec spec
  is_a_spec = subst IsSpec spread_is (is_spec spread
      (once_before Access access (default_entries default) (good access good_access) rest.apart rest.once)
      (named_right_before Access access (default_entries default) ∙ rest.named_right))

  no_fault : (old : Acl) → first_acl_fault (Set spec) Directory old ≡ None
  no_fault old =
      ap (λ b. cond (not (b && (has_base Access Group spec && has_base Access Other spec))) (Some NoBase) None) (has_given Access User spec access.user says_access.user)
      ∙ ap (λ b. cond (not (b && has_base Access Other spec)) (Some NoBase) None) (has_given Access Group spec access.group says_access.group)
      ∙ ap (λ b. cond (not b) (Some NoBase) None) (has_given Access Other spec access.other says_access.other)

  access_is : (old : EntryList) → is_access_list access ≡ true → access_after (Set spec) old ≡ access
  access_is old h = ap as_kept (says_completed Access spec access old says_access (good access good_access)) ∙ kept_again access old h

-- what a default list becomes
default_is : (access : EntryList) (default old : Option EntryList) (other : EntryList) → IsEntryList access → option_map_or is_entry_list default true ≡ true → option_map_or (λ list. is_some list.mask) default true ≡ true
    → default_after (Set (entries_in Access access ++ default_entries default)) other old ≡ option_or default old
default_is access None old other h k masked =
    let own = entries_in Access access ++ [] in
    ap (λ b. default_where b (base_rights Default Mask own) old other (after_addition Default own no_entries)) (touches_default access None h k)
default_is access (Some list) old other h k masked =
    let own = entries_in Access access ++ entries_in Default list in
    let here : Says Default (entries_in Default list) list = says Default list [] (good list k) (record { mask = refl; users = refl; groups = refl }) in
    let says_default : Says Default own list =
    subst (λ all. Says Default all list) (spread_is access (Some list) h k) (says_beside Default Access access (entries_in Default list) refl list here) in
    ap (λ b. default_where b (base_rights Default Mask own) old other (after_addition Default own no_entries)) (touches_default access (Some list) h k)
    ∙ ap (λ all. Some all) (says_completed Default own list other says_default (good list k) ∙ masked_again list other masked)

-- ---- the laws

pub copied : SettingToEntriesCopies
copied acl old kept old_fits =
    let masks = both (is_access_list acl.access) (option_map_or (λ list. is_some list.mask) acl.default true) kept.masks in
    let own = entries acl in
    let after : acl_after (Set own) old ≡ with_entries_of acl old =
    ap (λ list. record { sticky = old.sticky; access = list; default = default_after (Set own) list old.default }) (access_is acl.access acl.default kept.access kept.default old.access masks.0)
    ∙ ap (λ list. record { sticky = old.sticky; access = acl.access; default = list }) (default_is acl.access acl.default old.default acl.access kept.access kept.default masks.1) in
    ap (λ fault. unless_fault fault (acl_after (Set own) old)) (no_fault acl.access acl.default kept.access kept.default old)
    ∙ ap (unless_fault None) after
    ∙ ap (λ b. cond b (Ok (with_entries_of acl old)) (Err TooManyEntries))
    (and (fits_in_scope acl.access) (option_map_or fits_in_scope (option_or acl.default old.default) true) (good acl.access kept.access).list_fits (either_fits acl.default kept.default))
  where
    either_fits : (default : Option EntryList) → option_map_or is_entry_list default true ≡ true → option_map_or fits_in_scope (option_or default old.default) true ≡ true
    either_fits None h = old_fits
    either_fits (Some list) h = (good list h).list_fits

-- a spec that has entries is read from its text
abbrev AreRead : Type 0
AreRead = (entry : Entry) (others : List Entry) → IsSpec (entry ∷ others) → IsTrue (list_all is_printable (entry ∷ others)) → spec_of true (spec_text (entry ∷ others)) ≡ Ok (entry ∷ others)

some_read : AreRead → (spec : List Entry) → touches Access spec ≡ true → IsSpec spec → IsTrue (list_all is_printable spec) → spec_of true (spec_text spec) ≡ Ok spec
some_read are_read [] h is printable = cc
some_read are_read (e ∷ es) h is printable = are_read e es is printable

same_answer : (answer : Result (List Entry) AclFault) (first second : List Entry) → answer ≡ Ok first → answer ≡ Ok second → first ≡ second
same_answer answer first second h k = cc

pub printed_and_set : AreRead → WhatIsPrintedIsSetAgain
printed_and_set are_read acl old kept printable old_fits =
    let is_read : spec_of true (spec_text (entries acl)) ≡ Ok (entries acl) =
    some_read are_read (entries acl) refl (is_a_spec acl.access acl.default kept.access kept.default) printable in (
      is_read,
      λ own h.
          let is : entries acl ≡ own = same_answer (spec_of true (spec_text (entries acl))) (entries acl) own is_read h in
          subst (λ set. acl_change (Set set) Directory old ≡ Ok (with_entries_of acl old)) is (copied acl old kept old_fits),
    )

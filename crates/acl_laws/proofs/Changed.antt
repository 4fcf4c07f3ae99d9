-- What a change that was accepted leaves of the two lists.
use Rattle.std.proofs.Common.{◌≡◌, Bool, true, false, ◌&&◌, cond, Option, Some, None, Ok, Err, refl, sym, ap, ◌∙◌, arith}
use Rattle.std.specs.Option.{option_map_or}
use Rattle.std.specs.Int.Bits.{and_self}
use Rattle.std.proofs.lemmas.Bool.Decides.{nat_tests}
use Rattle.permission_bits.specs.Mode.{group_bits}
use Rattle.permission_bits.specs.Rights.{rights}
use Rattle.permission_bits.specs.declared.rights.Rights.{Rights}
use Rattle.permission_specs.specs.declared.entry.EntryKind.TheVariants.{Mask}
use Rattle.permission_specs.specs.declared.entry.Scope.TheVariants.{Access, Default}
use Rattle.permission_specs.specs.declared.acl_change.AclChange.{AclChange}
use Rattle.permission_specs.specs.declared.acl_change.AclChange.TheVariants.{Set, Modify, Remove, RemoveDefault, Clear}
use Rattle.hdfs_values.specs.declared.fault.AclFault.{AclFault}
use Rattle.file_states.specs.declared.kind.ObjectKind.{ObjectKind}
use Rattle.file_states.specs.declared.kind.ObjectKind.TheVariants.{File, Directory}
use Rattle.refusals.specs.declared.refusal.Refusal.TheVariants.{TooManyEntries}
use Rattle.acl_entries.specs.Acl.{Acl, EntryList, base_entries, fits_in_scope, has_named, intersection}
use Rattle.partial_acl.specs.AclChange.{access_after, access_where, acl_after, acl_change, after_addition, after_removal, all_of, as_kept, base_rights, default_after, default_left, default_where, first_acl_fault, has_spec, no_entries, spec_in, touches, unless_fault}
use Rattle.partial_acl.proofs.Completing.{empty_is}
use Rattle.acl_laws.specs.Laws.{ClearedListsKeepTheirBases, EmptyingDefaultListsLeavesAccess, ListsThatAreNotNamedStay, ModesLeaveTheRest, StickyBitsStay}

accepted : (fault : Option AclFault) (after later : Acl) → unless_fault fault after ≡ Ok later → after ≡ later
accepted (Some fault) after later h = cc
accepted None after later h = by (fits_in_scope after.access && option_map_or fits_in_scope after.default true) h
  where
    by : (b : Bool) → cond b (Ok after) (Err TooManyEntries) ≡ Ok later → after ≡ later
    by true k = cc
    by false k = cc

pub made_is : (change : AclChange) (kind : ObjectKind) (acl later : Acl) → acl_change change kind acl ≡ Ok later → later ≡ acl_after change acl
made_is change kind acl later h = sym (accepted (first_acl_fault change kind acl) (acl_after change acl) later h)

-- ---- a list as it is kept has its named entries

pub users_kept : (list : EntryList) → (as_kept list).users ≡ list.users
users_kept list = by (has_named list) refl
  where
    by : (b : Bool) → has_named list ≡ b → (cond b list (base_entries list.user (option_map_or (intersection list.group) list.mask list.group) list.other)).users ≡ list.users
    by true h = refl
    by false h = sym (empty_is list.users (grind (arith, nat_tests)))

pub groups_kept : (list : EntryList) → (as_kept list).groups ≡ list.groups
groups_kept list = by (has_named list) refl
  where
    by : (b : Bool) → has_named list ≡ b → (cond b list (base_entries list.user (option_map_or (intersection list.group) list.mask list.group) list.other)).groups ≡ list.groups
    by true h = refl
    by false h = sym (empty_is list.groups (grind (arith, nat_tests)))

-- ---- what stays

pub sticky_stays : StickyBitsStay
sticky_stays change kind acl later h = ap (λ own. own.sticky) (made_is change kind acl later h)

access_stays : (change : AclChange) (old : EntryList) → has_spec change ≡ true → touches Access (spec_in change) ≡ false → access_after change old ≡ old
access_stays (Set spec) old h k = ap (λ b. access_where b (base_rights Access Mask spec) old (after_addition Access spec no_entries)) k
access_stays (Modify spec) old h k = ap (λ b. access_where b (base_rights Access Mask spec) old (after_addition Access spec (all_of old))) k
access_stays (Remove spec) old h k = ap (λ b. access_where b None old (after_removal Access spec (all_of old))) k
access_stays RemoveDefault old h k = cc
access_stays Clear old h k = cc

default_stays : (change : AclChange) (access : EntryList) (old : Option EntryList) → has_spec change ≡ true → touches Default (spec_in change) ≡ false → default_after change access old ≡ old
default_stays (Set spec) access old h k = ap (λ b. default_where b (base_rights Default Mask spec) old access (after_addition Default spec no_entries)) k
default_stays (Modify spec) access old h k = ap (λ b. default_where b (base_rights Default Mask spec) old access (after_addition Default spec (option_map_or all_of old no_entries))) k
default_stays (Remove spec) access old h k = ap (λ b. default_left b old access (after_removal Default spec (option_map_or all_of old no_entries))) k
default_stays RemoveDefault access old h k = cc
default_stays Clear access old h k = cc

pub lists_stay : ListsThatAreNotNamedStay
lists_stay change kind acl later h done =
    let is = made_is change kind acl later done in (
      λ k. ap (λ own. own.access) is ∙ access_stays change acl.access h k,
      λ k. ap (λ own. own.default) is ∙ default_stays change (access_after change acl.access) acl.default h k,
    )

-- no fault is found in a change that names nothing
no_fault : (kind : ObjectKind) (acl : Acl) → first_acl_fault RemoveDefault kind acl ≡ None
no_fault File acl = refl
no_fault Directory acl = refl

pub emptied_alone : EmptyingDefaultListsLeavesAccess
emptied_alone kind acl fits =
    ap (λ fault. unless_fault fault (acl_after RemoveDefault acl)) (no_fault kind acl) ∙ ap (λ b. cond (b && true) (Ok (acl_after RemoveDefault acl)) (Err TooManyEntries)) fits

alone : (group : Rights) → intersection group group ≡ group
alone group = ap rights (and_self group.0)

pub bases_kept : ClearedListsKeepTheirBases
bases_kept kind acl later done =
    let is = made_is Clear kind acl later done in
    (ap (λ own. own.access.user) is, ap (λ own. own.access.group) is ∙ alone acl.access.group, ap (λ own. own.access.other) is)

pub modes_leave : ModesLeaveTheRest
modes_leave mode kind acl = (refl, refl, refl, λ h. ap (λ b. cond b acl.access.group (rights (group_bits mode))) h)

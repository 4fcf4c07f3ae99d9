-- A change as a whole: its faults, and that its lists make an access control list again.
use Rattle.std.proofs.Common.{◌≡◌, ◌<◌, Bool, true, false, ◌&&◌, cond, Option, Some, None, Result, Ok, Err, refl, sym, ap, subst, ◌∙◌}
use Rattle.std.specs.Option.{option_map_or, is_some, is_none}
use Rattle.permission_specs.specs.declared.entry.Scope.TheVariants.{Access, Default}
use Rattle.permission_specs.specs.declared.entry.EntryKind.TheVariants.{Mask}
use Rattle.permission_bits.specs.declared.rights.Rights.{Rights}
use Rattle.permission_specs.specs.declared.acl_change.AclChange.{AclChange}
use Rattle.permission_specs.specs.declared.acl_change.AclChange.TheVariants.{Set, Modify, Remove, RemoveDefault, Clear}
use Rattle.hdfs_values.specs.declared.fault.AclFault.{AclFault}
use Rattle.file_states.specs.declared.kind.ObjectKind.{ObjectKind}
use Rattle.refusals.specs.declared.refusal.Refusal.{Refusal}
use Rattle.refusals.specs.declared.refusal.Refusal.TheVariants.{BadAcl, TooManyEntries}
use Rattle.acl_entries.specs.Acl.{Acl, EntryList, IsEntryList, IsAcl, base_entries, intersection, has_named, fits_in_scope, is_access_list}
use Rattle.partial_acl.specs.AclChange.{PartialList, completed_list, as_kept, touches, base_rights, all_of, no_entries, has_no_entry, after_addition, after_removal, access_where, access_after, default_where, default_after, acl_after, first_acl_fault, unless_fault, acl_change}
use Rattle.partial_acl.specs.Answers.{Changes, IfChangeRefused, Makes, MakesAny, named_count}
use Rattle.default_acl.specs.Forms.{MakesChanged}
use Rattle.partial_acl.specs.declared.fault.AclChangeFault.{AclChangeFault}
use Rattle.partial_acl.specs.declared.fault.AclChangeFault.TheVariants.{Refused, OutOfMemory}
use Rattle.partial_acl.proofs.Tests.{both, and, and_false}
use Rattle.partial_acl.proofs.Completing.{good, too_many, too_many_kept}

-- ---- too many named entries

pub overfull : (fault : AclChangeFault) (named : Option Rights) (other : EntryList) (list : PartialList)
    → IfChangeRefused {T = PartialList} (Err fault) (λ refusal. (refusal ≡ TooManyEntries) × (32 < named_count list)) → MakesAny (Err fault) (Some (completed_list named other list))
overfull (Refused refusal) named other list h = (h.0, too_many named other list h.1)
overfull OutOfMemory named other list h = tt

pub overfull_kept : (fault : AclChangeFault) (named : Option Rights) (other : EntryList) (list : PartialList)
    → IfChangeRefused {T = PartialList} (Err fault) (λ refusal. (refusal ≡ TooManyEntries) × (32 < named_count list)) → Makes (Err fault) (as_kept (completed_list named other list))
overfull_kept (Refused refusal) named other list h = (h.0, too_many_kept named other list h.1)
overfull_kept OutOfMemory named other list h = tt

-- ---- masks stand where they have to

pub kept_masked : (list : EntryList) → is_some list.mask ≡ true → is_access_list (as_kept list) ≡ true
kept_masked list h = by (has_named list) refl
  where
    by : (b : Bool) → has_named list ≡ b → is_access_list (cond b list (base_entries list.user (option_map_or (intersection list.group) list.mask list.group) list.other)) ≡ true
    by true k = ap (λ c. cond c (is_some list.mask) (is_none list.mask)) k ∙ h
    by false k = refl

access_masked_where : (b : Bool) (named : Option Rights) (old : EntryList) (list : PartialList) → is_access_list old ≡ true → is_access_list (access_where b named old list) ≡ true
access_masked_where true named old list h = kept_masked (completed_list named old list) refl
access_masked_where false named old list h = h

access_masked : (change : AclChange) (old : EntryList) → is_access_list old ≡ true → is_access_list (access_after change old) ≡ true
access_masked (Set spec) old h = access_masked_where (touches Access spec) (base_rights Access Mask spec) old (after_addition Access spec no_entries) h
access_masked (Modify spec) old h = access_masked_where (touches Access spec) (base_rights Access Mask spec) old (after_addition Access spec (all_of old)) h
access_masked (Remove spec) old h = access_masked_where (touches Access spec) None old (after_removal Access spec (all_of old)) h
access_masked RemoveDefault old h = h
access_masked Clear old h = kept_masked (completed_list None old no_entries) refl

abbrev has_mask : Option EntryList → Bool
has_mask default = option_map_or (λ list. is_some list.mask) default true

default_masked_where : (b : Bool) (named : Option Rights) (old : Option EntryList) (access : EntryList) (list : PartialList) → has_mask old ≡ true → has_mask (default_where b named old access list) ≡ true
default_masked_where true named old access list h = refl
default_masked_where false named old access list h = h

default_masked_left : (a b : Bool) (old : Option EntryList) (access : EntryList) (list : PartialList) → has_mask old ≡ true → has_mask (cond a None (default_where b None old access list)) ≡ true
default_masked_left true b old access list h = refl
default_masked_left false b old access list h = default_masked_where b None old access list h

default_masked : (change : AclChange) (access : EntryList) (old : Option EntryList) → has_mask old ≡ true → has_mask (default_after change access old) ≡ true
default_masked (Set spec) access old h = default_masked_where (touches Default spec) (base_rights Default Mask spec) old access (after_addition Default spec no_entries) h
default_masked (Modify spec) access old h =
    default_masked_where (touches Default spec) (base_rights Default Mask spec) old access (after_addition Default spec (option_map_or all_of old no_entries)) h
default_masked (Remove spec) access old h =
    let list = after_removal Default spec (option_map_or all_of old no_entries) in
    default_masked_left (touches Default spec && has_no_entry list) (touches Default spec) old access list h
default_masked RemoveDefault access old h = refl
default_masked Clear access old h = refl

pub masked_where_named : (list : EntryList) → is_access_list list ≡ true → has_named list ≡ true → is_some list.mask ≡ true
masked_where_named list h k = ap (λ b. cond b (is_some list.mask) (is_none list.mask)) (sym k) ∙ h

pub acl_good : (change : AclChange) (acl : Acl) → IsAcl acl → IsAcl (acl_after change acl)
acl_good change acl h =
    let parts = both (is_access_list acl.access) (has_mask acl.default) h in
    and _ _ (access_masked change acl.access parts.0) (default_masked change (access_after change acl.access) acl.default parts.1)

-- ---- what is answered

-- a list that isn't changed stays
pub unchanged : (fault : AclChangeFault) (due : Result Acl Refusal) (acl : Acl) → MakesChanged (Err fault) due → Changes {T = Unit} (Err fault) due acl acl
unchanged (Refused refusal) due acl h = (h, refl)
unchanged OutOfMemory due acl h = refl

module _ (change : AclChange) (kind : ObjectKind) (acl : Acl) where
  pub faulted : (fault : AclFault) → Some fault ≡ first_acl_fault change kind acl → acl_change change kind acl ≡ Err (BadAcl fault)
  faulted fault h = ap (λ found. unless_fault found (acl_after change acl)) (sym h)

  abbrev due_access : EntryList
  due_access = access_after change acl.access

  abbrev due_default : Option EntryList
  due_default = default_after change due_access acl.default

  answered : None ≡ first_acl_fault change kind acl → (a b : Bool) → fits_in_scope due_access ≡ a → option_map_or fits_in_scope due_default true ≡ b
      → acl_change change kind acl ≡ cond (a && b) (Ok (acl_after change acl)) (Err TooManyEntries)
  answered none a b h k = ap (λ found. unless_fault found (acl_after change acl)) (sym none)
      ∙ ap (λ c. cond (c && option_map_or fits_in_scope due_default true) (Ok (acl_after change acl)) (Err TooManyEntries)) h
      ∙ ap (λ c. cond (a && c) (Ok (acl_after change acl)) (Err TooManyEntries)) k

  pub refused_by_access : (fault : AclChangeFault) → None ≡ first_acl_fault change kind acl → Makes (Err fault) due_access → MakesChanged (Err fault) (acl_change change kind acl)
  refused_by_access (Refused refusal) none h = answered none false (option_map_or fits_in_scope due_default true) h.1 refl ∙ ap (λ r. Err r) (sym h.0)
  refused_by_access OutOfMemory none h = tt

  module _ (access : EntryList) (is : access ≡ due_access) where
    pub refused_by_default : (fault : AclChangeFault) → None ≡ first_acl_fault change kind acl → MakesAny (Err fault) (default_after change access acl.default)
        → MakesChanged (Err fault) (acl_change change kind acl)
    refused_by_default (Refused refusal) none h =
        let overfull_default : option_map_or fits_in_scope due_default true ≡ false = ap (λ list. option_map_or fits_in_scope (default_after change list acl.default) true) (sym is) ∙ h.1 in
        answered none (fits_in_scope due_access) false refl overfull_default
        ∙ ap (λ c. cond c (Ok (acl_after change acl)) (Err TooManyEntries)) (and_false (fits_in_scope due_access) false refl) ∙ ap (λ r. Err r) (sym h.0)
    refused_by_default OutOfMemory none h = tt

    module _ (default : Option EntryList) (is_too : default ≡ default_after change access acl.default) where
      abbrev made : Acl
      made = record { sticky = acl.sticky; access = access; default = default }

      made_is : made ≡ acl_after change acl
      made_is = ap (λ list. record { sticky = acl.sticky; access = access; default = list }) is_too
          ∙ ap (λ list. record { sticky = acl.sticky; access = list; default = default_after change list acl.default }) is

      pub made_good : IsAcl acl → IsAcl made
      made_good h = subst IsAcl (sym made_is) (acl_good change acl h)

      pub done : None ≡ first_acl_fault change kind acl → IsEntryList due_access → option_map_or fits_in_scope (default_after change access acl.default) true ≡ true
          → acl_change change kind acl ≡ Ok made
      done none entries default_fits =
          answered none true true (good due_access entries).list_fits (ap (λ list. option_map_or fits_in_scope (default_after change list acl.default) true) (sym is) ∙ default_fits)
          ∙ ap (λ list. Ok list) (sym made_is)

-- What is left of a list, and what a spec adds to it, can stand in an access control list.
use Rattle.std.proofs.Common.{◌≡◌, ℕ, ◌<◌, ◌%◌, Bool, true, false, not, List, [], ◌∷◌, cond, Option, Some, None, refl, sym, ap, subst, ◌∙◌, arith}
use Rattle.std.specs.Prelude.{filter}
use Rattle.std.specs.List.{list_any, find, filter_map, cons_option}
use Rattle.std.specs.Option.{option_map_or, option_map, option_or}
use Rattle.std.proofs.lemmas.Bool.Decides.{nat_tests}
use Rattle.hdfs_values.specs.Text.{same}
use Rattle.permission_bits.specs.declared.rights.Rights.{Rights}
use Rattle.permission_specs.specs.declared.entry.Entry.{Entry}
use Rattle.permission_specs.specs.declared.entry.Scope.{Scope}
use Rattle.permission_specs.specs.declared.entry.EntryKind.{EntryKind}
use Rattle.permission_specs.specs.declared.entry.EntryKind.TheVariants.{User, Group, Other}
use Rattle.acl_entries.specs.declared.entry_list.NamedEntry.{NamedEntry}
use Rattle.acl_entries.specs.Acl.{EntryList, IsEntryList, grant_rights, are_rights, fits_in_scope}
use Rattle.partial_acl.specs.AclChange.{PartialList, all_of, after_addition, after_removal, base_rights, completed_list, default_left, has_no_entry, rights_granted, has_base, is_base_of, is_entry_for, named_in, unless, with_name}
use Rattle.partial_acl.specs.Answers.{IsPartialList}
use Rattle.partial_acl.proofs.Tests.{and, all_filter}
use Rattle.partial_acl.proofs.NamedLists.{with_each_ascends, with_each_grants, filter_ascends}
use Rattle.partial_acl.proofs.Completing.{Good, good, GoodParts, good_parts, are_good_parts}

granted_good : (entry : Entry) → are_rights (rights_granted entry) ≡ true
granted_good entry = let below : entry.rights.0 % 8 < 8 = omega arith in grind (arith, nat_tests)

pub given_good : (scope : Scope) (kind : EntryKind) (spec : List Entry) → option_map_or are_rights (base_rights scope kind spec) true ≡ true
given_good scope kind spec = by (find (is_base_of scope kind) spec)
  where
    by : (entry : Option Entry) → option_map_or are_rights (option_map rights_granted entry) true ≡ true
    by None = refl
    by (Some entry) = granted_good entry

named_good : (scope : Scope) (kind : EntryKind) (spec : List Entry) → grant_rights (named_in scope kind spec) ≡ true
named_good scope kind [] = refl
named_good scope kind (e ∷ es) = by (is_entry_for scope kind e) (named_good scope kind es)
  where
    named : (name : Option (List ℕ)) → grant_rights (named_in scope kind es) ≡ true
        → grant_rights (cons_option (option_map (λ own. record { name = own; rights = rights_granted e }) name) (named_in scope kind es)) ≡ true
    named None others = others
    named (Some name) others = and _ _ (granted_good e) others

    by : (b : Bool) → grant_rights (named_in scope kind es) ≡ true
        → grant_rights (filter_map with_name (cond b (e ∷ filter (is_entry_for scope kind) es) (filter (is_entry_for scope kind) es))) ≡ true
    by true others = named e.name others
    by false others = others

either_good : (a b : Option Rights) → option_map_or are_rights a true ≡ true → option_map_or are_rights b true ≡ true → option_map_or are_rights (option_or a b) true ≡ true
either_good None b h k = k
either_good (Some a) b h k = h

unless_good : (b : Bool) (a : Option Rights) → option_map_or are_rights a true ≡ true → option_map_or are_rights (unless b a) true ≡ true
unless_good true a h = refl
unless_good false a h = h

pub added_good : (scope : Scope) (spec : List Entry) (list : PartialList) → IsPartialList list → IsPartialList (after_addition scope spec list)
added_good scope spec list h =
    let parts : GoodParts list = good_parts list h in
    are_good_parts (after_addition scope spec list) (record {
      users_ascend = with_each_ascends list.users (named_in scope User spec) parts.users_ascend;
      groups_ascend = with_each_ascends list.groups (named_in scope Group spec) parts.groups_ascend;
      users_grant = with_each_grants list.users (named_in scope User spec) (named_good scope User spec) parts.users_grant;
      groups_grant = with_each_grants list.groups (named_in scope Group spec) (named_good scope Group spec) parts.groups_grant;
      user = either_good (base_rights scope User spec) list.user (given_good scope User spec) parts.user;
      group = either_good (base_rights scope Group spec) list.group (given_good scope Group spec) parts.group;
      other = either_good (base_rights scope Other spec) list.other (given_good scope Other spec) parts.other;
    })

pub removed_good : (scope : Scope) (spec : List Entry) (list : PartialList) → IsPartialList list → IsPartialList (after_removal scope spec list)
removed_good scope spec list h =
    let parts : GoodParts list = good_parts list h in
    let stays : List NamedEntry → NamedEntry → Bool = λ others entry. not (list_any (λ other. same other.name entry.name) others) in
    are_good_parts (after_removal scope spec list) (record {
      users_ascend = filter_ascends (stays (named_in scope User spec)) list.users parts.users_ascend;
      groups_ascend = filter_ascends (stays (named_in scope Group spec)) list.groups parts.groups_ascend;
      users_grant = all_filter (λ entry. are_rights entry.rights) (stays (named_in scope User spec)) list.users parts.users_grant;
      groups_grant = all_filter (λ entry. are_rights entry.rights) (stays (named_in scope Group spec)) list.groups parts.groups_grant;
      user = unless_good (has_base scope User spec) list.user parts.user;
      group = unless_good (has_base scope Group spec) list.group parts.group;
      other = unless_good (has_base scope Other spec) list.other parts.other;
    })

pub all_good : (list : EntryList) → IsEntryList list → IsPartialList (all_of list)
all_good list h =
    let parts : Good list = good list h in
    are_good_parts (all_of list) (record {
      users_ascend = parts.users_ascend;
      groups_ascend = parts.groups_ascend;
      users_grant = parts.users_grant;
      groups_grant = parts.groups_grant;
      user = parts.user;
      group = parts.group;
      other = parts.other;
    })

-- where an entry stays, the default list is what those that stay are completed to
pub some_left : (old access made : EntryList) (due list : PartialList) → list ≡ due → has_no_entry list ≡ false
    → (made ≡ completed_list None access list) × IsEntryList (completed_list None access list)
    → (Some made ≡ default_left true (Some old) access due) × (option_map_or fits_in_scope (default_left true (Some old) access due) true ≡ true)
some_left old access made due list is some done =
    let stays : default_left true (Some old) access list ≡ Some (completed_list None access list) = ap (λ empty. cond empty None (Some (completed_list None access list))) some in
    subst (λ (l : PartialList). (Some made ≡ default_left true (Some old) access l) × (option_map_or fits_in_scope (default_left true (Some old) access l) true ≡ true)) is
    (ap (λ l. Some l) done.0 ∙ sym stays, ap (λ l. option_map_or fits_in_scope l true) stays ∙ (good (completed_list None access list) done.1).list_fits)

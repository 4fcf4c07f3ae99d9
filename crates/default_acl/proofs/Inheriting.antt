-- What a default list leaves to what is made below it.
use Rattle.std.proofs.Common.{◌≡◌, ℕ, Bool, List, true, Option, Some, None, refl, ◌∙◌}
use Rattle.std.specs.Option.{option_map, option_map_or, is_some}
use Rattle.permission_bits.specs.Mode.{user_bits, group_bits, other_bits}
use Rattle.permission_bits.specs.Rights.{rights}
use Rattle.permission_bits.specs.declared.rights.Rights.{Rights}
use Rattle.file_states.specs.declared.kind.ObjectKind.{ObjectKind}
use Rattle.file_states.specs.declared.kind.ObjectKind.TheVariants.{File, Directory}
use Rattle.acl_entries.specs.declared.entry_list.Bases.{Bases}
use Rattle.acl_entries.specs.declared.entry_list.NamedEntry.{NamedEntry}
use Rattle.acl_entries.specs.Kept.{list_of_parts}
use Rattle.acl_entries.specs.Acl.{EntryList, IsEntryList, IsAcl, are_rights, intersection}
use Rattle.partial_acl.specs.AclChange.{as_kept}
use Rattle.default_acl.specs.Inheritance.{list_cut_to, default_passed_on}
use Rattle.partial_acl.proofs.Tests.{and}
use Rattle.partial_acl.proofs.Completing.{Good, good, common_good, remasked_good}
use Rattle.default_acl.proofs.Changing.{kept_masked}

mask_stays : (mask : Option Rights) (granted : Rights) → is_some (option_map (λ own. intersection own granted) mask) ≡ is_some mask
mask_stays None granted = refl
mask_stays (Some mask) granted = refl

mask_good : (mask : Option Rights) (granted : Rights) → option_map_or are_rights mask true ≡ true → option_map_or are_rights (option_map (λ own. intersection own granted) mask) true ≡ true
mask_good None granted h = refl
mask_good (Some mask) granted h = common_good mask granted h

pub cut_good : (mode : ℕ) (list : EntryList) → IsEntryList list → IsEntryList (list_cut_to mode list)
cut_good mode list h =
    let parts : Good list = good list h in
    remasked_good list (intersection list.user (rights (user_bits mode))) (intersection list.other (rights (other_bits mode))) (option_map (λ mask. intersection mask (rights (group_bits mode))) list.mask)
    h (mask_stays list.mask (rights (group_bits mode)))
    (common_good list.user (rights (user_bits mode)) parts.user) (mask_good list.mask (rights (group_bits mode)) parts.mask) (common_good list.other (rights (other_bits mode)) parts.other)

-- the parts that the code makes
pub cut_from : (mode : ℕ) (list : EntryList) (bases : Bases) (mask : Option Rights) (users groups : List NamedEntry) → IsEntryList list
    → bases.user ≡ intersection list.user (rights (user_bits mode)) → bases.group ≡ list.group → bases.other ≡ intersection list.other (rights (other_bits mode))
    → mask ≡ option_map (λ own. intersection own (rights (group_bits mode))) list.mask → users ≡ list.users → groups ≡ list.groups
    → IsEntryList (list_of_parts bases mask users groups)
cut_from mode list bases mask users groups good_list user group other is us gs = rw (user, group, other, is, us, gs) (cut_good mode list good_list)

pub inherited_good : (mode : ℕ) (kind : ObjectKind) (sticky : Bool) (list : EntryList) → is_some list.mask ≡ true
    → IsAcl (record { sticky = sticky; access = as_kept (list_cut_to mode list); default = default_passed_on kind list })
inherited_good mode kind sticky list h = and _ _ (kept_masked (list_cut_to mode list) (mask_stays list.mask (rights (group_bits mode)) ∙ h)) (by kind)
  where
    by : (kind : ObjectKind) → option_map_or (λ list. is_some list.mask) (default_passed_on kind list) true ≡ true
    by File = refl
    by Directory = h

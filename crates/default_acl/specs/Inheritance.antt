-- The access control list of what is made in a directory with a mode: the directory's default list, cut to the mode. The sticky bit
-- is the mode's.
-- (HDFS Permissions Guide, "ACLs (Access Control Lists)": default ACLs.)
use Rattle.std.specs.Prelude.{ℕ, Option, Some, None}
use Rattle.std.specs.Option.{option_map}
use Rattle.permission_bits.specs.Mode.{user_bits, group_bits, other_bits}
use Rattle.permission_bits.specs.Rights.{rights}
use Rattle.file_states.specs.declared.kind.ObjectKind.{ObjectKind}
use Rattle.file_states.specs.declared.kind.ObjectKind.TheVariants.{File, Directory}
use Rattle.acl_entries.specs.Acl.{Acl, EntryList, intersection, acl_of_mode, has_sticky_bit}
use Rattle.partial_acl.specs.AclChange.{as_kept}

-- owner, mask and others no more than the mode grants them; named entries and group as they stand
abbrev pub list_cut_to : ℕ → EntryList → EntryList
list_cut_to mode list = record list {
  user = intersection list.user (rights (user_bits mode));
  mask = option_map (λ mask. intersection mask (rights (group_bits mode))) list.mask;
  other = intersection list.other (rights (other_bits mode));
}

-- a directory takes the default list on
abbrev pub default_passed_on : ObjectKind → EntryList → Option EntryList
default_passed_on File list = None
default_passed_on Directory list = Some list

abbrev pub acl_from_default : Option EntryList → ℕ → ObjectKind → Acl
acl_from_default None mode kind = acl_of_mode mode kind
acl_from_default (Some list) mode kind = record { sticky = has_sticky_bit mode kind; access = as_kept (list_cut_to mode list); default = default_passed_on kind list }

abbrev pub inherited_acl : Acl → ℕ → ObjectKind → Acl
inherited_acl parent mode kind = acl_from_default parent.default mode kind

-- How the types of this crate are seen.
use Rattle.std.specs.Prelude.{ℕ, Bool, List, [], Option, None, Some, IsTrue}
use Rattle.std.specs.Option.{option_copied}
use Rattle.acl_entries.specs.declared.entry_list.EntryList.TheInside as list
use Rattle.acl_entries.specs.declared.entry_list.Held.{Held}
use Rattle.acl_entries.specs.declared.entry_list.Held.TheVariants.{Alone, Named}
use Rattle.acl_entries.specs.declared.entry_list.Unnamed.{Unnamed}
use Rattle.acl_entries.specs.declared.acl.Beside.{Beside}
use Rattle.acl_entries.specs.declared.acl.Beside.TheVariants.{NoDefault, Default}
use Rattle.permission_bits.specs.Mode.{user_bits, group_bits, other_bits}
use Rattle.permission_bits.specs.Rights.{rights}
use Rattle.permission_specs.specs.declared.entry.Scope.TheVariants.{Access}
use Rattle.permission_bits.specs.declared.rights.Rights.{Rights}
use Rattle.acl_entries.specs.declared.acl.Acl.TheInside as acl
use Rattle.acl_entries.specs.declared.deciding_entry.Chosen.TheInside as chosen
use Rattle.acl_entries.specs.declared.entry_list.Bases.{Bases}
use Rattle.acl_entries.specs.declared.entry_list.NamedEntry.{NamedEntry}
use Rattle.acl_entries.specs.Acl.{Acl, EntryList, are_bases}
use Rattle.acl_entries.specs.JudgedEntry.{Chosen}

abbrev pub unnamed_of : Held → Unnamed
unnamed_of (Alone unnamed) = unnamed
unnamed_of (Named unnamed named) = unnamed

abbrev pub users_of : Held → List NamedEntry
users_of (Alone unnamed) = []
users_of (Named unnamed named) = named.value.users.items

abbrev pub groups_of : Held → List NamedEntry
groups_of (Alone unnamed) = []
groups_of (Named unnamed named) = named.value.groups.items

abbrev pub entry_list_of : list.Inside → EntryList
entry_list_of list = record {
  user = (unnamed_of list.held).bases.user;
  users = users_of list.held;
  group = (unnamed_of list.held).bases.group;
  groups = groups_of list.held;
  mask = (unnamed_of list.held).mask;
  other = (unnamed_of list.held).bases.other;
}

abbrev pub list_of_parts : Bases → Option Rights → List NamedEntry → List NamedEntry → EntryList
list_of_parts bases mask users groups = record { user = bases.user; users = users; group = bases.group; groups = groups; mask = mask; other = bases.other }

abbrev pub bases_of_mode : ℕ → Bases
bases_of_mode mode = record { user = rights (user_bits mode); group = rights (group_bits mode); other = rights (other_bits mode) }

abbrev pub is_sticky_beside : Beside → Bool
is_sticky_beside (NoDefault sticky) = sticky
is_sticky_beside (Default sticky list) = sticky

abbrev pub default_beside : Beside → Option EntryList
default_beside (NoDefault sticky) = None
default_beside (Default sticky list) = Some list.value

abbrev pub acl_of : acl.Inside → Acl
acl_of acl = record { sticky = is_sticky_beside acl.beside; access = acl.access; default = default_beside acl.beside }

abbrev pub judgement_of : chosen.Inside → Chosen
judgement_of chosen = record {
  entry = record { scope = Access; kind = chosen.kind; name = option_copied chosen.name; rights = chosen.rights };
  mask = chosen.mask;
  granted = chosen.granted;
}

abbrev pub AreBases : Bases → Type 0
AreBases bases = IsTrue (are_bases bases.user bases.group bases.other)

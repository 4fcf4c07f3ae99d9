-- How the types of this crate are seen.
use Rattle.partial_acl.specs.declared.partial.PartialList.TheInside as partial
use Rattle.partial_acl.specs.AclChange.{PartialList}

abbrev pub partial_list_of : partial.Inside → PartialList
partial_list_of list = record { user = list.user; users = list.users.items; group = list.group; groups = list.groups.items; other = list.other }

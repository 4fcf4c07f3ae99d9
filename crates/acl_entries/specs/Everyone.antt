-- Lists that grant everybody alike what is needed.
-- (HDFS Permissions Guide, "ACLs (Access Control Lists)".)
use Rattle.std.specs.Prelude.{Bool, ◌&&◌, not}
use Rattle.permission_bits.specs.Rights.{covers}
use Rattle.permission_bits.specs.declared.rights.Rights.{Rights}
use Rattle.acl_entries.specs.Acl.{EntryList, has_named}
use Rattle.acl_entries.specs.JudgedEntry.{effective_rights}

-- nobody is named, and the owner, the owning group and all others have the rights
abbrev pub grants_all : EntryList → Rights → Bool
grants_all list need =
    not (has_named list)
    && (covers list.user.0 need.0 && (covers (effective_rights list.mask list.group).0 need.0 && covers list.other.0 need.0))

-- What a change leaves of what a file has beside what a directory has.
use Rattle.std.specs.Prelude.{ℕ}
use Rattle.namespace_rows.specs.declared.file_row.FileRow.{FileRow}
use Rattle.namespace_rows.specs.declared.row.Change.{Change}
use Rattle.namespace_rows.specs.declared.row.Change.TheVariants as change
use Rattle.namespace_rows.specs.Files.{with_state, with_file_replication, committed_at, completed_at, without_last, recovered_at}

-- an owner, a group or a list isn't the file's own
abbrev pub file_changed : Change → FileRow → FileRow
file_changed (change.Owner owner group) file = file
file_changed (change.List acl) file = file
file_changed (change.State state) file = with_state state file
file_changed (change.Replication replication) file = with_file_replication replication file
file_changed (change.Committed block bytes) file = committed_at block bytes file
file_changed (change.Completed block bytes) file = completed_at block bytes file
file_changed change.LastTaken file = without_last file
file_changed (change.Recovered block bytes) file = recovered_at block bytes file

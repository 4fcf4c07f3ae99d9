-- What a tree keeps: its rows are a namespace, and each path is within the limits.
use Rattle.std.specs.Prelude.{List, [], IsTrue}
use Rattle.hdfs_types.specs.declared.op.Op.{Op}
use Rattle.hdfs_types.specs.declared.op.Op.TheVariants.{Delete}
use Rattle.namespace_rows.specs.declared.row.Row.{Row}
use Rattle.namespace_rows.specs.Namespace.{IsNamespace}
use Rattle.namespace_rows.specs.Changes.{are_paths, rows_under}
pub use Rattle.inode_files.specs.Branch.{branch_at}
pub use Rattle.inode_visits.specs.Holding.{has_files}

-- the rows that an operation deletes
abbrev pub rows_deleted : Op → List Row → List Row
rows_deleted (Delete path recursive) rows = rows_under path rows
rows_deleted _ rows = []

pub record IsTree (rows : List Row) : Type 0 where
  pub namespace : IsNamespace rows
  pub paths : IsTrue (are_paths rows)

-- How the types of this crate are seen.
use Rattle.namespace_rows.specs.declared.row.Row.{Row}
use Rattle.inode_nodes.specs.Node.{row_of}
use Rattle.inode_tree.specs.Tree.{branch_at}
use Rattle.perm_walk.specs.declared.component.Component.TheInside.{Inside}

abbrev pub row_at_top : Inside → Row
row_at_top component = row_of component.path.now (branch_at component.inode).top

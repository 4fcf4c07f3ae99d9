-- How the types of this crate are seen.
use Rattle.std.specs.Prelude.{List, [], Option, Some, None}
use Rattle.std.specs.List.Sorted.{IsStrictlySortedBy}
use Rattle.std.specs.Map.{keys_of}
use Rattle.hdfs_values.specs.Text.{text_cmp}
use Rattle.file_states.specs.declared.kind.ObjectKind.{ObjectKind}
use Rattle.file_states.specs.declared.kind.ObjectKind.TheVariants as kind
use Rattle.namespace_rows.specs.declared.file_row.FileRow.{FileRow}
use Rattle.namespace_rows.specs.declared.row.Row.{Row}
use Rattle.inode_nodes.specs.Node.{Node, flatten}
use Rattle.file_table.specs.Place.{placed}
use Rattle.inode_nodes.specs.declared.node.Held.{Held}
use Rattle.inode_nodes.specs.declared.node.Held.TheVariants.{File, Directory}
use Rattle.inode_nodes.specs.declared.node.Node.TheInside.{Inside}

abbrev pub kind_of : Held → ObjectKind
kind_of (File place) = kind.File
kind_of (Directory map) = kind.Directory

abbrev pub file_of : Held → Option FileRow
file_of (File place) = Some (placed place)
file_of (Directory map) = None

abbrev pub rows_in : Held → List Row
rows_in (File place) = []
rows_in (Directory map) = flatten map.entries

abbrev pub branch_of : Inside → Node
branch_of node = record { top = record { kind = kind_of node.held; owner = node.owner; group = node.group; acl = node.acl; file = file_of node.held }; beneath = rows_in node.held }

-- the names of a directory ascend
abbrev pub IsSorted : Held → Type 0
IsSorted (File place) = Unit {0}
IsSorted (Directory map) = IsStrictlySortedBy text_cmp (keys_of map.entries)

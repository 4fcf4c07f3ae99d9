-- A branch of nodes as the namespace sees it, with the table that has what its files have.
use Rattle.slab.specs.Slab.{Slab}
use Rattle.namespace_rows.specs.declared.file_row.FileRow.{FileRow}
use Rattle.inode_nodes.specs.Node.{Top, Node}
use Rattle.file_table.specs.Seen.{file_held, seen_rows}

abbrev pub seen_top : Slab FileRow → Top → Top
seen_top files top = record top { file = file_held files top.file }

abbrev pub seen_branch : Slab FileRow → Node → Node
seen_branch files branch = record { top = seen_top files branch.top; beneath = seen_rows files branch.beneath }

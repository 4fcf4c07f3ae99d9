-- The branch that an inode is the top of, and a file that is edited where it stands.
use Rattle.std.specs.Prelude.{ℕ, List, map, if◌then◌else◌}
use Rattle.file_paths.specs.PathOrder.{same_path}
use Rattle.namespace_rows.specs.declared.file_row.FileRow.{FileRow}
use Rattle.namespace_rows.specs.declared.row.Row.{Row}
use Rattle.namespace_rows.specs.Changes.{file_edited}
use Rattle.inode_nodes.specs.Node.{Node}
use Rattle.inode_visits.specs.SeenNode.{seen_branch}
use Rattle.inode_files.specs.declared.inode.Inode.{Inode}

-- the branch as the namespace sees it
abbrev pub branch_at : Inode → Node
branch_at inode = seen_branch inode.files.now inode.node.now

-- the rows with the file at a path edited
abbrev pub file_rewritten : List (List ℕ) → (FileRow → FileRow) → List Row → List Row
file_rewritten path edit rows = map (λ row. if same_path path row.path then file_edited edit row else row) rows

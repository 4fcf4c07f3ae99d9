-- What a change of one branch leaves of the rows that it is a part of.
use Rattle.std.specs.Prelude.{ℕ, Bool, true, List, [], ◌∷◌, ◌++◌, map, Option}
use Rattle.acl_entries.specs.Acl.{Acl}
use Rattle.namespace_rows.specs.declared.file_row.FileRow.{FileRow}
use Rattle.namespace_rows.specs.declared.row.Change.{Change}
use Rattle.namespace_rows.specs.declared.row.Change.TheVariants as change
use Rattle.namespace_rows.specs.declared.row.Row.{Row}
use Rattle.namespace_rows.specs.Rows.{rows_replaced}
use Rattle.namespace_rows.specs.Namespace.{has_parent}
use Rattle.namespace_rows.specs.Changes.{with_change}
use Rattle.flat_rows.specs.Outcome.{mode_of_new, file_of_new, new_at, new_rows}
use Rattle.inode_nodes.specs.Node.{Top, Node, rows, row_of, top_of, row_placed}
use Rattle.inode_nodes.specs.declared.change.Given.{Given}
use Rattle.inode_nodes.specs.declared.change.Given.TheVariants as given

-- the rows with the branch at the path, and nothing else there
abbrev pub branch_grafted : List (List ℕ) → Node → List Row → List Row
branch_grafted path branch all = rows_replaced path (map (row_placed path) (rows branch)) all

-- of the rows that a directory holds, one is the directory that holds a name beneath these, where it isn't the directory itself
abbrev pub holds_parent : List (List ℕ) → List ℕ → List Row → Bool
holds_parent [] name beneath = true
holds_parent (first ∷ names) name beneath = has_parent (first ∷ (names ++ name ∷ [])) beneath

-- what is made, with what is made at these names beneath it
abbrev pub chain : Acl → List ℕ → List ℕ → ℕ → Option FileRow → List (List ℕ) → List Row
chain above group owner mode file names = let top = new_at above group owner (mode_of_new mode names) (file_of_new file names) [] in top ∷ new_rows top owner mode file names

-- a top with one of its parts changed
abbrev pub changed_top : Change → Top → Top
changed_top change top = top_of (with_change change (row_of [] top))

-- what is given to a node, as a change of its row
abbrev pub change_of : Given → Change
change_of (given.Owners owner group) = change.Owner owner group
change_of (given.List acl) = change.List acl

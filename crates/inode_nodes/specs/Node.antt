-- A branch of the namespace: what stands at its top, and the rows beneath, each with its path from the top on.
use Rattle.std.specs.Prelude.{ℕ, List, [], ◌∷◌, ◌++◌, map, Option, Some, None}
use Rattle.file_states.specs.declared.kind.ObjectKind.{ObjectKind}
use Rattle.acl_entries.specs.Acl.{Acl}
use Rattle.namespace_rows.specs.declared.file_row.FileRow.{FileRow}
use Rattle.namespace_rows.specs.declared.row.Row.{Row}

-- a row without its path
pub record Top : Type 0 where
  pub kind : ObjectKind
  pub owner : List ℕ
  pub group : List ℕ
  pub acl : Acl
  pub file : Option FileRow

pub record Node : Type 0 where
  pub top : Top
  pub beneath : List Row

abbrev pub row_of : List (List ℕ) → Top → Row
row_of path top = record { path = path; kind = top.kind; owner = top.owner; group = top.group; acl = top.acl; file = top.file }

abbrev pub top_of : Row → Top
top_of row = record { kind = row.kind; owner = row.owner; group = row.group; acl = row.acl; file = row.file }

-- the rows of a branch, with its top first
abbrev pub rows : Node → List Row
rows branch = row_of [] branch.top ∷ branch.beneath

abbrev pub rows_or : Option Node → List Row
rows_or None = []
rows_or (Some branch) = rows branch

-- a row of a branch as the namespace sees it, where the branch stands at the path
abbrev pub row_placed : List (List ℕ) → Row → Row
row_placed path row = row_of (path ++ row.path) (top_of row)

-- a row of a branch as the directory that holds it by a name sees it
abbrev pub under : List ℕ → Row → Row
under name row = row_of (name ∷ row.path) (top_of row)

-- what a directory holds, as rows
abbrev pub flatten : List (List ℕ × Node) → List Row
flatten [] = []
flatten (entry ∷ entries) = map (under entry.0) (rows entry.1) ++ flatten entries

-- the same top over other rows
abbrev pub with_rows : Node → List Row → Node
with_rows branch beneath = record { top = branch.top; beneath = beneath }

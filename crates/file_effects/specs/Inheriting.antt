-- What a file takes over from the directory that holds its path: one that is put there with it is the one that a creation makes.
use Rattle.std.specs.Prelude.{◌≡◌, ℕ, true, List, [], ◌∷◌, Some}
use Rattle.file_states.specs.declared.kind.ObjectKind.TheVariants.{File}
use Rattle.namespace_rows.specs.declared.file_row.FileRow.{FileRow}
use Rattle.namespace_rows.specs.declared.row.Row.{Row}
use Rattle.namespace_rows.specs.Namespace.{has_parent}
use Rattle.namespace_rows.specs.Rows.{ancestor, with_sub_tree}
use Rattle.flat_rows.specs.Outcome.{with_new}
use Rattle.file_effects.specs.declared.make.Inherited.{Inherited}

pub record IsInherited (path : List (List ℕ)) (mode : ℕ) (owner : List ℕ) (rows : List Row) (parts : Inherited) : Type 0 where
  pub held : has_parent path rows ≡ true
  pub made : (file : FileRow) → with_sub_tree rows (record { path = path; kind = File; owner = parts.owner; group = parts.group; acl = parts.acl; file = Some file } ∷ []) ≡ with_new path mode (Some file) owner (ancestor path rows) rows

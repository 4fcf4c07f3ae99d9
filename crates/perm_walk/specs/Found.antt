-- What has a path, or the refusal of one that nothing has.
use Rattle.std.specs.Prelude.{◌≡◌, ℕ, List, Some, None}
use Rattle.namespace_rows.specs.declared.row.Row.{Row}
use Rattle.namespace_rows.specs.Rows.{row_at}
use Rattle.flat_rows.specs.Outcome.{refusal_of_missing}
use Rattle.perm_walk.specs.declared.found.Found.{Found}
use Rattle.perm_walk.specs.declared.found.Found.TheVariants.{There, Refused}

pub record IsThere (path : List (List ℕ)) (rows : List Row) (row : Row) : Type 0 where
  pub at : row_at path rows ≡ Some row
  pub free : refusal_of_missing path rows ≡ None

abbrev pub IsFound : List (List ℕ) → List Row → Found → Type 0
IsFound path rows (There row) = IsThere path rows row
IsFound path rows (Refused refusal) = refusal_of_missing path rows ≡ Some refusal

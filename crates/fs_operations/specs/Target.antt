-- Why what has a path can't be moved to another, where that is for the other path's sake: a file stands above it, it is beneath the first, something
-- has it, no directory holds it, or paths would become too long.
-- (HDFS Architecture, "The File System Namespace".)
use Rattle.std.specs.Prelude.{ℕ, not, List, [], ◌∷◌, Option}
use Rattle.file_paths.specs.Path.{is_prefix}
use Rattle.hdfs_types.specs.declared.reply.Refusal.{Refusal}
use Rattle.hdfs_types.specs.declared.reply.Refusal.TheVariants.{UnderItself, NotFound, BadPath}
use Rattle.namespace_rows.specs.declared.row.Row.{Row}
use Rattle.namespace_rows.specs.Rows.{is_none, row_at, directory_of}
use Rattle.namespace_rows.specs.Changes.{are_paths}
use Rattle.flat_rows.specs.Outcome.{first_some, beneath_file, refused_where, something_at, rows_moved}

abbrev pub refusal_of_target : List (List ℕ) → List (List ℕ) → List Row → Option Refusal
refusal_of_target from to rows = first_some (
    beneath_file to rows ∷ refused_where (is_prefix from to) UnderItself ∷ something_at (row_at to rows) ∷ refused_where (is_none (directory_of to rows)) NotFound
    ∷ refused_where (not (are_paths (rows_moved from to rows))) BadPath ∷ [])

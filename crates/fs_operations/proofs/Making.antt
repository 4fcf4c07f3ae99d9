-- What no refusal of a directory to be made tells, and what is made where the path is there, and where it is missing.
use Rattle.std.proofs.Common.{◌≡◌, ℕ, true, false, List, Option, Some, None, refl}
use Rattle.std.specs.Prelude.{is_some}
use Rattle.std.specs.Option.{option_map}
use Rattle.hdfs_types.specs.declared.op.Op.TheVariants.{Mkdirs}
use Rattle.refusals.specs.declared.refusal.Refusal.TheVariants.{NotDirectory}
use Rattle.principals.specs.Users.{Users}
use Rattle.namespace_rows.specs.declared.row.Row.{Row}
use Rattle.namespace_rows.specs.Rows.{ancestor, file_above}
use Rattle.flat_rows.specs.Facts.{Facts}
use Rattle.flat_rows.specs.Outcome.{beneath_file, first_refusal, made_at, with_new}
use Rattle.fs_operations.proofs.Renaming.{neither}

no_file : (o : Option Row) → option_map (λ file. NotDirectory file.path) o ≡ None → o ≡ None
no_file None h = refl
no_file (Some file) h = absurd (no h)
  where
    no : Some (NotDirectory file.path) ≡ None → ⊥
    no e = cc

pub unrefused_mkdirs : (facts : Facts) (caller : List ℕ) (path : List (List ℕ)) (mode : ℕ) (rows : List Row) (users : Users) → first_refusal facts caller (Mkdirs path mode) rows users ≡ None → file_above path rows ≡ None
unrefused_mkdirs facts caller path mode rows users h = no_file (file_above path rows) (neither (beneath_file path rows) _ h).0

pub made_there : (path : List (List ℕ)) (mode : ℕ) (owner : List ℕ) (o : Option Row) (rows : List Row) → is_some o ≡ true → made_at path mode owner o rows ≡ rows
made_there path mode owner None rows h = cc
made_there path mode owner (Some row) rows h = refl

pub made_missing : (path : List (List ℕ)) (mode : ℕ) (owner : List ℕ) (o : Option Row) (rows : List Row) → is_some o ≡ false → made_at path mode owner o rows ≡ with_new path mode None owner (ancestor path rows) rows
made_missing path mode owner None rows h = refl
made_missing path mode owner (Some row) rows h = cc

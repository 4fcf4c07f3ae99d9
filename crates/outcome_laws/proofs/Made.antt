-- What stands at the path behind attempts that make something there.
use Rattle.std.proofs.Common.{◌≡◌, ℕ, Bool, true, List, Option, Some, None, sym, ap, subst, ◌∙◌}
use Rattle.std.specs.Option.{IsSomeAnd}
use Rattle.hdfs_types.specs.declared.op.Op.TheVariants as op
use Rattle.namespace_rows.specs.declared.row.Row.{Row}
use Rattle.namespace_rows.specs.Files.{new_file}
use Rattle.namespace_rows.specs.Namespace.{IsNamespace}
use Rattle.namespace_rows.specs.Rows.{is_directory, is_directory_kind, row_at}
use Rattle.flat_rows.specs.Outcome.{with_new, made_at}
use Rattle.flat_rows.proofs.Making.{some_ancestor}
use Rattle.permission_laws.specs.Attempt.{Attempt, IsDone, IsLastAbove, row_before, row_after}
use Rattle.permission_laws.proofs.LastAbove.{last_is_ancestor}
use Rattle.outcome_laws.proofs.Doing.{unrefused, left}
use Rattle.outcome_laws.proofs.Unrefused.{directory_at_making}
use Rattle.outcome_laws.proofs.Making.{made_there, not_root}

module _ (a : Attempt) (path : List (List ℕ)) (mode : ℕ) where
  module _ (replication : ℕ) (over : Bool) (above : Row) (namespace : IsNamespace a.rows) (is_done : IsDone a) (asked : a.op ≡ op.Create path mode replication over) (last : IsLastAbove a above path) where
    pub file_there : row_after a path ≡ row_at path (with_new path mode (Some (new_file replication a.caller)) a.caller (Some above) a.rows)
    file_there =
        ap (row_at path) (left a (op.Create path mode replication over) asked is_done)
        ∙ ap (λ o. row_at path (with_new path mode (Some (new_file replication a.caller)) a.caller o a.rows)) (last_is_ancestor a.rows namespace path above last.stands last.above_path last.last)

  directory_after : IsDone a → a.op ≡ op.Mkdirs path mode → row_before a path ≡ None → row_after a path ≡ row_at path (made_at path mode a.caller None a.rows)
  directory_after is_done asked free = ap (row_at path) (left a (op.Mkdirs path mode) asked is_done) ∙ ap (λ o. row_at path (made_at path mode a.caller o a.rows)) free

  module _ (above : Row) (namespace : IsNamespace a.rows) (is_done : IsDone a) (asked : a.op ≡ op.Mkdirs path mode) (free : row_before a path ≡ None) (last : IsLastAbove a above path) where
    pub directory_made : row_after a path ≡ row_at path (with_new path mode None a.caller (Some above) a.rows)
    directory_made =
        directory_after is_done asked free
        ∙ ap (λ o. row_at path (with_new path mode None a.caller o a.rows)) (last_is_ancestor a.rows namespace path above last.stands last.above_path last.last)

  abbrev pub IsDirectoryAt : Option Row → Type 0
  IsDirectoryAt o = IsSomeAnd o (λ row. is_directory row ≡ true)

  pub made_or_there : IsNamespace a.rows → IsDone a → a.op ≡ op.Mkdirs path mode → (o : Option Row) → row_before a path ≡ o → IsDirectoryAt (row_after a path)
  made_or_there namespace is_done asked None free =
      let above = some_ancestor path a.rows namespace (not_root path a.rows namespace free) in
      let made = made_there mode None a.caller path a.rows above.0 above.1 in
      subst IsDirectoryAt (sym (directory_after is_done asked free ∙ ap (λ o. row_at path (with_new path mode None a.caller o a.rows)) above.1 ∙ made.there)) (ap is_directory_kind made.kind_is)
  made_or_there namespace is_done asked (Some row) there =
      subst IsDirectoryAt (sym (ap (row_at path) (left a (op.Mkdirs path mode) asked is_done) ∙ ap (λ o. row_at path (made_at path mode a.caller o a.rows)) there ∙ there))
      (directory_at_making a.facts a.caller a.rows a.users path mode row (unrefused a (op.Mkdirs path mode) asked is_done) there)

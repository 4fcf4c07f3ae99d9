-- What has to be there where nothing refuses an operation.
use Rattle.std.proofs.Common.{◌≡◌, ℕ, Bool, true, false, ◌&&◌, ◌||◌, not, List, [], ◌∷◌, Option, Some, None, refl, sym, ap, ◌∙◌, cond}
use Rattle.hdfs_values.proofs.Texts as texts
use Rattle.file_paths.specs.Path.{is_prefix, is_beneath}
use Rattle.file_paths.specs.PathOrder.{same_path}
use Rattle.hdfs_types.specs.declared.op.Op.{Op}
use Rattle.hdfs_types.specs.declared.op.Op.TheVariants as op
use Rattle.refusals.specs.declared.refusal.Refusal.{Refusal}
use Rattle.refusals.specs.declared.refusal.Refusal.TheVariants.{BadPath, NotFound, IsDirectory, Exists, NotEmpty, IsRoot, UnderItself}
use Rattle.principals.specs.Users.{Users}
use Rattle.namespace_rows.specs.declared.row.Row.{Row}
use Rattle.namespace_rows.specs.First.{first}
use Rattle.namespace_rows.specs.Namespace.{is_root}
use Rattle.namespace_rows.specs.Rows.{is_directory, is_none, row_at, directory_of}
use Rattle.namespace_rows.specs.Changes.{rows_under, are_paths}
use Rattle.namespace_rows.proofs.PathOrders.{same_path_is}
use Rattle.flat_rows.specs.FileOutcome.{directory_there, file_there}
use Rattle.flat_rows.specs.Facts.{Facts}
use Rattle.flat_rows.specs.Outcome.{first_refusal, first_some, beneath_file, file_at, nothing_at, something_at, refused_where, is_alone, rows_moved}
use Rattle.flat_rows.proofs.NewDirectories.{starts_self}
use Rattle.permission_laws.specs.Attempt.{taken_path}
use Rattle.permission_laws.proofs.Above.{above_is_front}
use Rattle.permission_laws.proofs.Deciding.{or_none, path_of_row}
use Rattle.permission_laws.proofs.RowsAt.{at_kept}

differ : true ≡ false → ⊥
differ e = cc

-- ---- single refusals

no_directory : (row : Row) → directory_there (Some row) ≡ None → is_directory row ≡ false
no_directory row h = by (is_directory row) h
  where
    by : (b : Bool) → cond b (Some IsDirectory) None ≡ None → b ≡ false
    by true k = cc
    by false k = refl

no_row : (o : Option Row) → directory_there o ≡ None → file_there false o ≡ None → o ≡ None
no_row None d f = refl
no_row (Some row) d f = absurd (by (is_directory row) d f)
  where
    by : (b : Bool) → cond b (Some IsDirectory) None ≡ None → cond b None (Some Exists) ≡ None → ⊥
    by true d f = cc
    by false d f = cc

no_file : (row : Row) → file_at (Some row) ≡ None → is_directory row ≡ true
no_file row h = by (is_directory row) h
  where
    by : (b : Bool) → cond b None (Some Exists) ≡ None → b ≡ true
    by true k = refl
    by false k = cc

nothing : (o : Option Row) → something_at o ≡ None → o ≡ None
nothing None h = refl
nothing (Some row) h = cc

something : (o : Option Row) → nothing_at o ≡ None → (row : Row) × (o ≡ Some row)
something None h = cc
something (Some row) h = (row, refl)

unless : (b : Bool) (refusal : Refusal) → refused_where b refusal ≡ None → b ≡ false
unless true refusal h = cc
unless false refusal h = refl

left_false : (a b : Bool) → (a || b) ≡ false → a ≡ false
left_false true b h = cc
left_false false b h = refl

is_true : (b : Bool) → not b ≡ false → b ≡ true
is_true true h = refl
is_true false h = cc

-- of a list of refusals none applies, so the sixth doesn't
none_sixth : (a b c d e f : Option Refusal) (more : List (Option Refusal)) → first_some (a ∷ b ∷ c ∷ d ∷ e ∷ f ∷ more) ≡ None → f ≡ None
none_sixth a b c d e f more h =
    let behind_one = (or_none a (first_some (b ∷ c ∷ d ∷ e ∷ f ∷ more)) h).1 in
    let behind_two = (or_none b (first_some (c ∷ d ∷ e ∷ f ∷ more)) behind_one).1 in
    let behind_three = (or_none c (first_some (d ∷ e ∷ f ∷ more)) behind_two).1 in
    let behind_four = (or_none d (first_some (e ∷ f ∷ more)) behind_three).1 in
    let behind_five = (or_none e (first_some (f ∷ more)) behind_four).1 in
    (or_none f (first_some more) behind_five).0

-- ---- of each operation

module _ (facts : Facts) (caller : List ℕ) (rows : List Row) (users : Users) where
  pub no_row_at_creation : (path : List (List ℕ)) (mode replication : ℕ) → first_refusal facts caller (op.Create path mode replication false) rows users ≡ None → row_at path rows ≡ None
  no_row_at_creation path mode replication h =
      let kinds = or_none _ _ (or_none _ _ h).1 in
      no_row (row_at path rows) kinds.0 (or_none _ _ kinds.1).0

  pub no_directory_at_creation : (path : List (List ℕ)) (mode replication : ℕ) (over : Bool) (row : Row) → first_refusal facts caller (op.Create path mode replication over) rows users ≡ None
      → row_at path rows ≡ Some row → is_directory row ≡ false
  no_directory_at_creation path mode replication over row h at = no_directory row (ap directory_there (sym at) ∙ (or_none _ _ (or_none _ _ h).1).0)

  pub no_row_at_target : (from to : List (List ℕ)) → first_refusal facts caller (op.Rename from to) rows users ≡ None → row_at to rows ≡ None
  no_row_at_target from to h = nothing (row_at to rows) (none_sixth
      (refused_where (is_root from || is_root to) IsRoot) (beneath_file from rows) (nothing_at (row_at from rows)) (beneath_file to rows) (refused_where (is_prefix from to) UnderItself) (something_at (row_at to rows))
      (refused_where (is_none (directory_of to rows)) NotFound ∷ refused_where (not (are_paths (rows_moved from to rows))) BadPath ∷ []) h)

  pub directory_at_making : (path : List (List ℕ)) (mode : ℕ) (row : Row) → first_refusal facts caller (op.Mkdirs path mode) rows users ≡ None → row_at path rows ≡ Some row → is_directory row ≡ true
  directory_at_making path mode row h at = no_file row (ap file_at (sym at) ∙ (or_none _ _ (or_none _ _ h).1).0)

  pub no_root : (what : Op) (path : List (List ℕ)) → taken_path what ≡ Some path → first_refusal facts caller what rows users ≡ None → is_root path ≡ false
  no_root (op.Delete top recursive) path taken h = let one : is_root top ≡ false = unless (is_root top) IsRoot (or_none _ _ h).0 in cc
  no_root (op.Rename top to) path taken h = let one : is_root top ≡ false = left_false (is_root top) (is_root to) (unless (is_root top || is_root to) IsRoot (or_none _ _ h).0) in cc
  no_root _ path taken h = cc

  -- two rows of which there is one
  alone : (p q : List (List ℕ)) (some : List Row) (a b : Row) → is_alone some ≡ true → row_at p some ≡ Some a → row_at q some ≡ Some b → a ≡ b
  alone p q [] a b one at_p at_q = cc
  alone p q (row ∷ []) a b one at_p at_q = sym (by (same_path p row.path) a at_p) ∙ by (same_path q row.path) b at_q
    where
      by : (c : Bool) (x : Row) → first (cond c (row ∷ []) []) ≡ Some x → row ≡ x
      by true x k = cc
      by false x k = cc
  alone p q (row ∷ other ∷ more) a b one at_p at_q = cc

  not_beneath : (path : List (List ℕ)) → is_beneath path path ≡ false
  not_beneath [] = refl
  not_beneath (n ∷ ns) = ap (λ b. b && is_beneath ns ns) (texts.same_self n) ∙ not_beneath ns

  pub none_beneath : (path other : List (List ℕ)) → first_refusal facts caller (op.Delete path false) rows users ≡ None → is_beneath other path ≡ true → row_at other rows ≡ None
  none_beneath path other h beneath = by (row_at other rows) refl
    where
      inside : is_prefix path other ≡ true
      inside = above_is_front other path beneath

      by : (o : Option Row) → row_at other rows ≡ o → o ≡ None
      by None e = refl
      by (Some row) e =
          let behind = or_none _ _ (or_none _ _ (or_none _ _ h).1).1 in
          let top = something (row_at path rows) behind.0 in
          let one = is_true (is_alone (rows_under path rows)) (unless (not (is_alone (rows_under path rows))) NotEmpty (or_none _ _ behind.1).0) in
          let top_under : row_at path (rows_under path rows) ≡ Some top.0 =
          at_kept path (λ r. is_prefix path r.path) rows (λ r k. ap (is_prefix path) (sym (same_path_is path r.path k)) ∙ starts_self path) ∙ top.1 in
          let row_under : row_at other (rows_under path rows) ≡ Some row =
          at_kept other (λ r. is_prefix path r.path) rows (λ r k. ap (is_prefix path) (sym (same_path_is other r.path k)) ∙ inside) ∙ e in
          let paths : path ≡ other =
          path_of_row path rows top.0 top.1 ∙ ap (λ (r : Row). r.path) (alone path other (rows_under path rows) top.0 row one top_under row_under) ∙ sym (path_of_row other rows row e) in
          absurd (differ (sym beneath ∙ ap (is_beneath other) paths ∙ not_beneath other))

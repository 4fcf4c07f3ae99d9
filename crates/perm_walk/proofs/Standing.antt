-- What has a path suits its kind, and what stands against a verb on a file there.
use Rattle.std.proofs.Common.{◌≡◌, ℕ, true, false, List, cond, Option, Some, None, refl, ap, ◌∙◌}
use Rattle.std.specs.Option.{option_or}
use Rattle.file_paths.specs.PathOrder.{same_path}
use Rattle.file_states.specs.declared.kind.ObjectKind.{ObjectKind}
use Rattle.file_states.specs.declared.kind.ObjectKind.TheVariants.{File, Directory}
use Rattle.refusals.specs.declared.refusal.Refusal.{Refusal}
use Rattle.refusals.specs.declared.refusal.Refusal.TheVariants.{IsDirectory}
use Rattle.namespace_rows.specs.declared.file_row.FileRow.{FileRow}
use Rattle.namespace_rows.specs.declared.row.Row.{Row}
use Rattle.namespace_rows.specs.Rows.{is_directory, is_directory_kind, row_at}
use Rattle.namespace_rows.specs.Namespace.{suits_kind, suits_parts}
use Rattle.flat_rows.specs.FileOutcome.{directory_there}
use Rattle.flat_rows.specs.Outcome.{first_some, beneath_file, nothing_at, refusal_of_missing, refusals_of_file}
use Rattle.flat_rows.proofs.Firsts.{first_passes}
use Rattle.namespace_rows.proofs.Namespaces.{namespace_tests}
use Rattle.inode_tree.specs.Tree.{IsTree}

-- a file and no directory has what files alone have
pub no_directory : (row : Row) (file : FileRow) → suits_kind row ≡ true → row.file ≡ Some file → is_directory row ≡ false
no_directory row file h is = by row.kind row.file is h
  where
    by : (kind : ObjectKind) (held : Option FileRow) → held ≡ Some file → suits_parts (is_directory_kind kind) row.acl held ≡ true → is_directory_kind kind ≡ false
    by File held is h = refl
    by Directory None is h = cc
    by Directory (Some other) is h = cc

pub is_directory_without : (row : Row) → suits_kind row ≡ true → row.file ≡ None → is_directory row ≡ true
is_directory_without row h is = by row.kind row.file is h
  where
    by : (kind : ObjectKind) (held : Option FileRow) → held ≡ None → suits_parts (is_directory_kind kind) row.acl held ≡ true → is_directory_kind kind ≡ true
    by Directory held is h = refl
    by File None is h = cc
    by File (Some other) is h = cc

pub row_suits : (path : List (List ℕ)) (rows : List Row) (row : Row) → IsTree rows → row_at path rows ≡ Some row → suits_kind row ≡ true
row_suits path rows row tree is = first_passes (λ other. same_path path other.path) suits_kind rows row (namespace_tests rows tree.namespace).suit is

-- the same where nothing has the path, and where a directory or a file has it
first_of : (a b c : Option Refusal) (refusal : Refusal) → option_or a (option_or b None) ≡ Some refusal → option_or a (option_or b (option_or c None)) ≡ Some refusal
first_of (Some r) b c refusal h = h
first_of None (Some r) c refusal h = h
first_of None None c refusal h = cc

behind_none : (a b c : Option Refusal) → option_or a (option_or b None) ≡ None → option_or a (option_or b (option_or c None)) ≡ option_or c None
behind_none (Some r) b c h = cc
behind_none None (Some r) c h = cc
behind_none None None c h = refl

pub missing_file : (path : List (List ℕ)) (rows : List Row) (refusal : Refusal) → refusal_of_missing path rows ≡ Some refusal → first_some (refusals_of_file path rows) ≡ Some refusal
missing_file path rows refusal h = first_of (beneath_file path rows) (nothing_at (row_at path rows)) (directory_there (row_at path rows)) refusal h

pub free_file : (path : List (List ℕ)) (rows : List Row) (row : Row) (file : FileRow) → IsTree rows → row_at path rows ≡ Some row → row.file ≡ Some file → refusal_of_missing path rows ≡ None → first_some (refusals_of_file path rows) ≡ None
free_file path rows row file tree is held h =
    behind_none (beneath_file path rows) (nothing_at (row_at path rows)) (directory_there (row_at path rows)) h
    ∙ ap (λ at. option_or (directory_there at) None) is
    ∙ ap (λ d. option_or (cond d (Some IsDirectory) None) None) (no_directory row file (row_suits path rows row tree is) held)

pub directory_refused : (path : List (List ℕ)) (rows : List Row) (row : Row) → IsTree rows → row_at path rows ≡ Some row → row.file ≡ None → refusal_of_missing path rows ≡ None → first_some (refusals_of_file path rows) ≡ Some IsDirectory
directory_refused path rows row tree is none h =
    behind_none (beneath_file path rows) (nothing_at (row_at path rows)) (directory_there (row_at path rows)) h
    ∙ ap (λ at. option_or (directory_there at) None) is
    ∙ ap (λ d. option_or (cond d (Some IsDirectory) None) None) (is_directory_without row (row_suits path rows row tree is) none)

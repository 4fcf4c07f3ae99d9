-- The blocks of files: those of a visit, and a block that was added and taken back.
use Rattle.std.proofs.Common.{◌≡◌, ℕ, ◌+◌, ◌-◌, nat_eq, Bool, true, false, ◌||◌, not, List, [], ◌∷◌, ◌++◌, map, length, length-append, take, cond, Option, Some, None, is_some, refl, sym, ap, ◌∙◌, arith, Result, Ok, Err, OnOk, OnErr, subst}
use Rattle.std.proofs.Math.Seq.{take-append_seam}
use Rattle.std.specs.Option.{option_map}
use Rattle.std.specs.declared.alloc.AllocError.{AllocError}
use Rattle.file_paths.specs.PathOrder.{same_path}
use Rattle.file_states.specs.declared.state.FileState.TheVariants.{Closed}
use Rattle.file_blocks.specs.declared.blocks.FileBlock.{FileBlock}
use Rattle.namespace_rows.specs.declared.file_row.FileRow.{FileRow}
use Rattle.namespace_rows.specs.declared.row.Row.{Row}
use Rattle.namespace_rows.specs.declared.row.Change.TheVariants as change
use Rattle.file_blocks.specs.Blocks.{new_block, but_last}
use Rattle.namespace_rows.specs.Files.{blocks_in, with_block, with_state, without_last, committed_at, completed_at, recovered_at}
use Rattle.namespace_rows.specs.Namespace.{is_namespace}
use Rattle.namespace_rows.proofs.Tests.{both}
use Rattle.file_blocks.proofs.Commits.{committed_before}
use Rattle.namespace_rows.specs.Changes.{with_file, file_edited, row_rewritten, block_added, is_recovered, recovers_nowhere_else, recovery_ended, rows_under, suits_change, are_paths}
use Rattle.flat_rows.proofs.Changes.{edited_namespace, edited_paths}
use Rattle.inode_nodes.specs.Node.{Node, rows_or, row_placed}
use Rattle.inode_nodes.specs.Part.{IsWhole}
use Rattle.inode_files.specs.Branch.{file_rewritten}
use Rattle.file_table.specs.Finished.{closed_for, with_finished_closed}
use Rattle.inode_visits.proofs.FileBlocks.{blocks_map}
use Rattle.inode_files.proofs.SeenRows.{shown_namespace, shown_paths}
use Rattle.inode_tree.specs.Tree.{has_files, IsTree}

-- those of the rows at and beneath a path, where these were found there
pub blocks_there : (names path : List (List ℕ)) → names ≡ path → (own all : List Row) → own ≡ all → (o : Option Node) → IsWhole names own o → blocks_in (rows_or o) ≡ blocks_in (rows_under path all)
blocks_there names path is own all seen o whole =
    sym (ap blocks_in (sym (ap (λ p. rows_under p all) is) ∙ sym (ap (rows_under names) seen) ∙ whole) ∙ blocks_map (row_placed names) (λ row. refl) (rows_or o))

has_files_map : (f : Row → Row) → ((row : Row) → (f row).file ≡ row.file) → (rs : List Row) → has_files (map f rs) ≡ has_files rs
has_files_map f same [] = refl
has_files_map f same (r ∷ rs) = ap (λ file. is_some file || has_files (map f rs)) (same r) ∙ ap (λ b. is_some r.file || b) (has_files_map f same rs)

pub files_there : (names path : List (List ℕ)) → names ≡ path → (own all : List Row) → own ≡ all → (o : Option Node) → IsWhole names own o → has_files (rows_or o) ≡ has_files (rows_under path all)
files_there names path is own all seen o whole =
    sym (ap has_files (sym (ap (λ p. rows_under p all) is) ∙ sym (ap (rows_under names) seen) ∙ whole) ∙ has_files_map (row_placed names) (λ row. refl) (rows_or o))

-- a block that was added and taken back

last_added : (blocks : List FileBlock) (new : FileBlock) → but_last (blocks ++ new ∷ []) ≡ blocks
last_added blocks new = ap (λ k. take k (blocks ++ new ∷ [])) (shorter (length blocks) (length (blocks ++ new ∷ [])) (length-append blocks (new ∷ []))) ∙ take-append_seam blocks (new ∷ [])
  where
    shorter : (n m : ℕ) → m ≡ n + 1 → m - 1 ≡ n
    shorter n m h = omega (arith, h)

module _ (path : List (List ℕ)) (block : ℕ) where
  file_back : (file : Option FileRow) → option_map without_last (option_map (with_block block) file) ≡ file
  file_back None = refl
  file_back (Some file) = ap (λ blocks. Some (record file { blocks = blocks })) (last_added file.blocks (new_block block))

  back : (row : Row) → file_edited without_last (file_edited (with_block block) row) ≡ row
  back row = ap (λ file. with_file file row) (file_back row.file)

  pub taken_back : (rows : List Row) → row_rewritten path change.LastTaken (block_added path block rows) ≡ rows
  taken_back [] = refl
  taken_back (row ∷ rows) = by (same_path path row.path) refl (taken_back rows)
    where
      by : (b : Bool) → same_path path row.path ≡ b → row_rewritten path change.LastTaken (block_added path block rows) ≡ rows
          → row_rewritten path change.LastTaken (cond b (file_edited (with_block block) row) row ∷ block_added path block rows) ≡ row ∷ rows
      by true e rest = ap (λ b. cond b (file_edited without_last (file_edited (with_block block) row)) (file_edited (with_block block) row) ∷ row_rewritten path change.LastTaken (block_added path block rows)) e ∙ ap (λ r. r ∷ row_rewritten path change.LastTaken (block_added path block rows)) (back row) ∙ ap (λ l. row ∷ l) rest
      by false e rest = ap (λ b. cond b (file_edited without_last row) row ∷ row_rewritten path change.LastTaken (block_added path block rows)) e ∙ ap (λ l. row ∷ l) rest

  pub undone : (old new rows : List Row) → new ≡ row_rewritten path change.LastTaken old → old ≡ block_added path block rows → new ≡ rows
  undone old new rows taken added = taken ∙ ap (row_rewritten path change.LastTaken) added ∙ taken_back rows

-- a length that is committed behind a new block of another id

module _ (path : List (List ℕ)) (block bytes added : ℕ) (other : nat_eq added block ≡ false) where
  file_commits : (file : Option FileRow) → option_map (committed_at block bytes) (option_map (with_block added) file) ≡ option_map (with_block added) (option_map (committed_at block bytes) file)
  file_commits None = refl
  file_commits (Some file) = ap (λ blocks. Some (record file { blocks = blocks })) (committed_before block bytes file.blocks (new_block added) other)

  row_commits : (row : Row) → file_edited (committed_at block bytes) (file_edited (with_block added) row) ≡ file_edited (with_block added) (file_edited (committed_at block bytes) row)
  row_commits row = ap (λ file. with_file file row) (file_commits row.file)

  before_added : (rows : List Row) → row_rewritten path (change.Committed block bytes) (block_added path added rows) ≡ block_added path added (row_rewritten path (change.Committed block bytes) rows)
  before_added [] = refl
  before_added (row ∷ rows) = by (same_path path row.path) refl (before_added rows)
    where
      later : List Row
      later = row_rewritten path (change.Committed block bytes) (block_added path added rows)

      sooner : List Row
      sooner = block_added path added (row_rewritten path (change.Committed block bytes) rows)

      by : (b : Bool) → same_path path row.path ≡ b → later ≡ sooner
          → row_rewritten path (change.Committed block bytes) (cond b (file_edited (with_block added) row) row ∷ block_added path added rows) ≡ block_added path added (cond b (file_edited (committed_at block bytes) row) row ∷ row_rewritten path (change.Committed block bytes) rows)
      by true e rest =
          ap (λ b. cond b (file_edited (committed_at block bytes) (file_edited (with_block added) row)) (file_edited (with_block added) row) ∷ later) e ∙ ap (λ r. r ∷ later) (row_commits row) ∙ ap (λ l. file_edited (with_block added) (file_edited (committed_at block bytes) row) ∷ l) rest
          ∙ ap (λ b. cond b (file_edited (with_block added) (file_edited (committed_at block bytes) row)) (file_edited (committed_at block bytes) row) ∷ sooner) (sym e)
      by false e rest =
          ap (λ b. cond b (file_edited (committed_at block bytes) row) row ∷ later) e ∙ ap (λ l. row ∷ l) rest ∙ ap (λ b. cond b (file_edited (with_block added) row) row ∷ sooner) (sym e)

  pub committed_as_before : (old new rows : List Row) → new ≡ row_rewritten path (change.Committed block bytes) old → old ≡ block_added path added rows → new ≡ block_added path added (row_rewritten path (change.Committed block bytes) rows)
  committed_as_before old new rows done is = done ∙ ap (row_rewritten path (change.Committed block bytes)) is ∙ before_added rows

-- a file that is closed with the length of a block

module _ (path : List (List ℕ)) (block bytes : ℕ) where
  abbrev file_closed : Row → Row
  file_closed row = file_edited (with_state Closed) row

  file_done : (file : Option FileRow) → option_map (completed_at block bytes) file ≡ option_map (committed_at block bytes) (option_map (with_state Closed) file)
  file_done None = refl
  file_done (Some file) = refl

  row_done : (row : Row) → file_edited (completed_at block bytes) row ≡ file_edited (committed_at block bytes) (file_closed row)
  row_done row = ap (λ file. with_file file row) (file_done row.file)

  pub both_done : (rows : List Row) → row_rewritten path (change.Completed block bytes) rows ≡ row_rewritten path (change.Committed block bytes) (row_rewritten path (change.State Closed) rows)
  both_done [] = refl
  both_done (row ∷ rows) = by (same_path path row.path) refl (both_done rows)
    where
      once : List Row
      once = row_rewritten path (change.Completed block bytes) rows

      twice : List Row
      twice = row_rewritten path (change.Committed block bytes) (row_rewritten path (change.State Closed) rows)

      by : (b : Bool) → same_path path row.path ≡ b → once ≡ twice
          → cond b (file_edited (completed_at block bytes) row) row ∷ once ≡ row_rewritten path (change.Committed block bytes) (cond b (file_closed row) row ∷ row_rewritten path (change.State Closed) rows)
      by true e rest = ap (λ r. r ∷ once) (row_done row) ∙ ap (λ l. file_edited (committed_at block bytes) (file_closed row) ∷ l) rest ∙ ap (λ b. cond b (file_edited (committed_at block bytes) (file_closed row)) (file_closed row) ∷ twice) (sym e)
      by false e rest = ap (λ l. row ∷ l) rest ∙ ap (λ b. cond b (file_edited (committed_at block bytes) row) row ∷ twice) (sym e)

-- the end of a recovery

module _ (path : List (List ℕ)) (block bytes : ℕ) where
  not_true : (b : Bool) → not b ≡ true → b ≡ false
  not_true true h = cc
  not_true false h = refl

  kept_file : (file : Option FileRow) → is_recovered block file ≡ false → option_map (recovered_at block bytes) file ≡ file
  kept_file None h = refl
  kept_file (Some file) h = ap (λ b. Some (cond b (with_state Closed (committed_at block bytes file)) file)) h

  kept_row : (row : Row) → is_recovered block row.file ≡ false → file_edited (recovered_at block bytes) row ≡ row
  kept_row row h = ap (λ file. with_file file row) (kept_file row.file h)

  pub all_ended : (rows : List Row) → recovers_nowhere_else path block rows ≡ true → row_rewritten path (change.Recovered block bytes) rows ≡ recovery_ended block bytes rows
  all_ended [] h = refl
  all_ended (row ∷ rows) h =
      let hs = both (same_path path row.path || not (is_recovered block row.file)) (recovers_nowhere_else path block rows) h in
      ap (λ r. r ∷ row_rewritten path (change.Recovered block bytes) rows) (by (same_path path row.path) hs.0) ∙ ap (λ l. file_edited (recovered_at block bytes) row ∷ l) (all_ended rows hs.1)
    where
      by : (b : Bool) → (b || not (is_recovered block row.file)) ≡ true → cond b (file_edited (recovered_at block bytes) row) row ≡ file_edited (recovered_at block bytes) row
      by true k = refl
      by false k = sym (kept_row row (not_true (is_recovered block row.file) k))

-- these changes suit each row

pub taking_suits : (found : Option Row) → suits_change change.LastTaken found ≡ true
taking_suits None = refl
taking_suits (Some row) = refl

pub committing_suits : (block bytes : ℕ) (found : Option Row) → suits_change (change.Committed block bytes) found ≡ true
committing_suits block bytes None = refl
committing_suits block bytes (Some row) = refl

pub completing_suits : (block bytes : ℕ) (found : Option Row) → suits_change (change.Completed block bytes) found ≡ true
completing_suits block bytes None = refl
completing_suits block bytes (Some row) = refl

pub ending_suits : (block bytes : ℕ) (found : Option Row) → suits_change (change.Recovered block bytes) found ≡ true
ending_suits block bytes None = refl
ending_suits block bytes (Some row) = refl

-- a tree stays one

module _ (edit : FileRow → FileRow) (path : List (List ℕ)) (own new : List Row) (tree : IsTree own) where
  pub edited_tree : new ≡ file_rewritten path edit own → IsTree new
  edited_tree done = subst IsTree (sym done) (record {
    namespace = edited_namespace edit (λ row. same_path path row.path) own tree.namespace;
    paths = edited_paths edit (λ row. same_path path row.path) own tree.paths;
  })

  pub push_keeps : (r : Result (Unit {0}) AllocError) → OnOk r (new ≡ file_rewritten path edit own) → OnErr r (new ≡ own) → IsTree new
  push_keeps (Ok x) ok err = edited_tree ok
  push_keeps (Err e) ok err = subst IsTree (sym err) tree

-- a tree in which files were closed, and nothing else has changed

module _ (client : List ℕ) where
  abbrev closed_part : Option FileRow → Option FileRow
  closed_part file = option_map (closed_for client) file

  still_some : (file : Option FileRow) → is_some (closed_part file) ≡ is_some file
  still_some None = refl
  still_some (Some file) = refl

  pub closing_tree : (own new : List Row) → with_finished_closed client new ≡ with_finished_closed client own → IsTree own → IsTree new
  closing_tree own new same tree = record {
    namespace = sym (shown_namespace closed_part still_some new) ∙ ap is_namespace same ∙ shown_namespace closed_part still_some own ∙ tree.namespace;
    paths = sym (shown_paths closed_part new) ∙ ap are_paths same ∙ shown_paths closed_part own ∙ tree.paths;
  }

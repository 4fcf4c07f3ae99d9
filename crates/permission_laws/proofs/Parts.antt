-- What a change of one part leaves of a row.
use Rattle.std.proofs.Common.{◌≡◌, ℕ, Bool, true, false, ◌||◌, List, Option, Some, None, is_some, map, refl, sym, ap, ◌∙◌, cond}
use Rattle.std.specs.Prelude.{unwrap_or, Result, Ok, Err}
use Rattle.std.specs.Option.{option_map}
use Rattle.file_paths.specs.PathOrder.{same_path}
use Rattle.hdfs_types.specs.declared.op.Op.{Op}
use Rattle.hdfs_types.specs.declared.op.Op.TheVariants as op
use Rattle.file_states.specs.declared.state.FileState.TheVariants.{Closed}
use Rattle.block_records.specs.declared.last_block.LastBlock.{LastBlock}
use Rattle.refusals.specs.declared.refusal.Refusal.{Refusal}
use Rattle.acl_entries.specs.Acl.{Acl}
use Rattle.partial_acl.specs.AclChange.{acl_change, with_mode}
use Rattle.namespace_rows.specs.declared.row.Row.{Row}
use Rattle.namespace_rows.specs.declared.row.Change.{Change}
use Rattle.namespace_rows.specs.declared.row.Change.TheVariants as change
use Rattle.namespace_rows.specs.Rows.{row_at}
use Rattle.namespace_rows.specs.Files.{with_block, recovered_at}
use Rattle.flat_rows.specs.BlockOutcome.{last_committed, with_block_at, ended_at}
use Rattle.namespace_rows.specs.Changes.{with_change, file_edited, row_rewritten, block_added}
use Rattle.flat_rows.specs.FileOutcome.{holder_at}
use Rattle.flat_rows.specs.Takeover.{unfinished_at, state_after_append, sought_in, begun_in, row_ticked}
use Rattle.flat_rows.proofs.Takeovers.{taken_edits}
use Rattle.flat_rows.specs.Facts.{Facts}
use Rattle.flat_rows.specs.Outcome.{rows_after, with_mode_at, with_owner_at, with_acl_at, with_list_at}
use Rattle.permission_laws.specs.Attempt.{is_about_files, is_about_lists, is_about_owners}
use Rattle.permission_laws.proofs.RowsAt.{at_map}

one : (x y : Row) → Some x ≡ Some y → x ≡ y
one x y e = cc

-- a row with the part of another
abbrev pub with_file_of : Row → Row → Row
with_file_of row later = record later { file = row.file }

abbrev pub with_list_of : Row → Row → Row
with_list_of row later = record later { acl = row.acl }

abbrev pub with_owner_of : Row → Row → Row
with_owner_of row later = record later { owner = row.owner; group = row.group }

-- ---- nothing but the files' own parts

abbrev EditsFiles : (Row → Row) → Type 0
EditsFiles f = (row : Row) → f row ≡ record row { file = (f row).file }

-- so does a change of one row
edits_one : (top : List (List ℕ)) (f : Row → Row) → EditsFiles f → EditsFiles (λ row. cond (same_path top row.path) (f row) row)
edits_one top f edits row = by (same_path top row.path)
  where
    by : (b : Bool) → cond b (f row) row ≡ record row { file = (cond b (f row) row).file }
    by true = edits row
    by false = refl

-- rows that are given anew, each with its path
mapped_stand : (path : List (List ℕ)) (f : Row → Row) → ((row : Row) → (f row).path ≡ row.path) → (rows : List Row) → is_some (row_at path (map f rows)) ≡ is_some (row_at path rows)
mapped_stand path f paths rows = ap is_some (at_map path f paths rows) ∙ still (row_at path rows)
  where
    still : (o : Option Row) → is_some (option_map f o) ≡ is_some o
    still None = refl
    still (Some row) = refl

-- what stands at a path in the rows before is what stands there in those after, but for the file
pub record FilesAlone (path : List (List ℕ)) (rows after : List Row) : Type 0 where
  pub alone : (row later : Row) → row_at path rows ≡ Some row → row_at path after ≡ Some later → with_file_of row later ≡ row
  pub stands : (row : Row) → row_at path rows ≡ Some row → (later : Row) × (row_at path after ≡ Some later)
  pub alike : is_some (row_at path after) ≡ is_some (row_at path rows)

edited_alone : (path : List (List ℕ)) (rows : List Row) (f : Row → Row) → EditsFiles f → FilesAlone path rows (map f rows)
edited_alone path rows f edits = record {
  alone = λ row later there after.
      let is : f row ≡ later = one (f row) later (sym (stands row there) ∙ after) in
      ap (with_file_of row) (sym is) ∙ ap (with_file_of row) (edits row);
  stands = λ row there. (f row, stands row there);
  alike = mapped_stand path f (λ r. ap (λ (x : Row). x.path) (edits r)) rows;
}
  where
    stands : (row : Row) → row_at path rows ≡ Some row → row_at path (map f rows) ≡ Some (f row)
    stands row there = at_map path f (λ r. ap (λ (x : Row). x.path) (edits r)) rows ∙ ap (option_map f) there

same_files : (path : List (List ℕ)) (rows : List Row) → FilesAlone path rows rows
same_files path rows = record { alone = λ row later there after. ap (with_file_of row) (one later row (sym after ∙ there)); stands = λ row there. (row, there); alike = refl }

both_alone : (path : List (List ℕ)) (rows next after : List Row) → FilesAlone path rows next → FilesAlone path next after → FilesAlone path rows after
both_alone path rows next after p q = record {
  alone = λ row later there last.
      let mid = p.stands row there in
      ap (with_file_of row) (q.alone mid.0 later mid.1 last) ∙ p.alone row mid.0 there mid.1;
  stands = λ row there. let mid = p.stands row there in q.stands mid.0 mid.1;
  alike = q.alike ∙ p.alike;
}

committed_alone : (path top : List (List ℕ)) (last : Option LastBlock) (rows : List Row) → FilesAlone path rows (last_committed top last rows)
committed_alone path top None rows = same_files path rows
committed_alone path top (Some last) rows = edited_alone path rows _ (edits_one top (with_change (change.Committed last.block last.length)) (λ row. refl))

added_alone : (path top : List (List ℕ)) (last : Option LastBlock) (block : ℕ) (rows : List Row) → FilesAlone path rows (with_block_at top last block rows)
added_alone path top last block rows =
    both_alone path rows (block_added top block rows) (with_block_at top last block rows)
    (edited_alone path rows _ (edits_one top (file_edited (with_block block)) (λ row. refl))) (committed_alone path top last (block_added top block rows))

ended_alone : (path top : List (List ℕ)) (last : Option LastBlock) (rows : List Row) → FilesAlone path rows (ended_at top last rows)
ended_alone path top last rows =
    both_alone path rows (row_rewritten top (change.State Closed) rows) (ended_at top last rows)
    (edited_alone path rows _ (edits_one top (with_change (change.State Closed)) (λ row. refl))) (committed_alone path top last (row_rewritten top (change.State Closed) rows))

-- ---- any part

module _ (rows : List Row) (path : List (List ℕ)) (row later : Row) (there : row_at path rows ≡ Some row) where
  -- rows that are given anew, each with its path, and with one part alone changed
  mapped : (part : Row → Row → Row) (f : Row → Row) → ((r : Row) → (f r).path ≡ r.path) → ((r : Row) → part r (f r) ≡ r) → row_at path (map f rows) ≡ Some later → part row later ≡ row
  mapped part f paths same after =
      let is : f row ≡ later = one (f row) later (sym (at_map path f paths rows ∙ ap (option_map f) there) ∙ after) in
      ap (part row) (sym is) ∙ same row

  same_row : (part : Row → Row → Row) → ((r : Row) → part r r ≡ r) → row_at path rows ≡ Some later → part row later ≡ row
  same_row part same after = ap (part row) (one later row (sym after ∙ there)) ∙ same row

  where_same : (part : Row → Row → Row) (top : List (List ℕ)) (given : Change) → ((r : Row) → (with_change given r).path ≡ r.path) → ((r : Row) → part r (with_change given r) ≡ r) → ((r : Row) → part r r ≡ r)
      → row_at path (row_rewritten top given rows) ≡ Some later → part row later ≡ row
  where_same part top given paths same itself after = mapped part (λ r. cond (same_path top r.path) (with_change given r) r) keeps stays after
    where
      keeps : (r : Row) → (cond (same_path top r.path) (with_change given r) r).path ≡ r.path
      keeps r = by (same_path top r.path)
        where
          by : (b : Bool) → (cond b (with_change given r) r).path ≡ r.path
          by true = paths r
          by false = refl

      stays : (r : Row) → part r (cond (same_path top r.path) (with_change given r) r) ≡ r
      stays r = by (same_path top r.path)
        where
          by : (b : Bool) → part r (cond b (with_change given r) r) ≡ r
          by true = same r
          by false = itself r

  module _ (facts : Facts) (name : List ℕ) where
    pub files_alone : (what : Op) → is_about_files what ≡ true → row_at path (rows_after facts what name rows) ≡ Some later → with_file_of row later ≡ row
    files_alone (op.Append top) h after = where_same with_file_of top (change.State (state_after_append facts.blocks facts.now name (holder_at (row_at top rows)) (unfinished_at (row_at top rows)))) (λ r. refl) (λ r. refl) (λ r. refl) after
    files_alone (op.AddBlock top last) h after = (added_alone path top last facts.blocks.known.next_block rows).alone row later there after
    files_alone (op.Complete top last) h after = (ended_alone path top last rows).alone row later there after
    files_alone (op.SetReplication top replication) h after = where_same with_file_of top (change.Replication replication) (λ r. refl) (λ r. refl) (λ r. refl) after
    files_alone op.Tick h after =
        (edited_alone path rows (row_ticked facts (begun_in facts rows)) (λ r. taken_edits (begun_in facts rows) facts.now (sought_in facts r) r)).alone row later there after
    files_alone (op.CommitRecovery own) h after = (edited_alone path rows (file_edited (recovered_at own.block own.length)) (λ r. refl)).alone row later there after
    files_alone _ h after = cc

    list_given : (top : List (List ℕ)) (acl : Acl) → row_at path (row_rewritten top (change.List acl) rows) ≡ Some later → with_list_of row later ≡ row
    list_given top acl after = where_same with_list_of top (change.List acl) (λ r. refl) (λ r. refl) (λ r. refl) after

    pub lists_alone : (what : Op) → is_about_lists what ≡ true → row_at path (rows_after facts what name rows) ≡ Some later → with_list_of row later ≡ row
    lists_alone (op.SetMode top mode) h after = by (row_at top rows) after
      where
        by : (o : Option Row) → row_at path (with_mode_at top mode o rows) ≡ Some later → with_list_of row later ≡ row
        by None k = same_row with_list_of (λ r. refl) k
        by (Some r) k = list_given top (with_mode mode r.kind r.acl) k
    lists_alone (op.SetAcl top form) h after = by (row_at top rows) after
      where
        by_made : (made : Result Acl Refusal) → row_at path (with_list_at top made rows) ≡ Some later → with_list_of row later ≡ row
        by_made (Ok acl) k = list_given top acl k
        by_made (Err refusal) k = same_row with_list_of (λ r. refl) k

        by : (o : Option Row) → row_at path (with_acl_at top form o rows) ≡ Some later → with_list_of row later ≡ row
        by None k = same_row with_list_of (λ r. refl) k
        by (Some r) k = by_made (acl_change form r.kind r.acl) k
    lists_alone _ h after = cc

    pub owners_alone : (what : Op) → is_about_owners what ≡ true → row_at path (rows_after facts what name rows) ≡ Some later → with_owner_of row later ≡ row
    owners_alone (op.SetOwner top owner group) h after = by (row_at top rows) after
      where
        by : (o : Option Row) → row_at path (with_owner_at top owner group o rows) ≡ Some later → with_owner_of row later ≡ row
        by None k = same_row with_owner_of (λ r. refl) k
        by (Some r) k = where_same with_owner_of top (change.Owner (unwrap_or owner r.owner) (unwrap_or group r.group)) (λ r. refl) (λ r. refl) (λ r. refl) k
    owners_alone _ h after = cc

  -- where nothing was done
  pub undone_alone : (part : Row → Row → Row) → ((r : Row) → part r r ≡ r) → row_at path rows ≡ Some later → part row later ≡ row
  undone_alone part same after = same_row part same after

-- ---- nothing comes or goes

module _ (rows : List Row) (path : List (List ℕ)) (facts : Facts) (name : List ℕ) where
  abbrev Alike : List Row → Type 0
  Alike after = is_some (row_at path after) ≡ is_some (row_at path rows)

  rewritten_alike : (top : List (List ℕ)) (given : Change) → ((r : Row) → (with_change given r).path ≡ r.path) → Alike (row_rewritten top given rows)
  rewritten_alike top given paths = mapped_stand path (λ r. cond (same_path top r.path) (with_change given r) r) keeps rows
    where
      keeps : (r : Row) → (cond (same_path top r.path) (with_change given r) r).path ≡ r.path
      keeps r = by (same_path top r.path)
        where
          by : (b : Bool) → (cond b (with_change given r) r).path ≡ r.path
          by true = paths r
          by false = refl

  files_alike : (what : Op) → is_about_files what ≡ true → Alike (rows_after facts what name rows)
  files_alike (op.Append top) h = rewritten_alike top (change.State (state_after_append facts.blocks facts.now name (holder_at (row_at top rows)) (unfinished_at (row_at top rows)))) (λ r. refl)
  files_alike (op.AddBlock top last) h = (added_alone path top last facts.blocks.known.next_block rows).alike
  files_alike (op.Complete top last) h = (ended_alone path top last rows).alike
  files_alike (op.SetReplication top replication) h = rewritten_alike top (change.Replication replication) (λ r. refl)
  files_alike op.Tick h = (edited_alone path rows (row_ticked facts (begun_in facts rows)) (λ r. taken_edits (begun_in facts rows) facts.now (sought_in facts r) r)).alike
  files_alike (op.CommitRecovery own) h = (edited_alone path rows (file_edited (recovered_at own.block own.length)) (λ r. refl)).alike
  files_alike _ h = cc

  lists_alike : (what : Op) → is_about_lists what ≡ true → Alike (rows_after facts what name rows)
  lists_alike (op.SetMode top mode) h = by (row_at top rows)
    where
      by : (o : Option Row) → Alike (with_mode_at top mode o rows)
      by None = refl
      by (Some r) = rewritten_alike top (change.List (with_mode mode r.kind r.acl)) (λ r. refl)
  lists_alike (op.SetAcl top form) h = by (row_at top rows)
    where
      by_made : (made : Result Acl Refusal) → Alike (with_list_at top made rows)
      by_made (Ok acl) = rewritten_alike top (change.List acl) (λ r. refl)
      by_made (Err refusal) = refl

      by : (o : Option Row) → Alike (with_acl_at top form o rows)
      by None = refl
      by (Some r) = by_made (acl_change form r.kind r.acl)
  lists_alike _ h = cc

  owners_alike : (what : Op) → is_about_owners what ≡ true → Alike (rows_after facts what name rows)
  owners_alike (op.SetOwner top owner group) h = by (row_at top rows)
    where
      by : (o : Option Row) → Alike (with_owner_at top owner group o rows)
      by None = refl
      by (Some r) = rewritten_alike top (change.Owner (unwrap_or owner r.owner) (unwrap_or group r.group)) (λ r. refl)
  owners_alike _ h = cc

  pub all_alike : (what : Op) → (is_about_files what || (is_about_lists what || is_about_owners what)) ≡ true → Alike (rows_after facts what name rows)
  all_alike what h = by (is_about_files what) refl (is_about_lists what) refl h
    where
      by : (b : Bool) → is_about_files what ≡ b → (c : Bool) → is_about_lists what ≡ c → (b || (c || is_about_owners what)) ≡ true → Alike (rows_after facts what name rows)
      by true e c k h = files_alike what e
      by false e true k h = lists_alike what k
      by false e false k h = owners_alike what h

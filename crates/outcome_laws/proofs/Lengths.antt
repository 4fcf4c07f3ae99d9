-- What readers and writers are told of a file's length.
use Rattle.std.proofs.Common.{◌≡◌, ℕ, List, Option, Some, None, option_map, refl, sym, ap, ◌∙◌}
use Rattle.file_states.specs.declared.state.FileState.TheVariants.{Closed}
use Rattle.block_records.specs.declared.last_block.LastBlock.{LastBlock}
use Rattle.hdfs_types.specs.declared.file.FileDetail.{FileDetail}
use Rattle.hdfs_types.specs.declared.reply.FileStatus.{FileStatus}
use Rattle.hdfs_types.specs.declared.reply.Reply.TheVariants as reply
use Rattle.file_blocks.specs.Blocks.{length_of}
use Rattle.namespace_rows.specs.declared.file_row.FileRow.{FileRow}
use Rattle.namespace_rows.specs.declared.row.Row.{Row}
use Rattle.namespace_rows.specs.declared.row.Change.TheVariants as change
use Rattle.namespace_rows.specs.Rows.{row_at}
use Rattle.namespace_rows.specs.Files.{with_state, committed_at}
use Rattle.namespace_rows.specs.Changes.{row_rewritten, with_change}
use Rattle.flat_rows.specs.FileOutcome.{detail_of_row}
use Rattle.flat_rows.specs.Outcome.{status_of}
use Rattle.flat_rows.specs.BlockOutcome.{blocks_of_row, bytes_behind, bytes_behind_at, ended_at}
use Rattle.outcome_laws.proofs.Given.{rewritten_at, none_rewritten}

-- ---- readers

status_is : {s t : FileStatus} → reply.Status s ≡ reply.Status t → s ≡ t
status_is e = cc

pub length_told : (at : Option Row) (status : FileStatus) (detail : FileDetail) → status_of at ≡ reply.Status status → status.file ≡ Some detail → length_of (blocks_of_row at) ≡ detail.length
length_told None status detail is file = cc
length_told (Some row) status detail is file = by row.file (ap (λ (s : FileStatus). s.file) (status_is is) ∙ file)
  where
    one : {d e : FileDetail} → Some d ≡ Some e → d ≡ e
    one e = cc

    by : (own : Option FileRow) → detail_of_row own ≡ Some detail → length_of (blocks_of_row (Some (record row { file = own }))) ≡ detail.length
    by None k = cc
    by (Some own) k = ap (λ (d : FileDetail). d.length) (one k)

-- ---- writers

module _ (path : List (List ℕ)) (rows : List Row) where
  abbrev closed : List Row
  closed = row_rewritten path (change.State Closed) rows

  abbrev Told : Option LastBlock → Option FileRow → FileRow → Type 0
  Told last own file = (length_of file.blocks ≡ bytes_behind last own) × (file.state ≡ Closed)

  one : {f g : FileRow} → Some f ≡ Some g → f ≡ g
  one e = cc

  one_row : {r s : Row} → Some r ≡ Some s → r ≡ s
  one_row e = cc

  no_row : {row : Row} → None ≡ Some row → ⊥
  no_row e = cc

  plainly : (own : Option FileRow) (file : FileRow) → option_map (with_state Closed) own ≡ Some file → Told None own file
  plainly None file k = cc
  plainly (Some own) file k = (ap (λ (f : FileRow). length_of f.blocks) (sym (one k)), ap (λ (f : FileRow). f.state) (sym (one k)))

  committed : (last : LastBlock) (own : Option FileRow) (file : FileRow) → option_map (committed_at last.block last.length) (option_map (with_state Closed) own) ≡ Some file → Told (Some last) own file
  committed last None file k = cc
  committed last (Some own) file k = (ap (λ (f : FileRow). length_of f.blocks) (sym (one k)), ap (λ (f : FileRow). f.state) (sym (one k)))

  pub ended : (last : Option LastBlock) (later : Row) (file : FileRow) → row_at path (ended_at path last rows) ≡ Some later → later.file ≡ Some file
      → (length_of file.blocks ≡ bytes_behind_at last (row_at path rows)) × (file.state ≡ Closed)
  ended last later file after is = by last (row_at path rows) refl after
    where
      by : (last : Option LastBlock) (o : Option Row) → row_at path rows ≡ o → row_at path (ended_at path last rows) ≡ Some later → (length_of file.blocks ≡ bytes_behind_at last o) × (file.state ≡ Closed)
      by None None e k = absurd (no_row (sym (none_rewritten path rows (change.State Closed) (λ r. refl) e) ∙ k))
      by (Some last) None e k =
          absurd (no_row (sym (none_rewritten path closed (change.Committed last.block last.length) (λ r. refl) (none_rewritten path rows (change.State Closed) (λ r. refl) e)) ∙ k))
      by None (Some row) e k =
          plainly row.file file (ap (λ (r : Row). r.file) (one_row (sym (rewritten_at path rows (change.State Closed) (λ r. refl) row e) ∙ k)) ∙ is)
      by (Some last) (Some row) e k =
          committed last row.file file
          (ap (λ (r : Row). r.file)
          (one_row (sym (rewritten_at path closed (change.Committed last.block last.length) (λ r. refl) (with_change (change.State Closed) row) (rewritten_at path rows (change.State Closed) (λ r. refl) row e)) ∙ k)) ∙ is)

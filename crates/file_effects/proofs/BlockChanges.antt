-- Changes of the blocks of files leave each client's files open as they were.
use Rattle.std.proofs.Common.{◌≡◌, ℕ, Bool, true, false, List, [], length, Option, Some, None, refl, sym, ap, ◌∙◌, cond}
use Rattle.file_paths.specs.PathOrder.{same_path}
use Rattle.block_records.specs.declared.last_block.LastBlock.{LastBlock}
use Rattle.block_records.specs.declared.fault.BlockRefusal.{BlockRefusal}
use Rattle.block_map.specs.BlockFacts.{Blocks, refused_commit}
use Rattle.block_map.specs.BlockEffects.{with_blocks_removed}
use Rattle.namespace_rows.specs.declared.row.Row.{Row}
use Rattle.namespace_rows.specs.declared.row.Change.TheVariants as change
use Rattle.namespace_rows.specs.Namespace.{IsNamespace}
use Rattle.namespace_rows.specs.Rows.{is_missing}
use Rattle.namespace_rows.specs.Files.{is_client, is_open_by, open_files, blocks_in, with_block, committed_at}
use Rattle.namespace_rows.specs.Changes.{rows_under, file_edited, row_rewritten, block_added}
use Rattle.flat_rows.specs.BlockOutcome.{refused_by, refused_end}
use Rattle.flat_rows.proofs.Holders.{tally_map, tally_rewritten, kept_file}
use Rattle.history.proofs.Apart.{missing_apart, none_under}
use Rattle.lease_manager.specs.declared.writers.Writers.{Writers}
use Rattle.file_effects.specs.Effected.{IsExact}

-- nothing is beneath a path that is missing, and so no block
pub no_blocks : (path : List (List ℕ)) (rows : List Row) → IsNamespace rows → is_missing path rows ≡ true → blocks_in (rows_under path rows) ≡ []
no_blocks path rows namespace missing = ap blocks_in (none_under path rows (missing_apart rows path namespace missing))

pub none_removed : (blocks : Blocks) (numbers : List ℕ) → numbers ≡ [] → blocks ≡ with_blocks_removed blocks numbers
none_removed blocks numbers none = ap (with_blocks_removed blocks) (sym none)

-- a commit that isn't refused
pub unrefused : (blocks : Blocks) (last : LastBlock) (refusal : BlockRefusal) → refused_end blocks (Some last) ≡ None → refused_commit blocks last.block last.length ≡ Some refusal → ⊥
unrefused blocks last refusal free is = absent (sym (ap refused_by is) ∙ free)
  where
    absent : refused_by (Some refusal) ≡ None → ⊥
    absent e = cc

module _ (client : List ℕ) where
  counted_committed : (path : List (List ℕ)) (block bytes : ℕ) (rows : List Row) → length (open_files client (row_rewritten path (change.Committed block bytes) rows)) ≡ length (open_files client rows)
  counted_committed path block bytes rows = tally_rewritten client path (change.Committed block bytes) (λ row. kept_file client (committed_at block bytes) (λ file. refl) row.file) rows

  counted_added : (path : List (List ℕ)) (block : ℕ) (rows : List Row) → length (open_files client (block_added path block rows)) ≡ length (open_files client rows)
  counted_added path block rows = tally_map (is_open_by client) (λ row. cond (same_path path row.path) (file_edited (with_block block) row) row) (λ row. by row (same_path path row.path)) rows
    where
      by : (row : Row) (b : Bool) → is_open_by client (cond b (file_edited (with_block block) row) row) ≡ is_open_by client row
      by row true = ap (is_client client) (kept_file client (with_block block) (λ file. refl) row.file)
      by row false = refl

pub exact_committed : (last : List ℕ → Option ℕ) (path : List (List ℕ)) (block bytes : ℕ) (rows left : List Row) (writers : Writers) → left ≡ row_rewritten path (change.Committed block bytes) rows → IsExact last rows writers → IsExact last left writers
exact_committed last path block bytes rows left writers made exact =
    record { files = λ client. exact.files client ∙ (sym (counted_committed client path block bytes rows) ∙ ap (λ rs. length (open_files client rs)) (sym made)); leased = exact.leased }

pub exact_added : (last : List ℕ → Option ℕ) (path : List (List ℕ)) (block : ℕ) (rows left : List Row) (writers : Writers) → left ≡ block_added path block rows → IsExact last rows writers → IsExact last left writers
exact_added last path block rows left writers made exact =
    record { files = λ client. exact.files client ∙ (sym (counted_added client path block rows) ∙ ap (λ rs. length (open_files client rs)) (sym made)); leased = exact.leased }

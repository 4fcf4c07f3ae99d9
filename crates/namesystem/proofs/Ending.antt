-- What the end of a recovery leaves.
use Rattle.std.proofs.Common.{◌≡◌, ℕ, ◌==◌, Bool, true, false, List, length, Option, Some, None, refl, sym, ap, ◌∙◌, subst, cond}
use Rattle.std.specs.Option.{option_map}
use Rattle.file_states.specs.declared.state.FileState.{FileState}
use Rattle.file_states.specs.declared.state.FileState.TheVariants.{Closed, Open, Recovering}
use Rattle.hdfs_types.specs.declared.op.Op.TheVariants as op
use Rattle.hdfs_types.specs.declared.replica.RecoveredBlock.{RecoveredBlock}
use Rattle.refusals.specs.declared.refusal.Refusal.{Refusal}
use Rattle.hdfs_types.specs.declared.reply.Reply.TheVariants as reply
use Rattle.block_map.specs.BlockFacts.{Blocks, refused_recovered}
use Rattle.namespace_rows.specs.declared.file_row.FileRow.{FileRow}
use Rattle.namespace_rows.specs.declared.row.Row.{Row}
use Rattle.namespace_rows.specs.Files.{committed_at, recovered_at, state_recovers, with_state, holder_of, holder_of_file, is_client, open_files}
use Rattle.flat_rows.specs.BlockOutcome.{refused_by}
use Rattle.namespace_rows.specs.Changes.{file_edited, recovery_ended}
use Rattle.flat_rows.specs.Decision.{decision}
use Rattle.flat_rows.specs.Outcome.{step, denied_or_outcome, refused_or_done}
use Rattle.flat_rows.specs.Verdicts.{is_done}
use Rattle.flat_rows.specs.declared.verdict.Verdict.{Verdict}
use Rattle.flat_rows.specs.declared.verdict.Verdict.TheVariants.{Done, Refused}
use Rattle.history.proofs.Counting.{count, count_map}
use Rattle.history.proofs.OpenFiles.{opens}
use Rattle.lease_manager.specs.declared.writers.Writers.{Writers}
use Rattle.file_effects.specs.Effected.{IsExact}
use Rattle.file_takeovers.specs.Recovered.{refused_or_ended, verdict_on_end, IsEnded}
use Rattle.namesystem.specs.declared.namesystem.Namesystem.{Namesystem}
use Rattle.namesystem.specs.Performed.{IsPerformed, facts_in}
use Rattle.namesystem.proofs.Performing.{changing, performed_done, performed_not_done}

-- a file in a recovery is open for nobody, neither before its end nor behind it
still_open : (client : List ℕ) (block bytes : ℕ) (row : Row) → opens client (file_edited (recovered_at block bytes) row) ≡ opens client row
still_open client block bytes row = by row.file
  where
    by_state : (file : FileRow) (state : FileState) → file.state ≡ state → is_client client (holder_of (recovered_at block bytes file).state) ≡ is_client client (holder_of file.state)
    by_state file Closed e = ap (λ b. is_client client (holder_of (cond b (with_state Closed (committed_at block bytes file)) file).state)) (ap (state_recovers block) e)
    by_state file (Open holder) e = ap (λ b. is_client client (holder_of (cond b (with_state Closed (committed_at block bytes file)) file).state)) (ap (state_recovers block) e)
    by_state file (Recovering own stamp begun) e = either (state_recovers block file.state) ∙ ap (λ s. is_client client (holder_of s)) (sym e)
      where
        either : (b : Bool) → is_client client (holder_of (cond b (with_state Closed (committed_at block bytes file)) file).state) ≡ false
        either true = refl
        either false = ap (λ s. is_client client (holder_of s)) e

    by : (file : Option FileRow) → is_client client (holder_of_file (option_map (recovered_at block bytes) file)) ≡ is_client client (holder_of_file file)
    by None = refl
    by (Some file) = by_state file file.state refl

exact_ended : (last : List ℕ → Option ℕ) (block bytes : ℕ) (rows left : List Row) (writers : Writers) → left ≡ recovery_ended block bytes rows → IsExact last rows writers → IsExact last left writers
exact_ended last block bytes rows left writers made exact =
    record {
      files = λ client. exact.files client ∙ (sym (count_map (opens client) (file_edited (recovered_at block bytes)) (still_open client block bytes) rows) ∙ ap (λ rs. length (open_files client rs)) (sym made));
      leased = exact.leased;
    }

module _ (last : List ℕ → Option ℕ) (now : ℕ) (caller : List ℕ) (own : RecoveredBlock) (old : Namesystem) (exact : IsExact last old.tree old.writers) (granted : decision old.tree old.users caller (op.CommitRecovery own) ≡ None) where
  refusal_is : (refusal : Option Refusal) → refused_or_ended refusal ≡ (refused_or_done (facts_in last now old) old.tree old.users caller (op.CommitRecovery own) refusal).verdict
  refusal_is None = refl
  refusal_is (Some refusal) = refl

  judged : (verdict : Verdict) → verdict ≡ verdict_on_end old.blocks own → verdict ≡ (step (facts_in last now old) old.tree old.users caller (op.CommitRecovery own)).verdict
  judged verdict told =
      told ∙ (refusal_is (refused_by (refused_recovered old.blocks own.block own.stamp)) ∙ ap (λ d. (denied_or_outcome (facts_in last now old) old.tree old.users caller (op.CommitRecovery own) d).verdict) (sym granted))

  done_is : (refusal : Option Refusal) → is_done (refused_or_ended refusal) ≡ true → refused_or_ended refusal ≡ Done reply.Empty
  done_is None h = refl
  done_is (Some refusal) h = cc

  pub performed_end : (verdict : Verdict) (tree : List Row) (blocks : Blocks) → verdict ≡ verdict_on_end old.blocks own → (is_done verdict ≡ true → IsEnded own old.tree old.blocks tree blocks)
      → (is_done verdict ≡ false → (tree ≡ old.tree) × (blocks ≡ old.blocks)) → IsPerformed last now caller (op.CommitRecovery own) old verdict (record old { tree = tree; blocks = blocks })
  performed_end verdict tree blocks told done undone = by (is_done verdict) refl
    where
      by : (b : Bool) → is_done verdict ≡ b → IsPerformed last now caller (op.CommitRecovery own) old verdict (record old { tree = tree; blocks = blocks })
      by true e =
          let left = done e in
          performed_done last now caller (op.CommitRecovery own) old (record old { tree = tree; blocks = blocks }) verdict (judged verdict told) e refl refl left.tree refl refl left.blocks_is
          (exact_ended last own.block own.length old.tree tree old.writers left.tree exact)
          (changing old (record old { tree = tree; blocks = blocks }) verdict (Done reply.Empty) (told ∙ done_is (refused_by (refused_recovered old.blocks own.block own.stamp)) (ap is_done (sym told) ∙ e)) refl)
      by false e =
          let left = undone e in
          subst (IsPerformed last now caller (op.CommitRecovery own) old verdict) (sym (ap (λ t. record old { tree = t; blocks = blocks }) left.0 ∙ ap (λ b. record old { blocks = b }) left.1))
          (performed_not_done last now caller (op.CommitRecovery own) old verdict (judged verdict told) e exact)

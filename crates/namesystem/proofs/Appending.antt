-- What an append leaves: a closed file is opened, and one that another client has open is taken from him once his lease isn't live.
use Rattle.std.proofs.Common.{◌≡◌, ℕ, Bool, true, false, List, Option, Some, None, Result, Ok, Err, refl, sym, ap, ◌∙◌, subst, cond}
use Rattle.std.specs.Result.{IfOk}
use Rattle.hdfs_types.specs.declared.op.Op.TheVariants as op
use Rattle.hdfs_types.specs.declared.reply.Reply.TheVariants as reply
use Rattle.refusals.specs.declared.refusal.Refusal.{Refusal}
use Rattle.refusals.specs.declared.refusal.Refusal.TheVariants.{LeaseHeld}
use Rattle.file_states.specs.declared.state.FileState.TheVariants as state
use Rattle.block_map.specs.BlockFacts.{Blocks}
use Rattle.namespace_rows.specs.declared.file_row.FileRow.{FileRow}
use Rattle.namespace_rows.specs.declared.row.Row.{Row}
use Rattle.namespace_rows.specs.declared.row.Change.TheVariants as change
use Rattle.namespace_rows.specs.Rows.{row_at}
use Rattle.file_blocks.specs.Blocks.{unfinished_block}
use Rattle.namespace_rows.specs.Files.{holder_of, holder_of_file}
use Rattle.namespace_rows.specs.Changes.{row_rewritten}
use Rattle.flat_rows.specs.Facts.{Facts}
use Rattle.flat_rows.specs.FileOutcome.{holder_at}
use Rattle.flat_rows.specs.Takeover.{unfinished_of, unfinished_at, refused_taking, taken_state, taken_reply, appended_reply, state_after_append}
use Rattle.flat_rows.specs.Outcome.{step}
use Rattle.flat_rows.specs.Verdicts.{is_done}
use Rattle.flat_rows.specs.declared.verdict.Verdict.{Verdict}
use Rattle.flat_rows.specs.declared.verdict.Verdict.TheVariants.{Done, Refused}
use Rattle.history.specs.Blocks.{taken_over}
use Rattle.history.specs.ClockAndLease.{has_opened, is_lease_live, state_at}
use Rattle.lease_manager.specs.declared.writers.Writers.{Writers}
use Rattle.lease_manager.specs.Writers.{renewal_moment_of}
use Rattle.write_rules.specs.Judged.{refused_or}
use Rattle.write_rules.specs.JudgedAppends.{file_at_row, verdict_of_append, IsJudgedAt}
use Rattle.write_rules.specs.declared.appends.JudgedAppend.TheVariants.{Closed, Held}
use Rattle.file_effects.specs.Effected.{IsExact, renewed_where}
use Rattle.file_takeovers.specs.Taken.{IsClosedFile, takeover_verdict, refused_or_taken, recovered_for, IsTaken}
use Rattle.namesystem.specs.declared.namesystem.Namesystem.{Namesystem}
use Rattle.namesystem.specs.Told.{may_change}
use Rattle.namesystem.specs.Performed.{IsPerformed, facts_in}
use Rattle.namesystem.proofs.Performing.{changing, lease_is, performed_done, performed_not_done}

-- ---- what was found

held_by : (at : Option Row) (file : FileRow) → file_at_row at ≡ Some file → holder_at at ≡ holder_of file.state
held_by None file h = cc
held_by (Some row) file h = ap holder_of_file h

ends_by : (at : Option Row) (file : FileRow) → file_at_row at ≡ Some file → unfinished_at at ≡ unfinished_block file.blocks
ends_by None file h = cc
ends_by (Some row) file h = ap unfinished_of h

pub closed_file : (path : List (List ℕ)) (rows : List Row) → IsJudgedAt path rows Closed → IsClosedFile path rows
closed_file path rows found = by (row_at path rows) refl found.1
  where
    by : (at : Option Row) → row_at path rows ≡ at → file_at_row at ≡ Some found.0 → IsClosedFile path rows
    by None e h = absurd cc
    by (Some row) e h = record { row = row; file = found.0; at = e; has = h; closed = found.2 }

pub held_file : (path : List (List ℕ)) (rows : List Row) (holder : List ℕ) (block : Option ℕ) → IsJudgedAt path rows (Held holder block) → holder_at (row_at path rows) ≡ Some holder
held_file path rows holder block found = held_by (row_at path rows) found.0 found.1 ∙ ap holder_of found.2.0

ends_file : (path : List (List ℕ)) (rows : List Row) (holder : List ℕ) (block : Option ℕ) → IsJudgedAt path rows (Held holder block) → unfinished_at (row_at path rows) ≡ block
ends_file path rows holder block found = ends_by (row_at path rows) found.0 found.1 ∙ found.2.1

unheld_file : (path : List (List ℕ)) (rows : List Row) → IsJudgedAt path rows Closed → holder_at (row_at path rows) ≡ None
unheld_file path rows found = held_by (row_at path rows) found.0 found.1 ∙ ap holder_of found.2

-- ---- what comes of it

-- two answers about one result are known together
pub three_of : {T E : Type 0} (result : Result T E) (A B C D : T → Type 0) → IfOk result A → IfOk result B → IfOk result C → ((value : T) → A value → B value → C value → D value) → IfOk result D
three_of (Ok value) A B C D a b c all = all value a b c
three_of (Err error) A B C D a b c all = tt

refusal_is : (blocks : Blocks) (block : Option ℕ) (refusal : Option Refusal) → takeover_verdict refusal blocks block ≡ refused_or (taken_reply blocks block) refusal
refusal_is blocks block None = refl
refusal_is blocks block (Some refusal) = refl

not_taken : (block : Option ℕ) (now : ℕ) (blocks : Blocks) → blocks ≡ taken_over None block now blocks
not_taken None now blocks = refl
not_taken (Some block) now blocks = refl

is_taken : (holder : List ℕ) (block : Option ℕ) (now : ℕ) (blocks : Blocks) → recovered_for blocks now block ≡ taken_over (Some holder) block now blocks
is_taken holder None now blocks = refl
is_taken holder (Some block) now blocks = refl

never_opened : (blocks : Blocks) (block : Option ℕ) → has_opened (taken_reply blocks block) ≡ false
never_opened blocks None = refl
never_opened blocks (Some block) = refl

taken_changes : (blocks : Blocks) (block : Option ℕ) → may_change (Done (taken_reply blocks block)) ≡ true
taken_changes blocks None = refl
taken_changes blocks (Some block) = refl

done_or_not : (blocks : Blocks) (block : Option ℕ) (refusal : Option Refusal) → is_done (takeover_verdict refusal blocks block) ≡ true → takeover_verdict refusal blocks block ≡ Done (taken_reply blocks block)
done_or_not blocks block None h = refl
done_or_not blocks block (Some refusal) h = cc

module _ (last : List ℕ → Option ℕ) (now : ℕ) (caller : List ℕ) (path : List (List ℕ)) (old : Namesystem) (exact : IsExact last old.tree old.writers) where
  abbrev facts : Facts
  facts = facts_in last now old

  -- a closed file is opened
  pub opened : (tree : List Row) (writers : Writers) → IsJudgedAt path old.tree Closed → Done reply.Empty ≡ (step facts old.tree old.users caller (op.Append path)).verdict
      → tree ≡ row_rewritten path (change.State (state.Open caller)) old.tree → IsExact (renewed_where true caller now last) tree writers
      → IsPerformed last now caller (op.Append path) old (Done reply.Empty) (record old { tree = tree; writers = writers })
  opened tree writers found judged made renewed =
      let none = unheld_file path old.tree found in
      performed_done last now caller (op.Append path) old (record old { tree = tree; writers = writers }) (Done reply.Empty) judged refl refl refl
      (made ∙ ap (λ holder. row_rewritten path (change.State (state_after_append old.blocks now caller holder (unfinished_at (row_at path old.tree)))) old.tree) (sym none)) refl refl
      (not_taken (unfinished_at (row_at path old.tree)) now old.blocks ∙ ap (λ holder. taken_over holder (unfinished_at (row_at path old.tree)) now old.blocks) (sym none))
      (subst (λ b. IsExact (renewed_where b caller now last) tree writers) (ap (λ holder. has_opened (appended_reply old.blocks holder (unfinished_at (row_at path old.tree)))) (sym none)) renewed)
      (changing old (record old { tree = tree; writers = writers }) (Done reply.Empty) (Done reply.Empty) refl refl)

  module _ (holder : List ℕ) (block : Option ℕ) (found : IsJudgedAt path old.tree (Held holder block)) (judged : verdict_of_append facts (Held holder block) ≡ (step facts old.tree old.users caller (op.Append path)).verdict) where
    live_is : (live : Bool) → live ≡ is_lease_live (state_at old.writers.leases.limits now (renewal_moment_of old.writers.leases.renewals holder)) → facts.leases.is_live holder ≡ live
    live_is live is = ap (λ m. is_lease_live (state_at old.writers.leases.limits now m)) (lease_is last old.tree old.writers holder exact) ∙ sym is

    -- while the other's lease is live
    pub lease_held : (live : Bool) → live ≡ is_lease_live (state_at old.writers.leases.limits now (renewal_moment_of old.writers.leases.renewals holder)) → live ≡ true → IsPerformed last now caller (op.Append path) old (Refused (LeaseHeld holder)) old
    lease_held live is live_now =
        performed_not_done last now caller (op.Append path) old (Refused (LeaseHeld holder))
        (sym (ap (λ b. refused_or (taken_reply old.blocks block) (cond b (Some (LeaseHeld holder)) (refused_taking old.blocks now block))) (live_is live is ∙ live_now)) ∙ judged) refl exact

    taken_judged : (live : Bool) (verdict : Verdict) → live ≡ is_lease_live (state_at old.writers.leases.limits now (renewal_moment_of old.writers.leases.renewals holder)) → live ≡ false → verdict ≡ refused_or_taken old.blocks now block
        → verdict ≡ (step facts old.tree old.users caller (op.Append path)).verdict
    taken_judged live verdict is dead told =
        told
        ∙ (refusal_is old.blocks block (refused_taking old.blocks now block)
        ∙ (sym (ap (λ b. refused_or (taken_reply old.blocks block) (cond b (Some (LeaseHeld holder)) (refused_taking old.blocks now block))) (live_is live is ∙ dead)) ∙ judged))

    -- and once it isn't
    pub taken_from : (live : Bool) (verdict : Verdict) (tree : List Row) (blocks : Blocks) (writers : Writers) → live ≡ is_lease_live (state_at old.writers.leases.limits now (renewal_moment_of old.writers.leases.renewals holder)) → live ≡ false
        → verdict ≡ refused_or_taken old.blocks now block → (is_done verdict ≡ true → IsTaken path now block old.tree old.blocks old.writers tree blocks writers)
        → (is_done verdict ≡ false → (tree ≡ old.tree) × (blocks ≡ old.blocks) × (writers ≡ old.writers)) → IsPerformed last now caller (op.Append path) old verdict (record old { tree = tree; blocks = blocks; writers = writers })
    taken_from live verdict tree blocks writers is dead told done undone = by (is_done verdict) refl
      where
        held : holder_at (row_at path old.tree) ≡ Some holder
        held = held_file path old.tree holder block found

        ends : unfinished_at (row_at path old.tree) ≡ block
        ends = ends_file path old.tree holder block found

        state_is : state_after_append old.blocks now caller (holder_at (row_at path old.tree)) (unfinished_at (row_at path old.tree)) ≡ taken_state old.blocks now block
        state_is = ap (λ who. state_after_append old.blocks now caller who (unfinished_at (row_at path old.tree))) held ∙ ap (taken_state old.blocks now) ends

        blocks_are : taken_over (holder_at (row_at path old.tree)) (unfinished_at (row_at path old.tree)) now old.blocks ≡ recovered_for old.blocks now block
        blocks_are = ap (λ who. taken_over who (unfinished_at (row_at path old.tree)) now old.blocks) held ∙ (ap (λ b. taken_over (Some holder) b now old.blocks) ends ∙ sym (is_taken holder block now old.blocks))

        reply_is : appended_reply old.blocks (holder_at (row_at path old.tree)) (unfinished_at (row_at path old.tree)) ≡ taken_reply old.blocks block
        reply_is = ap (λ who. appended_reply old.blocks who (unfinished_at (row_at path old.tree))) held ∙ ap (taken_reply old.blocks) ends

        by : (b : Bool) → is_done verdict ≡ b → IsPerformed last now caller (op.Append path) old verdict (record old { tree = tree; blocks = blocks; writers = writers })
        by true e =
            let left = done e in
            performed_done last now caller (op.Append path) old (record old { tree = tree; blocks = blocks; writers = writers }) verdict (taken_judged live verdict is dead told) e refl refl
            (left.tree ∙ ap (λ s. row_rewritten path (change.State s) old.tree) (sym state_is)) refl refl (left.blocks_is ∙ sym blocks_are)
            (subst (λ b. IsExact (renewed_where b caller now last) tree writers) (sym (ap has_opened reply_is ∙ never_opened old.blocks block)) (left.exact last exact))
            (changing old (record old { tree = tree; blocks = blocks; writers = writers }) verdict (Done (taken_reply old.blocks block)) (told ∙ done_or_not old.blocks block (refused_taking old.blocks now block) (ap is_done (sym told) ∙ e)) (taken_changes old.blocks block))
        by false e =
            let left = undone e in
            subst (IsPerformed last now caller (op.Append path) old verdict)
            (sym (ap (λ t. record old { tree = t; blocks = blocks; writers = writers }) left.0 ∙ (ap (λ b. record old { blocks = b; writers = writers }) left.1 ∙ ap (λ w. record old { writers = w }) left.2)))
            (performed_not_done last now caller (op.Append path) old verdict (taken_judged live verdict is dead told) e exact)

-- A node that reported a block that is deleted is to remove its replica.
use Rattle.std.proofs.Common.{◌≡◌, ℕ, ◌==◌, ◌||◌, Bool, true, false, inr, is_some, List, [], ◌∷◌, ◌++◌, map, fold, Option, Some, None, refl, sym, ap, ◌∙◌, subst, cond}
use Rattle.std.proofs.lemmas.Bool.{eqb-true}
use Rattle.std.proofs.lemmas.List.Folds.{list_any-append}
use Rattle.std.specs.List.{flat_map}
use Rattle.std.specs.Map.{keys_of, remove_entry}
use Rattle.std.specs.Option.{option_map}
use Rattle.node_ids.specs.NodeId.{node_of}
use Rattle.block_records.specs.Numbers.{is_number, has_number, entry_at}
use Rattle.block_records.specs.Verdicts.{verdict_by}
use Rattle.block_records.specs.declared.block_record.BlockRecord.{BlockRecord}
use Rattle.block_records.specs.declared.last_block.LastBlock.{LastBlock}
use Rattle.block_records.specs.declared.mark.Mark.{Mark}
use Rattle.block_records.specs.declared.report.ReportVerdict.{ReportVerdict}
use Rattle.block_records.specs.declared.report.ReportVerdict.TheVariants.{Superseded, Invalid, Valid}
use Rattle.block_records.proofs.Numbers.{number_is}
use Rattle.block_records.proofs.Reporting.{has_key}
use Rattle.block_changes.specs.Behind.{reports_by}
use Rattle.block_changes.specs.Removals.{marks_of_holders, marks_of_all_holders}
use Rattle.block_changes.specs.declared.transfer.Transfer.{Transfer}
use Rattle.block_tables.specs.Changes.{with_record_changed, with_report, without_report, with_replication, with_length, with_recovery, with_recovered, with_hand_out, with_hand_outs, without_blocks}
use Rattle.recovery_queue.specs.declared.begun.BegunRecovery.{BegunRecovery}
use Rattle.known_blocks.specs.Known.{KnownBlocks, block_of, with_block_changed, with_new_block, new_record}
use Rattle.block_map.specs.BlockFacts.{Blocks, known_block, newest_stamp, transfers_for, chosen_targets}
use Rattle.block_map.specs.BlockEffects.{with_blocks_removed, with_block_replication, committed_last, with_recovery_begun, recoveries_begun, with_node_heard, without_report_at, reported_by}
use Rattle.block_effect_laws.proofs.Orders.{AreInOrder, taken_in_order}
use Rattle.block_effect_laws.proofs.Looking.{added_at, changed_at, removed_at}
use Rattle.hdfs_types.specs.declared.op.Op.{Op}
use Rattle.hdfs_types.specs.declared.op.Op.TheVariants as op
use Rattle.hdfs_types.specs.declared.replica.ReportedReplica.{ReportedReplica}
use Rattle.namespace_rows.specs.declared.row.Row.{Row}
use Rattle.namespace_rows.specs.Files.{blocks_in}
use Rattle.namespace_rows.specs.Rows.{row_at}
use Rattle.flat_rows.specs.BlockOutcome.{replication_at, ids_at}
use Rattle.namespace_rows.specs.Changes.{rows_under}
use Rattle.flat_rows.specs.Facts.{Facts}
use Rattle.flat_rows.specs.FileOutcome.{holder_at}
use Rattle.flat_rows.specs.Takeover.{unfinished_at, sought_blocks}
use Rattle.flat_rows.specs.declared.verdict.Verdict.{Verdict}
use Rattle.flat_rows.specs.declared.verdict.Verdict.TheVariants.{Done, Denied, Refused}
use Rattle.history.specs.Blocks.{heard_of, reported_of, file_extended, file_ended, all_replicated, taken_over, blocks_after, blocks_by}
use Rattle.history.specs.LegalHistory.{now_at}
use Rattle.history.specs.State.{rows_of, blocks_of, facts_of}
use Rattle.block_laws.proofs.Histories.{stands}
use Rattle.block_laws.proofs.Told.{number_equal}
use Rattle.cluster_trace.specs.Provenance.{IsIn}
use Rattle.cluster_trace.proofs.Each.{in_append}
use Rattle.kept_bytes_laws.specs.Reports.{DeletedReplicasAreToBeRemoved}
use Rattle.kept_bytes_laws.proofs.Records.{Table}
use Rattle.kept_bytes_laws.proofs.Reports.{as_told}
use Rattle.kept_bytes_laws.proofs.Marked.{the_mark, all_in, among, known_with}

-- ---- blocks that stay known

module _ (q : ℕ) where
  abbrev Knows : Table → Type 0
  Knows table = is_some (entry_at q table) ≡ true

  abbrev StaysIn : Blocks → Type 0
  StaysIn facts = Knows facts.known.blocks

  changed_knows : (change : BlockRecord → BlockRecord) (block : ℕ) (table : Table) → Knows table → Knows (with_record_changed change block table)
  changed_knows change block table h = ap is_some (changed_at change block table q) ∙ by (is_number block q) refl
    where
      mapped : (found : Option BlockRecord) → is_some found ≡ true → is_some (option_map change found) ≡ true
      mapped None h = cc
      mapped (Some own) h = refl

      by : (b : Bool) → is_number block q ≡ b → is_some (cond b (option_map change (entry_at block table)) (entry_at q table)) ≡ true
      by true at = mapped (entry_at block table) (ap (λ n. is_some (entry_at n table)) (number_is block q at) ∙ h)
      by false at = h

  added_knows : (known : KnownBlocks) (targets : List ℕ) (replication : ℕ) → Knows known.blocks → Knows (with_new_block known targets replication).blocks
  added_knows known targets replication h = ap is_some (added_at known targets replication q) ∙ by (is_number known.next_block q) (new_record known.next_stamp targets replication)
    where
      by : (b : Bool) (own : BlockRecord) → is_some (cond b (Some own) (block_of known q)) ≡ true
      by true own = refl
      by false own = h

  handed_knows : (now : ℕ) (blocks : List ℕ) (table : Table) → Knows table → Knows (with_hand_outs now table blocks)
  handed_knows now [] table h = h
  handed_knows now (block ∷ blocks) table h = handed_knows now blocks (with_record_changed (with_hand_out now) block table) (changed_knows (with_hand_out now) block table h)

  begun_knows : (now : ℕ) (recoveries : List BegunRecovery) (facts : Blocks) → StaysIn facts → StaysIn (fold (λ left (own : BegunRecovery). with_recovery_begun left own.block now) facts recoveries)
  begun_knows now [] facts h = h
  begun_knows now (own ∷ recoveries) facts h =
      begun_knows now recoveries (with_recovery_begun facts own.block now) (changed_knows (with_recovery facts.known.next_stamp now) own.block facts.known.blocks h)

  replicated_knows : (replication : ℕ) (numbers : List ℕ) (facts : Blocks) → StaysIn facts → StaysIn (all_replicated replication numbers facts)
  replicated_knows replication [] facts h = h
  replicated_knows replication (block ∷ numbers) facts h =
      replicated_knows replication numbers (with_block_replication facts block replication) (changed_knows (with_replication replication) block facts.known.blocks h)

  module _ (facts : Blocks) (h : StaysIn facts) (now : ℕ) where
    taken_knows : (holder : Option (List ℕ)) (block : Option ℕ) → StaysIn (taken_over holder block now facts)
    taken_knows None None = h
    taken_knows (Some holder) None = h
    taken_knows None (Some block) = h
    taken_knows (Some holder) (Some block) = changed_knows (with_recovery facts.known.next_stamp now) block facts.known.blocks h

    ended_knows : (last : Option LastBlock) → StaysIn (file_ended last facts)
    ended_knows None = h
    ended_knows (Some last) = changed_knows (with_length last.length) last.block facts.known.blocks h

    extended_knows : (last : Option LastBlock) (found : Option ℕ) → StaysIn (file_extended last now found facts)
    extended_knows last None = h
    extended_knows None (Some replication) = added_knows facts.known (chosen_targets (committed_last facts None) now replication) replication h
    extended_knows (Some last) (Some replication) =
        added_knows (committed_last facts (Some last)).known (chosen_targets (committed_last facts (Some last)) now replication) replication (ended_knows (Some last))

    heard_knows : (node : Option ℕ) → StaysIn (heard_of node now facts)
    heard_knows None = h
    heard_knows (Some node) = handed_knows now (map (λ (transfer : Transfer). transfer.block) (transfers_for (with_node_heard facts node now) now node)) facts.known.blocks h

    reported_knows : (node : Option ℕ) (replica : ReportedReplica) → StaysIn (reported_of node replica facts)
    reported_knows None replica = h
    reported_knows (Some node) replica = by (verdict_by (known_block facts replica.block) replica.stamp replica.length)
      where
        left : (newest : Option ℕ) → Knows (without_report_at newest replica.stamp node replica.block facts.known).blocks
        left None = h
        left (Some newest) = by_same (newest == replica.stamp)
          where
            by_same : (b : Bool) → Knows (cond b (with_block_changed (without_report node) replica.block facts.known) facts.known).blocks
            by_same true = changed_knows (without_report node) replica.block facts.known.blocks h
            by_same false = h

        by : (verdict : ReportVerdict) → StaysIn (reported_by verdict facts node replica.block replica.stamp replica.length)
        by Superseded = h
        by Invalid = left (newest_stamp facts replica.block)
        by Valid = changed_knows (with_report node replica.length) replica.block facts.known.blocks h

  kept_known : (gone : List ℕ) (table : Table) → AreInOrder table → has_number q gone ≡ false → entry_at q (without_blocks table gone) ≡ entry_at q table
  kept_known [] table up h = refl
  kept_known (block ∷ gone) table up h =
      let parts = neither (block == q) (has_number q gone) h in
      kept_known gone (remove_entry (is_number block) table) (taken_in_order (is_number block) table up) parts.1
      ∙ (removed_at block table up q ∙ ap (λ b. cond b None (entry_at q table)) (number_equal block q ∙ parts.0))
    where
      neither : (a b : Bool) → (a || b) ≡ false → (a ≡ false) × (b ≡ false)
      neither true b h = cc
      neither false b h = (refl, h)

-- ---- marks of those that reported a block

in_last : {X : Type 0} (x : X) (xs ys : List X) → IsIn x ys → IsIn x (xs ++ ys)
in_last x [] ys i = i
in_last x (y ∷ xs) ys i = inr (in_last x xs ys i)

in_each : (mark : Mark) (f : ℕ → List Mark) (block : ℕ) (blocks : List ℕ) → has_number block blocks ≡ true → IsIn mark (f block) → IsIn mark (flat_map f blocks)
in_each mark f block [] h i = cc
in_each mark f block (first ∷ blocks) h i = by (first == block) refl h (λ k. in_each mark f block blocks k i)
  where
    by : (b : Bool) → (first == block) ≡ b → (b || has_number block blocks) ≡ true → (has_number block blocks ≡ true → IsIn mark (flat_map f blocks)) → IsIn mark (f first ++ flat_map f blocks)
    by true e h rest = in_append mark (f first) (flat_map f blocks) (subst (λ n. IsIn mark (f n)) (sym (eqb-true first block e)) i)
    by false e h rest = in_last mark (f first) (flat_map f blocks) (rest h)

never : {A : Type 0} (found : Option BlockRecord) → is_some found ≡ true → found ≡ None → A
never None known gone = cc
never (Some own) known gone = cc

module _ (facts : Facts) (caller : List ℕ) (rows : List Row) (up : AreInOrder facts.blocks.known.blocks) (node block length : ℕ) (own : BlockRecord) (there : known_block facts.blocks block ≡ Some own)
    (reported : entry_at node own.reports ≡ Some length) where
  abbrev IsToGo : Blocks → Type 0
  IsToGo later = IsIn (the_mark node block own.stamp) later.marks

  known : is_some (known_block facts.blocks block) ≡ true
  known = ap is_some there

  holder : IsIn (the_mark node block own.stamp) (marks_of_holders block (known_block facts.blocks block))
  holder =
      subst (λ found. IsIn (the_mark node block own.stamp) (marks_of_holders block found)) (sym there)
      (among node block own.stamp (own.expected ++ keys_of own.reports)
      (list_any-append (λ other. other == node) own.expected (keys_of own.reports) ∙ (ap (λ b. has_number node own.expected || b) (has_key node own.reports ∙ ap is_some reported) ∙ either (has_number node own.expected))))
    where
      either : (b : Bool) → (b || true) ≡ true
      either true = refl
      either false = refl

  removed : (gone : List ℕ) → entry_at block (without_blocks facts.blocks.known.blocks gone) ≡ None → IsToGo (with_blocks_removed facts.blocks gone)
  removed gone none = by (has_number block gone) refl
    where
      by : (b : Bool) → has_number block gone ≡ b → IsToGo (with_blocks_removed facts.blocks gone)
      by true has =
          all_in (the_mark node block own.stamp) (marks_of_all_holders facts.blocks.known gone) facts.blocks.marks
          (in_each (the_mark node block own.stamp) (λ n. marks_of_holders n (block_of facts.blocks.known n)) block gone has holder)
      by false lacks = never (known_block facts.blocks block) known (sym (kept_known block gone facts.blocks.known.blocks up lacks) ∙ none)

  deleted : (what : Op) → known_block (blocks_after facts what caller rows facts.blocks) block ≡ None → IsToGo (blocks_after facts what caller rows facts.blocks)
  deleted (op.Create path mode replication over) none = removed (blocks_in (rows_under path rows)) none
  deleted (op.Delete path recursive) none = removed (blocks_in (rows_under path rows)) none
  deleted (op.Append path) none = never _ (taken_knows block facts.blocks known facts.now (holder_at (row_at path rows)) (unfinished_at (row_at path rows))) none
  deleted (op.AddBlock path last) none = never _ (extended_knows block facts.blocks known facts.now last (replication_at (row_at path rows))) none
  deleted (op.Complete path last) none = never _ (ended_knows block facts.blocks known facts.now last) none
  deleted (op.SetReplication path replication) none = never _ (replicated_knows block replication (ids_at (row_at path rows)) facts.blocks known) none
  deleted op.Tick none = never _ (begun_knows block facts.now (recoveries_begun facts.blocks (sought_blocks facts rows) facts.now) facts.blocks known) none
  deleted op.Heartbeat none = never _ (heard_knows block facts.blocks known facts.now (node_of caller)) none
  deleted (op.Reported replica) none = never _ (reported_knows block facts.blocks known facts.now (node_of caller) replica) none
  deleted (op.CommitRecovery recovery) none = never _ (changed_knows block (with_recovered recovery.length recovery.nodes) recovery.block facts.blocks.known.blocks known) none
  deleted _ none = never _ known none

  deleted_by : (verdict : Verdict) (what : Op) → known_block (blocks_by facts what caller verdict rows facts.blocks) block ≡ None → IsToGo (blocks_by facts what caller verdict rows facts.blocks)
  deleted_by (Done told) what none = deleted what none
  deleted_by (Denied denial) what none = never _ known none
  deleted_by (Refused refusal) what none = never _ known none

unknown : (found : Option BlockRecord) → option_map (λ (own : BlockRecord). own.stamp) found ≡ None → found ≡ None
unknown None h = refl
unknown (Some own) h = cc

pub deleted_are_to_go : DeletedReplicasAreToBeRemoved
deleted_are_to_go opening entry earlier node block stamp length legal newest gone reports =
    let before = blocks_of opening earlier in
    let known = known_with (known_block before block) stamp newest in
    let facts = facts_of opening earlier (now_at earlier entry.request) in
    let reported : entry_at node known.0.reports ≡ Some length =
    ap (λ (found : Option BlockRecord). entry_at node (reports_by found)) (sym known.1) ∙ (as_told opening earlier node block legal.2 ∙ reports) in
    subst (λ s. IsIn (the_mark node block s) (blocks_of opening (entry ∷ earlier)).marks) known.2
    (deleted_by facts entry.request.caller (rows_of opening earlier) (stands opening earlier legal.2).sound.once node block length known.0 known.1 reported entry.verdict entry.request.op
    (unknown (known_block (blocks_of opening (entry ∷ earlier)) block) gone))

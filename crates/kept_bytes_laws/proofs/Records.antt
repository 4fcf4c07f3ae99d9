-- What holds of the record of each known block, behind each operation.
use Rattle.std.proofs.Common.{◌≡◌, ℕ, ◌==◌, ◌&&◌, Bool, true, false, inl, List, [], ◌∷◌, map, fold, is_some, nat_lt, Option, Some, None, refl, sym, ◌∙◌, subst, cond}
use Rattle.std.proofs.lemmas.Bool.{eqb-true}
use Rattle.std.specs.Map.{remove_entry}
use Rattle.std.specs.Option.{option_map}
use Rattle.block_records.specs.Numbers.{is_number, entry_at}
use Rattle.block_records.specs.Verdicts.{agrees, verdict_by}
use Rattle.block_records.specs.declared.block_record.BlockRecord.{BlockRecord}
use Rattle.block_records.specs.declared.last_block.LastBlock.{LastBlock}
use Rattle.block_records.specs.declared.report.ReportVerdict.{ReportVerdict}
use Rattle.block_records.specs.declared.report.ReportVerdict.TheVariants.{Superseded, Invalid, Valid}
use Rattle.block_records.proofs.Numbers.{number_is}
use Rattle.block_changes.specs.declared.transfer.Transfer.{Transfer}
use Rattle.block_tables.specs.Changes.{with_record_changed, with_report, without_report, with_replication, with_length, with_recovery, with_recovered, with_hand_out, with_hand_outs, without_blocks}
use Rattle.recovery_queue.specs.declared.begun.BegunRecovery.{BegunRecovery}
use Rattle.known_blocks.specs.Known.{KnownBlocks, with_block_changed, with_new_block, new_record}
use Rattle.block_map.specs.BlockFacts.{Blocks, known_block, newest_stamp, transfers_for}
use Rattle.block_map.specs.BlockEffects.{with_block_replication, committed_last, with_recovery_begun, recoveries_begun, with_node_heard, without_report_at, reported_by}
use Rattle.block_effect_laws.proofs.Orders.{AreInOrder, taken_in_order}
use Rattle.block_effect_laws.proofs.Looking.{added_at, changed_at, removed_at}
use Rattle.node_ids.specs.NodeId.{node_of}
use Rattle.block_answers.specs.LocatedBlocks.{AddedBlock}
use Rattle.hdfs_types.specs.declared.op.Op.{Op}
use Rattle.hdfs_types.specs.declared.op.Op.TheVariants as op
use Rattle.hdfs_types.specs.declared.replica.RecoveredBlock.{RecoveredBlock}
use Rattle.hdfs_types.specs.declared.replica.ReportedReplica.{ReportedReplica}
use Rattle.principals.specs.Users.{Users}
use Rattle.namespace_rows.specs.declared.row.Row.{Row}
use Rattle.namespace_rows.specs.Files.{blocks_in}
use Rattle.namespace_rows.specs.Rows.{row_at}
use Rattle.flat_rows.specs.BlockOutcome.{replication_at, ids_at, added_to}
use Rattle.namespace_rows.specs.Changes.{rows_under}
use Rattle.flat_rows.specs.Facts.{Facts}
use Rattle.flat_rows.specs.FileOutcome.{holder_at}
use Rattle.flat_rows.specs.Outcome.{reply_of, first_refusal}
use Rattle.flat_rows.specs.Takeover.{unfinished_at, sought_blocks}
use Rattle.history.specs.Blocks.{heard_of, reported_of, file_extended, file_ended, all_replicated, taken_over, blocks_after}
use Rattle.block_laws.specs.Laws.{blocks_told}
use Rattle.block_laws.proofs.Unrefused.{recovery_ran}
use Rattle.cluster_trace.specs.Provenance.{IsIn}

abbrev pub Table : Type 0
Table = List (ℕ × BlockRecord)

one : (own other : BlockRecord) → Some own ≡ Some other → own ≡ other
one own other e = cc

module _ (P : ℕ → BlockRecord → Type 0) where
  abbrev pub OfEach : Table → Type 0
  OfEach table = (block : ℕ) (own : BlockRecord) → entry_at block table ≡ Some own → P block own

  pub changed_has : (change : BlockRecord → BlockRecord) (block : ℕ) (table : Table) → ((own : BlockRecord) → entry_at block table ≡ Some own → P block own → P block (change own)) → OfEach table → OfEach (with_record_changed change block table)
  changed_has change block table keeps all q own there = by (is_number block q) refl (sym (changed_at change block table q) ∙ there)
    where
      here : (found : Option BlockRecord) → entry_at block table ≡ found → option_map change found ≡ Some own → P block own
      here None e h = cc
      here (Some old) e h = subst (λ (new : BlockRecord). P block new) (one (change old) own h) (keeps old e (all block old e))

      by : (b : Bool) → is_number block q ≡ b → cond b (option_map change (entry_at block table)) (entry_at q table) ≡ Some own → P q own
      by true at h = subst (λ n. P n own) (number_is block q at) (here (entry_at block table) refl h)
      by false at h = all q own h

  removed_has : (block : ℕ) (table : Table) → AreInOrder table → OfEach table → OfEach (remove_entry (is_number block) table)
  removed_has block table up all q own there = by (is_number block q) (sym (removed_at block table up q) ∙ there)
    where
      by : (b : Bool) → cond b None (entry_at q table) ≡ Some own → P q own
      by true h = cc
      by false h = all q own h

  pub all_removed_have : (blocks : List ℕ) (table : Table) → AreInOrder table → OfEach table → OfEach (without_blocks table blocks)
  all_removed_have [] table up all = all
  all_removed_have (block ∷ blocks) table up all =
      all_removed_have blocks (remove_entry (is_number block) table) (taken_in_order (is_number block) table up) (removed_has block table up all)

  pub added_has : (known : KnownBlocks) (targets : List ℕ) (replication : ℕ) → P known.next_block (new_record known.next_stamp targets replication) → OfEach known.blocks → OfEach (with_new_block known targets replication).blocks
  added_has known targets replication new all q own there = by (is_number known.next_block q) refl (sym (added_at known targets replication q) ∙ there)
    where
      made : BlockRecord
      made = new_record known.next_stamp targets replication

      by : (b : Bool) → is_number known.next_block q ≡ b → cond b (Some made) (entry_at q known.blocks) ≡ Some own → P q own
      by true at h = subst (λ n. P n own) (number_is known.next_block q at) (subst (λ (new : BlockRecord). P known.next_block new) (one made own h) new)
      by false at h = all q own h

  -- whatever is told of a block, of its replication and length, of its copies and of a recovery that begins
  pub record Stays : Type 0 where
    pub replication : (block replication : ℕ) (own : BlockRecord) → P block own → P block (with_replication replication own)
    pub committed : (block length : ℕ) (own : BlockRecord) → P block own → P block (with_length length own)
    pub unreported : (block node : ℕ) (own : BlockRecord) → P block own → P block (without_report node own)
    pub copied : (block now : ℕ) (own : BlockRecord) → P block own → P block (with_hand_out now own)
    pub recovery : (block stamp now : ℕ) (own : BlockRecord) → P block own → P block (with_recovery stamp now own)

  module _ (stays : Stays) where
    told_have : (now : ℕ) (blocks : List ℕ) (table : Table) → OfEach table → OfEach (with_hand_outs now table blocks)
    told_have now [] table all = all
    told_have now (block ∷ blocks) table all =
        told_have now blocks (with_record_changed (with_hand_out now) block table) (changed_has (with_hand_out now) block table (λ own there h. stays.copied block now own h) all)

    begun_has : (facts : Blocks) (block now : ℕ) → OfEach facts.known.blocks → OfEach (with_recovery_begun facts block now).known.blocks
    begun_has facts block now all =
        changed_has (with_recovery facts.known.next_stamp now) block facts.known.blocks (λ own there h. stays.recovery block facts.known.next_stamp now own h) all

    all_begun_have : (now : ℕ) (recoveries : List BegunRecovery) (facts : Blocks) → OfEach facts.known.blocks → OfEach (fold (λ left (own : BegunRecovery). with_recovery_begun left own.block now) facts recoveries).known.blocks
    all_begun_have now [] facts all = all
    all_begun_have now (own ∷ recoveries) facts all = all_begun_have now recoveries (with_recovery_begun facts own.block now) (begun_has facts own.block now all)

    replicated_has : (replication : ℕ) (numbers : List ℕ) (facts : Blocks) → OfEach facts.known.blocks → OfEach (all_replicated replication numbers facts).known.blocks
    replicated_has replication [] facts all = all
    replicated_has replication (block ∷ numbers) facts all =
        replicated_has replication numbers (with_block_replication facts block replication)
        (changed_has (with_replication replication) block facts.known.blocks (λ own there h. stays.replication block replication own h) all)

    taken_has : (facts : Blocks) (holder : Option (List ℕ)) (block : Option ℕ) (now : ℕ) → OfEach facts.known.blocks → OfEach (taken_over holder block now facts).known.blocks
    taken_has facts None None now all = all
    taken_has facts (Some holder) None now all = all
    taken_has facts None (Some block) now all = all
    taken_has facts (Some holder) (Some block) now all = begun_has facts block now all

    ended_has : (facts : Blocks) (last : Option LastBlock) → OfEach facts.known.blocks → OfEach (file_ended last facts).known.blocks
    ended_has facts None all = all
    ended_has facts (Some last) all = changed_has (with_length last.length) last.block facts.known.blocks (λ own there h. stays.committed last.block last.length own h) all

    heard_has : (facts : Blocks) (node : Option ℕ) (now : ℕ) → OfEach facts.known.blocks → OfEach (heard_of node now facts).known.blocks
    heard_has facts None now all = all
    heard_has facts (Some node) now all = told_have now (map (λ (transfer : Transfer). transfer.block) (transfers_for (with_node_heard facts node now) now node)) facts.known.blocks all

    module _ (facts : Facts) (caller : List ℕ) (rows : List Row) (users : Users) where
      -- and of what an operation tells of new blocks, reports and ends of recoveries
      pub record Allows (what : Op) : Type 0 where
        pub added : (new : AddedBlock) (replication : ℕ) → IsIn new (blocks_told (reply_of facts caller what rows)) → P new.block (new_record new.stamp new.targets replication)
        pub reported : (node : ℕ) (replica : ReportedReplica) (own : BlockRecord) → what ≡ op.Reported replica → node_of caller ≡ Some node → own.stamp ≡ replica.stamp
            → P replica.block own → P replica.block (with_report node replica.length own)
        pub recovered : (recovery : RecoveredBlock) (own : BlockRecord) → what ≡ op.CommitRecovery recovery → own.stamp ≡ recovery.stamp
            → P recovery.block own → P recovery.block (with_recovered recovery.length recovery.nodes own)

      abbrev before : Table
      before = facts.blocks.known.blocks

      added_by : (last : Option LastBlock) (found : Option ℕ)
          → ((new : AddedBlock) (replication : ℕ) → IsIn new (blocks_told (added_to facts.token caller facts.blocks last facts.now found)) → P new.block (new_record new.stamp new.targets replication))
          → OfEach before → OfEach (file_extended last facts.now found facts.blocks).known.blocks
      added_by last None allowed all = all
      added_by None (Some replication) allowed all = added_has facts.blocks.known _ replication (allowed _ replication (inl refl)) all
      added_by (Some last) (Some replication) allowed all =
          added_has (committed_last facts.blocks (Some last)).known _ replication (allowed _ replication (inl refl)) (ended_has facts.blocks (Some last) all)

      unreported_has : (found : Option ℕ) (stamp node block : ℕ) → OfEach before → OfEach (without_report_at found stamp node block facts.blocks.known).blocks
      unreported_has None stamp node block all = all
      unreported_has (Some newest) stamp node block all = by (newest == stamp)
        where
          by : (b : Bool) → OfEach (cond b (with_block_changed (without_report node) block facts.blocks.known) facts.blocks.known).blocks
          by true = changed_has (without_report node) block before (λ own there h. stays.unreported block node own h) all
          by false = all

      -- a report that is taken is of the newest stamp
      valid_stamp : (found : Option BlockRecord) (own : BlockRecord) (stamp length : ℕ) → found ≡ Some own → verdict_by found stamp length ≡ Valid → own.stamp ≡ stamp
      valid_stamp None own stamp length is valid = cc
      valid_stamp (Some other) own stamp length is valid =
          subst (λ (o : BlockRecord). o.stamp ≡ stamp) (one other own is) (sym (by (nat_lt stamp other.stamp && is_some other.recovering) (stamp == other.stamp) refl (agrees length other.committed) valid))
        where
          by : (a b : Bool) → (stamp == other.stamp) ≡ b → (c : Bool) → cond a Superseded (cond (b && c) Valid Invalid) ≡ Valid → stamp ≡ other.stamp
          by true b e c h = cc
          by false true e c h = eqb-true stamp other.stamp e
          by false false e c h = cc

      reported_has : (found : Option ℕ) (replica : ReportedReplica)
          → ((node : ℕ) (own : BlockRecord) → found ≡ Some node → own.stamp ≡ replica.stamp → P replica.block own → P replica.block (with_report node replica.length own))
          → OfEach before → OfEach (reported_of found replica facts.blocks).known.blocks
      reported_has None replica allowed all = all
      reported_has (Some node) replica allowed all = by (verdict_by (known_block facts.blocks replica.block) replica.stamp replica.length) refl
        where
          by : (verdict : ReportVerdict) → verdict_by (known_block facts.blocks replica.block) replica.stamp replica.length ≡ verdict
              → OfEach (reported_by verdict facts.blocks node replica.block replica.stamp replica.length).known.blocks
          by Superseded e = all
          by Invalid e = unreported_has (newest_stamp facts.blocks replica.block) replica.stamp node replica.block all
          by Valid e =
              changed_has (with_report node replica.length) replica.block before
              (λ own there h. allowed node own refl (valid_stamp (known_block facts.blocks replica.block) own replica.stamp replica.length there e) h) all

      recovered_has : (recovery : RecoveredBlock) → first_refusal facts caller (op.CommitRecovery recovery) rows users ≡ None
          → ((own : BlockRecord) → own.stamp ≡ recovery.stamp → P recovery.block own → P recovery.block (with_recovered recovery.length recovery.nodes own))
          → OfEach before → OfEach (with_record_changed (with_recovered recovery.length recovery.nodes) recovery.block before)
      recovered_has recovery unrefused allowed all =
          let ran = recovery_ran facts caller recovery rows users unrefused in
          changed_has (with_recovered recovery.length recovery.nodes) recovery.block before
          (λ own there h. allowed own (subst (λ (o : BlockRecord). o.stamp ≡ recovery.stamp) (one ran.known own (sym ran.there ∙ there)) (sym ran.stamped)) h) all

      pub each_after : (what : Op) → first_refusal facts caller what rows users ≡ None → Allows what → AreInOrder before → OfEach before → OfEach (blocks_after facts what caller rows facts.blocks).known.blocks
      each_after (op.Create path mode replication over) unrefused allows up all = all_removed_have (blocks_in (rows_under path rows)) before up all
      each_after (op.Delete path recursive) unrefused allows up all = all_removed_have (blocks_in (rows_under path rows)) before up all
      each_after (op.Append path) unrefused allows up all = taken_has facts.blocks (holder_at (row_at path rows)) (unfinished_at (row_at path rows)) facts.now all
      each_after (op.AddBlock path last) unrefused allows up all = added_by last (replication_at (row_at path rows)) allows.added all
      each_after (op.Complete path last) unrefused allows up all = ended_has facts.blocks last all
      each_after (op.SetReplication path replication) unrefused allows up all = replicated_has replication (ids_at (row_at path rows)) facts.blocks all
      each_after op.Tick unrefused allows up all = all_begun_have facts.now (recoveries_begun facts.blocks (sought_blocks facts rows) facts.now) facts.blocks all
      each_after op.Heartbeat unrefused allows up all = heard_has facts.blocks (node_of caller) facts.now all
      each_after (op.Reported replica) unrefused allows up all = reported_has (node_of caller) replica (λ node own is same h. allows.reported node replica own refl is same h) all
      each_after (op.CommitRecovery recovery) unrefused allows up all = recovered_has recovery unrefused (λ own same h. allows.recovered recovery own refl same h) all
      each_after _ unrefused allows up all = all

-- What a step leaves of what stands, and which numbers it gives.
use Rattle.std.proofs.Common.{◌≡◌, ℕ, ◌+◌, ◌≤◌, ◌==◌, Bool, true, false, List, [], ◌∷◌, fold, Option, Some, None, refl, sym, subst, cond, arith}
use Rattle.node_ids.specs.NodeId.{node_of}
use Rattle.block_answers.specs.LocatedBlocks.{AddedBlock}
use Rattle.hdfs_types.specs.declared.op.Op.{Op}
use Rattle.hdfs_types.specs.declared.op.Op.TheVariants as op
use Rattle.hdfs_types.specs.declared.reply.Reply.{Reply}
use Rattle.hdfs_types.specs.declared.replica.ReportedReplica.{ReportedReplica}
use Rattle.block_records.specs.declared.last_block.LastBlock.{LastBlock}
use Rattle.block_records.specs.declared.report.ReportVerdict.{ReportVerdict}
use Rattle.block_records.specs.declared.report.ReportVerdict.TheVariants.{Superseded, Invalid, Valid}
use Rattle.block_records.specs.Verdicts.{verdict_by}
use Rattle.recovery_queue.specs.declared.begun.BegunRecovery.{BegunRecovery}
use Rattle.block_tables.specs.Changes.{without_report}
use Rattle.known_blocks.specs.Known.{KnownBlocks, with_block_changed}
use Rattle.block_map.specs.BlockFacts.{Blocks, known_block, newest_stamp}
use Rattle.block_map.specs.BlockEffects.{with_block_replication, with_recovery_begun, recoveries_begun, reported_by, without_report_at}
use Rattle.block_effect_laws.specs.Laws.{IsSound, KeepsKnown}
use Rattle.block_effect_laws.proofs.Turning.{kept_same}
use Rattle.principals.specs.Users.{Users}
use Rattle.namespace_rows.specs.declared.row.Row.{Row}
use Rattle.namespace_rows.specs.Namespace.{IsNamespace}
use Rattle.namespace_rows.specs.Rows.{row_at}
use Rattle.flat_rows.specs.BlockOutcome.{replication_at, ids_at, added_to}
use Rattle.flat_rows.specs.declared.verdict.Verdict.{Verdict}
use Rattle.flat_rows.specs.declared.verdict.Verdict.TheVariants.{Done, Denied, Refused}
use Rattle.flat_rows.specs.FileOutcome.{holder_at}
use Rattle.flat_rows.specs.Takeover.{unfinished_at, appended_reply, sought_blocks}
use Rattle.flat_rows.specs.NodeOutcome.{heartbeat_reply}
use Rattle.flat_rows.specs.Facts.{Facts}
use Rattle.flat_rows.specs.Outcome.{step, reply_of, status_of, acl_status_of, serial_reply}
use Rattle.history.specs.Blocks.{heard_of, reported_of, file_extended, file_ended, all_replicated, taken_over, blocks_after, blocks_by}
use Rattle.history.specs.State.{rows_by}
use Rattle.block_laws.specs.Laws as law
use Rattle.block_laws.specs.Laws.{blocks_told}
use Rattle.block_laws.proofs.Told.{told}
use Rattle.block_laws.proofs.Standing.{Agree}
use Rattle.block_laws.proofs.Namespaces.{namespace_stays}
use Rattle.block_laws.proofs.Recoveries.{Recover}
use Rattle.block_laws.proofs.Operations.{blocks_kept, agree_stays}
use Rattle.block_laws.proofs.Running.{recover_stays}
use Rattle.block_laws.proofs.Unrefused.{was_done}

-- ---- numbers that are given

-- the next number and the next stamp, if any
abbrev pub Gives : KnownBlocks → KnownBlocks → List AddedBlock → Type 0
Gives before later [] = later.next_block ≡ before.next_block
Gives before later (new ∷ []) = (new.block ≡ before.next_block) × (later.next_block ≡ before.next_block + 1) × (new.stamp ≡ before.next_stamp) × (before.next_stamp + 1 ≤ later.next_stamp)
Gives before later (new ∷ other ∷ more) = ⊥

gives_none : (before later : KnownBlocks) (told : Reply) → blocks_told told ≡ [] → later.next_block ≡ before.next_block → Gives before later (blocks_told told)
gives_none before later told none same = subst (λ new. Gives before later new) (sym none) same

no_status : (at : Option Row) → blocks_told (status_of at) ≡ []
no_status None = refl
no_status (Some row) = refl

no_acl : (at : Option Row) → blocks_told (acl_status_of at) ≡ []
no_acl None = refl
no_acl (Some row) = refl

no_append : (facts : Blocks) (holder : Option (List ℕ)) (block : Option ℕ) → blocks_told (appended_reply facts holder block) ≡ []
no_append facts None block = refl
no_append facts (Some holder) None = refl
no_append facts (Some holder) (Some block) = refl

no_serial : (serial : Option ℕ) → blocks_told (serial_reply serial) ≡ []
no_serial None = refl
no_serial (Some serial) = refl

no_commands : (facts : Facts) (caller : List ℕ) (node : Option ℕ) → blocks_told (heartbeat_reply facts caller node) ≡ []
no_commands facts caller None = refl
no_commands facts caller (Some node) = refl

next_replicated : (replication : ℕ) (numbers : List ℕ) (facts : Blocks) → (all_replicated replication numbers facts).known.next_block ≡ facts.known.next_block
next_replicated replication [] facts = refl
next_replicated replication (block ∷ numbers) facts = next_replicated replication numbers (with_block_replication facts block replication)

next_taken : (holder : Option (List ℕ)) (block : Option ℕ) (now : ℕ) (facts : Blocks) → (taken_over holder block now facts).known.next_block ≡ facts.known.next_block
next_taken None None now facts = refl
next_taken (Some holder) None now facts = refl
next_taken None (Some block) now facts = refl
next_taken (Some holder) (Some block) now facts = refl

next_begun : (recoveries : List BegunRecovery) (now : ℕ) (facts : Blocks) → (fold (λ left (own : BegunRecovery). with_recovery_begun left own.block now) facts recoveries).known.next_block ≡ facts.known.next_block
next_begun [] now facts = refl
next_begun (own ∷ recoveries) now facts = next_begun recoveries now (with_recovery_begun facts own.block now)

next_heard : (node : Option ℕ) (now : ℕ) (facts : Blocks) → (heard_of node now facts).known.next_block ≡ facts.known.next_block
next_heard None now facts = refl
next_heard (Some node) now facts = refl

next_unreported : (found : Option ℕ) (stamp node block : ℕ) (own : KnownBlocks) → (without_report_at found stamp node block own).next_block ≡ own.next_block
next_unreported None stamp node block own = refl
next_unreported (Some newest) stamp node block own = by (newest == stamp)
  where
    by : (b : Bool) → (cond b (with_block_changed (without_report node) block own) own).next_block ≡ own.next_block
    by true = refl
    by false = refl

next_reported : (node : Option ℕ) (replica : ReportedReplica) (facts : Blocks) → (reported_of node replica facts).known.next_block ≡ facts.known.next_block
next_reported None replica facts = refl
next_reported (Some node) replica facts = by (verdict_by (known_block facts replica.block) replica.stamp replica.length)
  where
    by : (verdict : ReportVerdict) → (reported_by verdict facts node replica.block replica.stamp replica.length).known.next_block ≡ facts.known.next_block
    by Superseded = refl
    by Invalid = next_unreported (newest_stamp facts replica.block) replica.stamp node replica.block facts.known
    by Valid = refl

next_ended : (last : Option LastBlock) (facts : Blocks) → (file_ended last facts).known.next_block ≡ facts.known.next_block
next_ended None facts = refl
next_ended (Some last) facts = refl

module _ (facts : Facts) (caller : List ℕ) (rows : List Row) where
  abbrev before : KnownBlocks
  before = facts.blocks.known

  abbrev after : Op → KnownBlocks
  after what = (blocks_after facts what caller rows facts.blocks).known

  gives_added : (last : Option LastBlock) (replication : Option ℕ)
      → Gives before (file_extended last facts.now replication facts.blocks).known (blocks_told (added_to facts.token caller facts.blocks last facts.now replication))
  gives_added last None = refl
  gives_added None (Some replication) = (refl, refl, refl, omega arith)
  gives_added (Some last) (Some replication) = (refl, refl, refl, omega arith)

  pub gives_next : (what : Op) → Gives before (after what) (blocks_told (reply_of facts caller what rows))
  gives_next (op.Stat path) = gives_none before before (status_of (row_at path rows)) (no_status (row_at path rows)) refl
  gives_next (op.GetAcl path) = gives_none before before (acl_status_of (row_at path rows)) (no_acl (row_at path rows)) refl
  gives_next (op.Append path) =
      let holder = holder_at (row_at path rows) in
      let block = unfinished_at (row_at path rows) in
      gives_none before (after (op.Append path)) (appended_reply facts.blocks holder block) (no_append facts.blocks holder block) (next_taken holder block facts.now facts.blocks)
  gives_next (op.AddBlock path last) = gives_added last (replication_at (row_at path rows))
  gives_next (op.Complete path last) = next_ended last facts.blocks
  gives_next (op.SetReplication path replication) = next_replicated replication (ids_at (row_at path rows)) facts.blocks
  gives_next (op.RollKey key) = gives_none before before (serial_reply facts.next_serial) (no_serial facts.next_serial) refl
  gives_next op.Tick = next_begun (recoveries_begun facts.blocks (sought_blocks facts rows) facts.now) facts.now facts.blocks
  gives_next op.Heartbeat = gives_none before (after op.Heartbeat) (heartbeat_reply facts caller (node_of caller)) (no_commands facts caller (node_of caller)) (next_heard (node_of caller) facts.now facts.blocks)
  gives_next (op.Reported replica) = next_reported (node_of caller) replica facts.blocks
  gives_next _ = refl

-- ---- what stands

pub record Standing (rows : List Row) (own : KnownBlocks) : Type 0 where
  pub namespace : IsNamespace rows
  pub sound : IsSound own
  pub agree : Agree (told own) rows
  pub recover : Recover own rows

-- and goes on standing, with the numbers that were given
pub record Turned (before later : KnownBlocks) (left : List Row) (new : List AddedBlock) : Type 0 where
  pub standing : Standing left later
  pub kept : KeepsKnown before later
  pub gives : Gives before later new

module _ (facts : Facts) (rows : List Row) (users : Users) (caller : List ℕ) (what : Op) (standing : Standing rows facts.blocks.known) where
  abbrev now : KnownBlocks
  now = facts.blocks.known

  stays : Turned now now rows []
  stays = record { standing = standing; kept = kept_same now standing.sound; gives = refl }

  pub turned : (verdict : Verdict) → verdict ≡ (step facts rows users caller what).verdict
      → Turned now (blocks_by facts what caller verdict rows facts.blocks).known (rows_by facts what caller verdict rows) (law.blocks_given_by verdict)
  turned (Done told) is =
      let done = was_done facts rows users caller what told is in
      let kept = blocks_kept facts caller rows users standing.namespace standing.sound standing.agree standing.recover what done.unrefused in
      record {
        standing = record {
          namespace = namespace_stays facts caller rows users standing.namespace what done.unrefused;
          sound = kept.sound;
          agree = agree_stays facts caller rows users standing.namespace standing.sound standing.agree standing.recover what done.unrefused;
          recover = recover_stays facts caller rows users standing.namespace standing.sound standing.agree standing.recover what done.unrefused;
        };
        kept = kept;
        gives = subst (λ reply. Gives now (blocks_after facts what caller rows facts.blocks).known (blocks_told reply)) (sym done.told_is) (gives_next facts caller rows what);
      }
  turned (Denied denial) is = stays
  turned (Refused refusal) is = stays

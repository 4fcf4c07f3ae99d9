-- The recoveries that wait for their leaders, behind each operation: a block that didn't wait does so only under a stamp that wasn't given before.
use Rattle.std.proofs.Common.{◌≡◌, ℕ, ◌+◌, ◌≤◌, Bool, true, false, not, ◌⊎◌, inl, inr, List, [], ◌∷◌, filter, fold, Option, Some, None, refl, sym, ap, ◌∙◌, subst, cond, arith}
use Rattle.std.specs.Map.{remove_entry}
use Rattle.std.specs.Option.{option_map}
use Rattle.block_records.specs.Numbers.{is_number, entry_at}
use Rattle.block_records.specs.Verdicts.{verdict_by}
use Rattle.block_records.specs.declared.block_record.BlockRecord.{BlockRecord}
use Rattle.block_records.specs.declared.last_block.LastBlock.{LastBlock}
use Rattle.block_records.specs.declared.report.ReportVerdict.{ReportVerdict}
use Rattle.block_records.specs.declared.report.ReportVerdict.TheVariants.{Superseded, Invalid, Valid}
use Rattle.block_records.proofs.Ascending.{kept_ascending}
use Rattle.block_records.proofs.Numbers.{number_is}
use Rattle.block_recovery.proofs.Lookups.{lookup_inserted}
use Rattle.block_recovery.proofs.Tables.{itself}
use Rattle.block_tables.specs.Changes.{with_recovery}
use Rattle.recovery_queue.specs.Queue.{without_recovery, without_each, leads}
use Rattle.recovery_queue.specs.declared.begun.BegunRecovery.{BegunRecovery}
use Rattle.block_changes.specs.Leaders.{queued_for}
use Rattle.block_map.specs.BlockFacts.{Blocks, known_block, leader}
use Rattle.block_map.specs.BlockEffects.{with_blocks_removed, with_block_replication, with_recovery_begun, recoveries_begun, with_recovery_ended, reported_by}
use Rattle.block_effect_laws.proofs.Orders.{AreInOrder, put_in_order, taken_in_order}
use Rattle.block_effect_laws.proofs.Looking.{changed_at}
use Rattle.node_ids.specs.NodeId.{node_of}
use Rattle.hdfs_types.specs.declared.op.Op.{Op}
use Rattle.hdfs_types.specs.declared.op.Op.TheVariants as op
use Rattle.hdfs_types.specs.declared.replica.ReportedReplica.{ReportedReplica}
use Rattle.namespace_rows.specs.declared.row.Row.{Row}
use Rattle.namespace_rows.specs.Files.{blocks_in}
use Rattle.namespace_rows.specs.Rows.{row_at}
use Rattle.flat_rows.specs.BlockOutcome.{replication_at, ids_at}
use Rattle.namespace_rows.specs.Changes.{rows_under}
use Rattle.flat_rows.specs.FileOutcome.{holder_at}
use Rattle.flat_rows.specs.Takeover.{unfinished_at, sought_blocks}
use Rattle.flat_rows.specs.Facts.{Facts}
use Rattle.flat_rows.specs.declared.verdict.Verdict.{Verdict}
use Rattle.flat_rows.specs.declared.verdict.Verdict.TheVariants.{Done, Denied, Refused}
use Rattle.history.specs.Blocks.{heard_of, reported_of, file_extended, file_ended, all_replicated, taken_over, blocks_after, blocks_by}

-- ---- a queue of blocks, each with its leader

abbrev Queue : Type 0
Queue = List (ℕ × ℕ)

apart_number : (a b : ℕ) → is_number a b ≡ false → is_number b a ≡ false
apart_number a b apart = by (is_number b a) refl
  where
    by : (x : Bool) → is_number b a ≡ x → x ≡ false
    by true is = sym (ap (is_number a) (number_is b a is) ∙ itself a) ∙ apart
    by false is = refl

-- a block that isn't in it isn't there where others go
gone : (test : ℕ → Bool) (q : ℕ) (queue : Queue) → entry_at q queue ≡ None → entry_at q (remove_entry test queue) ≡ None
gone test q [] none = none
gone test q (entry ∷ queue) none = by (is_number q entry.0) refl (test entry.0) none (gone test q queue)
  where
    by : (a : Bool) → is_number q entry.0 ≡ a → (b : Bool) → cond a (Some entry.1) (entry_at q queue) ≡ None → (entry_at q queue ≡ None → entry_at q (remove_entry test queue) ≡ None)
        → entry_at q (cond b queue (entry ∷ remove_entry test queue)) ≡ None
    by true at b none rest = cc
    by false at true none rest = none
    by false at false none rest = ap (λ a. cond a (Some entry.1) (entry_at q (remove_entry test queue))) at ∙ rest none

fewer : (test : ℕ × ℕ → Bool) (q : ℕ) (queue : Queue) → entry_at q queue ≡ None → entry_at q (filter test queue) ≡ None
fewer test q [] none = none
fewer test q (entry ∷ queue) none = by (is_number q entry.0) refl (test entry) none (fewer test q queue)
  where
    by : (a : Bool) → is_number q entry.0 ≡ a → (b : Bool) → cond a (Some entry.1) (entry_at q queue) ≡ None → (entry_at q queue ≡ None → entry_at q (filter test queue) ≡ None)
        → entry_at q (cond b (entry ∷ filter test queue) (filter test queue)) ≡ None
    by true at b none rest = cc
    by false at true none rest = ap (λ a. cond a (Some entry.1) (entry_at q (filter test queue))) at ∙ rest none
    by false at false none rest = rest none

all_gone : (q : ℕ) (blocks : List ℕ) (queue : Queue) → entry_at q queue ≡ None → entry_at q (without_each queue blocks) ≡ None
all_gone q [] queue none = none
all_gone q (block ∷ blocks) queue none = all_gone q blocks (without_recovery queue block) (gone (is_number block) q queue none)

all_in_order : (blocks : List ℕ) (queue : Queue) → AreInOrder queue → AreInOrder (without_each queue blocks)
all_in_order [] queue up = up
all_in_order (block ∷ blocks) queue up = all_in_order blocks (without_recovery queue block) (taken_in_order (is_number block) queue up)

-- ---- what an effect leaves of the queue

-- the stamp of the block wasn't given before, if the block is known
abbrev pub IsAnew : Blocks → Blocks → ℕ → Type 0
IsAnew before later q = (own : BlockRecord) → known_block later q ≡ Some own → before.known.next_stamp ≤ own.stamp

abbrev pub Waits : Blocks → Blocks → ℕ → Type 0
Waits before later q = (entry_at q before.queued ≡ None → entry_at q later.queued ≡ None) ⊎ IsAnew before later q

pub record QueueKept (before later : Blocks) : Type 0 where
  pub order : AreInOrder before.queued → AreInOrder later.queued
  pub waits : (q : ℕ) → Waits before later q

same_queue : (before later : Blocks) → later.queued ≡ before.queued → QueueKept before later
same_queue before later same = record { order = λ up. subst AreInOrder (sym same) up; waits = λ q. inl (λ none. ap (entry_at q) same ∙ none) }

-- ---- recoveries that begin

record Same (before later : Blocks) (q : ℕ) : Type 0 where
  out : entry_at q before.queued ≡ None → entry_at q later.queued ≡ None
  known : known_block later q ≡ known_block before q

abbrev SameOrAnew : Blocks → Blocks → ℕ → Type 0
SameOrAnew before later q = Same before later q ⊎ IsAnew before later q

one : (own other : BlockRecord) → Some own ≡ Some other → own ≡ other
one own other e = cc

one_begun : (facts : Blocks) (block now q : ℕ) → SameOrAnew facts (with_recovery_begun facts block now) q
one_begun facts block now q = by (is_number block q) refl
  where
    next : ℕ
    next = facts.known.next_stamp

    at_block : known_block (with_recovery_begun facts block now) q ≡ cond (is_number block q) (option_map (with_recovery next now) (known_block facts block)) (known_block facts q)
    at_block = changed_at (with_recovery next now) block facts.known.blocks q

    new : (found : Option BlockRecord) (own : BlockRecord) → option_map (with_recovery next now) found ≡ Some own → next ≤ own.stamp
    new None own e = cc
    new (Some old) own e = subst (λ (o : BlockRecord). next ≤ o.stamp) (one (with_recovery next now old) own e) (omega arith)

    out : (led : Option ℕ) → is_number q block ≡ false → entry_at q facts.queued ≡ None → entry_at q (queued_for led block facts.queued) ≡ None
    out None apart none = none
    out (Some primary) apart none = lookup_inserted block q primary facts.queued ∙ (ap (λ b. cond b (Some primary) (entry_at q facts.queued)) apart ∙ none)

    by : (b : Bool) → is_number block q ≡ b → SameOrAnew facts (with_recovery_begun facts block now) q
    by true at = inr (λ own there. new (known_block facts block) own (sym (at_block ∙ ap (λ b. cond b (option_map (with_recovery next now) (known_block facts block)) (known_block facts q)) at) ∙ there))
    by false apart = inl (record {
      out = out (leader facts block now) (apart_number block q apart);
      known = at_block ∙ ap (λ b. cond b (option_map (with_recovery next now) (known_block facts block)) (known_block facts q)) apart;
    })

begun_order : (facts : Blocks) (block now : ℕ) → AreInOrder facts.queued → AreInOrder (with_recovery_begun facts block now).queued
begun_order facts block now up = by (leader facts block now)
  where
    by : (led : Option ℕ) → AreInOrder (queued_for led block facts.queued)
    by None = up
    by (Some primary) = put_in_order block primary facts.queued up

pub begun_kept : (facts : Blocks) (block now : ℕ) → QueueKept facts (with_recovery_begun facts block now)
begun_kept facts block now = record { order = begun_order facts block now; waits = λ q. by q (one_begun facts block now q) }
  where
    by : (q : ℕ) → SameOrAnew facts (with_recovery_begun facts block now) q → Waits facts (with_recovery_begun facts block now) q
    by q (inl same) = inl same.out
    by q (inr new) = inr new

module _ (now : ℕ) where
  abbrev all_from : Blocks → List BegunRecovery → Blocks
  all_from facts recoveries = fold (λ left (own : BegunRecovery). with_recovery_begun left own.block now) facts recoveries

  all_order : (recoveries : List BegunRecovery) (facts : Blocks) → AreInOrder facts.queued → AreInOrder (all_from facts recoveries).queued
  all_order [] facts up = up
  all_order (own ∷ recoveries) facts up = all_order recoveries (with_recovery_begun facts own.block now) (begun_order facts own.block now up)

  all_begun : (recoveries : List BegunRecovery) (facts : Blocks) (q : ℕ) → SameOrAnew facts (all_from facts recoveries) q
  all_begun [] facts q = inl (record { out = λ none. none; known = refl })
  all_begun (own ∷ recoveries) facts q = by (one_begun facts own.block now q) (all_begun recoveries mid q)
    where
      mid : Blocks
      mid = with_recovery_begun facts own.block now

      last : Blocks
      last = all_from mid recoveries

      later : (n s : ℕ) → n + 1 ≤ s → n ≤ s
      later n s h = omega (arith, h)

      by : SameOrAnew facts mid q → SameOrAnew mid last q → SameOrAnew facts last q
      by (inl a) (inl b) = inl (record { out = λ none. b.out (a.out none); known = b.known ∙ a.known })
      by (inr new) (inl b) = inr (λ own there. new own (sym b.known ∙ there))
      by a (inr new) = inr (λ own there. later facts.known.next_stamp own.stamp (new own there))

  all_kept : (recoveries : List BegunRecovery) (facts : Blocks) → QueueKept facts (all_from facts recoveries)
  all_kept recoveries facts = record { order = all_order recoveries facts; waits = λ q. by q (all_begun recoveries facts q) }
    where
      by : (q : ℕ) → SameOrAnew facts (all_from facts recoveries) q → Waits facts (all_from facts recoveries) q
      by q (inl same) = inl same.out
      by q (inr new) = inr new

-- ---- operations

module _ (facts : Blocks) where
  taken_kept : (holder : Option (List ℕ)) (block : Option ℕ) (now : ℕ) → QueueKept facts (taken_over holder block now facts)
  taken_kept None None now = same_queue facts facts refl
  taken_kept (Some holder) None now = same_queue facts facts refl
  taken_kept None (Some block) now = same_queue facts facts refl
  taken_kept (Some holder) (Some block) now = begun_kept facts block now

  extended_queue : (last : Option LastBlock) (now : ℕ) (replication : Option ℕ) → (file_extended last now replication facts).queued ≡ facts.queued
  extended_queue last now None = refl
  extended_queue None now (Some replication) = refl
  extended_queue (Some last) now (Some replication) = refl

  ended_queue : (last : Option LastBlock) → (file_ended last facts).queued ≡ facts.queued
  ended_queue None = refl
  ended_queue (Some last) = refl

  reported_queue : (node : Option ℕ) (replica : ReportedReplica) → (reported_of node replica facts).queued ≡ facts.queued
  reported_queue None replica = refl
  reported_queue (Some node) replica = by (verdict_by (known_block facts replica.block) replica.stamp replica.length)
    where
      by : (verdict : ReportVerdict) → (reported_by verdict facts node replica.block replica.stamp replica.length).queued ≡ facts.queued
      by Superseded = refl
      by Invalid = refl
      by Valid = refl

  heard_kept : (node : Option ℕ) (now : ℕ) → QueueKept facts (heard_of node now facts)
  heard_kept None now = same_queue facts facts refl
  heard_kept (Some node) now = record {
    order = λ up. kept_ascending (λ entry. not (leads node entry)) facts.queued up;
    waits = λ q. inl (λ none. fewer (λ entry. not (leads node entry)) q facts.queued none);
  }

replicated_queue : (replication : ℕ) (numbers : List ℕ) (facts : Blocks) → (all_replicated replication numbers facts).queued ≡ facts.queued
replicated_queue replication [] facts = refl
replicated_queue replication (block ∷ numbers) facts = replicated_queue replication numbers (with_block_replication facts block replication)

module _ (facts : Facts) (caller : List ℕ) (rows : List Row) where
  removed_kept : (blocks : List ℕ) → QueueKept facts.blocks (with_blocks_removed facts.blocks blocks)
  removed_kept blocks = record { order = λ up. all_in_order blocks facts.blocks.queued up; waits = λ q. inl (λ none. all_gone q blocks facts.blocks.queued none) }

  kept_after : (what : Op) → QueueKept facts.blocks (blocks_after facts what caller rows facts.blocks)
  kept_after (op.Create path mode replication over) = removed_kept (blocks_in (rows_under path rows))
  kept_after (op.Delete path recursive) = removed_kept (blocks_in (rows_under path rows))
  kept_after (op.Append path) = taken_kept facts.blocks (holder_at (row_at path rows)) (unfinished_at (row_at path rows)) facts.now
  kept_after (op.AddBlock path last) =
      same_queue facts.blocks (file_extended last facts.now (replication_at (row_at path rows)) facts.blocks) (extended_queue facts.blocks last facts.now (replication_at (row_at path rows)))
  kept_after (op.Complete path last) = same_queue facts.blocks (file_ended last facts.blocks) (ended_queue facts.blocks last)
  kept_after (op.SetReplication path replication) =
      same_queue facts.blocks (all_replicated replication (ids_at (row_at path rows)) facts.blocks) (replicated_queue replication (ids_at (row_at path rows)) facts.blocks)
  kept_after op.Tick = all_kept facts.now (recoveries_begun facts.blocks (sought_blocks facts rows) facts.now) facts.blocks
  kept_after op.Heartbeat = heard_kept facts.blocks (node_of caller) facts.now
  kept_after (op.Reported replica) = same_queue facts.blocks (reported_of (node_of caller) replica facts.blocks) (reported_queue facts.blocks (node_of caller) replica)
  kept_after (op.CommitRecovery own) = same_queue facts.blocks (with_recovery_ended facts.blocks own.block own.length own.nodes) refl
  kept_after _ = same_queue facts.blocks facts.blocks refl

  pub queue_kept : (what : Op) (verdict : Verdict) → QueueKept facts.blocks (blocks_by facts what caller verdict rows facts.blocks)
  queue_kept what (Done told) = kept_after what
  queue_kept what (Denied denial) = same_queue facts.blocks facts.blocks refl
  queue_kept what (Refused refusal) = same_queue facts.blocks facts.blocks refl

-- Each effect keeps what is sound.
use Rattle.std.proofs.Common.{◌≡◌, ℕ, ◌==◌, ◌&&◌, Bool, true, false, List, [], ◌∷◌, map, fold, nat_lt, is_some, inl, inr, Option, Some, None, refl, sym, ap, ◌∙◌, subst, cond, arith}
use Rattle.std.specs.Option.{option_and_then}
use Rattle.block_records.specs.Numbers.{is_number}
use Rattle.block_records.specs.Reports.{is_reported, agreeing_reports}
use Rattle.block_records.specs.Verdicts.{agrees, verdict_by}
use Rattle.block_records.specs.declared.block_record.BlockRecord.{BlockRecord}
use Rattle.block_records.specs.declared.fault.BlockRefusal.TheVariants.{NotYetReplicated}
use Rattle.block_records.specs.declared.report.ReportVerdict.{ReportVerdict}
use Rattle.block_records.specs.declared.report.ReportVerdict.TheVariants.{Superseded, Invalid, Valid}
use Rattle.block_tables.specs.Changes.{with_report, without_report, with_replication, with_length, with_recovery, with_recovered, with_hand_out}
use Rattle.recovery_queue.specs.declared.begun.BegunRecovery.{BegunRecovery}
use Rattle.block_changes.specs.Behind.{refused_length}
use Rattle.known_blocks.specs.Known as known
use Rattle.known_blocks.specs.Known.{KnownBlocks, block_of, with_block_changed, new_record}
use Rattle.block_map.specs.BlockFacts.{Blocks, chosen_targets, newest_stamp, transfers_for}
use Rattle.block_map.specs.BlockEffects.{with_length_committed, committed_last, with_recovery_begun, recoveries_begun, with_node_heard, without_report_at, reported_by}
use Rattle.block_changes.specs.declared.transfer.Transfer.{Transfer}
use Rattle.block_effect_laws.specs.Laws.{AgreeOn, IsSoundAt, IsSound, GoesOn, KeepsKnown, AdditionKeeps, RemovalKeeps, RemovalsKeep, ReplicationKeeps, CommitKeeps, RequestKeeps, BeginKeeps, BeginsKeep, RecoveryKeeps, HeartbeatKeeps, ReportKeeps}
use Rattle.block_effect_laws.proofs.Orders.{put_in_order, taken_in_order, changed_in_order}
use Rattle.block_effect_laws.proofs.Reports.{agreeing_have, reported_is, more_have, agree_on_put, agree_on_left, agree_on_none}
use Rattle.block_effect_laws.proofs.Looking.{added_at, changed_at, removed_at}
use Rattle.block_effect_laws.proofs.Turning.{kept_same, kept_in_turn, kept_changed, kept_removed, kept_added}

-- the stamp stays, what is committed, and a recovery that runs
goes : (before : KnownBlocks) (own later : BlockRecord) → later.stamp ≡ own.stamp → later.committed ≡ own.committed → later.recovering ≡ own.recovering → GoesOn before own later
goes before own later stamp committed recovering = record { stamp = inl stamp; committed = λ length is. committed ∙ is; recovering = λ since is. inl (sym recovering ∙ is, stamp) }

-- ---- a record given anew

-- the numbers that are given next stay
module _ (change : BlockRecord → BlockRecord) (block : ℕ) (before : KnownBlocks) (sound : IsSound before) where
  pub altered_keeps : ((own : BlockRecord) → block_of before block ≡ Some own → IsSoundAt before block own → GoesOn before own (change own))
      → ((own : BlockRecord) → IsSoundAt before block own → (change own).stamp ≡ own.stamp)
      → ((own : BlockRecord) → block_of before block ≡ Some own → IsSoundAt before block own → AgreeOn (change own).committed (change own).reports) → KeepsKnown before (with_block_changed change block before)
  altered_keeps goes_on stamp agreed =
      kept_changed before (with_block_changed change block before) sound (changed_in_order change block before.blocks sound.once) block change (omega arith) (omega arith) (changed_at change block before.blocks)
      (λ own is was. record { goes_on = goes_on own is was; stamped = omega (arith, was.stamped, stamp own was); agreed = agreed own is was })

pub addition_keeps : AdditionKeeps
addition_keeps facts targets replication sound =
    let before = facts.known in
    kept_added before (known.with_new_block before targets replication) sound (put_in_order before.next_block (new_record before.next_stamp targets replication) before.blocks sound.once)
    (new_record before.next_stamp targets replication) refl (omega arith) (added_at before targets replication) (omega arith) (omega arith) tt

removal : (before : KnownBlocks) (block : ℕ) → IsSound before → KeepsKnown before (known.without_block before block)
removal before block sound =
    kept_removed before (known.without_block before block) sound (taken_in_order (is_number block) before.blocks sound.once) block (omega arith) (omega arith) (removed_at block before.blocks sound.once)

pub removal_keeps : RemovalKeeps
removal_keeps facts block sound = removal facts.known block sound

pub removals : (before : KnownBlocks) (blocks : List ℕ) → IsSound before → KeepsKnown before (known.without_each_block before blocks)
removals before [] sound = kept_same before sound
removals before (block ∷ blocks) sound =
    let first = removal before block sound in
    kept_in_turn before (known.without_block before block) (known.without_each_block (known.without_block before block) blocks) sound first (removals (known.without_block before block) blocks first.sound)

pub removals_keep : RemovalsKeep
removals_keep facts blocks sound = removals facts.known blocks sound

pub replication_keeps : ReplicationKeeps
replication_keeps facts block replication sound =
    altered_keeps (with_replication replication) block facts.known sound (λ own is was. goes facts.known own (with_replication replication own) refl refl refl) (λ own was. refl) (λ own is was. was.agreed)

-- ---- lengths

allowed_length : (found : Option BlockRecord) (own : BlockRecord) (length : ℕ) → found ≡ Some own → refused_length found length ≡ None → is_reported own.reports length ≡ true
allowed_length None own length is allowed = cc
allowed_length (Some other) own length is allowed = by (is_reported other.reports length) refl allowed
  where
    same : other ≡ own
    same = cc

    by : (b : Bool) → is_reported other.reports length ≡ b → cond b None (Some NotYetReplicated) ≡ None → is_reported own.reports length ≡ true
    by true e h = subst (λ (own : BlockRecord). is_reported own.reports length ≡ true) same e
    by false e h = cc

-- what is committed is what all have reported
committed_is : (found : Option ℕ) (own length : ℕ) (reports : List (ℕ × ℕ)) → AgreeOn found reports → is_reported reports length ≡ true → found ≡ Some own → Some length ≡ Some own
committed_is None own length reports agreed some is = cc
committed_is (Some committed) own length reports agreed some is = ap (λ l. Some l) (reported_is length committed reports agreed some) ∙ is

pub commit_keeps : CommitKeeps
commit_keeps facts block length allowed sound =
    altered_keeps (with_length length) block facts.known sound
    (λ own is was. record { stamp = inl refl; committed = λ bytes before. committed_is own.committed bytes length own.reports was.agreed (allowed_length (block_of facts.known block) own length is allowed) before; recovering = λ since is. inl (is, refl) })
    (λ own was. refl) (λ own is was. agreeing_have length own.reports)

pub request_keeps : RequestKeeps
request_keeps facts None now replication allowed sound = addition_keeps facts (chosen_targets (committed_last facts None) now replication) replication sound
request_keeps facts (Some last) now replication allowed sound =
    let between = with_length_committed facts last.block last.length in
    let first = commit_keeps facts last.block last.length allowed sound in
    let targets = chosen_targets between now replication in
    kept_in_turn facts.known between.known (known.with_new_block between.known targets replication) sound first (addition_keeps between targets replication first.sound)

-- ---- recoveries

pub begin_keeps : BeginKeeps
begin_keeps facts block now sound =
    let before = facts.known in
    kept_changed before (known.with_next_recovery before block now) sound (changed_in_order (with_recovery before.next_stamp now) block before.blocks sound.once) block (with_recovery before.next_stamp now)
    (omega arith) (omega arith) (changed_at (with_recovery before.next_stamp now) block before.blocks)
    (λ own is was. record { goes_on = record { stamp = inr (omega arith); committed = λ length committed. committed; recovering = λ since is. inr (omega arith) }; stamped = omega arith; agreed = agree_on_none own.committed })

begun_in_turn : (facts : Blocks) (recoveries : List BegunRecovery) (now : ℕ) → IsSound facts.known → KeepsKnown facts.known (fold (λ left (own : BegunRecovery). with_recovery_begun left own.block now) facts recoveries).known
begun_in_turn facts [] now sound = kept_same facts.known sound
begun_in_turn facts (own ∷ recoveries) now sound =
    let first = begin_keeps facts own.block now sound in
    let between = with_recovery_begun facts own.block now in
    kept_in_turn facts.known between.known (fold (λ left (own : BegunRecovery). with_recovery_begun left own.block now) between recoveries).known sound first (begun_in_turn between recoveries now first.sound)

pub begins_keep : BeginsKeep
begins_keep facts blocks now sound = begun_in_turn facts (recoveries_begun facts blocks now) now sound

uncommitted : (found : Option BlockRecord) (own : BlockRecord) → found ≡ Some own → option_and_then (λ (own : BlockRecord). own.committed) found ≡ None → own.committed ≡ None
uncommitted None own is none = cc
uncommitted (Some other) own is none = ap (λ (o : BlockRecord). o.committed) (one own other (sym is)) ∙ none
  where
    one : (a b : BlockRecord) → Some a ≡ Some b → a ≡ b
    one a b e = cc

never : (found : Option ℕ) (length : ℕ) {A : Type 0} → found ≡ None → found ≡ Some length → A
never None length {A} none some = cc
never (Some other) length {A} none some = cc

pub recovery_keeps : RecoveryKeeps
recovery_keeps facts block length nodes none sound =
    altered_keeps (with_recovered length nodes) block facts.known sound
    (λ own is was. record { stamp = inl refl; committed = λ bytes before. never own.committed bytes (uncommitted (block_of facts.known block) own is none) before; recovering = λ since is. cc })
    (λ own was. refl) (λ own is was. more_have length nodes (agreeing_reports length own.reports) (agreeing_have length own.reports))

-- ---- nodes

told_in_turn : (before : KnownBlocks) (blocks : List ℕ) (now : ℕ) → IsSound before → KeepsKnown before (known.with_copies_told before blocks now)
told_in_turn before [] now sound = kept_same before sound
told_in_turn before (block ∷ blocks) now sound =
    let between = with_block_changed (with_hand_out now) block before in
    let first = altered_keeps (with_hand_out now) block before sound (λ own is was. goes before own (with_hand_out now own) refl refl refl) (λ own was. refl) (λ own is was. was.agreed) in
    kept_in_turn before between (known.with_copies_told between blocks now) sound first (told_in_turn between blocks now first.sound)

pub heartbeat_keeps : HeartbeatKeeps
heartbeat_keeps facts node now sound = told_in_turn facts.known (map (λ (transfer : Transfer). transfer.block) (transfers_for (with_node_heard facts node now) now node)) now sound

-- ---- reports

unreported : (found : Option ℕ) (stamp node block : ℕ) (before : KnownBlocks) → IsSound before → KeepsKnown before (without_report_at found stamp node block before)
unreported None stamp node block before sound = kept_same before sound
unreported (Some newest) stamp node block before sound = by (newest == stamp)
  where
    by : (b : Bool) → KeepsKnown before (cond b (with_block_changed (without_report node) block before) before)
    by true =
        altered_keeps (without_report node) block before sound (λ own is was. goes before own (without_report node own) refl refl refl) (λ own was. refl)
        (λ own is was. agree_on_left own.committed (is_number node) own.reports was.agreed)
    by false = kept_same before sound

-- a report that is taken has the committed length
valid_agrees : (found : Option BlockRecord) (own : BlockRecord) (stamp length : ℕ) → found ≡ Some own → verdict_by found stamp length ≡ Valid → agrees length own.committed ≡ true
valid_agrees None own stamp length is valid = cc
valid_agrees (Some other) own stamp length is valid = subst (λ (o : BlockRecord). agrees length o.committed ≡ true) same (by (nat_lt stamp other.stamp && is_some other.recovering) (stamp == other.stamp) (agrees length other.committed) valid)
  where
    same : other ≡ own
    same = cc

    by : (a b c : Bool) → cond a Superseded (cond (b && c) Valid Invalid) ≡ Valid → c ≡ true
    by true b c h = cc
    by false true true h = refl
    by false true false h = cc
    by false false c h = cc

by_verdict : (facts : Blocks) (node block stamp length : ℕ) (verdict : ReportVerdict) → verdict_by (block_of facts.known block) stamp length ≡ verdict → IsSound facts.known
    → KeepsKnown facts.known (reported_by verdict facts node block stamp length).known
by_verdict facts node block stamp length Superseded is sound = kept_same facts.known sound
by_verdict facts node block stamp length Invalid is sound = unreported (newest_stamp facts block) stamp node block facts.known sound
by_verdict facts node block stamp length Valid valid sound =
    altered_keeps (with_report node length) block facts.known sound (λ own is was. goes facts.known own (with_report node length own) refl refl refl) (λ own was. refl)
    (λ own is was. agree_on_put own.committed length node own.reports (valid_agrees (block_of facts.known block) own stamp length is valid) was.agreed)

pub report_keeps : ReportKeeps
report_keeps facts node block stamp length sound = by_verdict facts node block stamp length (verdict_by (block_of facts.known block) stamp length) refl sound

-- What the block facts tell of a number behind an effect: nothing, or that it is known, and what of it, as its length.
use Rattle.std.proofs.Common.{◌≡◌, ℕ, ◌<◌, ◌==◌, Bool, true, false, ◌||◌, List, [], ◌∷◌, map, fold, is_some, Option, Some, None, refl, sym, ap, ◌∙◌, cond, arith}
use Rattle.std.proofs.lemmas.Bool.{ne_eqb, eq-eqb}
use Rattle.std.specs.Cmp.{ranked}
use Rattle.std.specs.Option.{option_map}
use Rattle.std.specs.Ordering.{is_eq, nat_cmp}
use Rattle.std.specs.declared.cmp.Ordering.{Ordering}
use Rattle.std.specs.declared.cmp.Ordering.TheVariants.{Less, Equal, Greater}
use Rattle.hdfs_types.specs.declared.replica.ReportedReplica.{ReportedReplica}
use Rattle.block_records.specs.Numbers.{is_number, has_number, entry_at}
use Rattle.block_records.specs.Verdicts.{verdict_by}
use Rattle.block_records.specs.declared.block_record.BlockRecord.{BlockRecord}
use Rattle.block_records.specs.declared.last_block.LastBlock.{LastBlock}
use Rattle.block_records.specs.declared.report.ReportVerdict.{ReportVerdict}
use Rattle.block_records.specs.declared.report.ReportVerdict.TheVariants.{Superseded, Invalid, Valid}
use Rattle.block_records.proofs.Numbers.{number_is}
use Rattle.block_changes.specs.declared.transfer.Transfer.{Transfer}
use Rattle.recovery_queue.specs.declared.begun.BegunRecovery.{BegunRecovery}
use Rattle.block_tables.specs.Changes.{with_record_changed, with_report, without_report, with_replication, with_length, with_recovery, with_recovered, with_hand_out}
use Rattle.known_blocks.specs.Known as known
use Rattle.known_blocks.specs.Known.{KnownBlocks, block_of, with_block_changed, new_record}
use Rattle.known_blocks.proofs.Behind.{altered_behind}
use Rattle.block_changes.specs.Behind.{refused_length}
use Rattle.block_map.specs.BlockFacts.{Blocks, newest_stamp, transfers_for, chosen_targets}
use Rattle.block_map.specs.BlockEffects.{with_block_replication, with_recovery_begun, with_recoveries_begun, recoveries_begun, with_heartbeat_answered, with_node_heard, with_replica_reported, reported_by, without_report_at, committed_last, refused_last, added_behind}
use Rattle.block_effect_laws.specs.Laws.{IsSound}
use Rattle.history.specs.Blocks.{heard_of, reported_of}
use Rattle.block_effect_laws.proofs.Orders.{AreInOrder, taken_in_order}
use Rattle.block_effect_laws.proofs.Looking.{added_at, changed_at, removed_at}

pub number_equal : (a b : ℕ) → is_number a b ≡ (a == b)
number_equal a b = by (nat_cmp a b) refl
  where
    by : (o : Ordering) → nat_cmp a b ≡ o → is_eq o ≡ (a == b)
    by Less h = let lt : a < b = ranked a b Less (sym h) in sym (ne_eqb a b (λ e. omega arith))
    by Equal h = let same : a ≡ b = ranked a b Equal (sym h) in sym (eq-eqb a b same)
    by Greater h = let lt : b < a = ranked a b Greater (sym h) in sym (ne_eqb a b (λ e. omega arith))

module _ {X : Type 0} (see : BlockRecord → X) where
  -- what is seen of a block that is known
  abbrev pub seen_by : Option BlockRecord → Option X
  seen_by found = option_map see found

  abbrev pub seen : KnownBlocks → ℕ → Option X
  seen own number = seen_by (block_of own number)

  -- two show the same of each number
  abbrev pub ShowTheSame : KnownBlocks → KnownBlocks → Type 0
  ShowTheSame before later = (number : ℕ) → seen later number ≡ seen before number

  seen_where : (b : Bool) (x y : Option BlockRecord) → seen_by (cond b x y) ≡ cond b (seen_by x) (seen_by y)
  seen_where true x y = refl
  seen_where false x y = refl

  -- ---- records given anew

  seen_changed : (change : BlockRecord → BlockRecord) → ((own : BlockRecord) → see (change own) ≡ see own) → (found : Option BlockRecord) → seen_by (option_map change found) ≡ seen_by found
  seen_changed change h None = refl
  seen_changed change h (Some own) = ap (λ x. Some x) (h own)

  where_same : (own : KnownBlocks) (block number : ℕ) (b : Bool) → is_number block number ≡ b → cond b (seen own block) (seen own number) ≡ seen own number
  where_same own block number true is = ap (seen own) (number_is block number is)
  where_same own block number false is = refl

  -- what is seen of one block behind a change of it
  pub seen_at : (change : BlockRecord → BlockRecord) (block : ℕ) (table : List (ℕ × BlockRecord)) (number : ℕ)
      → seen_by (entry_at number (with_record_changed change block table)) ≡ cond (is_number block number) (seen_by (option_map change (entry_at block table))) (seen_by (entry_at number table))
  seen_at change block table number =
      ap seen_by (changed_at change block table number) ∙ seen_where (is_number block number) (option_map change (entry_at block table)) (entry_at number table)

  pub same_changed : (change : BlockRecord → BlockRecord) → ((own : BlockRecord) → see (change own) ≡ see own) → (block : ℕ) (own later : KnownBlocks) → later.blocks ≡ with_record_changed change block own.blocks → ShowTheSame own later
  same_changed change h block own later is number =
      ap (λ table. seen_by (entry_at number table)) is
      ∙ (seen_at change block own.blocks number
      ∙ (ap (λ t. cond (is_number block number) t (seen own number)) (seen_changed change h (block_of own block)) ∙ where_same own block number (is_number block number) refl))

  pub same_altered : (change : BlockRecord → BlockRecord) → ((own : BlockRecord) → see (change own) ≡ see own) → (block : ℕ) (own : KnownBlocks) → ShowTheSame own (with_block_changed change block own)
  same_altered change h block own number = same_changed change h block own (with_block_changed change block own) refl number

  -- what replicas, reports and copies don't change is seen
  pub record Ignores : Type 0 where
    pub replication : (replication : ℕ) (own : BlockRecord) → see (with_replication replication own) ≡ see own
    pub hand_out : (now : ℕ) (own : BlockRecord) → see (with_hand_out now own) ≡ see own
    pub report : (node length : ℕ) (own : BlockRecord) → see (with_report node length own) ≡ see own
    pub no_report : (node : ℕ) (own : BlockRecord) → see (without_report node own) ≡ see own

  module _ (ignores : Ignores) where
    pub same_replicated : (replication : ℕ) (numbers : List ℕ) (facts : Blocks) → ShowTheSame facts.known (fold (λ (left : Blocks) block. with_block_replication left block replication) facts numbers).known
    same_replicated replication [] facts number = refl
    same_replicated replication (block ∷ numbers) facts number =
        same_replicated replication numbers (with_block_replication facts block replication) number ∙ same_altered (with_replication replication) (ignores.replication replication) block facts.known number

    same_handed : (now : ℕ) (blocks : List ℕ) (own : KnownBlocks) → ShowTheSame own (known.with_copies_told own blocks now)
    same_handed now [] own number = refl
    same_handed now (block ∷ blocks) own number =
        same_handed now blocks (with_block_changed (with_hand_out now) block own) number ∙ same_altered (with_hand_out now) (ignores.hand_out now) block own number

    same_told_node : (facts : Blocks) (node now : ℕ) → ShowTheSame facts.known (with_heartbeat_answered facts node now).known
    same_told_node facts node now number = same_handed now (map (λ (transfer : Transfer). transfer.block) (transfers_for (with_node_heard facts node now) now node)) facts.known number

    same_unreported : (found : Option ℕ) (stamp node block : ℕ) (own : KnownBlocks) → ShowTheSame own (without_report_at found stamp node block own)
    same_unreported None stamp node block own number = refl
    same_unreported (Some newest) stamp node block own number = by (newest == stamp)
      where
        by : (b : Bool) → seen (cond b (with_block_changed (without_report node) block own) own) number ≡ seen own number
        by true = same_altered (without_report node) (ignores.no_report node) block own number
        by false = refl

    same_reported : (facts : Blocks) (node block stamp length : ℕ) → ShowTheSame facts.known (with_replica_reported facts node block stamp length).known
    same_reported facts node block stamp length number = by (verdict_by (block_of facts.known block) stamp length)
      where
        by : (verdict : ReportVerdict) → seen (reported_by verdict facts node block stamp length).known number ≡ seen facts.known number
        by Superseded = refl
        by Invalid = same_unreported (newest_stamp facts block) stamp node block facts.known number
        by Valid = same_altered (with_report node length) (ignores.report node length) block facts.known number

    pub same_heard : (facts : Blocks) (node : Option ℕ) (now : ℕ) → ShowTheSame facts.known (heard_of node now facts).known
    same_heard facts None now number = refl
    same_heard facts (Some node) now number = same_told_node facts node now number

    pub same_reported_of : (facts : Blocks) (node : Option ℕ) (replica : ReportedReplica) → ShowTheSame facts.known (reported_of node replica facts).known
    same_reported_of facts None replica number = refl
    same_reported_of facts (Some node) replica number = same_reported facts node replica.block replica.stamp replica.length number

  -- ---- a block more, and blocks that go

  -- the number that is given next is that of no block
  pub next_unknown : (own : KnownBlocks) → IsSound own → seen own own.next_block ≡ None
  next_unknown own sound = by (block_of own own.next_block) refl
    where
      by : (found : Option BlockRecord) → block_of own own.next_block ≡ found → seen_by found ≡ None
      by None is = refl
      by (Some one) is = absurd (omega (arith, (sound.each own.next_block one is).given))

  pub seen_added : (own : KnownBlocks) (targets : List ℕ) (replication number : ℕ)
      → seen (known.with_new_block own targets replication) number ≡ cond (is_number own.next_block number) (Some (see (new_record own.next_stamp targets replication))) (seen own number)
  seen_added own targets replication number =
      ap seen_by (added_at own targets replication number) ∙ seen_where (is_number own.next_block number) (Some (new_record own.next_stamp targets replication)) (block_of own number)

  pub seen_removed : (gone : List ℕ) (own : KnownBlocks) → AreInOrder own.blocks → (number : ℕ) → seen (known.without_each_block own gone) number ≡ cond (has_number number gone) None (seen own number)
  seen_removed [] own up number = refl
  seen_removed (block ∷ gone) own up number =
      seen_removed gone (known.without_block own block) (taken_in_order (is_number block) own.blocks up) number
      ∙ (ap (λ t. cond (has_number number gone) None t) (ap seen_by (removed_at block own.blocks up number) ∙ seen_where (is_number block number) None (block_of own number))
      ∙ (by (is_number block number) (has_number number gone) ∙ ap (λ b. cond (b || has_number number gone) None (seen own number)) (number_equal block number)))
    where
      by : (a b : Bool) → cond b None (cond a None (seen own number)) ≡ cond (a || b) None (seen own number)
      by true true = refl
      by true false = refl
      by false true = refl
      by false false = refl

-- ---- the committed length, or none

abbrev pub committed_of : BlockRecord → Option ℕ
committed_of own = own.committed

abbrev pub told_by : Option BlockRecord → Option (Option ℕ)
told_by found = seen_by committed_of found

abbrev pub told : KnownBlocks → ℕ → Option (Option ℕ)
told own number = seen committed_of own number

-- two tell the same of each number
abbrev pub TellTheSame : KnownBlocks → KnownBlocks → Type 0
TellTheSame before later = ShowTheSame committed_of before later

pub lengths_ignore : Ignores committed_of
lengths_ignore = record { replication = λ replication own. refl; hand_out = λ now own. refl; report = λ node length own. refl; no_report = λ node own. refl }

-- ---- a length

length_told : (length : ℕ) (found : Option BlockRecord) → told_by (option_map (with_length length) found) ≡ option_map (λ (was : Option ℕ). Some length) (told_by found)
length_told length None = refl
length_told length (Some own) = refl

pub told_committed : (length block : ℕ) (own : KnownBlocks) (number : ℕ)
    → told (with_block_changed (with_length length) block own) number ≡ cond (is_number block number) (option_map (λ (was : Option ℕ). Some length) (told own block)) (told own number)
told_committed length block own number =
    seen_at committed_of (with_length length) block own.blocks number ∙ ap (λ t. cond (is_number block number) t (told own number)) (length_told length (block_of own block))

recovered_told : (length : ℕ) (nodes : List ℕ) (found : Option BlockRecord) → told_by (option_map (with_recovered length nodes) found) ≡ option_map (λ (was : Option ℕ). Some length) (told_by found)
recovered_told length nodes None = refl
recovered_told length nodes (Some own) = refl

pub told_recovered : (length : ℕ) (nodes : List ℕ) (block : ℕ) (own : KnownBlocks) (number : ℕ)
    → told (with_block_changed (with_recovered length nodes) block own) number ≡ cond (is_number block number) (option_map (λ (was : Option ℕ). Some length) (told own block)) (told own number)
told_recovered length nodes block own number =
    seen_at committed_of (with_recovered length nodes) block own.blocks number ∙ ap (λ t. cond (is_number block number) t (told own number)) (recovered_told length nodes (block_of own block))

-- recoveries that begin leave it
pub same_begun : (block now : ℕ) (own : KnownBlocks) → TellTheSame own (known.with_next_recovery own block now)
same_begun block now own number = same_changed committed_of (with_recovery own.next_stamp now) (λ one. refl) block own (known.with_next_recovery own block now) refl number

begun_in_turn : (recoveries : List BegunRecovery) (now : ℕ) (facts : Blocks) → TellTheSame facts.known (fold (λ left (own : BegunRecovery). with_recovery_begun left own.block now) facts recoveries).known
begun_in_turn [] now facts number = refl
begun_in_turn (own ∷ recoveries) now facts number = begun_in_turn recoveries now (with_recovery_begun facts own.block now) number ∙ same_begun own.block now facts.known number

pub same_all_begun : (blocks : List ℕ) (now : ℕ) (facts : Blocks) → TellTheSame facts.known (with_recoveries_begun facts blocks now).known
same_all_begun blocks now facts number = begun_in_turn (recoveries_begun facts blocks now) now facts number

-- what is committed was reported, and so is known
some_reported : (found : Option BlockRecord) (length : ℕ) → refused_length found length ≡ None → is_some found ≡ true
some_reported None length h = cc
some_reported (Some own) length h = refl

pub last_known : (facts : Blocks) (last : LastBlock) → refused_last facts (Some last) ≡ None → is_some (block_of facts.known last.block) ≡ true
last_known facts last h = some_reported (block_of facts.known last.block) last.length h

-- the new block stands beside the one whose length is committed: the order is of no matter
pub added_first : (facts : Blocks) (last : LastBlock) (now replication : ℕ) → IsSound facts.known → refused_last facts (Some last) ≡ None
    → (added_behind facts (Some last) now replication).known
    ≡ with_block_changed (with_length last.length) last.block (known.with_new_block facts.known (chosen_targets (committed_last facts (Some last)) now replication) replication)
added_first facts last now replication sound h =
    sym (altered_behind facts.known last.block below (last_known facts last h) (chosen_targets (committed_last facts (Some last)) now replication) replication (with_length last.length))
  where
    below : (block : ℕ) → is_some (entry_at block facts.known.blocks) ≡ true → block < facts.known.next_block
    below block there = by (entry_at block facts.known.blocks) refl there
      where
        by : (found : Option BlockRecord) → entry_at block facts.known.blocks ≡ found → is_some found ≡ true → block < facts.known.next_block
        by None is there = cc
        by (Some own) is there = (sound.each block own is).given

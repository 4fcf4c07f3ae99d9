-- What becomes of the report of one node, by what was known of the block before.
use Rattle.std.proofs.Common.{◌≡◌, ℕ, ◌==◌, ◌≤◌, Bool, true, false, ◌⊎◌, inl, inr, List, [], ◌∷◌, fold, Option, Some, None, refl, sym, ◌∙◌, subst, cond, arith}
use Rattle.std.proofs.lemmas.Bool.{ne_eqb}
use Rattle.std.specs.Option.{option_map}
use Rattle.block_records.specs.Numbers.{is_number, entry_at}
use Rattle.block_records.specs.declared.block_record.BlockRecord.{BlockRecord}
use Rattle.block_records.proofs.Numbers.{number_is}
use Rattle.block_tables.specs.Changes.{with_record_changed, with_replication, with_recovery, with_hand_out, with_hand_outs}
use Rattle.recovery_queue.specs.declared.begun.BegunRecovery.{BegunRecovery}
use Rattle.known_blocks.specs.Known.{KnownBlocks, block_of, with_new_block}
use Rattle.block_map.specs.BlockFacts.{Blocks}
use Rattle.block_map.specs.BlockEffects.{with_block_replication, with_recovery_begun}
use Rattle.block_effect_laws.specs.Laws.{IsSound}
use Rattle.block_effect_laws.proofs.Looking.{changed_at}
use Rattle.history.specs.Blocks.{all_replicated}
use Rattle.block_laws.proofs.Unrefused.{one}
use Rattle.kept_bytes_laws.proofs.Records.{Table, OfEach, changed_has, added_has}

module _ (node : ℕ) (tells : ℕ → ℕ → Option ℕ → Option ℕ) where
  -- by what was known of the block before: at the same stamp what is told, and nothing at another
  abbrev pub Turned : ℕ → Option BlockRecord → ℕ → Option ℕ → Type 0
  Turned block None stamp left = left ≡ None
  Turned block (Some own) stamp left = ((own.stamp ≡ stamp) × (left ≡ tells block stamp (entry_at node own.reports))) ⊎ (((own.stamp == stamp) ≡ false) × (left ≡ None))

  module _ (before : Table) where
    abbrev pub TurnedFrom : ℕ → BlockRecord → Type 0
    TurnedFrom block later = Turned block (entry_at block before) later.stamp (entry_at node later.reports)

    -- a block of which nothing is told
    pub untold : (block : ℕ) (own : BlockRecord) → entry_at block before ≡ Some own → ((r : Option ℕ) → tells block own.stamp r ≡ r) → TurnedFrom block own
    untold block own there quiet = subst (λ found. Turned block found own.stamp (entry_at node own.reports)) (sym there) (inl (refl, sym (quiet (entry_at node own.reports))))

    -- the record of one block changes
    pub turned_one : (change : BlockRecord → BlockRecord) (block : ℕ) → ((own : BlockRecord) → entry_at block before ≡ Some own → Turned block (Some own) (change own).stamp (entry_at node (change own).reports))
        → ((q : ℕ) → is_number block q ≡ false → (stamp : ℕ) (r : Option ℕ) → tells q stamp r ≡ r) → OfEach TurnedFrom (with_record_changed change block before)
    turned_one change block here apart q later there = by (is_number block q) refl (sym (changed_at change block before q) ∙ there)
      where
        at_block : (found : Option BlockRecord) → entry_at block before ≡ found → option_map change found ≡ Some later → TurnedFrom block later
        at_block None e h = cc
        at_block (Some own) e h =
            subst (λ (new : BlockRecord). TurnedFrom block new) (one (change own) later h) (subst (λ found. Turned block found (change own).stamp (entry_at node (change own).reports)) (sym e) (here own e))

        by : (b : Bool) → is_number block q ≡ b → cond b (option_map change (entry_at block before)) (entry_at q before) ≡ Some later → TurnedFrom q later
        by true at h = subst (λ n. TurnedFrom n later) (number_is block q at) (at_block (entry_at block before) refl h)
        by false at h = untold q later h (apart q at later.stamp)

  -- a stamp that wasn't given before begins anew
  module _ (before : KnownBlocks) (sound : IsSound before) where
    anew : (block stamp : ℕ) → before.next_stamp ≤ stamp → Turned block (block_of before block) stamp None
    anew block stamp le = by (block_of before block) refl
      where
        by : (found : Option BlockRecord) → block_of before block ≡ found → Turned block found stamp None
        by None is = refl
        by (Some own) is = let was = (sound.each block own is).stamped in inr (ne_eqb own.stamp stamp (λ e. omega (arith, was, le, e)), refl)

    module _ (now : ℕ) where
      pub begun : (facts : Blocks) (block : ℕ) → before.next_stamp ≤ facts.known.next_stamp → OfEach (TurnedFrom before.blocks) facts.known.blocks → OfEach (TurnedFrom before.blocks) (with_recovery_begun facts block now).known.blocks
      begun facts block le all =
          changed_has (TurnedFrom before.blocks) (with_recovery facts.known.next_stamp now) block facts.known.blocks (λ own there h. anew block facts.known.next_stamp le) all

      pub all_begun : (recoveries : List BegunRecovery) (facts : Blocks) → before.next_stamp ≤ facts.known.next_stamp → OfEach (TurnedFrom before.blocks) facts.known.blocks
          → OfEach (TurnedFrom before.blocks) (fold (λ left (own : BegunRecovery). with_recovery_begun left own.block now) facts recoveries).known.blocks
      all_begun [] facts le all = all
      all_begun (own ∷ recoveries) facts le all = all_begun recoveries (with_recovery_begun facts own.block now) (omega (arith, le)) (begun facts own.block le all)

    pub added : (known : KnownBlocks) (targets : List ℕ) (replication : ℕ) → before.next_stamp ≤ known.next_stamp → OfEach (TurnedFrom before.blocks) known.blocks
        → OfEach (TurnedFrom before.blocks) (with_new_block known targets replication).blocks
    added known targets replication le all = added_has (TurnedFrom before.blocks) known targets replication (anew known.next_block known.next_stamp le) all

  module _ (before : Table) where
    pub replicated : (replication : ℕ) (numbers : List ℕ) (facts : Blocks) → OfEach (TurnedFrom before) facts.known.blocks → OfEach (TurnedFrom before) (all_replicated replication numbers facts).known.blocks
    replicated replication [] facts all = all
    replicated replication (block ∷ numbers) facts all =
        replicated replication numbers (with_block_replication facts block replication)
        (changed_has (TurnedFrom before) (with_replication replication) block facts.known.blocks (λ own there h. h) all)

    pub handed : (now : ℕ) (blocks : List ℕ) (table : Table) → OfEach (TurnedFrom before) table → OfEach (TurnedFrom before) (with_hand_outs now table blocks)
    handed now [] table all = all
    handed now (block ∷ blocks) table all =
        handed now blocks (with_record_changed (with_hand_out now) block table) (changed_has (TurnedFrom before) (with_hand_out now) block table (λ own there h. h) all)

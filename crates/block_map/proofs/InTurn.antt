-- Many recoveries begin at once as one after another.
use Rattle.std.proofs.Common.{◌≡◌, ◌∙◌, ◌+◌, ℕ, Bool, true, false, List, [], ◌∷◌, length, fold, Option, Some, None, Result, Ok, Err, refl, sym, ap, cond, add-zero, arith}
use Rattle.std.specs.List.{AllByRecursion, cons_option}
use Rattle.std.specs.Option.{option_map}
use Rattle.std.specs.Result.{OnOk}
use Rattle.block_records.specs.Numbers.{is_number, entry_at}
use Rattle.block_records.specs.declared.block_record.BlockRecord.{BlockRecord}
use Rattle.block_records.proofs.Numbers.{number_is}
use Rattle.block_tables.specs.Changes.{changed_by, with_recovery}
use Rattle.heartbeats.specs.Live.{primary_of}
use Rattle.recovery_queue.specs.Queue.{put, all_put}
use Rattle.recovery_queue.specs.declared.begun.BegunRecovery.{BegunRecovery}
use Rattle.known_blocks.specs.Known as known
use Rattle.known_blocks.specs.Known.{KnownBlocks, is_spent, with_stamps}
use Rattle.scarce_blocks.proofs.Stays.{put_at}
use Rattle.block_changes.specs.Leaders.{expected_by, queued_for, blocks_with_leaders}
use Rattle.block_map.specs.BlockFacts.{Blocks, leader}
use Rattle.block_map.specs.BlockEffects.{with_recovery_begun, recoveries_begun, with_recoveries_begun}

-- ---- who leads a recovery stays the same where others begin

expected_still : (stamp now block q : ℕ) (table : List (ℕ × BlockRecord)) (found : Option BlockRecord) → entry_at block table ≡ found
    → expected_by (entry_at q (changed_by (with_recovery stamp now) block found table)) ≡ expected_by (entry_at q table)
expected_still stamp now block q table None there = refl
expected_still stamp now block q table (Some own) there = ap expected_by (put_at block q table own (with_recovery stamp now own) there) ∙ by (is_number block q) refl
  where
    by : (b : Bool) → is_number block q ≡ b → expected_by (cond b (Some (with_recovery stamp now own)) (entry_at q table)) ≡ expected_by (entry_at q table)
    by true at = sym (ap expected_by (ap (λ n. entry_at n table) (sym (number_is block q at)) ∙ there))
    by false at = refl

abbrev pub AreLed : Blocks → ℕ → List (ℕ × ℕ) → Type 0
AreLed facts now some = AllByRecursion (λ own. leader facts own.0 now ≡ Some own.1) some

-- a recovery of a block that this node leads
abbrev pub one_begun : Blocks → ℕ → ℕ → ℕ → Blocks
one_begun facts block primary now = record facts { known = known.with_next_recovery facts.known block now; queued = put facts.queued block primary }

still_led : (facts : Blocks) (block primary now : ℕ) (some : List (ℕ × ℕ)) → AreLed facts now some → AreLed (one_begun facts block primary now) now some
still_led facts block primary now [] all = tt
still_led facts block primary now (own ∷ some) all = (
  ap (primary_of facts.nodes now) (expected_still facts.known.next_stamp now block own.0 facts.known.blocks (entry_at block facts.known.blocks) refl) ∙ all.0,
  still_led facts block primary now some all.1,
)

are_led : (facts : Blocks) (now : ℕ) (blocks : List ℕ) → AreLed facts now (blocks_with_leaders facts.known facts.nodes blocks now)
are_led facts now [] = tt
are_led facts now (block ∷ blocks) = by (leader facts block now) refl (are_led facts now blocks)
  where
    by : (o : Option ℕ) → leader facts block now ≡ o → AreLed facts now (blocks_with_leaders facts.known facts.nodes blocks now)
        → AreLed facts now (cons_option (option_map (λ node. (block, node)) o) (blocks_with_leaders facts.known facts.nodes blocks now))
    by None is rest = rest
    by (Some node) is rest = (is, rest)

-- ---- one after another

abbrev pub together : Blocks → List BegunRecovery → ℕ → Blocks
together facts recoveries now = record facts { known = known.with_next_recoveries facts.known recoveries now; queued = all_put facts.queued recoveries }

abbrev pub in_turn : Blocks → List BegunRecovery → ℕ → Blocks
in_turn facts recoveries now = fold (λ left own. with_recovery_begun left own.block now) facts recoveries

nothing_begun : (facts : Blocks) (now : ℕ) → in_turn facts [] now ≡ together facts [] now
nothing_begun facts now = ap (λ n. record facts { known = record facts.known { next_stamp = n } }) (sym (add-zero facts.known.next_stamp))

same : (now : ℕ) (some : List (ℕ × ℕ)) (facts : Blocks) → AreLed facts now some → in_turn facts (with_stamps facts.known.next_stamp some) now ≡ together facts (with_stamps facts.known.next_stamp some) now
same now [] facts all = nothing_begun facts now
same now (own ∷ some) facts all = by (is_spent next) (same now some first (still_led facts own.0 own.1 now some all.1))
  where
    next : ℕ
    next = facts.known.next_stamp

    first : Blocks
    first = one_begun facts own.0 own.1 now

    one : BegunRecovery
    one = record { block = own.0; stamp = next; primary = own.1 }

    rest : List BegunRecovery
    rest = with_stamps (next + 1) some

    one_more : (next + 1) + length rest ≡ next + length (one ∷ rest)
    one_more = omega arith

    by : (b : Bool) → in_turn first rest now ≡ together first rest now → in_turn facts (cond b [] (one ∷ rest)) now ≡ together facts (cond b [] (one ∷ rest)) now
    by true later = nothing_begun facts now
    by false later =
        ap (λ (o : Option ℕ). in_turn (record facts { known = known.with_next_recovery facts.known own.0 now; queued = queued_for o own.0 facts.queued }) rest now) all.0
        ∙ (later ∙ ap (λ n. record (together facts (one ∷ rest) now) { known = record (known.with_next_recoveries facts.known (one ∷ rest) now) { next_stamp = n } }) one_more)

pub all_begun_where_done : {E : Type 0} (r : Result (Unit {0}) E) (facts : Blocks) (blocks : List ℕ) (now : ℕ) (recoveries : List BegunRecovery) (own : KnownBlocks) (queue : List (ℕ × ℕ))
    → recoveries ≡ recoveries_begun facts blocks now → OnOk r (own ≡ known.with_next_recoveries facts.known recoveries now) → OnOk r (queue ≡ all_put facts.queued recoveries)
    → OnOk r (record facts { known = own; queued = queue } ≡ with_recoveries_begun facts blocks now)
all_begun_where_done (Ok done) facts blocks now recoveries own queue planned begins waits =
    ap (λ k. record facts { known = k; queued = queue }) begins
    ∙ (ap (λ q. record facts { known = known.with_next_recoveries facts.known recoveries now; queued = q }) waits
    ∙ (ap (λ some. together facts some now) planned
    ∙ sym (same now (blocks_with_leaders facts.known facts.nodes blocks now) facts (are_led facts now blocks))))
all_begun_where_done (Err fault) facts blocks now recoveries own queue planned begins waits = tt

-- The laws over every legal history.
use Rattle.std.proofs.Common.{◌≡◌, ℕ, ◌+◌, ◌<◌, ◌≤◌, ◌==◌, Bool, true, false, ◌||◌, not, List, [], ◌∷◌, ◌++◌, map, is_some, ◌⊎◌, inl, inr, Option, Some, None, refl, sym, ap, ◌∙◌, subst, cond, append-nil, arith}
use Rattle.std.proofs.lemmas.Bool.{eq-eqb, eqb-true}
use Rattle.std.proofs.lemmas.Map.Keys.{sorted_head, sorted_tail, IsStrictlyIncreasing-from_sorted}
use Rattle.std.specs.Cmp.{ranks}
use Rattle.std.specs.List.{AllByRecursion}
use Rattle.std.specs.List.Sorted.{IsStrictlySortedBy}
use Rattle.std.specs.Option.{option_map, option_and_then}
use Rattle.std.specs.Ordering.{nat_cmp, MatchOrdering}
use Rattle.std.specs.declared.cmp.Ordering.{Ordering}
use Rattle.std.specs.declared.cmp.Ordering.TheVariants.{Less, Equal, Greater}
use Rattle.block_answers.specs.LocatedBlocks.{AddedBlock}
use Rattle.block_records.specs.Numbers.{has_number}
use Rattle.block_records.specs.declared.block_record.BlockRecord.{BlockRecord}
use Rattle.known_blocks.specs.Known.{KnownBlocks, block_of}
use Rattle.block_map.specs.BlockFacts.{Blocks, newest_stamp}
use Rattle.block_effect_laws.specs.Laws.{Becomes, KeepsKnown}
use Rattle.file_states.specs.declared.state.FileState.{FileState}
use Rattle.file_states.specs.declared.state.FileState.TheVariants.{Recovering}
use Rattle.file_blocks.specs.declared.blocks.FileBlock.{FileBlock}
use Rattle.namespace_rows.specs.declared.row.Row.{Row}
use Rattle.history.specs.declared.entry.HistoryEntry.{HistoryEntry}
use Rattle.history.specs.Config.{Opening}
use Rattle.history.specs.LegalHistory.{now_at, IsLegal}
use Rattle.history.specs.State.{users_of, rows_of, blocks_of, facts_of}
use Rattle.block_laws.specs.Laws.{blocks_given_by, new_blocks, ids_given, stamps_given, LengthsAre, running_since, RecoveriesHaveNewStamps, IdsAscend, StampsAscend, KnownBlocksWereGiven, StampsAreOwn, StampsAreOwnAtAllTimes, StampsAreNew, StampsNeverFall, LengthsStay, BlocksStandOnce, BlocksAreBelow, FilesTellLengths, RowsAreNamespace}
use Rattle.block_laws.proofs.Totals.{bit, total, own, in_rows, times_in}
use Rattle.block_laws.proofs.Told.{told_by, told}
use Rattle.block_laws.proofs.Standing.{same_length, length_told, length_of, wrong}
use Rattle.block_laws.proofs.Steps.{Gives, Standing, Turned, turned}

-- ---- one entry more

module _ (opening : Opening) where
  abbrev known_behind : List HistoryEntry → KnownBlocks
  known_behind entries = (blocks_of opening entries).known

  turned_behind : (entry : HistoryEntry) (earlier : List HistoryEntry) → IsLegal opening (entry ∷ earlier) → Standing (rows_of opening earlier) (known_behind earlier)
      → Turned (known_behind earlier) (known_behind (entry ∷ earlier)) (rows_of opening (entry ∷ earlier)) (blocks_given_by entry.verdict)
  turned_behind entry earlier legal standing =
      turned (facts_of opening earlier (now_at earlier entry.request)) (rows_of opening earlier) (users_of earlier) entry.request.caller entry.request.op standing entry.verdict legal.1

  pub stands : (entries : List HistoryEntry) → IsLegal opening entries → Standing (rows_of opening entries) (known_behind entries)
  unfolding IsStrictlySortedBy
  stands [] legal = record {
    namespace = refl;
    sound = record { once = tt; each = λ block own there. cc; apart = λ block other own also there. cc };
    agree = record { once = λ number. refl; right = refl };
    recover = record { runs = λ number v. refl; right = refl };
  }
  stands (entry ∷ earlier) legal = (turned_behind entry earlier legal (stands earlier legal.2)).standing

  turns : (entry : HistoryEntry) (earlier : List HistoryEntry) → IsLegal opening (entry ∷ earlier)
      → Turned (known_behind earlier) (known_behind (entry ∷ earlier)) (rows_of opening (entry ∷ earlier)) (blocks_given_by entry.verdict)
  turns entry earlier legal = turned_behind entry earlier legal (stands earlier legal.2)

pub namespaces : RowsAreNamespace
namespaces opening entries legal = (stands opening entries legal).namespace

-- ---- numbers that ascend

-- numbers in order, below a bound
record AreUp (numbers : List ℕ) (bound : ℕ) : Type 0 where
  order : IsStrictlySortedBy nat_cmp numbers
  below : AllByRecursion (λ n. n < bound) numbers

less_is : (a b : ℕ) → a < b → nat_cmp a b ≡ Less
less_is a b lt = by (nat_cmp a b) (ranks a b) refl
  where
    by : (o : Ordering) → MatchOrdering o (a < b) (a ≡ b) (b < a) → nat_cmp a b ≡ o → o ≡ Less
    by Less m e = refl
    by Equal m e = let q : a ≡ b = m in absurd (omega (arith, q, lt))
    by Greater m e = let q : b < a = m in absurd (omega (arith, q, lt))

module _ (f : AddedBlock → ℕ) (new : AddedBlock) (bound : ℕ) (above : bound ≤ f new) where
  all_more : (low : ℕ) (some : List AddedBlock) → low < f new → AllByRecursion (λ y. nat_cmp low y ≡ Less) (map f some) → AllByRecursion (λ y. nat_cmp low y ≡ Less) (map f (some ++ new ∷ []))
  all_more low [] less all = (less_is low (f new) less, tt)
  all_more low (one ∷ some) less all = (all.0, all_more low some less all.1)

  order_more : (some : List AddedBlock) → IsStrictlySortedBy nat_cmp (map f some) → AllByRecursion (λ n. n < bound) (map f some) → IsStrictlySortedBy nat_cmp (map f (some ++ new ∷ []))
  unfolding IsStrictlySortedBy
  order_more [] order below = (tt, tt)
  order_more (one ∷ some) order below =
      (all_more (f one) some (lower (f one) bound (f new) below.0 above) (sorted_head nat_cmp (f one) (map f some) order), order_more some (sorted_tail nat_cmp (f one) (map f some) order) below.1)
    where
      lower : (a b c : ℕ) → a < b → b ≤ c → a < c
      lower a b c h k = omega (arith, h, k)

  below_more : (some : List AddedBlock) (later : ℕ) → f new < later → AllByRecursion (λ n. n < bound) (map f some) → AllByRecursion (λ n. n < later) (map f (some ++ new ∷ []))
  below_more [] later less below = (less, tt)
  below_more (one ∷ some) later less below = (lower (f one) bound (f new) later below.0 above less, below_more some later less below.1)
    where
      lower : (a b c d : ℕ) → a < b → b ≤ c → c < d → a < d
      lower a b c d h k l = omega (arith, h, k, l)

  up_more : (some : List AddedBlock) (later : ℕ) → f new < later → AreUp (map f some) bound → AreUp (map f (some ++ new ∷ [])) later
  up_more some later less up = record { order = order_more some up.order up.below; below = below_more some later less up.below }

below_still : (bound later : ℕ) (numbers : List ℕ) → bound ≤ later → AllByRecursion (λ n. n < bound) numbers → AllByRecursion (λ n. n < later) numbers
below_still bound later [] le below = tt
below_still bound later (n ∷ numbers) le below = (lower n bound later below.0 le, below_still bound later numbers le below.1)
  where
    lower : (a b c : ℕ) → a < b → b ≤ c → a < c
    lower a b c h k = omega (arith, h, k)

-- by what a step gives
ids_more : (before later : KnownBlocks) (new some : List AddedBlock) → before.next_block ≤ later.next_block → Gives before later new
    → AreUp (map (λ (one : AddedBlock). one.block) some) before.next_block → AreUp (map (λ (one : AddedBlock). one.block) (some ++ new)) later.next_block
ids_more before later [] some le gives up =
    subst (λ all. AreUp (map (λ (one : AddedBlock). one.block) all) later.next_block) (sym (append-nil some))
    (record { order = up.order; below = below_still before.next_block later.next_block (map (λ (one : AddedBlock). one.block) some) le up.below })
ids_more before later (new ∷ []) some le gives up =
    up_more (λ (one : AddedBlock). one.block) new before.next_block (omega (arith, gives.0)) some later.next_block (omega (arith, gives.0, gives.1)) up
ids_more before later (new ∷ other ∷ more) some le gives up = absurd gives

stamps_more : (before later : KnownBlocks) (new some : List AddedBlock) → before.next_stamp ≤ later.next_stamp → Gives before later new
    → AreUp (map (λ (one : AddedBlock). one.stamp) some) before.next_stamp → AreUp (map (λ (one : AddedBlock). one.stamp) (some ++ new)) later.next_stamp
stamps_more before later [] some le gives up =
    subst (λ all. AreUp (map (λ (one : AddedBlock). one.stamp) all) later.next_stamp) (sym (append-nil some))
    (record { order = up.order; below = below_still before.next_stamp later.next_stamp (map (λ (one : AddedBlock). one.stamp) some) le up.below })
stamps_more before later (new ∷ []) some le gives up =
    up_more (λ (one : AddedBlock). one.stamp) new before.next_stamp (omega (arith, gives.2)) some later.next_stamp (omega (arith, gives.2, gives.3)) up
stamps_more before later (new ∷ other ∷ more) some le gives up = absurd gives

module _ (opening : Opening) where
  ids_up : (entries : List HistoryEntry) → IsLegal opening entries → AreUp (ids_given entries) (known_behind opening entries).next_block
  unfolding IsStrictlySortedBy
  ids_up [] legal = record { order = tt; below = tt }
  ids_up (entry ∷ earlier) legal =
      let turn = turns opening entry earlier legal in
      ids_more (known_behind opening earlier) (known_behind opening (entry ∷ earlier)) (blocks_given_by entry.verdict) (new_blocks earlier) turn.kept.next_block turn.gives (ids_up earlier legal.2)

  stamps_up : (entries : List HistoryEntry) → IsLegal opening entries → AreUp (stamps_given entries) (known_behind opening entries).next_stamp
  unfolding IsStrictlySortedBy
  stamps_up [] legal = record { order = tt; below = tt }
  stamps_up (entry ∷ earlier) legal =
      let turn = turns opening entry earlier legal in
      stamps_more (known_behind opening earlier) (known_behind opening (entry ∷ earlier)) (blocks_given_by entry.verdict) (new_blocks earlier) turn.kept.next_stamp turn.gives (stamps_up earlier legal.2)

pub ids_ascend : IdsAscend
ids_ascend opening entries legal = IsStrictlyIncreasing-from_sorted (ids_given entries) (ids_up opening entries legal).order

pub stamps_ascend : StampsAscend
stamps_ascend opening entries legal = IsStrictlyIncreasing-from_sorted (stamps_given entries) (stamps_up opening entries legal).order

-- ---- what is known of a block

-- it was known before, or has the number that was given
given_now : (before later : KnownBlocks) (new some : List AddedBlock) (block : ℕ) → KeepsKnown before later → Gives before later new
    → (is_some (block_of before block) ≡ true → has_number block (map (λ (one : AddedBlock). one.block) some) ≡ true)
    → is_some (block_of later block) ≡ true → has_number block (map (λ (one : AddedBlock). one.block) (some ++ new)) ≡ true
given_now before later new some block kept gives was there = by (block_of before block) refl (block_of later block) refl (kept.blocks block) there
  where
    more : (some new : List AddedBlock) → has_number block (map (λ (one : AddedBlock). one.block) some) ≡ true → has_number block (map (λ (one : AddedBlock). one.block) (some ++ new)) ≡ true
    more [] new h = cc
    more (one ∷ some) new h = by_head (one.block == block) h (more some new)
      where
        by_head : (b : Bool) → (b || has_number block (map (λ (one : AddedBlock). one.block) some)) ≡ true
            → (has_number block (map (λ (one : AddedBlock). one.block) some) ≡ true → has_number block (map (λ (one : AddedBlock). one.block) (some ++ new)) ≡ true)
            → (b || has_number block (map (λ (one : AddedBlock). one.block) (some ++ new))) ≡ true
        by_head true h rest = refl
        by_head false h rest = rest h

    last : (some : List AddedBlock) (one : AddedBlock) → one.block ≡ block → has_number block (map (λ (one : AddedBlock). one.block) (some ++ one ∷ [])) ≡ true
    last [] one is = ap (λ b. b || false) (eq-eqb one.block block is)
    last (other ∷ some) one is = by_head (other.block == block) (last some one is)
      where
        by_head : (b : Bool) → has_number block (map (λ (one : AddedBlock). one.block) (some ++ one ∷ [])) ≡ true → (b || has_number block (map (λ (one : AddedBlock). one.block) (some ++ one ∷ []))) ≡ true
        by_head true h = refl
        by_head false h = h

    fresh : (new : List AddedBlock) → Gives before later new → before.next_block ≤ block → block < later.next_block → has_number block (map (λ (one : AddedBlock). one.block) (some ++ new)) ≡ true
    fresh [] gives le lt = absurd (omega (arith, gives, le, lt))
    fresh (one ∷ []) gives le lt = last some one (omega (arith, gives.0, gives.1, le, lt))
    fresh (one ∷ other ∷ rest) gives le lt = absurd gives

    by : (a : Option BlockRecord) → block_of before block ≡ a → (b : Option BlockRecord) → block_of later block ≡ b → Becomes before block a b → is_some b ≡ true
        → has_number block (map (λ (one : AddedBlock). one.block) (some ++ new)) ≡ true
    by a x None y turn there = cc
    by None x (Some own) y turn there = fresh new gives turn.0 (kept.sound.each block own y).given
    by (Some old) x (Some own) y turn there = more some new (was (ap is_some x))

pub known_were_given : KnownBlocksWereGiven
known_were_given opening [] block legal there = cc
known_were_given opening (entry ∷ earlier) block legal there =
    let turn = turns opening entry earlier legal in
    given_now (known_behind opening earlier) (known_behind opening (entry ∷ earlier)) (blocks_given_by entry.verdict) (new_blocks earlier) block turn.kept turn.gives
    (λ was. known_were_given opening earlier block legal.2 was) there

with_stamp : (stamp : ℕ) (found : Option BlockRecord) → option_map (λ (own : BlockRecord). own.stamp) found ≡ Some stamp → (own : BlockRecord) × (found ≡ Some own) × (own.stamp ≡ stamp)
with_stamp stamp None h = cc
with_stamp stamp (Some own) h = (own, refl, one own.stamp stamp h)
  where
    one : (m n : ℕ) → Some m ≡ Some n → m ≡ n
    one m n e = cc

pub stamps_are_own : StampsAreOwn
stamps_are_own opening entries block other stamp legal x y =
    let own = with_stamp stamp (block_of (known_behind opening entries) block) x in
    let also = with_stamp stamp (block_of (known_behind opening entries) other) y in
    (stands opening entries legal).sound.apart block other own.0 also.0 own.1 also.1 (own.2 ∙ sym also.2)

-- a stamp that was given before is no new one: it was that of the block then
was_stamp : (before : KnownBlocks) (block bound stamp : ℕ) → bound ≤ before.next_stamp → stamp < bound → (a b : Option BlockRecord) → Becomes before block a b
    → option_map (λ (own : BlockRecord). own.stamp) b ≡ Some stamp → option_map (λ (own : BlockRecord). own.stamp) a ≡ Some stamp
was_stamp before block bound stamp le less a None turn y = cc
was_stamp before block bound stamp le less None (Some own) turn y = let is : own.stamp ≡ stamp = cc in let new = turn.1 in absurd (omega (arith, le, less, is, new))
was_stamp before block bound stamp le less (Some old) (Some own) turn y = by turn.stamp
  where
    is : own.stamp ≡ stamp
    is = cc

    by : (own.stamp ≡ old.stamp) ⊎ (before.next_stamp ≤ own.stamp) → Some old.stamp ≡ Some stamp
    by (inl same) = ap (λ n. Some n) (sym same ∙ is)
    by (inr new) = absurd (omega (arith, le, less, is, new))

module _ (opening : Opening) (earlier : List HistoryEntry) where
  -- stamps aren't taken back
  stamps_go_on : (later : List HistoryEntry) → IsLegal opening (later ++ earlier) → (known_behind opening earlier).next_stamp ≤ (known_behind opening (later ++ earlier)).next_stamp
  stamps_go_on [] legal = omega arith
  stamps_go_on (entry ∷ later) legal =
      let before = stamps_go_on later legal.2 in
      let next = (turns opening entry (later ++ earlier) legal).kept.next_stamp in
      onward (known_behind opening earlier).next_stamp (known_behind opening (later ++ earlier)).next_stamp (known_behind opening (entry ∷ (later ++ earlier))).next_stamp before next
    where
      onward : (a b c : ℕ) → a ≤ b → b ≤ c → a ≤ c
      onward a b c h k = omega (arith, h, k)

  had_stamp : (later : List HistoryEntry) (block stamp : ℕ) → IsLegal opening (later ++ earlier) → stamp < (known_behind opening earlier).next_stamp
      → newest_stamp (blocks_of opening (later ++ earlier)) block ≡ Some stamp → newest_stamp (blocks_of opening earlier) block ≡ Some stamp
  had_stamp [] block stamp legal less y = y
  had_stamp (entry ∷ later) block stamp legal less y =
      had_stamp later block stamp legal.2 less
      (was_stamp (known_behind opening (later ++ earlier)) block (known_behind opening earlier).next_stamp stamp (stamps_go_on later legal.2) less
      (block_of (known_behind opening (later ++ earlier)) block) (block_of (known_behind opening (entry ∷ (later ++ earlier))) block)
      ((turns opening entry (later ++ earlier) legal).kept.blocks block) y)

  legal_before : (later : List HistoryEntry) → IsLegal opening (later ++ earlier) → IsLegal opening earlier
  legal_before [] legal = legal
  legal_before (entry ∷ later) legal = legal_before later legal.2

pub stamps_are_own_ever : StampsAreOwnAtAllTimes
stamps_are_own_ever opening later earlier block other stamp legal x y =
    let before = legal_before opening earlier later legal in
    let own = with_stamp stamp (block_of (known_behind opening earlier) block) x in
    let less : stamp < (known_behind opening earlier).next_stamp = below own.0.stamp stamp (known_behind opening earlier).next_stamp own.2 ((stands opening earlier before).sound.each block own.0 own.1).stamped in
    stamps_are_own opening earlier block other stamp before x (had_stamp opening earlier later other stamp legal less y)
  where
    below : (a b c : ℕ) → a ≡ b → a < c → b < c
    below a b c h k = omega (arith, h, k)

pub stamps_are_new : StampsAreNew
stamps_are_new opening entry later earlier block other stamp legal x y =
    let before = legal_before opening earlier later legal.2 in
    let own = with_stamp stamp (block_of (known_behind opening earlier) other) x in
    let less : stamp < (known_behind opening earlier).next_stamp = below own.0.stamp stamp (known_behind opening earlier).next_stamp own.2 ((stands opening earlier before).sound.each other own.0 own.1).stamped in
    was_stamp (known_behind opening (later ++ earlier)) block (known_behind opening earlier).next_stamp stamp (stamps_go_on opening earlier later legal.2) less
    (block_of (known_behind opening (later ++ earlier)) block) (block_of (known_behind opening (entry ∷ (later ++ earlier))) block)
    ((turns opening entry (later ++ earlier) legal).kept.blocks block) y
  where
    below : (a b c : ℕ) → a ≡ b → a < c → b < c
    below a b c h k = omega (arith, h, k)

-- of a recovery that runs
running_parts : (block own stamp since : ℕ) (found : Option ℕ) → option_map (Recovering block own) found ≡ Some (Recovering block stamp since) → (own ≡ stamp) × (found ≡ Some since)
running_parts block own stamp since None h = cc
running_parts block own stamp since (Some begun) h = (first h, ap (λ n. Some n) (second h))
  where
    first : Some (Recovering block own begun) ≡ Some (Recovering block stamp since) → own ≡ stamp
    first e = cc

    second : Some (Recovering block own begun) ≡ Some (Recovering block stamp since) → begun ≡ since
    second e = cc

abbrev running_in : ℕ → Option BlockRecord → Option FileState
running_in block found = option_and_then (λ (own : BlockRecord). running_since block own.stamp own.recovering) found

was_running : (before : KnownBlocks) (block bound stamp since : ℕ) → bound ≤ before.next_stamp → stamp < bound → (a b : Option BlockRecord) → Becomes before block a b
    → running_in block b ≡ Some (Recovering block stamp since) → running_in block a ≡ Some (Recovering block stamp since)
was_running before block bound stamp since le less a None turn y = cc
was_running before block bound stamp since le less None (Some own) turn y =
    let is : own.stamp ≡ stamp = (running_parts block own.stamp stamp since own.recovering y).0 in
    let new = turn.1 in
    absurd (omega (arith, le, less, is, new))
was_running before block bound stamp since le less (Some old) (Some own) turn y = by (turn.recovering since parts.1)
  where
    parts : (own.stamp ≡ stamp) × (own.recovering ≡ Some since)
    parts = running_parts block own.stamp stamp since own.recovering y

    by : ((old.recovering ≡ Some since) × (own.stamp ≡ old.stamp)) ⊎ (before.next_stamp ≤ own.stamp) → option_map (Recovering block old.stamp) old.recovering ≡ Some (Recovering block stamp since)
    by (inl was) = ap (option_map (Recovering block old.stamp)) was.0 ∙ ap (λ n. Some (Recovering block n since)) (sym was.1 ∙ parts.0)
    by (inr new) = let is = parts.0 in absurd (omega (arith, le, less, is, new))

pub recoveries_have_new : RecoveriesHaveNewStamps
recoveries_have_new opening entry later earlier block other stamp since legal x y =
    let before = legal_before opening earlier later legal.2 in
    let own = with_stamp stamp (block_of (known_behind opening earlier) other) x in
    let less : stamp < (known_behind opening earlier).next_stamp = below own.0.stamp stamp (known_behind opening earlier).next_stamp own.2 ((stands opening earlier before).sound.each other own.0 own.1).stamped in
    was_running (known_behind opening (later ++ earlier)) block (known_behind opening earlier).next_stamp stamp since (stamps_go_on opening earlier later legal.2) less
    (block_of (known_behind opening (later ++ earlier)) block) (block_of (known_behind opening (entry ∷ (later ++ earlier))) block)
    ((turns opening entry (later ++ earlier) legal).kept.blocks block) y
  where
    below : (a b c : ℕ) → a ≡ b → a < c → b < c
    below a b c h k = omega (arith, h, k)

stamp_stays : (before : KnownBlocks) (block stamp later : ℕ) (a b : Option BlockRecord) → ((own : BlockRecord) → a ≡ Some own → own.stamp < before.next_stamp) → Becomes before block a b
    → option_map (λ (own : BlockRecord). own.stamp) a ≡ Some stamp → option_map (λ (own : BlockRecord). own.stamp) b ≡ Some later → stamp ≤ later
stamp_stays before block stamp later None b given turn x y = cc
stamp_stays before block stamp later (Some old) None given turn x y = cc
stamp_stays before block stamp later (Some old) (Some own) given turn x y = order (one old.stamp stamp x) (one own.stamp later y) (given old refl) turn.stamp
  where
    one : (m n : ℕ) → Some m ≡ Some n → m ≡ n
    one m n e = cc

    order : old.stamp ≡ stamp → own.stamp ≡ later → old.stamp < before.next_stamp → (own.stamp ≡ old.stamp) ⊎ (before.next_stamp ≤ own.stamp) → stamp ≤ later
    order h k l (inl m) = omega (arith, h, k, m)
    order h k l (inr m) = omega (arith, h, k, l, m)

pub stamps_never_fall : StampsNeverFall
stamps_never_fall opening entry earlier block stamp later legal x y =
    let turn = turns opening entry earlier legal in
    stamp_stays (known_behind opening earlier) block stamp later (block_of (known_behind opening earlier) block) (block_of (known_behind opening (entry ∷ earlier)) block)
    (λ own is. ((stands opening earlier legal.2).sound.each block own is).stamped) (turn.kept.blocks block) x y

length_stays : (before : KnownBlocks) (block length : ℕ) (a b : Option BlockRecord) → Becomes before block a b → option_and_then (λ (own : BlockRecord). own.committed) a ≡ Some length
    → is_some b ≡ true → option_and_then (λ (own : BlockRecord). own.committed) b ≡ Some length
length_stays before block length None b turn x y = cc
length_stays before block length (Some old) None turn x y = cc
length_stays before block length (Some old) (Some own) turn x y = turn.committed length x

pub lengths_stay : LengthsStay
lengths_stay opening entry earlier block length legal x there =
    let turn = turns opening entry earlier legal in
    length_stays (known_behind opening earlier) block length (block_of (known_behind opening earlier) block) (block_of (known_behind opening (entry ∷ earlier)) block) (turn.kept.blocks block) x there

-- ---- where blocks stand

bit_of : (found : Option BlockRecord) → bit (is_some (told_by found)) ≡ cond (is_some found) 1 0
bit_of None = refl
bit_of (Some own) = refl

pub stand_once : BlocksStandOnce
stand_once opening entries block legal =
    times_in block (rows_of opening entries) ∙ ((stands opening entries legal).agree.once block ∙ bit_of (block_of (known_behind opening entries) block))

pub are_below : BlocksAreBelow
are_below opening entries block legal there = by (block_of (known_behind opening entries) block) refl there
  where
    by : (found : Option BlockRecord) → block_of (known_behind opening entries) block ≡ found → is_some found ≡ true → block < (known_behind opening entries).next_block
    by None is h = cc
    by (Some own) is h = ((stands opening entries legal).sound.each block own is).given

-- no block is counted as wrong
same_is : (a b : Option ℕ) → same_length a b ≡ true → a ≡ b
same_is None None h = refl
same_is None (Some b) h = cc
same_is (Some a) None h = cc
same_is (Some a) (Some b) h = ap (λ n. Some n) (eqb-true a b h)

unset : (b : Bool) → bit (not b) ≡ 0 → b ≡ true
unset true h = refl
unset false h = cc

parts : (a b : ℕ) → a + b ≡ 0 → (a ≡ 0) × (b ≡ 0)
parts a b h = (omega (arith, h), omega (arith, h))

module _ (facts : Blocks) where
  right_each : (blocks : List FileBlock) → total (wrong (told facts.known)) blocks ≡ 0 → AllByRecursion (λ (block : FileBlock). option_and_then (λ (own : BlockRecord). own.committed) (block_of facts.known block.id) ≡ block.committed) blocks
  right_each [] h = tt
  right_each (block ∷ blocks) h =
      let both = parts (wrong (told facts.known) block) (total (wrong (told facts.known)) blocks) h in
      (length_of (block_of facts.known block.id) ∙ same_is (length_told (told facts.known block.id)) block.committed (unset (same_length (length_told (told facts.known block.id)) block.committed) both.0), right_each blocks both.1)

  right_all : (rows : List Row) → in_rows (wrong (told facts.known)) rows ≡ 0 → LengthsAre facts rows
  right_all [] h = tt
  right_all (row ∷ rows) h =
      let both = parts (total (wrong (told facts.known)) (own row)) (in_rows (wrong (told facts.known)) rows) h in
      (right_each (own row) both.0, right_all rows both.1)

pub files_tell : FilesTellLengths
files_tell opening entries legal = right_all (blocks_of opening entries) (rows_of opening entries) (stands opening entries legal).agree.right

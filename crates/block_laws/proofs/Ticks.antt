-- What a tick leaves of the states of files and of their recoveries.
use Rattle.std.proofs.Common.{◌≡◌, ℕ, ◌+◌, ◌-◌, ◌≤◌, ◌==◌, ◌||◌, Bool, true, false, not, List, [], ◌∷◌, map, filter, is_some, Option, Some, None, refl, sym, ap, ◌∙◌, subst, cond, arith}
use Rattle.std.proofs.lemmas.Bool.{eq-eqb, eqb-true}
use Rattle.std.specs.List.{filter_map, last_or, list_any, cons_option}
use Rattle.std.specs.Option.{option_map}
use Rattle.file_states.specs.declared.state.FileState.{FileState}
use Rattle.file_states.specs.declared.state.FileState.TheVariants.{Closed, Open, Recovering}
use Rattle.block_records.specs.Numbers.{has_number}
use Rattle.block_records.specs.declared.block_record.BlockRecord.{BlockRecord}
use Rattle.recovery_queue.specs.declared.begun.BegunRecovery.{BegunRecovery}
use Rattle.heartbeats.specs.Live.{Heartbeats}
use Rattle.known_blocks.specs.Known.{KnownBlocks, block_of, is_spent, with_stamps}
use Rattle.block_changes.specs.Leaders.{leader_of, blocks_with_leaders}
use Rattle.block_map.specs.BlockEffects.{with_recoveries_begun}
use Rattle.namespace_rows.specs.declared.file_row.FileRow.{FileRow}
use Rattle.namespace_rows.specs.declared.row.Row.{Row}
use Rattle.file_blocks.specs.Blocks.{unfinished_block}
use Rattle.namespace_rows.specs.Files.{with_state}
use Rattle.flat_rows.specs.Facts.{Facts}
use Rattle.flat_rows.specs.Takeover.{sought_by_state, sought_of, stamp_in, recovering_from, with_begun, taken_row, is_overdue, sought_in, sought_blocks, begun_in, row_ticked}
use Rattle.flat_rows.specs.declared.takeover.Sought.{Sought}
use Rattle.block_laws.proofs.Sums.{once, Count, sum_files, sum_given, spare, sum_spared, sum_neither, sum_one, sum_through}
use Rattle.block_laws.proofs.Totals.{bit, Weight, total, by_blocks, in_rows, has}
use Rattle.block_laws.proofs.Unrefused.{is_recovery}
use Rattle.block_laws.proofs.Told.{seen, told, told_by, same_all_begun}
use Rattle.block_laws.proofs.Standing.{Agree, bit_few}
use Rattle.block_laws.proofs.Recoveries.{run_of, RunWeight, one, worth, in_state, in_file, is_block, amiss, amiss_state, Recover, quiet_state, has_last, none_by_state, none_absent, recovered_has, begun_by, runs_begun, unknown_run}

-- ---- what becomes of a file

module _ (begun : List BegunRecovery) (now : ℕ) where
  abbrev pub recovers_from : ℕ → Option ℕ → FileRow → FileRow
  recovers_from block None its = its
  recovers_from block (Some stamp) its = with_state (Recovering block stamp now) its

  abbrev pub behind : Option ℕ → FileRow → FileRow
  behind None its = with_state Closed its
  behind (Some block) its = recovers_from block (stamp_in begun block) its

  abbrev pub behind_tick : Option Sought → FileRow → FileRow
  behind_tick None its = its
  behind_tick (Some sought) its = behind sought.block its

  from_is : (block : ℕ) (stamp : Option ℕ) (row : Row) → (recovering_from now block stamp row).file ≡ option_map (recovers_from block stamp) row.file
  from_is block None row = itself row.file
    where
      itself : (its : Option FileRow) → its ≡ option_map (λ (own : FileRow). own) its
      itself None = refl
      itself (Some own) = refl
  from_is block (Some stamp) row = refl

  behind_is : (block : Option ℕ) (row : Row) → (with_begun begun now block row).file ≡ option_map (behind block) row.file
  behind_is None row = refl
  behind_is (Some block) row = from_is block (stamp_in begun block) row

  pub taken_is : (sought : Option Sought) (row : Row) → (taken_row begun now sought row).file ≡ option_map (behind_tick sought) row.file
  taken_is None row = itself row.file
    where
      itself : (its : Option FileRow) → its ≡ option_map (λ (own : FileRow). own) its
      itself None = refl
      itself (Some own) = refl
  taken_is (Some sought) row = behind_is sought.block row

  -- blocks stay
  from_blocks : (block : ℕ) (stamp : Option ℕ) (its : FileRow) → (recovers_from block stamp its).blocks ≡ its.blocks
  from_blocks block None its = refl
  from_blocks block (Some stamp) its = refl

  behind_blocks : (block : Option ℕ) (its : FileRow) → (behind block its).blocks ≡ its.blocks
  behind_blocks None its = refl
  behind_blocks (Some block) its = from_blocks block (stamp_in begun block) its

  tick_blocks : (sought : Option Sought) (its : FileRow) → (behind_tick sought its).blocks ≡ its.blocks
  tick_blocks None its = refl
  tick_blocks (Some sought) its = behind_blocks sought.block its

-- ---- what is sought

-- the block that is to be recovered is the unfinished one, and no other is in recovery; where none is, the file isn't in recovery
abbrev recovers_other : ℕ → FileState → Bool
recovers_other block Closed = false
recovers_other block (Open client) = false
recovers_other block (Recovering own stamp begun) = not (own == block)

abbrev Suits : FileRow → Option ℕ → Type 0
Suits its None = is_recovery its.state ≡ false
Suits its (Some block) = (unfinished_block its.blocks ≡ Some block) × (recovers_other block its.state ≡ false)

abbrev SuitsSought : FileRow → Option Sought → Type 0
SuitsSought its None = Unit {0}
SuitsSought its (Some sought) = Suits its sought.block

module _ (is_past : List ℕ → Bool) (is_late : ℕ → Bool) where
  unset : (b : Bool) → bit (not b) ≡ 0 → b ≡ true
  unset true h = refl
  unset false h = cc

  is_last : (own : ℕ) (block : Option ℕ) → is_block own block ≡ true → block ≡ Some own
  is_last own None h = cc
  is_last own (Some block) h = ap (λ n. Some n) (eqb-true block own h)

  opened : (its : FileRow) (block : Option ℕ) → unfinished_block its.blocks ≡ block → is_recovery its.state ≡ false → ((n : ℕ) → recovers_other n its.state ≡ false) → Suits its block
  opened its None is quiet none = quiet
  opened its (Some block) is quiet none = (is, none block)

  suits_sought : (its : FileRow) → amiss_state (unfinished_block its.blocks) its.state ≡ 0 → SuitsSought its (sought_by_state is_past is_late (unfinished_block its.blocks) its.state)
  suits_sought its right = by its.state refl right
    where
      by_past : (holder : List ℕ) (b : Bool) → its.state ≡ Open holder → SuitsSought its (cond b (Some (record { holder = Some holder; block = unfinished_block its.blocks })) None)
      by_past holder true is = opened its (unfinished_block its.blocks) refl (ap is_recovery is) (λ n. ap (recovers_other n) is)
      by_past holder false is = tt

      by_late : (own stamp begun : ℕ) (b : Bool) → its.state ≡ Recovering own stamp begun → bit (not (is_block own (unfinished_block its.blocks))) ≡ 0 → SuitsSought its (cond b (Some (record { holder = None; block = Some own })) None)
      by_late own stamp begun true is h = (is_last own (unfinished_block its.blocks) (unset (is_block own (unfinished_block its.blocks)) h), ap (recovers_other own) is ∙ ap not (eq-eqb own own refl))
      by_late own stamp begun false is h = tt

      by : (state : FileState) → its.state ≡ state → amiss_state (unfinished_block its.blocks) state ≡ 0 → SuitsSought its (sought_by_state is_past is_late (unfinished_block its.blocks) state)
      by Closed is h = tt
      by (Open holder) is h = by_past holder (is_past holder) is
      by (Recovering own stamp begun) is h = by_late own stamp begun (is_late begun) is h

-- ---- each file

abbrev seeks : ℕ → Option Sought → Bool
seeks number None = false
seeks number (Some sought) = is_block number sought.block

module _ (begun : List BegunRecovery) (now : ℕ) (number : ℕ) (v : RunWeight) where
  -- nothing is counted of another block
  other_counts : (block stamp from : ℕ) → (block == number) ≡ false → in_state number v (Recovering block stamp from) ≡ 0
  other_counts block stamp from apart = ap (λ b. cond b (v stamp from) 0) apart

  -- a file that recovers no other block counts nothing, if this is another
  other_before : (block : ℕ) (state : FileState) → recovers_other block state ≡ false → (block == number) ≡ false → in_state number v state ≡ 0
  other_before block Closed same apart = refl
  other_before block (Open client) same apart = refl
  other_before block (Recovering own stamp from) same apart = by (own == block) refl same
    where
      by : (b : Bool) → (own == block) ≡ b → not b ≡ false → cond (own == number) (v stamp from) 0 ≡ 0
      by true is h = ap (λ b. cond b (v stamp from) 0) (ap (λ n. n == number) (eqb-true own block is) ∙ apart)
      by false is h = cc

  -- where no recovery of the block begins, each file counts as before
  unbegun_from : (its : FileRow) (block : ℕ) (stamp : Option ℕ) → stamp_in begun block ≡ stamp → recovers_other block its.state ≡ false → stamp_in begun number ≡ None
      → in_state number v (recovers_from begun now block stamp its).state ≡ in_state number v its.state
  unbegun_from its block None at same none = refl
  unbegun_from its block (Some stamp) at same none = by (block == number) refl
    where
      never : Some stamp ≡ None → ⊥
      never e = cc

      by : (b : Bool) → (block == number) ≡ b → cond (block == number) (v stamp now) 0 ≡ in_state number v its.state
      by true is = absurd (never (sym at ∙ (ap (stamp_in begun) (eqb-true block number is) ∙ none)))
      by false is = other_counts block stamp now is ∙ sym (other_before block its.state same is)

  unbegun_behind : (its : FileRow) (block : Option ℕ) → Suits its block → stamp_in begun number ≡ None → in_state number v (behind begun now block its).state ≡ in_state number v its.state
  unbegun_behind its None suits none = sym (quiet_state number v its.state suits)
  unbegun_behind its (Some block) suits none = unbegun_from its block (stamp_in begun block) refl suits.1 none

  unbegun : (its : FileRow) (sought : Option Sought) → SuitsSought its sought → stamp_in begun number ≡ None → in_state number v (behind_tick begun now sought its).state ≡ in_state number v its.state
  unbegun its None suits none = refl
  unbegun its (Some sought) suits none = unbegun_behind its sought.block suits none

  -- where one does, a file that is sought for it counts the new stamp
  begun_behind : (its : FileRow) (block : Option ℕ) (stamp : ℕ) → stamp_in begun number ≡ Some stamp → is_block number block ≡ true → in_state number v (behind begun now block its).state ≡ v stamp now
  begun_behind its None stamp at is = cc
  begun_behind its (Some block) stamp at is =
      ap (λ s. in_state number v (recovers_from begun now block s its).state) (ap (stamp_in begun) (eqb-true block number is) ∙ at) ∙ ap (λ b. cond b (v stamp now) 0) is

  begun_here : (its : FileRow) (sought : Option Sought) (stamp : ℕ) → stamp_in begun number ≡ Some stamp → seeks number sought ≡ true → in_state number v (behind_tick begun now sought its).state ≡ v stamp now
  begun_here its None stamp at is = cc
  begun_here its (Some sought) stamp at is = begun_behind its sought.block stamp at is

  -- a file that isn't, and recovered another block or none, counts nothing
  apart_from : (its : FileRow) (block : ℕ) (stamp : Option ℕ) → (block == number) ≡ false → in_state number v its.state ≡ 0 → in_state number v (recovers_from begun now block stamp its).state ≡ 0
  apart_from its block None apart quiet = quiet
  apart_from its block (Some stamp) apart quiet = other_counts block stamp now apart

  apart_behind : (its : FileRow) (block : Option ℕ) → is_block number block ≡ false → in_state number v its.state ≡ 0 → in_state number v (behind begun now block its).state ≡ 0
  apart_behind its None apart quiet = refl
  apart_behind its (Some block) apart quiet = apart_from its block (stamp_in begun block) apart quiet

  begun_apart : (its : FileRow) (sought : Option Sought) → seeks number sought ≡ false → in_state number v its.state ≡ 0 → in_state number v (behind_tick begun now sought its).state ≡ 0
  begun_apart its None apart quiet = quiet
  begun_apart its (Some sought) apart quiet = apart_behind its sought.block apart quiet

-- the file that is sought has the block
sought_has : (number : ℕ) (its : FileRow) (sought : Option Sought) → SuitsSought its sought → once (seeks number sought) ≤ by_blocks (has number) (Some its)
sought_has number its None suits = omega arith
sought_has number its (Some sought) suits = by_block sought.block suits
  where
    by : (block : ℕ) (b : Bool) → (block == number) ≡ b → unfinished_block its.blocks ≡ Some block → once b ≤ by_blocks (has number) (Some its)
    by block true is last = has_last number its.blocks (last ∙ ap (λ n. Some n) (eqb-true block number is))
    by block false is last = omega arith

    by_block : (block : Option ℕ) → Suits its block → once (is_block number block) ≤ by_blocks (has number) (Some its)
    by_block None suits = omega arith
    by_block (Some block) suits = by block (block == number) refl suits.0

-- a file in recovery recovers its last block still
module _ (begun : List BegunRecovery) (now : ℕ) (its : FileRow) where
  right_from : (block : ℕ) (stamp : Option ℕ) → unfinished_block its.blocks ≡ Some block → amiss_state (unfinished_block its.blocks) its.state ≡ 0
      → amiss (Some (recovers_from begun now block stamp its)) ≡ 0
  right_from block None last right = right
  right_from block (Some stamp) last right = ap (λ o. bit (not (is_block block o))) last ∙ ap (λ b. bit (not b)) (eq-eqb block block refl)

  right_behind : (block : Option ℕ) → Suits its block → amiss_state (unfinished_block its.blocks) its.state ≡ 0 → amiss (Some (behind begun now block its)) ≡ 0
  right_behind None suits right = refl
  right_behind (Some block) suits right = right_from block (stamp_in begun block) suits.0 right

  right_tick : (sought : Option Sought) → SuitsSought its sought → amiss_state (unfinished_block its.blocks) its.state ≡ 0 → amiss (Some (behind_tick begun now sought its)) ≡ 0
  right_tick None suits right = right
  right_tick (Some sought) suits right = right_behind sought.block suits right

-- ---- what is listed

listed : (begun : List BegunRecovery) (number stamp : ℕ) → stamp_in begun number ≡ Some stamp → list_any (λ (own : BegunRecovery). own.block == number) begun ≡ true
listed [] number stamp h = cc
listed (own ∷ begun) number stamp h = by (own.block == number) h (listed begun number stamp)
  where
    by : (b : Bool) → last_or None (map (λ (own : BegunRecovery). own.stamp) (cond b (own ∷ filter (λ (own : BegunRecovery). own.block == number) begun) (filter (λ (own : BegunRecovery). own.block == number) begun))) ≡ Some stamp
        → (stamp_in begun number ≡ Some stamp → list_any (λ (own : BegunRecovery). own.block == number) begun ≡ true) → (b || list_any (λ (own : BegunRecovery). own.block == number) begun) ≡ true
    by true k rest = refl
    by false k rest = rest k

led_first : (number next : ℕ) (some : List (ℕ × ℕ)) → list_any (λ (own : BegunRecovery). own.block == number) (with_stamps next some) ≡ true → list_any (λ (own : ℕ × ℕ). own.0 == number) some ≡ true
led_first number next [] h = h
led_first number next (own ∷ some) h = by (is_spent next) h (led_first number (next + 1) some)
  where
    more : (b : Bool) → (b || list_any (λ (other : BegunRecovery). other.block == number) (with_stamps (next + 1) some)) ≡ true → (list_any (λ (other : BegunRecovery). other.block == number) (with_stamps (next + 1) some) ≡ true → list_any (λ (other : ℕ × ℕ). other.0 == number) some ≡ true) → (b || list_any (λ (other : ℕ × ℕ). other.0 == number) some) ≡ true
    more true k rest = refl
    more false k rest = rest k

    by : (b : Bool) → list_any (λ (other : BegunRecovery). other.block == number) (cond b [] (record { block = own.0; stamp = next; primary = own.1 } ∷ with_stamps (next + 1) some)) ≡ true
        → (list_any (λ (other : BegunRecovery). other.block == number) (with_stamps (next + 1) some) ≡ true → list_any (λ (other : ℕ × ℕ). other.0 == number) some ≡ true) → list_any (λ (other : ℕ × ℕ). other.0 == number) (own ∷ some) ≡ true
    by true k rest = cc
    by false k rest = more (own.0 == number) k rest

sought_first : (number : ℕ) (own : KnownBlocks) (nodes : Heartbeats) (blocks : List ℕ) (now : ℕ) → list_any (λ (other : ℕ × ℕ). other.0 == number) (blocks_with_leaders own nodes blocks now) ≡ true → has_number number blocks ≡ true
sought_first number own nodes [] now h = h
sought_first number own nodes (block ∷ blocks) now h = by (leader_of own nodes block now) h (sought_first number own nodes blocks now)
  where
    more : (b : Bool) → (b || list_any (λ (other : ℕ × ℕ). other.0 == number) (blocks_with_leaders own nodes blocks now)) ≡ true → (list_any (λ (other : ℕ × ℕ). other.0 == number) (blocks_with_leaders own nodes blocks now) ≡ true → has_number number blocks ≡ true) → (b || has_number number blocks) ≡ true
    more true k rest = refl
    more false k rest = rest k

    later : (b : Bool) → has_number number blocks ≡ true → (b || has_number number blocks) ≡ true
    later true k = refl
    later false k = k

    by : (node : Option ℕ) → list_any (λ (other : ℕ × ℕ). other.0 == number) (cons_option (option_map (λ node. (block, node)) node) (blocks_with_leaders own nodes blocks now)) ≡ true → (list_any (λ (other : ℕ × ℕ). other.0 == number) (blocks_with_leaders own nodes blocks now) ≡ true → has_number number blocks ≡ true) → has_number number (block ∷ blocks) ≡ true
    by None k rest = later (block == number) (rest k)
    by (Some node) k rest = more (block == number) k rest

-- ---- all rows

module _ (facts : Facts) (rows : List Row) where
  abbrev sought_its : Option FileRow → Option Sought
  sought_its its = sought_of facts.leases.is_past_hard (is_overdue facts) its

  abbrev starts : List BegunRecovery
  starts = begun_in facts rows

  abbrev left : List Row
  left = map (row_ticked facts starts) rows

  abbrev its_left : Option FileRow → Option FileRow
  its_left its = option_map (behind_tick starts facts.now (sought_its its)) its

  pub left_sum : (c : Count) → sum_files c left ≡ sum_files (λ its. c (its_left its)) rows
  left_sum c = sum_through c (row_ticked facts starts) its_left (λ row. taken_is starts facts.now (sought_in facts row) row) rows

  pub ticked_blocks : (w : Weight) → in_rows w left ≡ in_rows w rows
  ticked_blocks w = left_sum (by_blocks w) ∙ sum_all rows
    where
      same : (its : Option FileRow) → by_blocks w (its_left its) ≡ by_blocks w its
      same None = refl
      same (Some its) = ap (total w) (tick_blocks starts facts.now (sought_its (Some its)) its)

      sum_all : (all : List Row) → sum_files (λ its. by_blocks w (its_left its)) all ≡ in_rows w all
      sum_all [] = refl
      sum_all (row ∷ all) = ap (λ n. n + sum_files (λ its. by_blocks w (its_left its)) all) (same row.file) ∙ ap (λ n. by_blocks w row.file + n) (sum_all all)

  suits : (its : FileRow) → amiss (Some its) ≡ 0 → SuitsSought its (sought_its (Some its))
  suits its right = suits_sought facts.leases.is_past_hard (is_overdue facts) its right

  abbrev wanted : ℕ → Option FileRow → Bool
  wanted number its = seeks number (sought_its its)

  abbrev wants : ℕ → Count
  wants number its = once (wanted number its)

  -- a block that is sought is that of a file
  sought_counts : (number : ℕ) (some : List Row) → has_number number (sought_blocks facts some) ≡ true → 1 ≤ sum_files (wants number) some
  sought_counts number [] h = cc
  sought_counts number (row ∷ some) h = by_sought (sought_in facts row) h (sought_counts number some)
    where
      here : (n : ℕ) → 1 ≤ 1 + n
      here n = omega arith

      later : (b : Bool) (n : ℕ) → 1 ≤ n → 1 ≤ once b + n
      later true n h = omega arith
      later false n h = omega (arith, h)

      by_number : (b : Bool) → (b || has_number number (sought_blocks facts some)) ≡ true → (has_number number (sought_blocks facts some) ≡ true → 1 ≤ sum_files (wants number) some)
          → 1 ≤ once b + sum_files (wants number) some
      by_number true k rest = here (sum_files (wants number) some)
      by_number false k rest = later false (sum_files (wants number) some) (rest k)

      by_block : (block : Option ℕ) → has_number number (cons_option block (sought_blocks facts some)) ≡ true → (has_number number (sought_blocks facts some) ≡ true → 1 ≤ sum_files (wants number) some)
          → 1 ≤ once (is_block number block) + sum_files (wants number) some
      by_block None k rest = later false (sum_files (wants number) some) (rest k)
      by_block (Some block) k rest = by_number (block == number) k rest

      by_sought : (sought : Option Sought) → has_number number (filter_map (λ (own : Sought). own.block) (cons_option sought (filter_map (sought_in facts) some))) ≡ true
          → (has_number number (sought_blocks facts some) ≡ true → 1 ≤ sum_files (wants number) some) → 1 ≤ once (seeks number sought) + sum_files (wants number) some
      by_sought None k rest = later false (sum_files (wants number) some) (rest k)
      by_sought (Some sought) k rest = by_block sought.block k rest

  wants_few : (number : ℕ) (its : Option FileRow) → amiss its ≡ 0 → wants number its ≤ by_blocks (has number) its
  wants_few number None right = omega arith
  wants_few number (Some its) right = sought_has number its (sought_its (Some its)) (suits its right)

  module _ (agree : Agree (told facts.blocks.known) rows) (recover : Recover facts.blocks.known rows) where
    abbrev own : KnownBlocks
    own = facts.blocks.known

    abbrev later : KnownBlocks
    later = (with_recoveries_begun facts.blocks (sought_blocks facts rows) facts.now).known

    right_left : sum_files amiss left ≡ 0
    right_left = left_sum amiss ∙ (sum_given amiss (λ its. amiss (its_left its)) amiss each rows recover.right ∙ recover.right)
      where
        each : (its : Option FileRow) → amiss its ≡ 0 → amiss (its_left its) ≡ amiss its
        each None h = refl
        each (Some its) h = right_tick starts facts.now its (sought_its (Some its)) (suits its h) h ∙ sym h

    module _ (number : ℕ) (v : RunWeight) where
      -- where no recovery of the block begins
      as_before : stamp_in starts number ≡ None → sum_files (in_file number v) left ≡ sum_files (in_file number v) rows
      as_before none = left_sum (in_file number v) ∙ sum_given amiss (λ its. in_file number v (its_left its)) (in_file number v) each rows recover.right
        where
          each : (its : Option FileRow) → amiss its ≡ 0 → in_file number v (its_left its) ≡ in_file number v its
          each None h = refl
          each (Some its) h = unbegun starts facts.now number v its (sought_its (Some its)) (suits its h) none

      -- where one does, the file that is sought is the only one that has the block
      anew : (stamp : ℕ) → stamp_in starts number ≡ Some stamp → sum_files (in_file number v) left ≡ v stamp facts.now
      anew stamp at =
          left_sum (in_file number v)
          ∙ (sum_given (λ its. amiss its + spare (wants number) (by_blocks (has number)) its) (λ its. in_file number v (its_left its)) (λ its. cond (wanted number its) (v stamp facts.now) 0) each rows
          (sum_neither amiss (spare (wants number) (by_blocks (has number))) rows recover.right (alone.1))
          ∙ sum_one (wanted number) (v stamp facts.now) rows alone.0)
        where
          among : has_number number (sought_blocks facts rows) ≡ true
          among =
              sought_first number facts.blocks.known facts.blocks.nodes (sought_blocks facts rows) facts.now
              (led_first number facts.blocks.known.next_stamp (blocks_with_leaders facts.blocks.known facts.blocks.nodes (sought_blocks facts rows) facts.now) (listed starts number stamp at))

          sum : (some spared all : ℕ) → some + spared ≡ all → all ≤ 1 → 1 ≤ some → (some ≡ 1) × (spared ≡ 0)
          sum some spared all h few more = (omega (arith, h, few, more), omega (arith, h, few, more))

          alone : (sum_files (wants number) rows ≡ 1) × (sum_files (spare (wants number) (by_blocks (has number))) rows ≡ 0)
          alone =
              sum (sum_files (wants number) rows) (sum_files (spare (wants number) (by_blocks (has number))) rows) (in_rows (has number) rows)
              (sum_spared amiss (wants number) (by_blocks (has number)) (wants_few number) rows recover.right)
              (subst (λ n. n ≤ 1) (sym (agree.once number)) (bit_few (is_some (told own number)))) (sought_counts number rows among)

          nothing : (a b d : ℕ) → a + (b - 0) ≡ 0 → d ≤ b → d ≡ 0
          nothing a b d h le = omega (arith, h, le)

          first : (a b : ℕ) → a + b ≡ 0 → a ≡ 0
          first a b h = omega (arith, h)

          by : (its : FileRow) (b : Bool) → wanted number (Some its) ≡ b → amiss (Some its) + (by_blocks (has number) (Some its) - once b) ≡ 0
              → in_state number v (behind_tick starts facts.now (sought_its (Some its)) its).state ≡ cond b (v stamp facts.now) 0
          by its true is h = begun_here starts facts.now number v its (sought_its (Some its)) stamp at is
          by its false is h =
              begun_apart starts facts.now number v its (sought_its (Some its)) is
              (none_by_state number v its.state
              (nothing (amiss (Some its)) (by_blocks (has number) (Some its)) (in_state number one its.state) h
              (recovered_has number (Some its) (first (amiss (Some its)) (by_blocks (has number) (Some its) - 0) h))))

          each : (its : Option FileRow) → amiss its + spare (wants number) (by_blocks (has number)) its ≡ 0 → in_file number v (its_left its) ≡ cond (wanted number its) (v stamp facts.now) 0
          each None h = refl
          each (Some its) h = by its (wanted number (Some its)) refl h

      -- where the block stands in no file
      absent : in_rows (has number) rows ≡ 0 → sum_files (in_file number v) left ≡ 0
      absent none = none_absent number v left right_left (ticked_blocks (has number) ∙ none)

      now_runs : sum_files (in_file number v) left ≡ worth v (seen run_of later number)
      now_runs = by_known (told own number) refl
        where
          same : told later number ≡ told own number
          same = same_all_begun (sought_blocks facts rows) facts.now facts.blocks number

          known : is_some (told own number) ≡ true → is_some (block_of own number) ≡ true
          known there = some (block_of own number) there
            where
              some : (found : Option BlockRecord) → is_some (told_by found) ≡ true → is_some found ≡ true
              some None h = cc
              some (Some known) h = refl

          by_stamp : is_some (told own number) ≡ true → (stamp : Option ℕ) → stamp_in starts number ≡ stamp → sum_files (in_file number v) left ≡ worth v (begun_by facts.now stamp (seen run_of own number))
          by_stamp there None at = as_before at ∙ recover.runs number v
          by_stamp there (Some stamp) at = anew stamp at

          by_known : (found : Option (Option ℕ)) → told own number ≡ found → sum_files (in_file number v) left ≡ worth v (seen run_of later number)
          by_known None is = absent (agree.once number ∙ ap (λ t. bit (is_some t)) is) ∙ sym (ap (worth v) (unknown_run later number (same ∙ is)))
          by_known (Some length) is =
              let there : is_some (told own number) ≡ true = ap is_some is in
              by_stamp there (stamp_in starts number) refl
              ∙ sym (ap (worth v) (runs_begun facts.now number facts.blocks (sought_blocks facts rows) (known there)))

    pub recover_ticked : Recover later left
    recover_ticked = record { runs = now_runs; right = right_left }

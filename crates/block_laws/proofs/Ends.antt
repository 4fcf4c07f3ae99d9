-- What the end of a recovery leaves of files: the one in recovery is closed, with the length of the block.
use Rattle.std.proofs.Common.{◌≡◌, ℕ, ◌+◌, ◌-◌, ◌≤◌, ◌==◌, Bool, true, false, List, [], ◌∷◌, is_some, Option, Some, None, refl, sym, ap, ◌∙◌, subst, cond, arith}
use Rattle.std.proofs.lemmas.Bool.{eqb-true}
use Rattle.std.specs.Option.{option_map}
use Rattle.file_states.specs.declared.state.FileState.{FileState}
use Rattle.file_states.specs.declared.state.FileState.TheVariants.{Closed, Open, Recovering}
use Rattle.block_records.specs.declared.block_record.BlockRecord.{BlockRecord}
use Rattle.block_tables.specs.Changes.{with_recovered}
use Rattle.known_blocks.specs.Known.{KnownBlocks, block_of, with_block_changed}
use Rattle.namespace_rows.specs.declared.file_row.FileRow.{FileRow}
use Rattle.namespace_rows.specs.declared.row.Row.{Row}
use Rattle.namespace_rows.specs.Files.{with_state, committed_at, state_recovers, recovered_at}
use Rattle.namespace_rows.specs.Changes.{file_edited, recovery_ended}
use Rattle.block_laws.proofs.Sums.{once, sum_files, sum_given, spare, sum_spared, sum_neither, sum_through}
use Rattle.block_laws.proofs.Totals.{Weight, total, by_blocks, in_rows, has}
use Rattle.block_laws.proofs.Changes.{committed, changes_one, unchanged}
use Rattle.block_laws.proofs.Unrefused.{IsRunning}
use Rattle.block_laws.proofs.Told.{seen, seen_by, seen_at, told, told_recovered, number_equal}
use Rattle.block_laws.proofs.Standing.{Agree, bit_few, agree_committed}
use Rattle.block_laws.proofs.Recoveries.{run_of, RunWeight, one, worth, in_state, in_file, amiss, Recover, recovered_has}

module _ (block bytes : ℕ) where
  abbrev ended : Option FileRow → Option FileRow
  ended its = option_map (recovered_at block bytes) its

  pub ended_sum : (c : Option FileRow → ℕ) (rows : List Row) → sum_files c (recovery_ended block bytes rows) ≡ sum_files (λ its. c (ended its)) rows
  ended_sum c rows = sum_through c (file_edited (recovered_at block bytes)) ended (λ row. refl) rows

  -- ---- states

  pub closes : (its : FileRow) (b : Bool) → (cond b (with_state Closed (committed_at block bytes its)) its).state ≡ cond b Closed its.state
  closes its true = refl
  closes its false = refl

  -- no file recovers the block
  pub none_recovers : (v : RunWeight) (its : FileRow) → in_state block v (recovered_at block bytes its).state ≡ 0
  none_recovers v its = ap (in_state block v) (closes its (state_recovers block its.state)) ∙ by its.state
    where
      by_number : (own stamp begun : ℕ) (b : Bool) → (own == block) ≡ b → in_state block v (cond b Closed (Recovering own stamp begun)) ≡ 0
      by_number own stamp begun true is = refl
      by_number own stamp begun false is = ap (λ b. cond b (v stamp begun) 0) is

      by : (state : FileState) → in_state block v (cond (state_recovers block state) Closed state) ≡ 0
      by Closed = refl
      by (Open client) = refl
      by (Recovering own stamp begun) = by_number own stamp begun (own == block) refl

  -- and other blocks are recovered as before
  pub others_stay : (number : ℕ) (v : RunWeight) (its : FileRow) → (block == number) ≡ false → in_state number v (recovered_at block bytes its).state ≡ in_state number v its.state
  others_stay number v its apart = ap (in_state number v) (closes its (state_recovers block its.state)) ∙ by its.state
    where
      by_number : (own stamp begun : ℕ) (b : Bool) → (own == block) ≡ b → in_state number v (cond b Closed (Recovering own stamp begun)) ≡ in_state number v (Recovering own stamp begun)
      by_number own stamp begun true is = sym (ap (λ b. cond b (v stamp begun) 0) (ap (λ n. n == number) (eqb-true own block is) ∙ apart))
      by_number own stamp begun false is = refl

      by : (state : FileState) → in_state number v (cond (state_recovers block state) Closed state) ≡ in_state number v state
      by Closed = refl
      by (Open client) = refl
      by (Recovering own stamp begun) = by_number own stamp begun (own == block) refl

  right_ended : (its : Option FileRow) → amiss its ≡ 0 → amiss (ended its) ≡ amiss its
  right_ended None h = refl
  right_ended (Some its) h = by (state_recovers block its.state)
    where
      by : (b : Bool) → amiss (Some (cond b (with_state Closed (committed_at block bytes its)) its)) ≡ amiss (Some its)
      by true = sym h
      by false = refl

  -- ---- blocks

  -- where the block stands once in the file that recovers it, and else nowhere
  each_file : (w : Weight) (its : Option FileRow) → in_file block one its ≡ by_blocks (has block) its → by_blocks w (ended its) ≡ by_blocks (committed w block bytes) its
  each_file w None same = refl
  each_file w (Some its) same = by (state_recovers block its.state) (counts its.state) same
    where
      counts : (state : FileState) → in_state block one state ≡ once (state_recovers block state)
      counts Closed = refl
      counts (Open client) = refl
      counts (Recovering own stamp begun) = refl

      few : (n : ℕ) → n ≡ 1 → n ≤ 1
      few n h = omega (arith, h)

      by : (b : Bool) → in_state block one its.state ≡ once b → in_state block one its.state ≡ total (has block) its.blocks
          → total w (cond b (with_state Closed (committed_at block bytes its)) its).blocks ≡ total (committed w block bytes) its.blocks
      by true is same = changes_one w block bytes its.blocks (few (total (has block) its.blocks) (sym (sym is ∙ same)))
      by false is same = sym (unchanged w block bytes its.blocks (sym (sym is ∙ same)))

  -- ---- all rows

  module _ (own : KnownBlocks) (rows : List Row) (agree : Agree (told own) rows) (recover : Recover own rows) (stamp : ℕ) (running : IsRunning own block stamp) where
    -- one file recovers the block
    pub one_recovers : sum_files (in_file block one) rows ≡ 1
    one_recovers = recover.runs block one ∙ (ap (λ found. worth one (seen_by run_of found)) running.there ∙ ap (λ since. worth one (Some (option_map (λ n. (running.known.stamp, n)) since))) running.begun)

    none_spare : sum_files (spare (in_file block one) (by_blocks (has block))) rows ≡ 0
    none_spare =
        sum (sum_files (in_file block one) rows) (sum_files (spare (in_file block one) (by_blocks (has block))) rows) (in_rows (has block) rows)
        (sum_spared amiss (in_file block one) (by_blocks (has block)) (recovered_has block) rows recover.right)
        (subst (λ n. n ≤ 1) (sym (agree.once block)) (bit_few (is_some (told own block)))) one_recovers
      where
        sum : (a b c : ℕ) → a + b ≡ c → c ≤ 1 → a ≡ 1 → b ≡ 0
        sum a b c h few is = omega (arith, h, few, is)

    sum_committed : (w : Weight) → in_rows w (recovery_ended block bytes rows) ≡ in_rows (committed w block bytes) rows
    sum_committed w =
        ended_sum (by_blocks w) rows
        ∙ sum_given (λ its. amiss its + spare (in_file block one) (by_blocks (has block)) its) (λ its. by_blocks w (ended its)) (by_blocks (committed w block bytes)) each rows
        (sum_neither amiss (spare (in_file block one) (by_blocks (has block))) rows recover.right none_spare)
      where
        all : (a b c : ℕ) → a + (b - c) ≡ 0 → c ≤ b → c ≡ b
        all a b c h le = omega (arith, h, le)

        first : (a b : ℕ) → a + b ≡ 0 → a ≡ 0
        first a b h = omega (arith, h)

        each : (its : Option FileRow) → amiss its + spare (in_file block one) (by_blocks (has block)) its ≡ 0 → by_blocks w (ended its) ≡ by_blocks (committed w block bytes) its
        each its h =
            each_file w its
            (all (amiss its) (by_blocks (has block) its) (in_file block one its) h (recovered_has block its (first (amiss its) (spare (in_file block one) (by_blocks (has block)) its) h)))

    pub agree_ended : (nodes : List ℕ) → Agree (told (with_block_changed (with_recovered bytes nodes) block own)) (recovery_ended block bytes rows)
    agree_ended nodes =
        agree_committed (told own) (told (with_block_changed (with_recovered bytes nodes) block own)) rows (recovery_ended block bytes rows) agree block bytes
        (ap (λ found. is_some (option_map (λ (known : BlockRecord). known.committed) found)) running.there)
        (told_recovered bytes nodes block own) sum_committed

    pub recover_ended : (nodes : List ℕ) → Recover (with_block_changed (with_recovered bytes nodes) block own) (recovery_ended block bytes rows)
    recover_ended nodes = record {
      runs = λ number v. by number v (block == number) refl;
      right = ended_sum amiss rows ∙ (sum_given amiss (λ its. amiss (ended its)) amiss right_ended rows recover.right ∙ recover.right);
    }
      where
        later : KnownBlocks
        later = with_block_changed (with_recovered bytes nodes) block own

        ended_run : (found : Option BlockRecord) (v : RunWeight) → worth v (seen_by run_of (option_map (with_recovered bytes nodes) found)) ≡ 0
        ended_run None v = refl
        ended_run (Some known) v = refl

        none : (v : RunWeight) (its : Option FileRow) → in_file block v (ended its) ≡ 0
        none v None = refl
        none v (Some its) = none_recovers v its

        zero : (v : RunWeight) (some : List Row) → sum_files (λ its. in_file block v (ended its)) some ≡ 0
        zero v some = sum_given (λ its. 0) (λ its. in_file block v (ended its)) (λ its. 0) (λ its h. none v its) some (nothing some) ∙ nothing some
          where
            nothing : (all : List Row) → sum_files (λ its. 0) all ≡ 0
            nothing [] = refl
            nothing (row ∷ all) = ap (λ n. 0 + n) (nothing all)

        same : (number : ℕ) (v : RunWeight) → (block == number) ≡ false → (its : Option FileRow) → in_file number v (ended its) ≡ in_file number v its
        same number v apart None = refl
        same number v apart (Some its) = others_stay number v its apart

        by : (number : ℕ) (v : RunWeight) (b : Bool) → (block == number) ≡ b → sum_files (in_file number v) (recovery_ended block bytes rows) ≡ worth v (seen run_of later number)
        by number v true is =
            let here : block ≡ number = eqb-true block number is in
            subst (λ n. sum_files (in_file n v) (recovery_ended block bytes rows) ≡ worth v (seen run_of later number)) here
            (ended_sum (in_file block v) rows ∙ (zero v rows
            ∙ sym (ap (worth v) (seen_at run_of (with_recovered bytes nodes) block own.blocks number ∙ ap (λ b. cond b (seen_by run_of (option_map (with_recovered bytes nodes) (block_of own block))) (seen run_of own number)) (number_equal block number ∙ is))
            ∙ ended_run (block_of own block) v)))
        by number v false is =
            ended_sum (in_file number v) rows
            ∙ (sum_given amiss (λ its. in_file number v (ended its)) (in_file number v) (λ its h. same number v is its) rows recover.right
            ∙ (recover.runs number v
            ∙ sym (ap (worth v) (seen_at run_of (with_recovered bytes nodes) block own.blocks number ∙ ap (λ b. cond b (seen_by run_of (option_map (with_recovered bytes nodes) (block_of own block))) (seen run_of own number)) (number_equal block number ∙ is)))))

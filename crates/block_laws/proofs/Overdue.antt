-- The laws about recoveries over every legal history.
use Rattle.std.proofs.Common.{◌≡◌, ℕ, ◌+◌, ◌-◌, ◌≤◌, ◌==◌, ◌&&◌, ◌||◌, Bool, true, false, not, nat_lt, List, [], ◌∷◌, ◌++◌, filter, length, is_some, ◌⊎◌, inl, inr, Option, Some, None, refl, sym, ap, ◌∙◌, subst, cond, arith}
use Rattle.std.proofs.lemmas.Bool.{eq-eqb, eqb-true}
use Rattle.std.proofs.lemmas.Map.Keys.{sorted_head, sorted_tail}
use Rattle.std.specs.List.{AllByRecursion}
use Rattle.std.specs.List.Sorted.{IsStrictlySortedBy}
use Rattle.std.specs.Map.{keys_of}
use Rattle.std.specs.Option.{option_map, option_and_then, option_to_list}
use Rattle.std.specs.Ordering.{nat_cmp, is_eq}
use Rattle.std.specs.declared.cmp.Ordering.TheVariants.{Less}
use Rattle.file_paths.specs.PathOrder.{same_path}
use Rattle.file_states.specs.declared.state.FileState.{FileState}
use Rattle.file_states.specs.declared.state.FileState.TheVariants.{Closed, Open, Recovering}
use Rattle.block_records.specs.Numbers.{entry_at}
use Rattle.block_records.specs.declared.block_record.BlockRecord.{BlockRecord}
use Rattle.block_records.proofs.Reporting.{number_eq}
use Rattle.block_effect_laws.proofs.Looking.{number_itself}
use Rattle.known_blocks.specs.Known.{block_of, is_due}
use Rattle.block_map.specs.BlockFacts.{Blocks}
use Rattle.namespace_rows.specs.declared.file_row.FileRow.{FileRow}
use Rattle.namespace_rows.specs.declared.row.Row.{Row}
use Rattle.namespace_rows.specs.First.{first}
use Rattle.file_blocks.specs.Blocks.{unfinished_block}
use Rattle.namespace_rows.specs.Files.{state_recovers, recovered_at}
use Rattle.namespace_rows.specs.Rows.{row_at}
use Rattle.namespace_rows.proofs.Tests.{and}
use Rattle.namespace_rows.specs.Changes.{is_recovered, recovers_nowhere_else, recovery_ended}
use Rattle.flat_rows.specs.Takeover.{sought_of, sought_by_state}
use Rattle.flat_rows.specs.declared.takeover.Sought.{Sought}
use Rattle.history.specs.State.{rows_of, blocks_of}
use Rattle.block_laws.specs.Laws.{running_recovery, recovery_in, recoveries_in, RecoversLast, FileRecoversLast, is_row_overdue, RecoveriesAreThoseOfFiles, OneFileRecovers, FilesRecoverLast, OverdueFilesAreDue}
use Rattle.block_laws.proofs.Sums.{once, Count, sum_files, sum_same, sum_plus, none_both, one_row, part}
use Rattle.block_laws.proofs.Totals.{bit}
use Rattle.block_laws.proofs.Told.{seen}
use Rattle.block_laws.proofs.Recoveries.{run_of, RunWeight, one, worth, worth_few, in_state, in_file, is_block, amiss, amiss_state, none_by_rows}
use Rattle.block_laws.proofs.Ends.{ended_sum, closes, none_recovers, others_stay}
use Rattle.block_laws.proofs.Histories.{stands}

-- ---- the states of files that recover a block

module _ (block : ℕ) where
  abbrev as_state : ℕ × ℕ → FileState
  as_state run = Recovering block run.0 run.1

  abbrev Found : Option FileRow → Type 0
  Found its = (stamp : ℕ) × (begun : ℕ) × (recovery_in block its ≡ Recovering block stamp begun ∷ []) × ((v : RunWeight) → in_file block v its ≡ v stamp begun)

  abbrev NotFound : Option FileRow → Type 0
  NotFound its = (recovery_in block its ≡ []) × ((v : RunWeight) → in_file block v its ≡ 0)

  found_state : (state : FileState) → ((stamp : ℕ) × (begun : ℕ) × (cond (state_recovers block state) (state ∷ []) [] ≡ Recovering block stamp begun ∷ []) × ((v : RunWeight) → in_state block v state ≡ v stamp begun))
      ⊎ ((cond (state_recovers block state) (state ∷ []) [] ≡ []) × ((v : RunWeight) → in_state block v state ≡ 0))
  found_state Closed = inr (refl, λ v. refl)
  found_state (Open client) = inr (refl, λ v. refl)
  found_state (Recovering own stamp begun) = by (own == block) refl
    where
      by : (b : Bool) → (own == block) ≡ b
          → ((s : ℕ) × (t : ℕ) × (cond b (Recovering own stamp begun ∷ []) [] ≡ Recovering block s t ∷ []) × ((v : RunWeight) → cond b (v stamp begun) 0 ≡ v s t))
          ⊎ ((cond b (Recovering own stamp begun ∷ []) [] ≡ []) × ((v : RunWeight) → cond b (v stamp begun) 0 ≡ 0))
      by true is = inl (stamp, begun, ap (λ n. Recovering n stamp begun ∷ []) (eqb-true own block is), λ v. refl)
      by false is = inr (refl, λ v. refl)

  found : (its : Option FileRow) → Found its ⊎ NotFound its
  found None = inr (refl, λ v. refl)
  found (Some its) = found_state its.state

  no_states : (rows : List Row) → sum_files (in_file block one) rows ≡ 0 → recoveries_in block rows ≡ []
  no_states [] h = refl
  no_states (row ∷ rows) h = by (found row.file) (no_states rows parts.1)
    where
      parts : (in_file block one row.file ≡ 0) × (sum_files (in_file block one) rows ≡ 0)
      parts = none_both (in_file block one row.file) (sum_files (in_file block one) rows) h

      never : (n : ℕ) → n ≡ 1 → n ≡ 0 → ⊥
      never n e f = omega (arith, e, f)

      by : Found row.file ⊎ NotFound row.file → recoveries_in block rows ≡ [] → recoveries_in block (row ∷ rows) ≡ []
      by (inl some) rest = absurd (never (in_file block one row.file) (some.3 one) parts.0)
      by (inr none) rest = ap (λ states. states ++ recoveries_in block rows) none.0 ∙ rest

  abbrev same_run : ℕ × ℕ → RunWeight
  same_run run stamp begun = bit ((stamp == run.0) && (begun == run.1))

  itself : (run : ℕ × ℕ) → same_run run run.0 run.1 ≡ 1
  itself run = ap (λ b. bit (b && (run.1 == run.1))) (eq-eqb run.0 run.0 refl) ∙ ap (λ b. bit (true && b)) (eq-eqb run.1 run.1 refl)

  same_parts : (run : ℕ × ℕ) (stamp begun : ℕ) → same_run run stamp begun ≡ 1 → Recovering block stamp begun ≡ as_state run
  same_parts run stamp begun h = by (stamp == run.0) (begun == run.1) refl refl h
    where
      by : (a b : Bool) → (stamp == run.0) ≡ a → (begun == run.1) ≡ b → bit (a && b) ≡ 1 → Recovering block stamp begun ≡ as_state run
      by true true e f h = ap (λ n. Recovering block n begun) (eqb-true stamp run.0 e) ∙ ap (λ n. Recovering block run.0 n) (eqb-true begun run.1 f)
      by true false e f h = cc
      by false b e f h = cc

  states_are : (rows : List Row) (run : Option (ℕ × ℕ)) → ((v : RunWeight) → sum_files (in_file block v) rows ≡ worth v (Some run)) → recoveries_in block rows ≡ option_to_list (option_map as_state run)
  states_are [] None h = refl
  states_are [] (Some run) h = absurd (never 0 (h one) refl)
    where
      never : (n : ℕ) → n ≡ 1 → n ≡ 0 → ⊥
      never n e f = omega (arith, e, f)
  states_are (row ∷ rows) run h = by (found row.file) run h (λ own is. states_are rows own is)
    where
      front : (a b n : ℕ) → a + b ≡ n → a ≡ 0 → b ≡ n
      front a b n h k = omega (arith, h, k)

      alone : (a b : ℕ) → a + b ≡ 1 → a ≡ 1 → b ≡ 0
      alone a b h k = omega (arith, h, k)

      only : (a b : ℕ) → a + b ≡ 1 → b ≡ 0 → a ≡ 1
      only a b h k = omega (arith, h, k)

      nothing : (a b : ℕ) → a + b ≡ 0 → a ≡ 1 → ⊥
      nothing a b h k = omega (arith, h, k)

      by : Found row.file ⊎ NotFound row.file → (run : Option (ℕ × ℕ)) → ((v : RunWeight) → in_file block v row.file + sum_files (in_file block v) rows ≡ worth v (Some run))
          → ((own : Option (ℕ × ℕ)) → ((v : RunWeight) → sum_files (in_file block v) rows ≡ worth v (Some own)) → recoveries_in block rows ≡ option_to_list (option_map as_state own))
          → recovery_in block row.file ++ recoveries_in block rows ≡ option_to_list (option_map as_state run)
      by (inr none) run h rest =
          ap (λ states. states ++ recoveries_in block rows) none.0
          ∙ rest run (λ v. front (in_file block v row.file) (sum_files (in_file block v) rows) (worth v (Some run)) (h v) (none.1 v))
      by (inl some) None h rest = absurd (nothing (in_file block one row.file) (sum_files (in_file block one) rows) (h one) (some.3 one))
      by (inl some) (Some run) h onward =
          let rest = alone (in_file block one row.file) (sum_files (in_file block one) rows) (h one) (some.3 one) in
          let here = only (in_file block (same_run run) row.file) (sum_files (in_file block (same_run run)) rows) (h (same_run run) ∙ itself run) (none_by_rows block (same_run run) rows rest) in
          ap (λ states. states ++ recoveries_in block rows) some.2
          ∙ (ap (λ states. Recovering block some.0 some.1 ∷ states) (no_states rows rest)
          ∙ ap (λ state. state ∷ []) (same_parts run some.0 some.1 (sym (some.3 (same_run run)) ∙ here)))

abbrev flat : Option (Option (ℕ × ℕ)) → Option (ℕ × ℕ)
flat None = None
flat (Some run) = run

worth_flat : (v : RunWeight) (seen : Option (Option (ℕ × ℕ))) → worth v seen ≡ worth v (Some (flat seen))
worth_flat v None = refl
worth_flat v (Some run) = refl

running_is : (facts : Blocks) (block : ℕ) → option_map (as_state block) (flat (seen run_of facts.known block)) ≡ running_recovery facts block
running_is facts block = by (block_of facts.known block)
  where
    by_since : (stamp : ℕ) (since : Option ℕ) → option_map (as_state block) (option_map (λ n. (stamp, n)) since) ≡ option_map (Recovering block stamp) since
    by_since stamp None = refl
    by_since stamp (Some since) = refl

    by : (found : Option BlockRecord) → option_map (as_state block) (flat (option_map run_of found)) ≡ option_and_then (λ (own : BlockRecord). option_map (Recovering block own.stamp) own.recovering) found
    by None = refl
    by (Some own) = by_since own.stamp own.recovering

pub are_those_of_files : RecoveriesAreThoseOfFiles
are_those_of_files opening entries block legal =
    let recover = (stands opening entries legal).recover in
    let facts = blocks_of opening entries in
    states_are block (rows_of opening entries) (flat (seen run_of facts.known block)) (λ v. recover.runs block v ∙ worth_flat v (seen run_of facts.known block)) ∙ ap option_to_list (running_is facts block)

-- ---- no other file recovers it

recovered_counts : (block : ℕ) (its : Option FileRow) → in_file block one its ≡ bit (is_recovered block its)
recovered_counts block None = refl
recovered_counts block (Some its) = by its.state
  where
    by_number : (b : Bool) → once b ≡ bit b
    by_number true = refl
    by_number false = refl

    by : (state : FileState) → in_state block one state ≡ bit (state_recovers block state)
    by Closed = refl
    by (Open client) = refl
    by (Recovering own stamp begun) = by_number (own == block)

unset : (b : Bool) → bit b ≡ 0 → b ≡ false
unset true h = cc
unset false h = refl

module _ (path : List (List ℕ)) (block : ℕ) where
  passes : (row : Row) → in_file block one row.file ≡ 0 → (same_path path row.path || not (is_recovered block row.file)) ≡ true
  passes row h = ap (λ b. same_path path row.path || not b) (unset (is_recovered block row.file) (sym (recovered_counts block row.file) ∙ h)) ∙ by (same_path path row.path)
    where
      by : (b : Bool) → (b || true) ≡ true
      by true = refl
      by false = refl

  none_passed : (rows : List Row) → sum_files (in_file block one) rows ≡ 0 → recovers_nowhere_else path block rows ≡ true
  none_passed [] h = refl
  none_passed (row ∷ rows) h =
      let parts = none_both (in_file block one row.file) (sum_files (in_file block one) rows) h in
      and _ _ (passes row parts.0) (none_passed rows parts.1)

  nowhere_else : (rows : List Row) (row : Row) → sum_files (in_file block one) rows ≤ 1 → row_at path rows ≡ Some row → is_recovered block row.file ≡ true → recovers_nowhere_else path block rows ≡ true
  nowhere_else [] row few at is = cc
  nowhere_else (r ∷ rows) row few at is =
      by (same_path path r.path) refl at (λ k. nowhere_else rows row (fewer (in_file block one r.file) (sum_files (in_file block one) rows) few) k is)
    where
      counts : in_file block one row.file ≡ 1
      counts = recovered_counts block row.file ∙ ap bit is

      rest : (a b : ℕ) → a + b ≤ 1 → a ≡ 1 → b ≡ 0
      rest a b h k = omega (arith, h, k)

      here : (a b c : ℕ) → a + b ≤ 1 → c ≤ b → c ≡ 1 → a ≡ 0
      here a b c h k l = omega (arith, h, k, l)

      fewer : (a b : ℕ) → a + b ≤ 1 → b ≤ 1
      fewer a b h = omega (arith, h)

      by : (b : Bool) → same_path path r.path ≡ b → first (cond b (r ∷ filter (λ other. same_path path other.path) rows) (filter (λ other. same_path path other.path) rows)) ≡ Some row
          → (row_at path rows ≡ Some row → recovers_nowhere_else path block rows ≡ true) → recovers_nowhere_else path block (r ∷ rows) ≡ true
      by true same at onward =
          and _ _ (ap (λ b. b || not (is_recovered block r.file)) same)
          (none_passed rows (rest (in_file block one r.file) (sum_files (in_file block one) rows) few (ap (λ (x : Row). in_file block one x.file) (one_row r row at) ∙ counts)))
      by false same at onward =
          and _ _ (passes r (here (in_file block one r.file) (sum_files (in_file block one) rows) (in_file block one row.file) few (part (in_file block one) path rows row at) counts))
          (onward at)

pub one_file_recovers : OneFileRecovers
one_file_recovers opening entries path row block legal at is =
    let recover = (stands opening entries legal).recover in
    nowhere_else path block (rows_of opening entries) row
    (subst (λ n. n ≤ 1) (sym (recover.runs block one)) (worth_few (seen run_of (blocks_of opening entries).known block))) at is

-- ---- the last block

recovers_last : (its : Option FileRow) → amiss its ≡ 0 → FileRecoversLast its
recovers_last None h = tt
recovers_last (Some its) h = by its.state h
  where
    is_last : (own : ℕ) (block : Option ℕ) → bit (not (is_block own block)) ≡ 0 → block ≡ Some own
    is_last own None h = cc
    is_last own (Some block) h = by_number (block == own) refl h
      where
        by_number : (b : Bool) → (block == own) ≡ b → bit (not b) ≡ 0 → Some block ≡ Some own
        by_number true is h = ap (λ n. Some n) (eqb-true block own is)
        by_number false is h = cc

    by : (state : FileState) → amiss_state (unfinished_block its.blocks) state ≡ 0 → RecoversLast (unfinished_block its.blocks) state
    by Closed h = tt
    by (Open client) h = tt
    by (Recovering own stamp begun) h = is_last own (unfinished_block its.blocks) h

all_recover_last : (rows : List Row) → sum_files amiss rows ≡ 0 → AllByRecursion (λ (row : Row). FileRecoversLast row.file) rows
all_recover_last [] h = tt
all_recover_last (row ∷ rows) h = let parts = none_both (amiss row.file) (sum_files amiss rows) h in (recovers_last row.file parts.0, all_recover_last rows parts.1)

pub files_recover_last : FilesRecoverLast
files_recover_last opening entries legal = all_recover_last (rows_of opening entries) (stands opening entries legal).recover.right

-- ---- as many files as blocks

module _ (v : RunWeight) where
  abbrev any_state : FileState → ℕ
  any_state Closed = 0
  any_state (Open client) = 0
  any_state (Recovering own stamp begun) = v stamp begun

  -- whichever block is recovered
  abbrev in_any : Count
  in_any None = 0
  in_any (Some its) = any_state its.state

  abbrev in_table : List (ℕ × BlockRecord) → ℕ
  in_table [] = 0
  in_table (entry ∷ table) = worth v (Some (run_of entry.1)) + in_table table

  -- one block after another
  without_one : (number : ℕ) (its : Option FileRow) → in_any its ≡ in_file number v its + in_any (option_map (recovered_at number 0) its)
  without_one number None = refl
  without_one number (Some its) = by its.state ∙ ap (λ (state : FileState). in_state number v its.state + any_state state) (sym (closes number 0 its (state_recovers number its.state)))
    where
      by_number : (own stamp begun : ℕ) (b : Bool) → v stamp begun ≡ cond b (v stamp begun) 0 + any_state (cond b Closed (Recovering own stamp begun))
      by_number own stamp begun true = last (v stamp begun)
        where
          last : (n : ℕ) → n ≡ n + 0
          last n = omega arith
      by_number own stamp begun false = front (v stamp begun)
        where
          front : (n : ℕ) → n ≡ 0 + n
          front n = omega arith

      by : (state : FileState) → any_state state ≡ in_state number v state + any_state (cond (state_recovers number state) Closed state)
      by Closed = refl
      by (Open client) = refl
      by (Recovering own stamp begun) = by_number own stamp begun (own == number)

  peeled : (number : ℕ) (rows : List Row) → sum_files in_any rows ≡ sum_files (in_file number v) rows + sum_files in_any (recovery_ended number 0 rows)
  peeled number rows =
      sum_same in_any (λ its. in_file number v its + in_any (option_map (recovered_at number 0) its)) (without_one number) rows
      ∙ (sum_plus (in_file number v) (λ its. in_any (option_map (recovered_at number 0) its)) rows ∙ ap (λ n. sum_files (in_file number v) rows + n) (sym (ended_sum number 0 in_any rows)))

  others_left : (number other : ℕ) (rows : List Row) → (number == other) ≡ false → sum_files (in_file other v) (recovery_ended number 0 rows) ≡ sum_files (in_file other v) rows
  others_left number other rows apart = ended_sum number 0 (in_file other v) rows ∙ sum_same (λ its. in_file other v (option_map (recovered_at number 0) its)) (in_file other v) each rows
    where
      each : (its : Option FileRow) → in_file other v (option_map (recovered_at number 0) its) ≡ in_file other v its
      each None = refl
      each (Some its) = others_stay number 0 other v its apart

  none_left : (number : ℕ) (rows : List Row) → sum_files (in_file number v) (recovery_ended number 0 rows) ≡ 0
  none_left number rows = ended_sum number 0 (in_file number v) rows ∙ all rows
    where
      each : (its : Option FileRow) → in_file number v (option_map (recovered_at number 0) its) ≡ 0
      each None = refl
      each (Some its) = none_recovers number 0 v its

      all : (some : List Row) → sum_files (λ its. in_file number v (option_map (recovered_at number 0) its)) some ≡ 0
      all [] = refl
      all (row ∷ some) = ap (λ n. n + sum_files (λ its. in_file number v (option_map (recovered_at number 0) its)) some) (each row.file) ∙ ap (λ n. 0 + n) (all some)

  -- where no block is recovered, no state counts
  none_any : (rows : List Row) → ((number : ℕ) → sum_files (in_file number v) rows ≡ 0) → sum_files in_any rows ≡ 0
  none_any [] h = refl
  none_any (row ∷ rows) h =
      ap (λ n. n + sum_files in_any rows) (here row.file (λ number. (none_both (in_file number v row.file) (sum_files (in_file number v) rows) (h number)).0))
      ∙ ap (λ n. 0 + n) (none_any rows (λ number. (none_both (in_file number v row.file) (sum_files (in_file number v) rows) (h number)).1))
    where
      of_state : (state : FileState) → ((number : ℕ) → in_state number v state ≡ 0) → any_state state ≡ 0
      of_state Closed h = refl
      of_state (Open client) h = refl
      of_state (Recovering own stamp begun) h = sym (ap (λ b. cond b (v stamp begun) 0) (eq-eqb own own refl)) ∙ h own

      here : (its : Option FileRow) → ((number : ℕ) → in_file number v its ≡ 0) → in_any its ≡ 0
      here None h = refl
      here (Some its) h = of_state its.state h

  -- a number that is below all keys is no key
  no_entry : (number : ℕ) (table : List (ℕ × BlockRecord)) → AllByRecursion (λ n. nat_cmp number n ≡ Less) (keys_of table) → entry_at number table ≡ None
  no_entry number [] below = refl
  no_entry number (entry ∷ table) below = ap (λ o. cond (is_eq o) (Some entry.1) (entry_at number table)) below.0 ∙ no_entry number table below.1

  as_in_table : (table : List (ℕ × BlockRecord)) (rows : List Row) → IsStrictlySortedBy nat_cmp (keys_of table)
      → ((number : ℕ) → sum_files (in_file number v) rows ≡ worth v (option_map run_of (entry_at number table))) → sum_files in_any rows ≡ in_table table
  as_in_table [] rows up h = none_any rows h
  as_in_table (entry ∷ table) rows up h =
      peeled entry.0 rows
      ∙ (ap (λ n. n + sum_files in_any (recovery_ended entry.0 0 rows)) (h entry.0 ∙ ap (λ b. worth v (option_map run_of (cond b (Some entry.1) (entry_at entry.0 table)))) (number_itself entry.0))
      ∙ ap (λ n. worth v (Some (run_of entry.1)) + n) (as_in_table table (recovery_ended entry.0 0 rows) (sorted_tail nat_cmp entry.0 (keys_of table) up) (λ number. by number (entry.0 == number) refl)))
    where
      by : (number : ℕ) (b : Bool) → (entry.0 == number) ≡ b → sum_files (in_file number v) (recovery_ended entry.0 0 rows) ≡ worth v (option_map run_of (entry_at number table))
      by number true is =
          subst (λ n. sum_files (in_file n v) (recovery_ended entry.0 0 rows) ≡ worth v (option_map run_of (entry_at n table))) (eqb-true entry.0 number is)
          (none_left entry.0 rows ∙ sym (ap (λ found. worth v (option_map run_of found)) (no_entry entry.0 table (sorted_head nat_cmp entry.0 (keys_of table) up))))
      by number false is =
          others_left entry.0 number rows is
          ∙ (h number ∙ ap (λ b. worth v (option_map run_of (cond b (Some entry.1) (entry_at number table)))) (number_eq number entry.0 ∙ is))

-- ---- those that began too long ago

module _ (retry now : ℕ) where
  abbrev late : RunWeight
  late stamp begun = bit (nat_lt retry (now - begun))

  head_counts : {X : Type 0} (b : Bool) (x : X) (xs : List X) → length (cond b (x ∷ xs) xs) ≡ bit b + length xs
  head_counts true x xs = omega arith
  head_counts false x xs = omega arith

  late_file : (its : Option FileRow) → bit (is_some (sought_of (λ client. false) (λ begun. nat_lt retry (now - begun)) its)) ≡ in_any late its
  late_file None = refl
  late_file (Some its) = by its.state
    where
      by_test : (b : Bool) (sought : Sought) → bit (is_some (cond b (Some sought) None)) ≡ bit b
      by_test true sought = refl
      by_test false sought = refl

      by : (state : FileState) → bit (is_some (sought_by_state (λ client. false) (λ begun. nat_lt retry (now - begun)) (unfinished_block its.blocks) state)) ≡ any_state late state
      by Closed = refl
      by (Open client) = refl
      by (Recovering own stamp begun) = by_test (nat_lt retry (now - begun)) (record { holder = None; block = Some own })

  late_rows : (rows : List Row) → length (filter (is_row_overdue retry now) rows) ≡ sum_files (in_any late) rows
  late_rows [] = refl
  late_rows (row ∷ rows) =
      head_counts (is_row_overdue retry now row) row (filter (is_row_overdue retry now) rows)
      ∙ (ap (λ n. n + length (filter (is_row_overdue retry now) rows)) (late_file row.file) ∙ ap (λ n. in_any late row.file + n) (late_rows rows))

  late_since : (stamp : ℕ) (since : Option ℕ) → bit (is_due retry now since) ≡ worth late (Some (option_map (λ n. (stamp, n)) since))
  late_since stamp None = refl
  late_since stamp (Some since) = refl

  abbrev is_late : ℕ × BlockRecord → Bool
  is_late entry = is_due retry now entry.1.recovering

  late_blocks : (table : List (ℕ × BlockRecord)) → length (keys_of (filter (λ entry. is_due retry now entry.1.recovering) table)) ≡ in_table late table
  late_blocks [] = refl
  late_blocks (entry ∷ table) =
      by (is_late entry) ∙ (ap (λ n. n + length (keys_of (filter is_late table))) (late_since entry.1.stamp entry.1.recovering) ∙ ap (λ n. worth late (Some (run_of entry.1)) + n) (late_blocks table))
    where
      by : (b : Bool) → length (keys_of (cond b (entry ∷ filter is_late table) (filter is_late table))) ≡ bit b + length (keys_of (filter is_late table))
      by true = omega arith
      by false = omega arith

pub overdue_are_due : OverdueFilesAreDue
overdue_are_due opening entries now legal =
    let standing = stands opening entries legal in
    let facts = blocks_of opening entries in
    late_rows facts.retry now (rows_of opening entries)
    ∙ (as_in_table (late facts.retry now) facts.known.blocks (rows_of opening entries) standing.sound.once (λ number. standing.recover.runs number (late facts.retry now))
    ∙ sym (late_blocks facts.retry now facts.known.blocks))

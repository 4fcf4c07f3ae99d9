-- Finished files are closed: those of one client, and those of several, one client after the other.
use Rattle.std.proofs.Common.{◌≡◌, ℕ, ◌+◌, ◌-◌, ◌≤◌, ◌<◌, ◌^◌, min, sum_by, ◌⊎◌, inl, inr, Bool, true, false, ◌&&◌, ◌||◌, not, nat_lt, List, [], ◌∷◌, filter, length, Option, Some, None, is_some, refl, sym, ap, ◌∙◌, subst, cond, arith}
use Rattle.std.proofs.lemmas.List.Sums.{sum_by-cons}
use Rattle.std.specs.List.{AllByRecursion, cons_option, list_any}
use Rattle.std.specs.Map.{values_of}
use Rattle.std.specs.Option.{option_map}
use Rattle.hdfs_values.specs.Text.{same}
use Rattle.hdfs_values.proofs.Texts.{same_is, same_symm}
use Rattle.file_paths.specs.PathOrder.{same_path}
use Rattle.file_states.specs.declared.state.FileState.{FileState}
use Rattle.file_states.specs.declared.state.FileState.TheVariants.{Closed, Open, Recovering}
use Rattle.recovery_queue.specs.declared.begun.BegunRecovery.{BegunRecovery}
use Rattle.block_map.specs.BlockFacts.{Blocks}
use Rattle.block_map.specs.BlockEffects.{recoveries_begun, with_recoveries_begun}
use Rattle.file_blocks.specs.Blocks.{unfinished_block}
use Rattle.namespace_rows.specs.declared.file_row.FileRow.{FileRow}
use Rattle.namespace_rows.specs.declared.row.Row.{Row}
use Rattle.namespace_rows.specs.First.{first}
use Rattle.namespace_rows.specs.Rows.{row_at}
use Rattle.namespace_rows.specs.Namespace.{IsNamespace}
use Rattle.namespace_rows.specs.Files.{is_client, holder_of, holder_of_file, with_state, open_files}
use Rattle.namespace_rows.proofs.Namespaces.{namespace_tests}
use Rattle.namespace_rows.proofs.Tests.{both, or_left, or_right}
use Rattle.namespace_rows.specs.Changes.{with_file, file_edited}
use Rattle.flat_rows.specs.declared.takeover.Sought.{Sought}
use Rattle.flat_rows.specs.Takeover.{sought_by_state, taken_row}
use Rattle.history.proofs.Counting.{count, bit, count_head}
use Rattle.history.proofs.OpenFiles.{opens, count_taken}
use Rattle.lease_manager.specs.declared.writers.Writers.{Writers}
use Rattle.lease_manager.specs.Writers.{count_of, IsLeased}
use Rattle.file_effects.specs.Effected.{IsExact}
use Rattle.file_effects.proofs.Effects.{AreCounted}
use Rattle.file_table.specs.Finished.{is_finished_for, is_finished_of, closed_for, finished_files, with_finished_closed}
use Rattle.file_takeovers.specs.Expiry.{Expiry, is_among, sought_by, sought_at, sought_entries, files_sought, blocks_to_recover, closed_of, all_taken, AreTaken, IsExpired, is_finished_among, closed_among, finished_closed, finished_of, AreAtMost}
use Rattle.file_takeovers.proofs.SoughtFiles.{Entries, AreFoundIn, held_each, all_found, values_sought}
use Rattle.file_takeovers.proofs.TakenFiles.{IsHeld}

-- ---- one client

module _ (client : List ℕ) where
  abbrev is_finished : Row → Bool
  is_finished row = is_finished_of client row.file

  abbrev closed_row : Row → Row
  closed_row row = file_edited (closed_for client) row

  each_closed : (other : List ℕ) (row : Row) → bit (opens other (closed_row row)) + bit (is_finished row && opens other row) ≡ bit (opens other row)
  each_closed other row = by row.file
    where
      before : (n : ℕ) → 0 + n ≡ n
      before n = omega arith

      behind : (n : ℕ) → n + 0 ≡ n
      behind n = omega arith

      by_file : (file : FileRow) (b : Bool) → bit (is_client other (holder_of (cond b (with_state Closed file) file).state)) + bit (b && is_client other (holder_of file.state)) ≡ bit (is_client other (holder_of file.state))
      by_file file true = before (bit (is_client other (holder_of file.state)))
      by_file file false = behind (bit (is_client other (holder_of file.state)))

      by : (file : Option FileRow) → bit (is_client other (holder_of_file (option_map (closed_for client) file))) + bit (is_finished_of client file && is_client other (holder_of_file file)) ≡ bit (is_client other (holder_of_file file))
      by None = refl
      by (Some file) = by_file file (is_finished_for client file)

  -- who has a finished file open
  finished_holder : (other : List ℕ) (row : Row) → is_finished row ≡ true → opens other row ≡ same other client
  finished_holder other row e = by row.file e
    where
      by_holder : (holder : Option (List ℕ)) (b : Bool) → (is_client client holder && b) ≡ true → is_client other holder ≡ same other client
      by_holder None b k = absurd cc
      by_holder (Some who) b k = ap (same other) (sym (same_is client who (both (same client who) b k).0))

      by : (file : Option FileRow) → is_finished_of client file ≡ true → is_client other (holder_of_file file) ≡ same other client
      by None k = absurd cc
      by (Some file) k = by_holder (holder_of file.state) (not (is_some (unfinished_block file.blocks))) k

  count_finished : (p : Row → Bool) (value : Bool) → ((row : Row) → is_finished row ≡ true → p row ≡ value) → (rows : List Row) → count p (finished_files client rows) ≡ cond value (length (finished_files client rows)) 0
  count_finished p value h [] = by value
    where
      by : (b : Bool) → count p [] ≡ cond b (count p []) 0
      by true = refl
      by false = refl
  count_finished p value h (row ∷ rows) = by (is_finished row) refl (count_finished p value h rows)
    where
      more : (b : Bool) → bit b + cond b (length (finished_files client rows)) 0 ≡ cond b (length (row ∷ finished_files client rows)) 0
      more true = omega arith
      more false = refl

      by : (b : Bool) → is_finished row ≡ b → count p (finished_files client rows) ≡ cond value (length (finished_files client rows)) 0
          → count p (cond b (row ∷ finished_files client rows) (finished_files client rows)) ≡ cond value (length (cond b (row ∷ finished_files client rows) (finished_files client rows))) 0
      by true e rest = count_head p row (finished_files client rows) ∙ (ap (λ b. bit b + count p (finished_files client rows)) (h row e) ∙ (ap (λ n. bit value + n) rest ∙ more value))
      by false e rest = rest

  -- the client has so many files fewer open, any other as many
  pub counted_finished : (rows left : List Row) (before after : Writers) (closed : ℕ) → closed ≡ length (finished_files client rows) → left ≡ with_finished_closed client rows
      → ((other : List ℕ) → count_of after.files other ≡ cond (same client other) (count_of before.files client - closed) (count_of before.files other)) → AreCounted rows before → AreCounted left after
  counted_finished rows left before after closed number made less counted other = less other ∙ (by (same client other) refl ∙ ap (λ rs. length (open_files other rs)) (sym made))
    where
      fewer : (n c k f m : ℕ) → n ≡ m → c ≡ k → f ≡ k → (new : ℕ) → new + f ≡ m → n - c ≡ new
      fewer n c k f m e1 e2 e3 new e4 = omega (arith, e1, e2, e3, e4)

      as_many : (n f m : ℕ) → n ≡ m → f ≡ 0 → (new : ℕ) → new + f ≡ m → n ≡ new
      as_many n f m e1 e2 new e3 = omega (arith, e1, e2, e3)

      left_open : count (opens other) (with_finished_closed client rows) + count (opens other) (finished_files client rows) ≡ count (opens other) rows
      left_open = count_taken other closed_row is_finished (each_closed other) rows

      its : (b : Bool) → same other client ≡ b → count (opens other) (finished_files client rows) ≡ cond b (length (finished_files client rows)) 0
      its b e = count_finished (opens other) b (λ row k. finished_holder other row k ∙ e) rows

      by : (b : Bool) → same client other ≡ b → cond b (count_of before.files client - closed) (count_of before.files other) ≡ count (opens other) (with_finished_closed client rows)
      by true e =
          fewer (count_of before.files client) closed (length (finished_files client rows)) (count (opens other) (finished_files client rows)) (count (opens other) rows) (counted client ∙ ap (λ who. count (opens who) rows) (same_is client other e)) number
          (its true (same_symm other client ∙ e)) (count (opens other) (with_finished_closed client rows)) left_open
      by false e =
          as_many (count_of before.files other) (count (opens other) (finished_files client rows)) (count (opens other) rows) (counted other) (its false (same_symm other client ∙ e)) (count (opens other) (with_finished_closed client rows)) left_open

  pub exact_finished : (rows left : List Row) (before after : Writers) (closed : ℕ) → closed ≡ length (finished_files client rows) → left ≡ with_finished_closed client rows
      → ((other : List ℕ) → count_of after.files other ≡ cond (same client other) (count_of before.files client - closed) (count_of before.files other)) → ((last : List ℕ → Option ℕ) → IsLeased last before → IsLeased last after)
      → (last : List ℕ → Option ℕ) → IsExact last rows before → IsExact last left after
  exact_finished rows left before after closed number made less leased last exact = record { files = counted_finished rows left before after closed number made less exact.files; leased = leased last exact.leased }

-- ---- several

closed_none : (clients : List (List ℕ)) (file : FileRow) → is_finished_among clients (Some (with_state Closed file)) ≡ false
closed_none [] file = refl
closed_none (client ∷ clients) file = closed_none clients file

module _ (client : List ℕ) where
  module _ (clients : List (List ℕ)) where
    row_first : (row : Row) → closed_among clients (closed_row client row) ≡ closed_among (client ∷ clients) row
    row_first row = by row.file
      where
        by_file : (file : FileRow) (b : Bool) → closed_among clients (with_file (Some (cond b (with_state Closed file) file)) row) ≡ cond (b || is_finished_among clients (Some file)) (with_file (Some (with_state Closed file)) row) (with_file (Some file) row)
        by_file file true = ap (λ b. cond b (with_file (Some (with_state Closed file)) row) (with_file (Some (with_state Closed file)) row)) (closed_none clients file)
        by_file file false = refl

        by : (file : Option FileRow) → closed_among clients (with_file (option_map (closed_for client) file) row) ≡ closed_among (client ∷ clients) (with_file file row)
        by None = refl
        by (Some file) = by_file file (is_finished_for client file)

    -- this one's first, then those of the others
    pub closed_first : (rows : List Row) → finished_closed clients (with_finished_closed client rows) ≡ finished_closed (client ∷ clients) rows
    closed_first [] = refl
    closed_first (row ∷ rows) = ap (λ first. first ∷ finished_closed clients (with_finished_closed client rows)) (row_first row) ∙ ap (λ rest. closed_among (client ∷ clients) row ∷ rest) (closed_first rows)

    abbrev among : List (List ℕ) → Row → Bool
    among some row = is_finished_among some row.file

    bits_first : (row : Row) → bit (among (client ∷ clients) row) ≡ bit (is_finished client row) + bit (among clients (closed_row client row))
    bits_first row = by row.file
      where
        before : (n : ℕ) → n ≡ 0 + n
        before n = omega arith

        by_file : (file : FileRow) (b : Bool) → bit (b || is_finished_among clients (Some file)) ≡ bit b + bit (is_finished_among clients (Some (cond b (with_state Closed file) file)))
        by_file file true = ap (λ b. 1 + bit b) (sym (closed_none clients file))
        by_file file false = before (bit (is_finished_among clients (Some file)))

        by : (file : Option FileRow) → bit (is_finished_among (client ∷ clients) file) ≡ bit (is_finished_of client file) + bit (is_finished_among clients (option_map (closed_for client) file))
        by None = before (bit (is_finished_among clients None))
        by (Some file) = by_file file (is_finished_for client file)

    pub count_first : (rows : List Row) → length (finished_of (client ∷ clients) rows) ≡ length (finished_files client rows) + length (finished_of clients (with_finished_closed client rows))
    count_first [] = refl
    count_first (row ∷ rows) =
        omega (arith, count_head (among (client ∷ clients)) row rows, count_head (is_finished client) row rows, count_head (among clients) (closed_row client row) (with_finished_closed client rows), bits_first row, count_first rows)

  bits_fewer : (other : List ℕ) (row : Row) → bit (is_finished other (closed_row client row)) ≤ bit (is_finished other row)
  bits_fewer other row = by row.file
    where
      by_file : (file : FileRow) (b : Bool) → bit (is_finished_for other (cond b (with_state Closed file) file)) ≤ bit (is_finished_for other file)
      by_file file true = omega arith
      by_file file false = omega arith

      by : (file : Option FileRow) → bit (is_finished_of other (option_map (closed_for client) file)) ≤ bit (is_finished_of other file)
      by None = omega arith
      by (Some file) = by_file file (is_finished_for client file)

  fewer_finished : (other : List ℕ) (rows : List Row) → length (finished_files other (with_finished_closed client rows)) ≤ length (finished_files other rows)
  fewer_finished other [] = omega arith
  fewer_finished other (row ∷ rows) = omega (arith, count_head (is_finished other) (closed_row client row) (with_finished_closed client rows), count_head (is_finished other) row rows, bits_fewer other row, fewer_finished other rows)

  pub still_at_most : (rows : List Row) (clients : List (List ℕ)) (numbers : List ℕ) → AreAtMost rows clients numbers → AreAtMost (with_finished_closed client rows) clients numbers
  still_at_most rows [] numbers h = tt
  still_at_most rows (other ∷ clients) [] h = h
  still_at_most rows (other ∷ clients) (number ∷ numbers) h = (omega (arith, fewer_finished other rows, h.0), still_at_most rows clients numbers h.1)

-- ---- whatever else is closed of these clients

-- the client's finished files are among those of these
abbrev pub IsPart : List (List ℕ) → List ℕ → Type 0
IsPart past client = (file : Option FileRow) → is_finished_of client file ≡ true → is_finished_among past file ≡ true

each_part : (past clients : List (List ℕ)) → ((file : Option FileRow) → is_finished_among clients file ≡ true → is_finished_among past file ≡ true) → AllByRecursion (IsPart past) clients
each_part past [] h = tt
each_part past (client ∷ clients) h =
    (λ file e. h file (or_left (is_finished_of client file) (is_finished_among clients file) e), each_part past clients (λ file e. h file (or_right (is_finished_of client file) (is_finished_among clients file) e)))

pub are_parts : (past : List (List ℕ)) → AllByRecursion (IsPart past) past
are_parts past = each_part past past (λ file e. e)

module _ (past : List (List ℕ)) (client : List ℕ) (part : IsPart past client) where
  row_other : (row : Row) → closed_among past (closed_row client row) ≡ closed_among past row
  row_other row = by row.file
    where
      by_file : (file : FileRow) (b : Bool) → is_finished_for client file ≡ b → closed_among past (with_file (Some (cond b (with_state Closed file) file)) row) ≡ closed_among past (with_file (Some file) row)
      by_file file true e =
          ap (λ b. cond b (with_file (Some (with_state Closed file)) row) (with_file (Some (with_state Closed file)) row)) (closed_none past file)
          ∙ ap (λ b. cond b (with_file (Some (with_state Closed file)) row) (with_file (Some file) row)) (sym (part (Some file) e))
      by_file file false e = refl

      by : (file : Option FileRow) → closed_among past (with_file (option_map (closed_for client) file) row) ≡ closed_among past (with_file file row)
      by None = refl
      by (Some file) = by_file file (is_finished_for client file) refl

  other_closed : (rows : List Row) → finished_closed past (with_finished_closed client rows) ≡ finished_closed past rows
  other_closed [] = refl
  other_closed (row ∷ rows) = ap (λ first. first ∷ finished_closed past (with_finished_closed client rows)) (row_other row) ∙ ap (λ rest. closed_among past row ∷ rest) (other_closed rows)

  pub no_other_closed : (rows left : List Row) → with_finished_closed client left ≡ with_finished_closed client rows → finished_closed past left ≡ finished_closed past rows
  no_other_closed rows left e = sym (other_closed left) ∙ (ap (finished_closed past) e ∙ other_closed rows)

-- ---- the loop over these clients, and over how many files of each are closed

abbrev pub total_of : List ℕ → ℕ
total_of numbers = sum_by (λ number. number) numbers

pub record IsStep (past : List (List ℕ)) (rows left : List Row) (clients rest : List (List ℕ)) (most others : List ℕ) (closed more : ℕ) : Type 0 where
  pub parts : AllByRecursion (IsPart past) rest
  pub no_other : finished_closed past left ≡ finished_closed past rows
  pub at_most : AreAtMost rows clients most → AreAtMost left rest others
  pub closed_is : AreAtMost rows clients most → finished_closed rest left ≡ finished_closed clients rows
  pub count : AreAtMost rows clients most → closed + total_of most < 2 ^ 64 → more + length (finished_of rest left) ≡ closed + length (finished_of clients rows)
  pub fits : AreAtMost rows clients most → closed + total_of most < 2 ^ 64 → more + total_of others ≤ closed + total_of most

pub first_few : (rows : List Row) (client : List ℕ) (number : ℕ) (clients rest : List (List ℕ)) (most others : List ℕ) → clients ≡ client ∷ rest → most ≡ number ∷ others → AreAtMost rows clients most → length (finished_files client rows) ≤ number
first_few rows client number clients rest most others first most_is h = (subst (λ cs. AreAtMost rows cs (number ∷ others)) first (subst (AreAtMost rows clients) most_is h)).0

pub one_closed : (past : List (List ℕ)) (rows left : List Row) (client : List ℕ) (number : ℕ) (clients rest : List (List ℕ)) (most others : List ℕ) (closed own more : ℕ) → clients ≡ client ∷ rest → most ≡ number ∷ others → AllByRecursion (IsPart past) clients
    → with_finished_closed client left ≡ with_finished_closed client rows → (length (finished_files client rows) ≤ number → left ≡ with_finished_closed client rows) → (length (finished_files client rows) ≤ number → own ≡ length (finished_files client rows))
    → more ≡ min (closed + own) (2 ^ 64 - 1) → IsStep past rows left clients rest most others closed more
one_closed past rows left client number clients rest most others closed own more first most_is parts none_other made counted saturated =
    let all_parts : AllByRecursion (IsPart past) (client ∷ rest) = subst (AllByRecursion (IsPart past)) first parts in
    record {
      parts = all_parts.1;
      no_other = no_other_closed past client all_parts.0 rows left none_other;
      at_most = λ h. subst (λ rs. AreAtMost rs rest others) (sym (made (few h).0)) (still_at_most client rows rest others (few h).1);
      closed_is = λ h. ap (finished_closed rest) (made (few h).0) ∙ (closed_first client rest rows ∙ ap (λ cs. finished_closed cs rows) (sym first));
      count = λ h fits.
          count_is own (length (finished_files client rows)) (total_of most) (total_of others) more (counted (few h).0) (few h).0 most_total fits saturated (length (finished_of rest left)) (length (finished_of rest (with_finished_closed client rows)))
          (length (finished_of (client ∷ rest) rows)) (length (finished_of clients rows)) (ap (λ rs. length (finished_of rest rs)) (made (few h).0)) (count_first client rest rows) (ap (λ cs. length (finished_of cs rows)) first);
      fits = λ h fits. fits_still own (length (finished_files client rows)) (total_of most) (total_of others) more (counted (few h).0) (few h).0 most_total fits saturated;
    }
  where
    few : AreAtMost rows clients most → (length (finished_files client rows) ≤ number) × AreAtMost rows rest others
    few h = subst (λ cs. AreAtMost rows cs (number ∷ others)) first (subst (AreAtMost rows clients) most_is h)

    most_total : total_of most ≡ number + total_of others
    most_total = ap total_of most_is ∙ sum_by-cons (λ n. n) number others

    sum_is : (own files all others more : ℕ) → own ≡ files → files ≤ number → all ≡ number + others → closed + all < 2 ^ 64 → more ≡ min (closed + own) (2 ^ 64 - 1) → more ≡ closed + own
    sum_is own files all others more e1 e2 e3 e4 e5 = omega (arith, e1, e2, e3, e4, e5)

    count_is : (own files all others more : ℕ) → own ≡ files → files ≤ number → all ≡ number + others → closed + all < 2 ^ 64 → more ≡ min (closed + own) (2 ^ 64 - 1)
        → (a b c d : ℕ) → a ≡ b → c ≡ files + b → d ≡ c → more + a ≡ closed + d
    count_is own files all others more e1 e2 e3 e4 e5 a b c d e6 e7 e8 = omega (arith, sum_is own files all others more e1 e2 e3 e4 e5, e1, e6, e7, e8)

    fits_still : (own files all others more : ℕ) → own ≡ files → files ≤ number → all ≡ number + others → closed + all < 2 ^ 64 → more ≡ min (closed + own) (2 ^ 64 - 1) → more + others ≤ closed + all
    fits_still own files all others more e1 e2 e3 e4 e5 = omega (arith, sum_is own files all others more e1 e2 e3 e4 e5, e1, e2, e3)

-- behind the last client, or the last number
pub none_behind : (rows : List Row) (clients : List (List ℕ)) (most : List ℕ) → (clients ≡ []) ⊎ (most ≡ []) → AreAtMost rows clients most → clients ≡ []
none_behind rows clients most (inl none) h = none
none_behind rows clients most (inr none) h = by clients (subst (AreAtMost rows clients) none h)
  where
    by : (cs : List (List ℕ)) → AreAtMost rows cs [] → cs ≡ []
    by [] k = refl
    by (c ∷ cs) k = absurd k

pub none_closed : (rows : List Row) → finished_closed [] rows ≡ rows
none_closed [] = refl
none_closed (row ∷ rows) = ap (λ rest. row ∷ rest) (none_closed rows)

pub none_finished : (rows : List Row) → length (finished_of [] rows) ≡ 0
none_finished [] = refl
none_finished (row ∷ rows) = none_finished rows

-- ---- files that a tick takes: the finished ones are closed, the others recovered

module _ (expiry : Expiry) where
  abbrev overdue : ℕ → Bool
  overdue begun = nat_lt expiry.retry (expiry.now - begun)

  abbrev is_closing : Option Sought → Bool
  is_closing None = false
  is_closing (Some sought) = not (is_some sought.block)

  -- what is left to take behind the finished files
  abbrev to_recover : Option Sought → Option Sought
  to_recover None = None
  to_recover (Some sought) = cond (is_some sought.block) (Some sought) None

  none_holds : (clients : List (List ℕ)) → list_any (λ (client : List ℕ). false) clients ≡ false
  none_holds [] = refl
  none_holds (client ∷ clients) = none_holds clients

  finished_is : (file : Option FileRow) → is_finished_among expiry.past file ≡ is_closing (sought_by expiry file)
  finished_is None = none_holds expiry.past
  finished_is (Some file) = by file.state
    where
      block : Option ℕ
      block = unfinished_block file.blocks

      both_hold : (holder : List ℕ) (b : Bool) (clients : List (List ℕ)) → list_any (λ client. same client holder && b) clients ≡ (is_among clients holder && b)
      both_hold holder b [] = refl
      both_hold holder b (client ∷ clients) = either (same client holder) b (both_hold holder b clients)
        where
          either : (a b : Bool) → list_any (λ client. same client holder && b) clients ≡ (is_among clients holder && b) → ((a && b) || list_any (λ client. same client holder && b) clients) ≡ ((a || is_among clients holder) && b)
          either true true rest = refl
          either true false rest = rest ∙ never (is_among clients holder)
            where
              never : (b : Bool) → (b && false) ≡ false
              never true = refl
              never false = refl
          either false b rest = rest

      by_among : (holder : List ℕ) (b : Bool) → (b && not (is_some block)) ≡ is_closing (cond b (Some (record { holder = Some holder; block = block })) None)
      by_among holder true = refl
      by_among holder false = refl

      by_overdue : (own : ℕ) (b : Bool) → false ≡ is_closing (cond b (Some (record { holder = None; block = Some own })) None)
      by_overdue own true = refl
      by_overdue own false = refl

      by : (state : FileState) → list_any (λ client. is_client client (holder_of state) && not (is_some block)) expiry.past ≡ is_closing (sought_by_state (is_among expiry.past) overdue block state)
      by Closed = none_holds expiry.past
      by (Open holder) = both_hold holder (not (is_some block)) expiry.past ∙ by_among holder (is_among expiry.past holder)
      by (Recovering own stamp begun) = none_holds expiry.past ∙ by_overdue own (overdue begun)

  closed_sought : (file : Option FileRow) → sought_by expiry (option_map (with_state Closed) file) ≡ None
  closed_sought None = refl
  closed_sought (Some file) = refl

  abbrev closed_at_once : Row → Row
  closed_at_once row = file_edited (with_state Closed) row

  row_sought : (row : Row) → sought_by expiry (closed_among expiry.past row).file ≡ to_recover (sought_by expiry row.file)
  row_sought row = ap (λ b. sought_by expiry (cond b (closed_at_once row) row).file) (finished_is row.file) ∙ by (sought_by expiry row.file) refl
    where
      by_block : (holder : Option (List ℕ)) (block : Option ℕ) → sought_by expiry row.file ≡ Some (record { holder = holder; block = block })
          → sought_by expiry (cond (not (is_some block)) (closed_at_once row) row).file ≡ cond (is_some block) (Some (record { holder = holder; block = block })) None
      by_block holder None e = closed_sought row.file
      by_block holder (Some block) e = e

      by : (found : Option Sought) → sought_by expiry row.file ≡ found → sought_by expiry (cond (is_closing found) (closed_at_once row) row).file ≡ to_recover found
      by None e = e
      by (Some sought) e = by_block sought.holder sought.block e

  -- they are found at their paths

  path_closed : (row : Row) → (closed_among expiry.past row).path ≡ row.path
  path_closed row = by (is_finished_among expiry.past row.file)
    where
      by : (b : Bool) → (cond b (closed_at_once row) row).path ≡ row.path
      by true = refl
      by false = refl

  pub sought_behind : (path : List (List ℕ)) (rows : List Row) → sought_at expiry (row_at path (finished_closed expiry.past rows)) ≡ to_recover (sought_at expiry (row_at path rows))
  sought_behind path [] = refl
  sought_behind path (row ∷ rows) =
      ap (λ q. sought_at expiry (first (cond (same_path path q) (closed_among expiry.past row ∷ at_path (finished_closed expiry.past rows)) (at_path (finished_closed expiry.past rows))))) (path_closed row)
      ∙ by (same_path path row.path) (sought_behind path rows)
    where
      at_path : List Row → List Row
      at_path some = filter (λ other. same_path path other.path) some

      by : (b : Bool) → sought_at expiry (row_at path (finished_closed expiry.past rows)) ≡ to_recover (sought_at expiry (row_at path rows))
          → sought_at expiry (first (cond b (closed_among expiry.past row ∷ at_path (finished_closed expiry.past rows)) (at_path (finished_closed expiry.past rows)))) ≡ to_recover (sought_at expiry (first (cond b (row ∷ at_path rows) (at_path rows))))
      by true rest = row_sought row
      by false rest = rest

  one_left : (found : Option Sought) (sought : Sought) → to_recover found ≡ Some sought → found ≡ Some sought
  one_left None sought h = absurd cc
  one_left (Some other) sought h = by (is_some other.block) h
    where
      by : (b : Bool) → cond b (Some other) None ≡ Some sought → Some other ≡ Some sought
      by true k = k
      by false k = absurd cc

  -- those that are recovered are found still, where nothing was closed but finished files
  pub still_found : (rows left : List Row) (entries : Entries) → finished_closed expiry.past left ≡ finished_closed expiry.past rows → AreFoundIn expiry rows entries
      → AllByRecursion (λ (entry : List (List ℕ) × Sought). is_some entry.1.block ≡ true) entries → AreFoundIn expiry left entries
  still_found rows left [] same_else found recovered = tt
  still_found rows left (entry ∷ entries) same_else found recovered = (
    one_left (sought_at expiry (row_at entry.0 left)) entry.1
        (sym (sought_behind entry.0 left)
        ∙ (ap (λ rs. sought_at expiry (row_at entry.0 rs)) same_else
        ∙ (sought_behind entry.0 rows ∙ (ap to_recover found.0 ∙ ap (λ b. cond b (Some entry.1) None) recovered.0)))),
    still_found rows left entries same_else found.1 recovered.1,
  )

  -- ---- what is taken behind them

  module _ (begun : List BegunRecovery) where
    row_taken : (row : Row) → taken_row begun expiry.now (sought_by expiry (closed_among expiry.past row).file) (closed_among expiry.past row) ≡ taken_row begun expiry.now (sought_by expiry row.file) row
    row_taken row = ap (λ b. taken_row begun expiry.now (sought_by expiry (cond b (closed_at_once row) row).file) (cond b (closed_at_once row) row)) (finished_is row.file) ∙ by (sought_by expiry row.file) refl
      where
        by_block : (holder : Option (List ℕ)) (block : Option ℕ) → sought_by expiry row.file ≡ Some (record { holder = holder; block = block })
            → taken_row begun expiry.now (sought_by expiry (cond (not (is_some block)) (closed_at_once row) row).file) (cond (not (is_some block)) (closed_at_once row) row) ≡ taken_row begun expiry.now (sought_by expiry row.file) row
        by_block holder None e = ap (λ found. taken_row begun expiry.now found (closed_at_once row)) (closed_sought row.file) ∙ ap (λ found. taken_row begun expiry.now found row) (sym e)
        by_block holder (Some block) e = refl

        by : (found : Option Sought) → sought_by expiry row.file ≡ found
            → taken_row begun expiry.now (sought_by expiry (cond (is_closing found) (closed_at_once row) row).file) (cond (is_closing found) (closed_at_once row) row) ≡ taken_row begun expiry.now (sought_by expiry row.file) row
        by None e = refl
        by (Some sought) e = by_block sought.holder sought.block e

    pub taken_behind : (rows : List Row) → all_taken begun expiry (finished_closed expiry.past rows) ≡ all_taken begun expiry rows
    taken_behind [] = refl
    taken_behind (row ∷ rows) = ap (λ first. first ∷ all_taken begun expiry (finished_closed expiry.past rows)) (row_taken row) ∙ ap (λ rest. taken_row begun expiry.now (sought_by expiry row.file) row ∷ rest) (taken_behind rows)

  pub blocks_behind : (rows : List Row) → blocks_to_recover (files_sought expiry (finished_closed expiry.past rows)) ≡ blocks_to_recover (files_sought expiry rows)
  blocks_behind [] = refl
  blocks_behind (row ∷ rows) =
      ap (λ found. blocks_to_recover (cons_option found (files_sought expiry (finished_closed expiry.past rows)))) (row_sought row) ∙ by (sought_by expiry row.file) (blocks_behind rows)
    where
      own : List Sought
      own = files_sought expiry rows

      left : List Sought
      left = files_sought expiry (finished_closed expiry.past rows)

      by_block : (holder : Option (List ℕ)) (block : Option ℕ) → blocks_to_recover left ≡ blocks_to_recover own
          → blocks_to_recover (cons_option (cond (is_some block) (Some (record { holder = holder; block = block })) None) left) ≡ cons_option block (blocks_to_recover own)
      by_block holder None rest = rest
      by_block holder (Some block) rest = ap (λ l. block ∷ l) rest

      by : (found : Option Sought) → blocks_to_recover left ≡ blocks_to_recover own → blocks_to_recover (cons_option (to_recover found) left) ≡ blocks_to_recover (cons_option found own)
      by None rest = rest
      by (Some sought) rest = by_block sought.holder sought.block rest

  pub count_closed : (rows : List Row) → length (closed_of (files_sought expiry rows)) ≡ length (finished_of expiry.past rows)
  count_closed [] = refl
  count_closed (row ∷ rows) = by (sought_by expiry row.file) (count_closed rows) ∙ ap (λ b. length (cond b (row ∷ finished_of expiry.past rows) (finished_of expiry.past rows))) (sym (finished_is row.file))
    where
      by_closing : (sought : Sought) (b : Bool) → length (closed_of (files_sought expiry rows)) ≡ length (finished_of expiry.past rows)
          → length (cond b (sought ∷ closed_of (files_sought expiry rows)) (closed_of (files_sought expiry rows))) ≡ length (cond b (row ∷ finished_of expiry.past rows) (finished_of expiry.past rows))
      by_closing sought true rest = omega (arith, rest)
      by_closing sought false rest = rest

      by : (found : Option Sought) → length (closed_of (files_sought expiry rows)) ≡ length (finished_of expiry.past rows)
          → length (closed_of (cons_option found (files_sought expiry rows))) ≡ length (cond (is_closing found) (row ∷ finished_of expiry.past rows) (finished_of expiry.past rows))
      by None rest = rest
      by (Some sought) rest = by_closing sought (not (is_some sought.block)) rest

-- ---- a tick

-- who has the files open that a tick takes
pub all_held : (expiry : Expiry) (rows : List Row) (entries : Entries) → IsNamespace rows → entries ≡ sought_entries expiry rows → AllByRecursion (IsHeld rows) entries
all_held expiry rows entries namespace all = held_each expiry rows entries (subst (AreFoundIn expiry rows) (sym all) (all_found expiry rows (namespace_tests rows namespace).ascending))

-- the finished files are closed first, and the others taken behind that
pub expired_behind : (last : List ℕ → Option ℕ) (expiry : Expiry) (rows between left : List Row) (blocks blocks_left : Blocks) (middle after : Writers) (entries : Entries) (closed recovering : ℕ)
    → between ≡ finished_closed expiry.past rows → entries ≡ sought_entries expiry between
    → blocks_left ≡ with_recoveries_begun blocks (blocks_to_recover (values_of entries)) expiry.now → closed ≡ length (finished_of expiry.past rows) → recovering ≡ length (recoveries_begun blocks (blocks_to_recover (values_of entries)) expiry.now)
    → AreTaken (recoveries_begun blocks (blocks_to_recover (values_of entries)) expiry.now) expiry between middle left after → IsExact last between middle → IsExpired last expiry rows blocks (record { closed = closed; recovering = recovering }) left blocks_left after
expired_behind last expiry rows between left blocks blocks_left middle after entries closed recovering closing all known closed_is recovering_is taken exact =
    let own : blocks_to_recover (values_of entries) ≡ blocks_to_recover (files_sought expiry rows) =
    ap blocks_to_recover (ap values_of all ∙ (values_sought expiry between ∙ ap (files_sought expiry) closing)) ∙ blocks_behind expiry rows in
    let begun_are = ap (λ numbers. recoveries_begun blocks numbers expiry.now) own in
    record {
      tree =
          taken.tree
          ∙ (ap (all_taken (recoveries_begun blocks (blocks_to_recover (values_of entries)) expiry.now) expiry) closing
          ∙ (taken_behind expiry (recoveries_begun blocks (blocks_to_recover (values_of entries)) expiry.now) rows ∙ ap (λ some. all_taken some expiry rows) begun_are));
      blocks_are = known ∙ ap (λ numbers. with_recoveries_begun blocks numbers expiry.now) own;
      told =
          ap (λ n. record { closed = n; recovering = recovering }) (closed_is ∙ sym (count_closed expiry rows))
          ∙ ap (λ n. record { closed = length (closed_of (files_sought expiry rows)); recovering = n }) (recovering_is ∙ ap length begun_are);
      exact = taken.exact last exact;
    }

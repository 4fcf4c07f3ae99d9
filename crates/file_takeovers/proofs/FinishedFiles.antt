-- The files whose last block is recovered stay as they are where the finished ones are closed, and they are all that is left then.
use Rattle.std.proofs.Common.{◌≡◌, ◌≤◌, ℕ, suc, ◌+◌, ◌-◌, ◌++◌, Bool, true, false, ◌&&◌, ◌||◌, not, nat_lt, List, [], ◌∷◌, filter, length, Option, Some, None, Ordering, Less, Equal, Greater, arith, refl, sym, ap, ◌∙◌, cond}
use Rattle.std.proofs.lemmas.List.Sums.{sum_by-cons}
use Rattle.std.specs.BTreeMap.{insert_entry}
use Rattle.std.specs.List.{AllByRecursion}
use Rattle.std.specs.List.Sorted.{IsStrictlySortedBy}
use Rattle.std.specs.Map.{keys_of}
use Rattle.std.specs.Option.{is_some, option_map}
use Rattle.std.specs.Ordering.{match_ordering}
use Rattle.hdfs_values.specs.Text.{same}
use Rattle.hdfs_values.proofs.Texts.{same_is, same_self}
use Rattle.file_paths.specs.PathOrder.{path_cmp, same_path}
use Rattle.file_states.specs.declared.state.FileState.{FileState}
use Rattle.file_states.specs.declared.state.FileState.TheVariants.{Closed, Open, Recovering}
use Rattle.file_blocks.specs.Blocks.{unfinished_block}
use Rattle.namespace_rows.specs.declared.file_row.FileRow.{FileRow}
use Rattle.namespace_rows.specs.declared.row.Row.{Row}
use Rattle.namespace_rows.specs.First.{first}
use Rattle.namespace_rows.specs.Rows.{row_at}
use Rattle.namespace_rows.specs.Namespace.{IsNamespace}
use Rattle.namespace_rows.specs.Files.{with_state, holder_of, holder_of_file, is_client}
use Rattle.namespace_rows.proofs.Namespaces.{namespace_tests}
use Rattle.namespace_rows.proofs.Tests.{both, or_left, or_right}
use Rattle.block_map.specs.BlockFacts.{Blocks, due_recoveries}
use Rattle.namespace_rows.specs.Changes.{file_edited}
use Rattle.flat_rows.specs.declared.takeover.Sought.{Sought}
use Rattle.flat_rows.specs.Takeover.{sought_by_state}
use Rattle.flat_rows.proofs.Changes.{edited_namespace}
use Rattle.history.proofs.Counting.{count, bit, count_head, count_map}
use Rattle.history.proofs.OpenFiles.{opens}
use Rattle.lease_manager.specs.declared.writers.Writers.{Writers}
use Rattle.lease_manager.specs.Writers.{count_of}
use Rattle.file_effects.specs.Effected.{IsExact}
use Rattle.file_table.specs.Finished.{is_finished_for, is_finished_of, finished_files}
use Rattle.file_takeovers.specs.Expiry.{Expiry, is_among, sought_by, sought_at, sought_entries, is_overdue_row, AreDue, is_finished_among, closed_among, finished_closed, AreAtMost, AreAtLeast, open_beside}
use Rattle.file_takeovers.proofs.SoughtFiles.{Entries, one_sought, AreFoundIn, whole, counts, bounded}

-- ---- files that are recovered

abbrev pub IsToRecover : List (List ℕ) × Sought → Type 0
IsToRecover entry = is_some entry.1.block ≡ true

pub recovered_more : (path : List (List ℕ)) (sought : Sought) (entries : Entries) → is_some sought.block ≡ true → AllByRecursion IsToRecover entries
    → AllByRecursion IsToRecover (insert_entry path_cmp entries path sought)
recovered_more path sought [] here all = (here, tt)
recovered_more path sought (entry ∷ entries) here all = by (path_cmp path entry.0) (recovered_more path sought entries here all.1)
  where
    by : (o : Ordering) → AllByRecursion IsToRecover (insert_entry path_cmp entries path sought)
        → AllByRecursion IsToRecover (match_ordering o ((path, sought) ∷ entry ∷ entries) ((entry.0, sought) ∷ entries) (entry ∷ insert_entry path_cmp entries path sought))
    by Less more = (here, all)
    by Equal more = (here, all.1)
    by Greater more = (all.0, more)

-- ---- finished files are counted, of one client after the other

pub at_least_more : (rows : List Row) (clients : List (List ℕ)) (numbers : List ℕ) (client : List ℕ) (number : ℕ) → length numbers ≡ length clients
    → number ≤ length (finished_files client rows) → AreAtLeast rows clients numbers
    → AreAtLeast rows (clients ++ client ∷ []) (numbers ++ number ∷ [])
at_least_more rows [] [] client number long most all = (most, tt)
at_least_more rows [] (other ∷ numbers) client number long most all = absurd cc
at_least_more rows (own ∷ clients) [] client number long most all = absurd all
at_least_more rows (own ∷ clients) (other ∷ numbers) client number long most all = (all.0, at_least_more rows clients numbers client number (one_less (length numbers) (length clients) long) most all.1)
  where
    one_less : (n m : ℕ) → suc n ≡ suc m → n ≡ m
    one_less n m h = cc

-- ---- one file

module _ (expiry : Expiry) where
  -- a file whose last block is recovered isn't finished
  unfinished_sought : (client : List ℕ) (file : FileRow) (sought : Sought) → sought_by expiry (Some file) ≡ Some sought → is_some sought.block ≡ true → is_finished_for client file ≡ false
  unfinished_sought client file sought found recovered = by_state file.state found
    where
      neither : (b : Bool) → (b && false) ≡ false
      neither true = refl
      neither false = refl

      by_state : (state : FileState) → sought_by_state (is_among expiry.past) (λ begun. nat_lt expiry.retry (expiry.now - begun)) (unfinished_block file.blocks) state ≡ Some sought
          → (is_client client (holder_of state) && not (is_some (unfinished_block file.blocks))) ≡ false
      by_state Closed e = refl
      by_state (Open holder) e = by (is_among expiry.past holder) e
        where
          by : (b : Bool) → cond b (Some (record { holder = Some holder; block = unfinished_block file.blocks })) None ≡ Some sought
              → (same client holder && not (is_some (unfinished_block file.blocks))) ≡ false
          by true k =
              let own : is_some (unfinished_block file.blocks) ≡ true = ap (λ (s : Sought). is_some s.block) (one_sought (record { holder = Some holder; block = unfinished_block file.blocks }) sought k) ∙ recovered in
              ap (λ b. same client holder && not b) own ∙ neither (same client holder)
          by false k = absurd cc
      by_state (Recovering own stamp begun) e = refl

none_finished : (file : FileRow) → ((client : List ℕ) → is_finished_for client file ≡ false) → (clients : List (List ℕ)) → is_finished_among clients (Some file) ≡ false
none_finished file none [] = refl
none_finished file none (client ∷ clients) = ap (λ b. b || is_finished_among clients (Some file)) (none client) ∙ none_finished file none clients

-- a finished one is held, and its last block isn't unfinished
record IsFinished (file : FileRow) : Type 0 where
  held : is_some (holder_of file.state) ≡ true
  quiet : not (is_some (unfinished_block file.blocks)) ≡ true

finished_is : (file : FileRow) (clients : List (List ℕ)) → is_finished_among clients (Some file) ≡ true → IsFinished file
finished_is file [] h = absurd cc
finished_is file (client ∷ clients) h = by (is_finished_for client file) refl h (λ k. finished_is file clients k)
  where
    held_by : (holder : Option (List ℕ)) → is_client client holder ≡ true → is_some holder ≡ true
    held_by None k = absurd cc
    held_by (Some who) k = refl

    by : (b : Bool) → is_finished_for client file ≡ b → (b || is_finished_among clients (Some file)) ≡ true → (is_finished_among clients (Some file) ≡ true → IsFinished file) → IsFinished file
    by true is k rest = let parts = both (is_client client (holder_of file.state)) (not (is_some (unfinished_block file.blocks))) is in record { held = held_by (holder_of file.state) parts.0; quiet = parts.1 }
    by false is k rest = rest k

-- one of a client among others is one of these
not_among : (client : List ℕ) (file : Option FileRow) (clients : List (List ℕ)) → is_among clients client ≡ true → is_finished_among clients file ≡ false → is_finished_of client file ≡ false
not_among client file [] among none = absurd cc
not_among client file (other ∷ clients) among none = by (same other client) refl among (is_finished_of other file) refl none (λ k n. not_among client file clients k n)
  where
    by : (b : Bool) → same other client ≡ b → (b || is_among clients client) ≡ true → (c : Bool) → is_finished_of other file ≡ c → (c || is_finished_among clients file) ≡ false
        → (is_among clients client ≡ true → is_finished_among clients file ≡ false → is_finished_of client file ≡ false)
        → is_finished_of client file ≡ false
    by b at k true is n rest = absurd cc
    by true at k false is n rest = ap (λ who. is_finished_of who file) (sym (same_is other client at)) ∙ is
    by false at k false is n rest = rest k n

-- ---- the rows behind it

module _ (past : List (List ℕ)) where
  path_kept : (row : Row) → (closed_among past row).path ≡ row.path
  path_kept row = by (is_finished_among past row.file)
    where
      by : (b : Bool) → (cond b (file_edited (with_state Closed) row) row).path ≡ row.path
      by true = refl
      by false = refl

  at_closed : (path : List (List ℕ)) (rows : List Row) → row_at path (finished_closed past rows) ≡ option_map (closed_among past) (row_at path rows)
  at_closed path [] = refl
  at_closed path (row ∷ rows) =
      ap (λ q. first (cond (same_path path q) (closed_among past row ∷ at_path (finished_closed past rows)) (at_path (finished_closed past rows)))) (path_kept row) ∙ by (same_path path row.path) (at_closed path rows)
    where
      at_path : List Row → List Row
      at_path some = filter (λ (other : Row). same_path path other.path) some

      by : (b : Bool) → row_at path (finished_closed past rows) ≡ option_map (closed_among past) (row_at path rows)
          → first (cond b (closed_among past row ∷ at_path (finished_closed past rows)) (at_path (finished_closed past rows))) ≡ option_map (closed_among past) (first (cond b (row ∷ at_path rows) (at_path rows)))
      by true rest = refl
      by false rest = rest

  module _ (expiry : Expiry) where
    row_stays : (row : Row) (sought : Sought) → sought_by expiry row.file ≡ Some sought → is_some sought.block ≡ true → closed_among past row ≡ row
    row_stays row sought found recovered = ap (λ b. cond b (file_edited (with_state Closed) row) row) (by row.file found)
      where
        by : (file : Option FileRow) → sought_by expiry file ≡ Some sought → is_finished_among past file ≡ false
        by None e = absurd cc
        by (Some file) e = none_finished file (λ client. unfinished_sought expiry client file sought e recovered) past

    found_still : (at : Option Row) (sought : Sought) → sought_at expiry at ≡ Some sought → is_some sought.block ≡ true → sought_at expiry (option_map (closed_among past) at) ≡ Some sought
    found_still None sought found recovered = absurd cc
    found_still (Some row) sought found recovered = ap (λ (r : Row). sought_by expiry r.file) (row_stays row sought found recovered) ∙ found

    pub each_still : (rows : List Row) (entries : Entries) → AreFoundIn expiry rows entries → AllByRecursion IsToRecover entries → AreFoundIn expiry (finished_closed past rows) entries
    each_still rows [] all recovered = tt
    each_still rows (entry ∷ entries) all recovered =
        (ap (sought_at expiry) (at_closed entry.0 rows) ∙ found_still (row_at entry.0 rows) entry.1 all.0 recovered.0, each_still rows entries all.1 recovered.1)

  -- ---- how many each client has open

  module _ (client : List ℕ) (among : is_among past client ≡ true) where
    one_closed : (row : Row) → bit (opens client (closed_among past row)) + bit (is_finished_of client row.file) ≡ bit (opens client row)
    one_closed row = by (is_finished_among past row.file) refl
      where
        nothing : (n m : ℕ) → m ≡ 0 → n + m ≡ n
        nothing n m h = omega (arith, h)

        quiet_is : (b c : Bool) → c ≡ true → 0 + bit (b && c) ≡ bit b
        quiet_is true true h = refl
        quiet_is false true h = refl
        quiet_is b false h = absurd cc

        by_file : (file : Option FileRow) → is_finished_among past file ≡ true
            → bit (is_client client (holder_of_file (option_map (with_state Closed) file))) + bit (is_finished_of client file) ≡ bit (is_client client (holder_of_file file))
        by_file None h = refl
        by_file (Some file) h = quiet_is (is_client client (holder_of file.state)) (not (is_some (unfinished_block file.blocks))) (finished_is file past h).quiet

        by : (b : Bool) → is_finished_among past row.file ≡ b → bit (opens client (cond b (file_edited (with_state Closed) row) row)) + bit (is_finished_of client row.file) ≡ bit (opens client row)
        by true is = by_file row.file is
        by false is = nothing (bit (opens client row)) _ (ap bit (not_among client row.file past among is))

    closed_count : (rows : List Row) → count (opens client) (finished_closed past rows) + length (finished_files client rows) ≡ count (opens client) rows
    closed_count [] = refl
    closed_count (row ∷ rows) =
        total (bit (opens client (closed_among past row))) (bit (is_finished_of client row.file)) (bit (opens client row)) (count (opens client) (finished_closed past rows)) (length (finished_files client rows)) (count (opens client) rows) _ _ _
        (count_head (opens client) (closed_among past row) (finished_closed past rows)) (count_head (λ r. is_finished_of client r.file) row rows) (count_head (opens client) row rows) (one_closed row) (closed_count rows)
      where
        total : (a b c ra rb rc la lb lc : ℕ) → la ≡ a + ra → lb ≡ b + rb → lc ≡ c + rc → a + b ≡ c → ra + rb ≡ rc → la + lb ≡ lc
        total a b c ra rb rc la lb lc h i j k l = omega (arith, h, i, j, k, l)

  -- ---- those of all these clients

  module _ (rows : List Row) (files : List (List ℕ × ℕ)) (counted : (client : List ℕ) → count_of files client ≡ count (opens client) rows) where
    abbrev left : List Row
    left = finished_closed past rows

    abbrev AreAmong : List (List ℕ) → Type 0
    AreAmong clients = AllByRecursion (λ client. is_among past client ≡ true) clients

    left_of : (client : List ℕ) → is_among past client ≡ true → count (opens client) left + length (finished_files client rows) ≡ count_of files client
    left_of client among = closed_count client among rows ∙ sym (counted client)

    pub at_most_beside : (clients : List (List ℕ)) (numbers : List ℕ) → AreAmong clients → AreAtLeast rows clients numbers → counts clients left ≤ open_beside files clients numbers
    at_most_beside [] numbers among least = omega arith
    at_most_beside (client ∷ clients) [] among least = absurd least
    at_most_beside (client ∷ clients) (number ∷ numbers) among least =
        total _ (count (opens client) left) (counts clients left) (length (finished_files client rows)) (count_of files client) number (open_beside files clients numbers)
        (sum_by-cons (λ c. count (opens c) left) client clients) (left_of client among.0) least.0 (at_most_beside clients numbers among.1 least.1)
      where
        total : (all one others finished own number beside : ℕ) → all ≡ one + others → one + finished ≡ own → number ≤ finished → others ≤ beside → all ≤ (own - number) + beside
        total all one others finished own number beside h i j k = omega (arith, h, i, j, k)

    -- as many are left as without so many of each: none has more than so many
    pub no_more_finished : (clients : List (List ℕ)) (numbers : List ℕ) → AreAmong clients → AreAtLeast rows clients numbers → open_beside files clients numbers ≤ counts clients left
        → AreAtMost rows clients numbers
    no_more_finished [] numbers among least whole = tt
    no_more_finished (client ∷ clients) [] among least whole = least
    no_more_finished (client ∷ clients) (number ∷ numbers) among least whole =
        let made = sum_by-cons (λ c. count (opens c) left) client clients in
        let own = left_of client among.0 in
        let rest = at_most_beside clients numbers among.1 least.1 in (
          first_of_them _ (count (opens client) left) (counts clients left) (length (finished_files client rows)) (count_of files client) number (open_beside files clients numbers) made own least.0 rest whole,
          no_more_finished clients numbers among.1 least.1
              (others_of_them _ (count (opens client) left) (counts clients left) (length (finished_files client rows)) (count_of files client) number (open_beside files clients numbers) made own least.0 rest whole),
        )
      where
        first_of_them : (all one others finished own number beside : ℕ) → all ≡ one + others → one + finished ≡ own → number ≤ finished → others ≤ beside → (own - number) + beside ≤ all → finished ≤ number
        first_of_them all one others finished own number beside h i j k l = omega (arith, h, i, j, k, l)

        others_of_them : (all one others finished own number beside : ℕ) → all ≡ one + others → one + finished ≡ own → number ≤ finished → others ≤ beside → (own - number) + beside ≤ all → beside ≤ others
        others_of_them all one others finished own number beside h i j k l = omega (arith, h, i, j, k, l)

  -- ---- the recoveries that are overdue

  late_stays : (retry now : ℕ) (row : Row) → is_overdue_row retry now (closed_among past row) ≡ is_overdue_row retry now row
  late_stays retry now row = by (is_finished_among past row.file) refl
    where
      by_file : (file : Option FileRow) → is_finished_among past file ≡ true
          → is_overdue_row retry now (record row { file = option_map (with_state Closed) file }) ≡ is_overdue_row retry now (record row { file = file })
      by_file None h = refl
      by_file (Some file) h = by_state file.state (finished_is file past h).held
        where
          by_state : (state : FileState) → is_some (holder_of state) ≡ true → false ≡ is_some (sought_by_state (λ client. false) (λ begun. nat_lt retry (now - begun)) (unfinished_block file.blocks) state)
          by_state Closed k = refl
          by_state (Open holder) k = refl
          by_state (Recovering own stamp begun) k = absurd cc

      by : (b : Bool) → is_finished_among past row.file ≡ b → is_overdue_row retry now (cond b (file_edited (with_state Closed) row) row) ≡ is_overdue_row retry now row
      by true is = by_file row.file is
      by false is = refl

  pub late_count : (retry now : ℕ) (rows : List Row) → count (is_overdue_row retry now) (finished_closed past rows) ≡ count (is_overdue_row retry now) rows
  late_count retry now rows = count_map (is_overdue_row retry now) (closed_among past) (late_stays retry now) rows

  pub closed_namespace : (rows : List Row) → IsNamespace rows → IsNamespace (finished_closed past rows)
  closed_namespace rows namespace = edited_namespace (with_state Closed) (λ row. is_finished_among past row.file) rows namespace

-- each of the clients is one of them
more_among : (other : List ℕ) (past clients : List (List ℕ)) → AllByRecursion (λ client. is_among past client ≡ true) clients → AllByRecursion (λ client. is_among (other ∷ past) client ≡ true) clients
more_among other past [] all = tt
more_among other past (client ∷ clients) all = (or_right (same other client) (is_among past client) all.0, more_among other past clients all.1)

all_among : (past : List (List ℕ)) → AllByRecursion (λ client. is_among past client ≡ true) past
all_among [] = tt
all_among (client ∷ clients) = (or_left (same client client) (is_among clients client) (same_self client), more_among client clients clients (all_among clients))

-- ---- all

-- these entries are all that is left, and none of the clients has more finished files than so many
pub record AreKnown (expiry : Expiry) (rows : List Row) (entries : Entries) (numbers : List ℕ) : Type 0 where
  pub all : entries ≡ sought_entries expiry (finished_closed expiry.past rows)
  pub finished : AreAtMost rows expiry.past numbers

pub all_known : (last : List ℕ → Option ℕ) (past : List (List ℕ)) (now : ℕ) (rows : List Row) (writers : Writers) (blocks : Blocks) (entries : Entries) (numbers : List ℕ) (due number : ℕ)
    → IsNamespace rows → IsExact last rows writers → AreDue now rows blocks
    → due ≡ length (due_recoveries blocks now) → number ≡ length entries → AreAtLeast rows past numbers → open_beside writers.files past numbers + due ≡ number
    → IsStrictlySortedBy path_cmp (keys_of entries)
    → AreFoundIn (record { past = past; retry = blocks.retry; now = now }) rows entries → AllByRecursion IsToRecover entries
    → AreKnown (record { past = past; retry = blocks.retry; now = now }) rows entries numbers
all_known last past now rows writers blocks entries numbers due number namespace exact are_due due_is number_is least have sorted found recovered =
    let expiry : Expiry = record { past = past; retry = blocks.retry; now = now } in
    let behind : List Row = finished_closed past rows in
    let all = whole expiry behind entries (namespace_tests behind (closed_namespace past rows namespace)).ascending sorted (each_still past expiry rows entries found recovered) in
    let most = bounded expiry behind in
    let late = late_count past blocks.retry now rows in
    record {
      all = all.all
          (no_more (length (sought_entries expiry behind)) (counts past behind) (count (is_overdue_row blocks.retry now) behind) (count (is_overdue_row blocks.retry now) rows)
          (length (due_recoveries blocks now)) (open_beside writers.files past numbers) due number (length entries)
          most (at_most_beside past rows writers.files exact.files past numbers (all_among past) least) late are_due due_is number_is have);
      finished = no_more_finished past rows writers.files exact.files past numbers (all_among past) least
          (no_less (length (sought_entries expiry behind)) (counts past behind) (count (is_overdue_row blocks.retry now) behind) (count (is_overdue_row blocks.retry now) rows)
          (length (due_recoveries blocks now)) (open_beside writers.files past numbers) due number (length entries)
          all.no_more most late are_due due_is number_is have);
    }
  where
    no_more : (n c l m d o due number e : ℕ) → n ≤ c + l → c ≤ o → l ≡ m → m ≤ d → due ≡ d → number ≡ e → o + due ≡ number → n ≤ e
    no_more n c l m d o due number e h i j k p q r = omega (arith, h, i, j, k, p, q, r)

    no_less : (n c l m d o due number e : ℕ) → e ≤ n → n ≤ c + l → l ≡ m → m ≤ d → due ≡ d → number ≡ e → o + due ≡ number → o ≤ c
    no_less n c l m d o due number e h i j k p q r = omega (arith, h, i, j, k, p, q, r)

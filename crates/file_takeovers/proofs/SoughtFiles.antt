-- The files that a tick takes: those that are known, and that these are all where they are as many as there can be.
use Rattle.std.proofs.Common.{◌≡◌, ◌≤◌, ℕ, suc, ◌+◌, ◌-◌, Bool, true, false, ◌&&◌, ◌||◌, nat_lt, List, [], ◌∷◌, ◌++◌, filter, length, sum_by, Option, Some, None, Ordering, Less, Equal, Greater, is_eq, arith, refl, sym, ap, ◌∙◌, subst, cond}
use Rattle.std.proofs.lemmas.List.{append-nil}
use Rattle.std.proofs.lemmas.List.Sums.{sum_by-cons}
use Rattle.std.specs.BTreeMap.{insert_entry}
use Rattle.std.specs.List.{AllByRecursion, cons_option, list_all}
use Rattle.std.specs.List.Sorted.{IsStrictlySortedBy}
use Rattle.std.specs.Map.{keys_of, values_of}
use Rattle.std.specs.Option.{IfSome, is_some, option_map}
use Rattle.std.specs.Ordering.{is_lt, match_ordering, ordering_reverse}
use Rattle.hdfs_values.specs.Text.{same}
use Rattle.file_paths.specs.PathOrder.{path_cmp, same_path, paths_total}
use Rattle.file_states.specs.declared.state.FileState.{FileState}
use Rattle.file_states.specs.declared.state.FileState.TheVariants.{Closed, Open, Recovering}
use Rattle.namespace_rows.specs.declared.file_row.FileRow.{FileRow}
use Rattle.namespace_rows.specs.declared.row.Row.{Row}
use Rattle.namespace_rows.specs.First.{first}
use Rattle.namespace_rows.specs.Rows.{row_at}
use Rattle.namespace_rows.specs.Namespace.{is_ascending, is_before_all}
use Rattle.file_blocks.specs.Blocks.{unfinished_block}
use Rattle.namespace_rows.specs.Files.{holder_of, holder_of_file, is_client}
use Rattle.namespace_rows.proofs.PathOrders.{same_path_is, less_is}
use Rattle.namespace_rows.proofs.Tests.{both, and}
use Rattle.namespace_rows.specs.Changes.{rows_under}
use Rattle.flat_rows.specs.FileOutcome.{holder_at}
use Rattle.flat_rows.specs.declared.takeover.Sought.{Sought}
use Rattle.flat_rows.specs.Takeover.{sought_by_state}
use Rattle.history.proofs.Counting.{count, bit, count_head}
use Rattle.history.proofs.OpenFiles.{opens}
use Rattle.file_takeovers.specs.Found.{file_in}
use Rattle.file_takeovers.specs.Expiry.{Expiry, is_among, sought_by, sought_at, files_sought, with_path, sought_entries, is_overdue_row}

-- entries by their paths
abbrev pub Entries : Type 0
Entries = List (List (List ℕ) × Sought)

pub one_sought : (x y : Sought) → Some x ≡ Some y → x ≡ y
one_sought x y e = cc

pub not_same : (path q : List (List ℕ)) → path_cmp path q ≡ Less → same_path q path ≡ false
not_same path q low = ap is_eq (paths_total.antisymm q path ∙ ap ordering_reverse low)

pub path_itself : (path : List (List ℕ)) → same_path path path ≡ true
path_itself path = tied (path_cmp path path) (paths_total.antisymm path path)
  where
    tied : (o : Ordering) → o ≡ ordering_reverse o → is_eq o ≡ true
    tied Less e = cc
    tied Equal e = refl
    tied Greater e = cc

pub lows_after : (a b : List (List ℕ)) → path_cmp a b ≡ Less → (paths : List (List (List ℕ))) → AllByRecursion (λ q. path_cmp b q ≡ Less) paths → AllByRecursion (λ q. path_cmp a q ≡ Less) paths
lows_after a b low [] lows = tt
lows_after a b low (path ∷ paths) lows = (paths_total.trans a b path low lows.0, lows_after a b low paths lows.1)

abbrev pub own_entry : Row → Option Sought → Option (List (List ℕ) × Sought)
own_entry row found = option_map (with_path row) found

-- ---- one file

module _ (expiry : Expiry) where
  abbrev overdue : ℕ → Bool
  overdue begun = nat_lt expiry.retry (expiry.now - begun)

  -- a client whose lease is past the limit has it open
  pub held_is : (client holder : List ℕ) (file : FileRow) (sought : Sought) → file.state ≡ Open holder → client ≡ holder → sought ≡ record { holder = Some holder; block = unfinished_block file.blocks } → is_among expiry.past client ≡ true
      → sought_by expiry (Some file) ≡ Some sought
  held_is client holder file sought state is made among =
      ap (sought_by_state (is_among expiry.past) overdue (unfinished_block file.blocks)) state
      ∙ (ap (λ b. cond b (Some (record { holder = Some holder; block = unfinished_block file.blocks })) None) (sym (ap (is_among expiry.past) is) ∙ among) ∙ ap (λ s. Some s) (sym made))

  -- its recovery is overdue
  pub overdue_is : (block own stamp begun : ℕ) (file : FileRow) → file.state ≡ Recovering own stamp begun → own ≡ block → overdue begun ≡ true
      → sought_by expiry (Some file) ≡ Some (record { holder = None; block = Some block })
  overdue_is block own stamp begun file state is late =
      ap (sought_by_state (is_among expiry.past) overdue (unfinished_block file.blocks)) state
      ∙ (ap (λ b. cond b (Some (record { holder = None; block = Some own })) None) late ∙ ap (λ n. Some (record { holder = None; block = Some n })) is)

  -- who has a file open that is taken
  pub holder_sought : (file : Option FileRow) (sought : Sought) → sought_by expiry file ≡ Some sought → holder_of_file file ≡ sought.holder
  holder_sought None sought h = absurd cc
  holder_sought (Some file) sought h = by_state file.state h
    where
      by_state : (state : FileState) → sought_by_state (is_among expiry.past) overdue (unfinished_block file.blocks) state ≡ Some sought → holder_of state ≡ sought.holder
      by_state Closed e = absurd cc
      by_state (Open holder) e = by (is_among expiry.past holder) e
        where
          by : (b : Bool) → cond b (Some (record { holder = Some holder; block = unfinished_block file.blocks })) None ≡ Some sought → Some holder ≡ sought.holder
          by true k = ap (λ (s : Sought). s.holder) (one_sought (record { holder = Some holder; block = unfinished_block file.blocks }) sought k)
          by false k = absurd cc
      by_state (Recovering own stamp begun) e = by (overdue begun) e
        where
          by : (b : Bool) → cond b (Some (record { holder = None; block = Some own })) None ≡ Some sought → None ≡ sought.holder
          by true k = ap (λ (s : Sought). s.holder) (one_sought (record { holder = None; block = Some own }) sought k)
          by false k = absurd cc

  pub holder_found : (at : Option Row) (sought : Sought) → sought_at expiry at ≡ Some sought → holder_at at ≡ sought.holder
  holder_found None sought h = absurd cc
  holder_found (Some row) sought h = holder_sought row.file sought h

  -- ---- some of the files

  abbrev pub IsFoundIn : List Row → List (List ℕ) × Sought → Type 0
  IsFoundIn rows entry = sought_at expiry (row_at entry.0 rows) ≡ Some entry.1

  abbrev pub AreFoundIn : List Row → Entries → Type 0
  AreFoundIn rows entries = AllByRecursion (IsFoundIn rows) entries

  pub found_more : (rows : List Row) (path : List (List ℕ)) (sought : Sought) (entries : Entries) → sought_at expiry (row_at path rows) ≡ Some sought → AreFoundIn rows entries → AreFoundIn rows (insert_entry path_cmp entries path sought)
  found_more rows path sought [] here all = (here, tt)
  found_more rows path sought (entry ∷ entries) here all = by (path_cmp path entry.0) refl (found_more rows path sought entries here all.1)
    where
      by : (o : Ordering) → path_cmp path entry.0 ≡ o → AreFoundIn rows (insert_entry path_cmp entries path sought)
          → AreFoundIn rows (match_ordering o ((path, sought) ∷ entry ∷ entries) ((entry.0, sought) ∷ entries) (entry ∷ insert_entry path_cmp entries path sought))
      by Less e more = (here, all)
      by Equal e more = (ap (λ q. sought_at expiry (row_at q rows)) (sym (same_path_is path entry.0 (ap is_eq e))) ∙ here, all.1)
      by Greater e more = (all.0, more)

  pub held_each : (rows : List Row) (entries : Entries) → AreFoundIn rows entries → AllByRecursion (λ (entry : List (List ℕ) × Sought). holder_at (row_at entry.0 rows) ≡ entry.1.holder) entries
  held_each rows [] all = tt
  held_each rows (entry ∷ entries) all = (holder_found (row_at entry.0 rows) entry.1 all.0, held_each rows entries all.1)

  -- ---- the first row, and those behind it

  found_at_none : (sought : Sought) → sought_at expiry None ≡ Some sought → ⊥
  found_at_none sought h = cc

  found_behind : (row : Row) (rows : List Row) (entry : List (List ℕ) × Sought) → same_path entry.0 row.path ≡ false → IsFoundIn (row ∷ rows) entry → IsFoundIn rows entry
  found_behind row rows entry apart found =
      sym (ap (λ b. sought_at expiry (first (cond b (row ∷ filter (λ other. same_path entry.0 other.path) rows) (filter (λ other. same_path entry.0 other.path) rows)))) apart) ∙ found

  found_before : (row : Row) (rows : List Row) (entry : List (List ℕ) × Sought) → same_path entry.0 row.path ≡ false → IsFoundIn rows entry → IsFoundIn (row ∷ rows) entry
  found_before row rows entry apart found =
      ap (λ b. sought_at expiry (first (cond b (row ∷ filter (λ other. same_path entry.0 other.path) rows) (filter (λ other. same_path entry.0 other.path) rows)))) apart ∙ found

  -- what is found behind a row has a greater path
  behind_less : (row : Row) (rows : List Row) (path : List (List ℕ)) (sought : Sought) → is_before_all row rows ≡ true → sought_at expiry (row_at path rows) ≡ Some sought → path_cmp row.path path ≡ Less
  behind_less row [] path sought low found = absurd (found_at_none sought found)
  behind_less row (next ∷ rows) path sought low found =
      let lows = both (is_lt (path_cmp row.path next.path)) (is_before_all row rows) low in
      by (same_path path next.path) refl found lows.0 (behind_less row rows path sought lows.1)
    where
      by : (b : Bool) → same_path path next.path ≡ b
          → sought_at expiry (first (cond b (next ∷ filter (λ other. same_path path other.path) rows) (filter (λ other. same_path path other.path) rows))) ≡ Some sought
          → is_lt (path_cmp row.path next.path) ≡ true → (sought_at expiry (row_at path rows) ≡ Some sought → path_cmp row.path path ≡ Less) → path_cmp row.path path ≡ Less
      by true at f less rest = ap (path_cmp row.path) (same_path_is path next.path at) ∙ less_is _ less
      by false at f less rest = rest f

  all_behind : (row : Row) (rows : List Row) (entries : Entries) → AllByRecursion (λ q. path_cmp row.path q ≡ Less) (keys_of entries) → AreFoundIn (row ∷ rows) entries → AreFoundIn rows entries
  all_behind row rows [] lows all = tt
  all_behind row rows (entry ∷ entries) lows all = (found_behind row rows entry (not_same row.path entry.0 lows.0) all.0, all_behind row rows entries lows.1 all.1)

  all_before : (row : Row) (rows : List Row) (entries : Entries) → is_before_all row rows ≡ true → AreFoundIn rows entries → AreFoundIn (row ∷ rows) entries
  all_before row rows [] low all = tt
  all_before row rows (entry ∷ entries) low all =
      (found_before row rows entry (not_same row.path entry.0 (behind_less row rows entry.0 entry.1 low all.0)) all.0, all_before row rows entries low all.1)

  -- ---- all of them

  pub all_found : (rows : List Row) → is_ascending rows ≡ true → AreFoundIn rows (sought_entries expiry rows)
  all_found [] up = tt
  all_found (row ∷ rows) up =
      let ups = both (is_before_all row rows) (is_ascending rows) up in
      by (sought_by expiry row.file) refl (all_before row rows (sought_entries expiry rows) ups.0 (all_found rows ups.1))
    where
      here : (sought : Sought) → sought_by expiry row.file ≡ Some sought → IsFoundIn (row ∷ rows) (row.path, sought)
      here sought e =
          ap (λ b. sought_at expiry (first (cond b (row ∷ filter (λ other. same_path row.path other.path) rows) (filter (λ other. same_path row.path other.path) rows)))) (path_itself row.path) ∙ e

      by : (found : Option Sought) → sought_by expiry row.file ≡ found → AreFoundIn (row ∷ rows) (sought_entries expiry rows) → AreFoundIn (row ∷ rows) (cons_option (own_entry row found) (sought_entries expiry rows))
      by None e rest = rest
      by (Some sought) e rest = (here sought e, rest)

  -- these entries are no more than the files that are taken; where they are as many, they are all
  pub record IsWhole (rows : List Row) (entries : Entries) : Type 0 where
    pub no_more : length entries ≤ length (sought_entries expiry rows)
    pub all : length (sought_entries expiry rows) ≤ length entries → entries ≡ sought_entries expiry rows

  passed_over : (row : Row) (rows : List Row) (found : Option Sought) (entries : Entries) → IsWhole rows entries → (length (cons_option (own_entry row found) (sought_entries expiry rows)) ≤ length entries → entries ≡ cons_option (own_entry row found) (sought_entries expiry rows))
      × (length entries ≤ length (cons_option (own_entry row found) (sought_entries expiry rows)))
  passed_over row rows None entries rest = (rest.all, rest.no_more)
  passed_over row rows (Some sought) entries rest =
      ((λ h. absurd (never (length entries) (length (sought_entries expiry rows)) h rest.no_more)), later (length entries) (length (sought_entries expiry rows)) rest.no_more)
    where
      never : (n m : ℕ) → suc m ≤ n → n ≤ m → ⊥
      never n m h k = omega (arith, h, k)

      later : (n m : ℕ) → n ≤ m → n ≤ suc m
      later n m h = omega (arith, h)

  nothing : (entries : Entries) → length entries ≤ 0 → [] ≡ entries
  nothing [] h = refl
  nothing (entry ∷ entries) h = absurd (none (length entries) h)
    where
      none : (n : ℕ) → suc n ≤ 0 → ⊥
      none n h = omega (arith, h)

  pub whole : (rows : List Row) (entries : Entries) → is_ascending rows ≡ true → IsStrictlySortedBy path_cmp (keys_of entries) → AreFoundIn rows entries → IsWhole rows entries
  unfolding IsStrictlySortedBy
  whole [] [] up sorted all = record { no_more = omega arith; all = λ h. refl }
  whole [] (entry ∷ entries) up sorted all = absurd (found_at_none entry.1 all.0)
  whole (row ∷ rows) [] up sorted all = record { no_more = omega arith; all = nothing (sought_entries expiry (row ∷ rows)) }
  whole (row ∷ rows) (entry ∷ entries) up sorted all =
      let ups = both (is_before_all row rows) (is_ascending rows) up in
      by (same_path entry.0 row.path) refl ups.0 (λ es s a. whole rows es ups.1 s a)
    where
      at_row : same_path entry.0 row.path ≡ true → sought_by expiry row.file ≡ Some entry.1
      at_row at =
          sym (ap (λ b. sought_at expiry (first (cond b (row ∷ filter (λ other. same_path entry.0 other.path) rows) (filter (λ other. same_path entry.0 other.path) rows)))) at) ∙ all.0

      by : (b : Bool) → same_path entry.0 row.path ≡ b → is_before_all row rows ≡ true → ((es : Entries) → IsStrictlySortedBy path_cmp (keys_of es) → AreFoundIn rows es → IsWhole rows es) → IsWhole (row ∷ rows) (entry ∷ entries)
      by false at low rest =
          let here = found_behind row rows entry at all.0 in
          let less = behind_less row rows entry.0 entry.1 low here in
          let parts = passed_over row rows (sought_by expiry row.file) (entry ∷ entries) (rest (entry ∷ entries) sorted (here, all_behind row rows entries (lows_after row.path entry.0 less (keys_of entries) sorted.0) all.1)) in
          record { no_more = parts.1; all = parts.0 }
      by true at low rest =
          let is : entry.0 ≡ row.path = same_path_is entry.0 row.path at in
          let lows = subst (λ q. AllByRecursion (λ p. path_cmp q p ≡ Less) (keys_of entries)) is sorted.0 in
          let behind = rest entries sorted.1 (all_behind row rows entries lows all.1) in
          let made : sought_entries expiry (row ∷ rows) ≡ (row.path, entry.1) ∷ sought_entries expiry rows = ap (λ found. cons_option (own_entry row found) (sought_entries expiry rows)) (at_row at) in
          record {
            no_more = subst (λ l. length (entry ∷ entries) ≤ length l) (sym made) (more (length entries) (length (sought_entries expiry rows)) behind.no_more);
            all = λ h. ap (λ q. (q, entry.1) ∷ entries) is ∙ (ap (λ l. (row.path, entry.1) ∷ l) (behind.all (fewer (length (sought_entries expiry rows)) (length entries) (subst (λ l. length l ≤ length (entry ∷ entries)) made h))) ∙ sym made);
          }
        where
          more : (n m : ℕ) → n ≤ m → suc n ≤ suc m
          more n m h = omega (arith, h)

          fewer : (n m : ℕ) → suc n ≤ suc m → n ≤ m
          fewer n m h = omega (arith, h)

-- the files without their paths
pub values_sought : (expiry : Expiry) (rows : List Row) → values_of (sought_entries expiry rows) ≡ files_sought expiry rows
values_sought expiry [] = refl
values_sought expiry (row ∷ rows) = by (sought_by expiry row.file) (values_sought expiry rows)
  where
    by : (found : Option Sought) → values_of (sought_entries expiry rows) ≡ files_sought expiry rows → values_of (cons_option (own_entry row found) (sought_entries expiry rows)) ≡ cons_option found (files_sought expiry rows)
    by None rest = rest
    by (Some sought) rest = ap (λ l. sought ∷ l) rest

-- ---- no more files are taken than these clients have open, and recoveries are overdue

abbrev pub counts : List (List ℕ) → List Row → ℕ
counts clients rows = sum_by (λ client. count (opens client) rows) clients

abbrev pub bits : List (List ℕ) → Row → ℕ
bits clients row = sum_by (λ client. bit (opens client row)) clients

split : (clients : List (List ℕ)) (row : Row) (rows : List Row) → counts clients (row ∷ rows) ≡ bits clients row + counts clients rows
split [] row rows = refl
split (client ∷ clients) row rows =
    total _ _ (bit (opens client row)) (count (opens client) rows) _ _ _ _ _
    (sum_by-cons (λ c. count (opens c) (row ∷ rows)) client clients) (count_head (opens client) row rows) (split clients row rows) (sum_by-cons (λ c. bit (opens c row)) client clients) (sum_by-cons (λ c. count (opens c) rows) client clients)
  where
    total : (all head b c rest bs cs ones rows : ℕ) → all ≡ head + rest → head ≡ b + c → rest ≡ bs + cs → ones ≡ b + bs → rows ≡ c + cs → all ≡ ones + rows
    total all head b c rest bs cs ones rows h i j k l = omega (arith, h, i, j, k, l)

holds_among : (row : Row) (who : List ℕ) → holder_of_file row.file ≡ Some who → (clients : List (List ℕ)) → is_among clients who ≡ true → 1 ≤ bits clients row
holds_among row who held [] k = absurd cc
holds_among row who held (client ∷ clients) k = either (same client who) refl k (holds_among row who held clients)
  where
    here : (b : ℕ) (rest all : ℕ) → all ≡ b + rest → b ≡ 1 → 1 ≤ all
    here b rest all h i = omega (arith, h, i)

    later : (b rest all : ℕ) → all ≡ b + rest → 1 ≤ rest → 1 ≤ all
    later b rest all h i = omega (arith, h, i)

    either : (b : Bool) → same client who ≡ b → (b || is_among clients who) ≡ true → (is_among clients who ≡ true → 1 ≤ bits clients row) → 1 ≤ bits (client ∷ clients) row
    either true at k rest = here (bit (opens client row)) (bits clients row) _ (sum_by-cons (λ c. bit (opens c row)) client clients) (ap (λ h. bit (is_client client h)) held ∙ ap bit at)
    either false at k rest = later (bit (opens client row)) (bits clients row) _ (sum_by-cons (λ c. bit (opens c row)) client clients) (rest k)

module _ (expiry : Expiry) where
  abbrev late : Row → Bool
  late = is_overdue_row expiry.retry expiry.now

  one_file : (row : Row) → bit (is_some (sought_by expiry row.file)) ≤ bits expiry.past row + bit (late row)
  one_file row = by row.file refl
    where
      least : (n m : ℕ) → 0 ≤ n + m
      least n m = omega arith

      left : (n m : ℕ) → 1 ≤ n → 1 ≤ n + m
      left n m h = omega (arith, h)

      right : (n : ℕ) → 1 ≤ n + 1
      right n = omega arith

      by : (file : Option FileRow) → row.file ≡ file → bit (is_some (sought_by expiry file)) ≤ bits expiry.past row + bit (is_overdue_row expiry.retry expiry.now (record row { file = file }))
      by None is = least (bits expiry.past row) 0
      by (Some file) is = by_state file.state refl
        where
          by_state : (state : FileState) → file.state ≡ state
              → bit (is_some (sought_by_state (is_among expiry.past) (overdue expiry) (unfinished_block file.blocks) state)) ≤ bits expiry.past row + bit (is_some (sought_by_state (λ client. false) (overdue expiry) (unfinished_block file.blocks) state))
          by_state Closed e = least (bits expiry.past row) 0
          by_state (Open holder) e = by_among (is_among expiry.past holder) refl
            where
              by_among : (b : Bool) → is_among expiry.past holder ≡ b → bit (is_some {T = Sought} (cond b (Some (record { holder = Some holder; block = unfinished_block file.blocks })) None)) ≤ bits expiry.past row + 0
              by_among true k = left (bits expiry.past row) 0 (holds_among row holder (ap holder_of_file is ∙ ap holder_of e) expiry.past k)
              by_among false k = least (bits expiry.past row) 0
          by_state (Recovering own stamp begun) e = by_late (overdue expiry begun)
            where
              by_late : (b : Bool) → bit (is_some {T = Sought} (cond b (Some (record { holder = None; block = Some own })) None)) ≤ bits expiry.past row + bit (is_some {T = Sought} (cond b (Some (record { holder = None; block = Some own })) None))
              by_late true = right (bits expiry.past row)
              by_late false = least (bits expiry.past row) 0

  length_more : (row : Row) (rows : List Row) → length (sought_entries expiry (row ∷ rows)) ≡ bit (is_some (sought_by expiry row.file)) + length (sought_entries expiry rows)
  length_more row rows = by (sought_by expiry row.file)
    where
      zero_more : (n : ℕ) → n ≡ 0 + n
      zero_more n = omega arith

      one_more : (n : ℕ) → suc n ≡ 1 + n
      one_more n = omega arith

      by : (found : Option Sought) → length (cons_option (own_entry row found) (sought_entries expiry rows)) ≡ bit (is_some found) + length (sought_entries expiry rows)
      by None = zero_more (length (sought_entries expiry rows))
      by (Some sought) = one_more (length (sought_entries expiry rows))

  pub bounded : (rows : List Row) → length (sought_entries expiry rows) ≤ counts expiry.past rows + count late rows
  bounded [] = omega arith
  bounded (row ∷ rows) =
      total _ (bit (is_some (sought_by expiry row.file))) (length (sought_entries expiry rows)) _ (bits expiry.past row) (counts expiry.past rows) _ (bit (late row)) (count late rows)
      (length_more row rows) (split expiry.past row rows) (count_head late row rows) (one_file row) (bounded rows)
    where
      total : (n one rest c b cs l d ds : ℕ) → n ≡ one + rest → c ≡ b + cs → l ≡ d + ds → one ≤ b + d → rest ≤ cs + ds → n ≤ c + l
      total n one rest c b cs l d ds h i j k m = omega (arith, h, i, j, k, m)

-- ---- one row after another

-- what stands before a row has a lesser path
pub ascending_front : (front : List Row) (row : Row) → is_ascending (front ++ row ∷ []) ≡ true → list_all (λ other. is_lt (path_cmp other.path row.path)) front ≡ true
ascending_front [] row up = refl
ascending_front (next ∷ front) row up =
    let ups = both (is_before_all next (front ++ row ∷ [])) (is_ascending (front ++ row ∷ [])) up in
    ap (λ b. b && list_all (λ other. is_lt (path_cmp other.path row.path)) front) (last_of front ups.0) ∙ ascending_front front row ups.1
  where
    last_of : (front : List Row) → is_before_all next (front ++ row ∷ []) ≡ true → is_lt (path_cmp next.path row.path) ≡ true
    last_of [] h = (both (is_lt (path_cmp next.path row.path)) true h).0
    last_of (other ∷ others) h = last_of others (both (is_lt (path_cmp next.path other.path)) (is_before_all next (others ++ row ∷ [])) h).1

module _ (expiry : Expiry) (row : Row) where
  greater : (front : List Row) → list_all (λ other. is_lt (path_cmp other.path row.path)) front ≡ true → AllByRecursion (λ q. path_cmp row.path q ≡ Greater) (keys_of (sought_entries expiry front))
  greater [] lows = tt
  greater (next ∷ front) lows =
      let parts = both (is_lt (path_cmp next.path row.path)) (list_all (λ other. is_lt (path_cmp other.path row.path)) front) lows in
      by (sought_by expiry next.file) (paths_total.antisymm row.path next.path ∙ ap ordering_reverse (less_is _ parts.0)) (greater front parts.1)
    where
      by : (found : Option Sought) → path_cmp row.path next.path ≡ Greater → AllByRecursion (λ q. path_cmp row.path q ≡ Greater) (keys_of (sought_entries expiry front))
          → AllByRecursion (λ q. path_cmp row.path q ≡ Greater) (keys_of (cons_option (own_entry next found) (sought_entries expiry front)))
      by None here rest = rest
      by (Some sought) here rest = (here, rest)

  at_end : (entries : Entries) (sought : Sought) → AllByRecursion (λ q. path_cmp row.path q ≡ Greater) (keys_of entries) → insert_entry path_cmp entries row.path sought ≡ entries ++ (row.path, sought) ∷ []
  at_end [] sought all = refl
  at_end (entry ∷ entries) sought all =
      ap (λ o. match_ordering o ((row.path, sought) ∷ entry ∷ entries) ((entry.0, sought) ∷ entries) (entry ∷ insert_entry path_cmp entries row.path sought)) all.0 ∙ ap (λ l. entry ∷ l) (at_end entries sought all.1)

  behind_front : (front : List Row) → sought_entries expiry (front ++ row ∷ []) ≡ sought_entries expiry front ++ cons_option (own_entry row (sought_by expiry row.file)) []
  behind_front [] = refl
  behind_front (next ∷ front) = by (sought_by expiry next.file) (behind_front front)
    where
      by : (found : Option Sought) → sought_entries expiry (front ++ row ∷ []) ≡ sought_entries expiry front ++ cons_option (own_entry row (sought_by expiry row.file)) []
          → cons_option (own_entry next found) (sought_entries expiry (front ++ row ∷ [])) ≡ cons_option (own_entry next found) (sought_entries expiry front) ++ cons_option (own_entry row (sought_by expiry row.file)) []
      by None rest = rest
      by (Some sought) rest = ap (λ l. (next.path, sought) ∷ l) rest

  -- a file that isn't taken is left out
  pub row_left_out : (front : List Row) (entries : Entries) → sought_by expiry row.file ≡ None → entries ≡ sought_entries expiry front → entries ≡ sought_entries expiry (front ++ row ∷ [])
  row_left_out front entries none is =
      is ∙ (sym (append-nil (sought_entries expiry front)) ∙ (ap (λ found. sought_entries expiry front ++ cons_option (own_entry row found) []) (sym none) ∙ sym (behind_front front)))

  -- one that is taken stands at the end
  pub row_added : (front : List Row) (old new : Entries) (path : List (List ℕ)) (sought : Sought) → is_ascending (front ++ row ∷ []) ≡ true → path ≡ row.path → sought_by expiry row.file ≡ Some sought → new ≡ insert_entry path_cmp old path sought
      → old ≡ sought_entries expiry front → new ≡ sought_entries expiry (front ++ row ∷ [])
  row_added front old new path sought up path_is found put is =
      put
      ∙ (ap (λ q. insert_entry path_cmp old q sought) path_is
      ∙ (ap (λ es. insert_entry path_cmp es row.path sought) is
      ∙ (at_end (sought_entries expiry front) sought (greater front (ascending_front front row up))
      ∙ (ap (λ some. sought_entries expiry front ++ cons_option (own_entry row some) []) (sym found) ∙ sym (behind_front front)))))

-- the first rows of those that ascend do so too
pub ascending_take : (front rest : List Row) → is_ascending (front ++ rest) ≡ true → is_ascending front ≡ true
ascending_take [] rest up = refl
ascending_take (row ∷ front) rest up =
    let ups = both (is_before_all row (front ++ rest)) (is_ascending (front ++ rest)) up in and (is_before_all row front) (is_ascending front) (before_front front rest ups.0) (ascending_take front rest ups.1)
  where
    before_front : (front rest : List Row) → is_before_all row (front ++ rest) ≡ true → is_before_all row front ≡ true
    before_front [] rest h = refl
    before_front (next ∷ front) rest h =
        let hs = both (is_lt (path_cmp row.path next.path)) (is_before_all row (front ++ rest)) h in and (is_lt (path_cmp row.path next.path)) (is_before_all row front) hs.0 (before_front front rest hs.1)

-- all rows are beneath the root
pub rows_of_root : (rows : List Row) → rows_under [] rows ≡ rows
rows_of_root [] = refl
rows_of_root (row ∷ rows) = ap (λ l. row ∷ l) (rows_of_root rows)

-- what is found of a file is found at its path
pub found_there : (expiry : Expiry) (path : List (List ℕ)) (rows : List Row) (file : FileRow) (found : Option Sought) → file_in (row_at path rows) ≡ Some file → IfSome found (λ sought. sought_by expiry (Some file) ≡ Some sought)
    → IfSome found (λ sought. sought_at expiry (row_at path rows) ≡ Some sought)
found_there expiry path rows file None at is = tt
found_there expiry path rows file (Some sought) at is = ap (sought_by expiry) at ∙ is

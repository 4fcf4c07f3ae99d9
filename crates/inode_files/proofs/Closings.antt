-- Files that a client has open and whose last block isn't unfinished, counted and closed by their places.
use Rattle.std.proofs.Common.{◌≡◌, ℕ, ◌+◌, ◌≤◌, ◌==◌, Bool, true, false, true≢false, ◌&&◌, ◌||◌, List, [], ◌∷◌, length, refl, sym, ap, ◌∙◌, nat_lt, if◌then◌else◌, is_some, Option, Some, None, arith, eq-eqb, eqb-true}
use Rattle.std.proofs.lemmas.Bool.{lt-ltb, le-ltb, ltb-true}
use Rattle.std.specs.Option.{option_map}
use Rattle.slab.specs.Slab.{Slab, get, Updates}
use Rattle.file_states.specs.declared.state.FileState.TheVariants.{Closed}
use Rattle.namespace_rows.specs.declared.file_row.FileRow.{FileRow}
use Rattle.namespace_rows.specs.declared.row.Row.{Row}
use Rattle.namespace_rows.specs.Files.{with_state}
use Rattle.namespace_rows.specs.Changes.{with_file, file_edited}
use Rattle.flat_rows.proofs.Holders.{bit, tally, tally_cons}
use Rattle.inode_nodes.specs.Node.{Node, flatten, rows, under}
use Rattle.inode_nodes.proofs.Filters.{Entries}
use Rattle.inode_visits.proofs.Visits.{any_here, any_next}
use Rattle.file_table.specs.Place.{place_in}
use Rattle.file_table.specs.Seen.{file_held, seen, seen_rows}
use Rattle.file_table.specs.Kept.{is_at_place, rows_at_place, are_at_place, AreKept}
use Rattle.file_table.specs.Finished.{is_finished_for, is_finished_of, closed_for, finished_files, with_finished_closed}

apart : (place k : ℕ) → (k == place) ≡ false → k ≡ place → ⊥
apart place k e same = true≢false (sym (eq-eqb k place same) ∙ e)

module _ (client : List ℕ) where
  abbrev closed_slot : Option FileRow → Option FileRow
  closed_slot slot = option_map (closed_for client) slot

  abbrev is_finished_row : Row → Bool
  is_finished_row row = is_finished_of client row.file

  -- what is closed isn't finished any more
  settled : (file : FileRow) → is_finished_for client (closed_for client file) ≡ false
  settled file = by (is_finished_for client file) refl
    where
      by : (b : Bool) → is_finished_for client file ≡ b → is_finished_for client (if b then with_state Closed file else file) ≡ false
      by true e = refl
      by false e = e

  settled_slot : (slot : Option FileRow) → is_finished_of client (closed_slot slot) ≡ false
  settled_slot None = refl
  settled_slot (Some file) = settled file

  twice : (slot : Option FileRow) → closed_slot (closed_slot slot) ≡ closed_slot slot
  twice None = refl
  twice (Some file) = ap (λ b. Some (if b then with_state Closed (closed_for client file) else closed_for client file)) (settled file)

  -- some of such files were closed, and nothing else has changed
  abbrev pub Closes : Slab FileRow → Slab FileRow → Type 0
  Closes old new = (k : ℕ) → closed_slot (get new k) ≡ closed_slot (get old k)

  pub closes_at : (old new : Slab FileRow) (place : ℕ) → Updates old new place (closed_slot (get old place)) → Closes old new
  closes_at old new place updates k = by (k == place) refl
    where
      by : (b : Bool) → (k == place) ≡ b → closed_slot (get new k) ≡ closed_slot (get old k)
      by true e =
          let here : k ≡ place = eqb-true k place e in
          ap (λ p. closed_slot (get new p)) here ∙ ap closed_slot updates.changed ∙ twice (get old place) ∙ ap (λ p. closed_slot (get old p)) (sym here)
      by false e = ap closed_slot (updates.others k (apart place k e))

  module _ (old new : Slab FileRow) (closes : Closes old new) where
    same_some : (k : ℕ) → is_some (get new k) ≡ is_some (get old k)
    same_some k = sym (mapped (get new k)) ∙ ap is_some (closes k) ∙ mapped (get old k)
      where
        mapped : (slot : Option FileRow) → is_some (closed_slot slot) ≡ is_some slot
        mapped None = refl
        mapped (Some file) = refl

    pub kept_closed : (rows : List Row) → AreKept old rows → AreKept new rows
    kept_closed rows kept k = kept k ∙ ap (λ b. if b then 1 else 0) (sym (same_some k))

    pub rows_closed : (rows : List Row) → with_finished_closed client (seen_rows new rows) ≡ with_finished_closed client (seen_rows old rows)
    rows_closed [] = refl
    rows_closed (row ∷ rows) =
        ap (λ slot. with_file slot row ∷ with_finished_closed client (seen_rows new rows)) (held row.file)
        ∙ ap (λ others. file_edited (closed_for client) (seen old row) ∷ others) (rows_closed rows)
      where
        held : (file : Option FileRow) → closed_slot (file_held new file) ≡ closed_slot (file_held old file)
        held None = refl
        held (Some own) = closes (place_in own)

  -- one file is closed

  module _ (old new : Slab FileRow) (place : ℕ) (updates : Updates old new place (closed_slot (get old place))) where
    abbrev was : Bool
    was = is_finished_of client (get old place)

    abbrev is_closed : Row → Bool
    is_closed row = was && is_at_place place row.file

    row_counted : (file : Option FileRow) → bit (was && is_at_place place file) + bit (is_finished_of client (file_held new file)) ≡ bit (is_finished_of client (file_held old file))
    row_counted None = by was
      where
        by : (b : Bool) → bit (b && false) + 0 ≡ 0
        by true = omega arith
        by false = omega arith
    row_counted (Some own) = by (place_in own == place) refl
      where
        told : (b : Bool) → bit (b && true) ≡ bit b
        told true = refl
        told false = refl

        apart_told : (b : Bool) → bit (b && false) ≡ 0
        apart_told true = refl
        apart_told false = refl

        by : (here : Bool) → (place_in own == place) ≡ here → bit (was && here) + bit (is_finished_of client (get new (place_in own))) ≡ bit (is_finished_of client (get old (place_in own)))
        by true e =
            let at : place_in own ≡ place = eqb-true (place_in own) place e in
            let now : bit (is_finished_of client (get new (place_in own))) ≡ 0 =
            ap (λ p. bit (is_finished_of client (get new p))) at ∙ ap (λ slot. bit (is_finished_of client slot)) updates.changed ∙ ap bit (settled_slot (get old place)) in
            omega (arith, now, told was, ap (λ p. bit (is_finished_of client (get old p))) at)
        by false e = omega (arith, apart_told was, ap (λ slot. bit (is_finished_of client slot)) (updates.others (place_in own) (apart place (place_in own) e)))

    rows_counted : (rows : List Row) → tally is_closed rows + tally is_finished_row (seen_rows new rows) ≡ tally is_finished_row (seen_rows old rows)
    rows_counted [] = omega arith
    rows_counted (row ∷ rows) =
        omega (arith, tally_cons is_closed row rows, tally_cons is_finished_row (seen new row) (seen_rows new rows), tally_cons is_finished_row (seen old row) (seen_rows old rows), row_counted row.file, rows_counted rows)

  -- where the table has a file, one row tells the place
  bit_counted : (files : Slab FileRow) (place : ℕ) (rows : List Row) → AreKept files rows
      → tally (λ row. is_finished_of client (get files place) && is_at_place place row.file) rows ≡ bit (is_finished_of client (get files place))
  bit_counted files place rows kept = by (get files place) (kept place)
    where
      none : (all : List Row) → tally (λ row. false) all ≡ 0
      none [] = refl
      none (row ∷ all) = none all

      by_test : (b : Bool) → length (rows_at_place place rows) ≡ 1 → tally (λ row. b && is_at_place place row.file) rows ≡ bit b
      by_test true h = h
      by_test false h = none rows

      by : (slot : Option FileRow) → length (rows_at_place place rows) ≡ (if is_some slot then 1 else 0)
          → tally (λ row. is_finished_of client slot && is_at_place place row.file) rows ≡ bit (is_finished_of client slot)
      by None h = none rows
      by (Some file) h = by_test (is_finished_for client file) h

  pub count_closed : (old new : Slab FileRow) (place : ℕ) → Updates old new place (closed_slot (get old place)) → (rows : List Row) → AreKept old rows
      → bit (is_finished_of client (get old place)) + length (finished_files client (seen_rows new rows)) ≡ length (finished_files client (seen_rows old rows))
  count_closed old new place updates rows kept = ap (λ n. n + length (finished_files client (seen_rows new rows))) (sym (bit_counted old place rows kept)) ∙ rows_counted old new place updates rows

  -- one more is told where it was closed
  pub told_next : (first old new : Slab FileRow) (place : ℕ) (told : Bool) (closed after : ℕ) (rows : List Row) → told ≡ is_finished_of client (get old place) → Updates old new place (closed_slot (get old place))
      → after ≡ closed + bit told → Closes first old → AreKept first rows → closed + length (finished_files client (seen_rows old rows)) ≡ length (finished_files client (seen_rows first rows))
      → after + length (finished_files client (seen_rows new rows)) ≡ length (finished_files client (seen_rows first rows))
  told_next first old new place told closed after rows tells updates is closes kept count =
      omega (arith, is, ap bit tells, count_closed old new place updates rows (kept_closed first old closes rows kept), count)

  -- files at places that ascend, counted as far as a place

  abbrev is_below : ℕ → Option FileRow → Bool
  is_below least None = false
  is_below least (Some own) = nat_lt (place_in own) least

  abbrev pub is_counted : Slab FileRow → ℕ → Row → Bool
  is_counted files least row = is_finished_of client (file_held files row.file) && is_below least row.file

  module _ (files : Slab FileRow) where
    none_counted : (rows : List Row) → tally (is_counted files 0) rows ≡ 0
    none_counted [] = refl
    none_counted (row ∷ rows) = omega (arith, tally_cons (is_counted files 0) row rows, head row.file, none_counted rows)
      where
        no : (b : Bool) → bit (b && false) ≡ 0
        no true = refl
        no false = refl

        head : (file : Option FileRow) → bit (is_finished_of client (file_held files file) && is_below 0 file) ≡ 0
        head None = refl
        head (Some own) = ap (λ b. bit (is_finished_of client (get files (place_in own)) && b)) (le-ltb (place_in own) 0 (omega arith)) ∙ no (is_finished_of client (get files (place_in own)))

    pub counted_finished : (least : ℕ) (rows : List Row) → tally (is_counted files least) rows ≤ length (finished_files client (seen_rows files rows))
    counted_finished least [] = omega arith
    counted_finished least (row ∷ rows) =
        omega (
          arith,
          tally_cons (is_counted files least) row rows,
          tally_cons is_finished_row (seen files row) (seen_rows files rows),
          less (is_finished_of client (file_held files row.file)) (is_below least row.file),
          counted_finished least rows,
        )
      where
        less : (b d : Bool) → bit (b && d) ≤ bit b
        less true true = omega arith
        less true false = omega arith
        less false d = omega arith

    module _ (least place : ℕ) (above : least ≤ place) where
      abbrev told : Bool
      told = is_finished_of client (get files place)

      row_next : (file : Option FileRow) → bit (told && is_at_place place file) + bit (is_finished_of client (file_held files file) && is_below least file) ≤ bit (is_finished_of client (file_held files file) && is_below (place + 1) file)
      row_next None = by told
        where
          by : (b : Bool) → bit (b && false) + 0 ≤ 0
          by true = omega arith
          by false = omega arith
      row_next (Some own) = by (place_in own == place) refl
        where
          here_less : (b d low high : Bool) → d ≡ b → low ≡ false → high ≡ true → bit (b && true) + bit (d && low) ≤ bit (d && high)
          here_less b d low high same l h = rw (same, l, h) (at b)
            where
              at : (b : Bool) → bit (b && true) + bit (b && false) ≤ bit (b && true)
              at true = omega arith
              at false = omega arith

          apart_less : (b d low high : Bool) → (low ≡ true → high ≡ true) → bit (b && false) + bit (d && low) ≤ bit (d && high)
          apart_less true true true high h = omega (arith, ap bit (h refl))
          apart_less false true true high h = omega (arith, ap bit (h refl))
          apart_less true true false high h = omega arith
          apart_less false true false high h = omega arith
          apart_less true false low high h = omega arith
          apart_less false false low high h = omega arith

          by : (here : Bool) → (place_in own == place) ≡ here
              → bit (told && here) + bit (is_finished_of client (get files (place_in own)) && nat_lt (place_in own) least) ≤ bit (is_finished_of client (get files (place_in own)) && nat_lt (place_in own) (place + 1))
          by true e =
              let same : place_in own ≡ place = eqb-true (place_in own) place e in
              here_less told (is_finished_of client (get files (place_in own))) (nat_lt (place_in own) least) (nat_lt (place_in own) (place + 1)) (ap (λ p. is_finished_of client (get files p)) same)
              (le-ltb (place_in own) least (omega (arith, same))) (lt-ltb (place_in own) (place + 1) (omega (arith, same)))
          by false e =
              apart_less told (is_finished_of client (get files (place_in own))) (nat_lt (place_in own) least) (nat_lt (place_in own) (place + 1))
              (λ low. lt-ltb (place_in own) (place + 1) (omega (arith, ltb-true (place_in own) least low)))

      rows_next : (rows : List Row) → tally (λ row. told && is_at_place place row.file) rows + tally (is_counted files least) rows ≤ tally (is_counted files (place + 1)) rows
      rows_next [] = omega arith
      rows_next (row ∷ rows) =
          omega (arith, tally_cons (λ r. told && is_at_place place r.file) row rows, tally_cons (is_counted files least) row rows, tally_cons (is_counted files (place + 1)) row rows, row_next row.file, rows_next rows)

      pub count_next : (rows : List Row) → AreKept files rows → bit (is_finished_of client (get files place)) + tally (is_counted files least) rows ≤ tally (is_counted files (place + 1)) rows
      count_next rows kept = omega (arith, bit_counted files place rows kept, rows_next rows)

  -- files of entries that are closed one behind the other

  abbrev pub closed_where : Bool → Slab FileRow → ℕ → Option FileRow
  closed_where told files k = if told then closed_slot (get files k) else get files k

  module _ (k : ℕ) where
    at_place_under : (n : List ℕ) (row : Row) → is_at_place k (under n row).file ≡ is_at_place k row.file
    at_place_under n row = refl

    -- what is left once the rest is closed too
    pub closed_next : (it new : Entries) (n : List ℕ) (b : Node) (now after : Slab FileRow) (all : Option FileRow) → it ≡ (n, b) ∷ new → get after k ≡ closed_where (are_at_place k (rows b)) now k
        → closed_where (are_at_place k (flatten it)) now k ≡ all → closed_where (are_at_place k (flatten new)) after k ≡ all
    closed_next it new n b now after all is left h = by (are_at_place k (rows b)) (are_at_place k (flatten new)) refl refl left
      where
        test : Row → Bool
        test row = is_at_place k row.file

        by : (x y : Bool) → are_at_place k (rows b) ≡ x → are_at_place k (flatten new) ≡ y → get after k ≡ closed_where x now k → closed_where y after k ≡ all
        by true true e f g = ap closed_slot g ∙ twice (get now k) ∙ ap (λ c. closed_where c now k) (sym (any_here test at_place_under it new n b is e)) ∙ h
        by true false e f g = g ∙ ap (λ c. closed_where c now k) (sym (any_here test at_place_under it new n b is e)) ∙ h
        by false true e f g = ap closed_slot g ∙ ap (λ c. closed_where c now k) (sym f ∙ any_next test at_place_under it new n b is e) ∙ h
        by false false e f g = g ∙ ap (λ c. closed_where c now k) (sym f ∙ any_next test at_place_under it new n b is e) ∙ h

  module _ (old new : Slab FileRow) where
    -- all files of some rows are closed, and no other
    abbrev pub ClosesAll : List Row → Type 0
    ClosesAll all = (k : ℕ) → get new k ≡ closed_where (are_at_place k all) old k

    abbrev ClosesOf : List Row → Type 0
    ClosesOf all = (k : ℕ) → are_at_place k all ≡ true → get new k ≡ closed_slot (get old k)

    seen_closed_of : (all : List Row) → ClosesOf all → seen_rows new all ≡ with_finished_closed client (seen_rows old all)
    seen_closed_of [] closes = refl
    seen_closed_of (row ∷ all) closes = joined (held row.file refl) (seen_closed_of all (λ k told. closes k (behind k told)))
      where
        behind : (k : ℕ) → are_at_place k all ≡ true → are_at_place k (row ∷ all) ≡ true
        behind k told = by (is_at_place k row.file)
          where
            by : (b : Bool) → (b || are_at_place k all) ≡ true
            by true = refl
            by false = told

        held : (file : Option FileRow) → row.file ≡ file → file_held new file ≡ closed_slot (file_held old file)
        held None e = refl
        held (Some own) e =
            closes (place_in own) (ap (λ b. b || are_at_place (place_in own) all) (ap (is_at_place (place_in own)) e ∙ eq-eqb (place_in own) (place_in own) refl))

        joined : file_held new row.file ≡ closed_slot (file_held old row.file) → seen_rows new all ≡ with_finished_closed client (seen_rows old all)
            → seen_rows new (row ∷ all) ≡ with_finished_closed client (seen_rows old (row ∷ all))
        joined e f = ap (λ slot. with_file slot row ∷ seen_rows new all) e ∙ ap (λ others. file_edited (closed_for client) (seen old row) ∷ others) f

    pub seen_closed : (all : List Row) → ClosesAll all → seen_rows new all ≡ with_finished_closed client (seen_rows old all)
    seen_closed all closes = seen_closed_of all (λ k told. closes k ∙ ap (λ b. closed_where b old k) told)

    pub kept_all : (all : List Row) → ClosesAll all → AreKept old all → AreKept new all
    kept_all all closes = kept_closed old new (λ k. ap closed_slot (closes k) ∙ by k (are_at_place k all)) all
      where
        by : (k : ℕ) (b : Bool) → closed_slot (closed_where b old k) ≡ closed_slot (get old k)
        by k true = twice (get old k)
        by k false = refl

  -- what was closed so far, where the rest of it is still to be closed
  pub closes_left : (old new : Slab FileRow) (left all : List Row) → ((k : ℕ) → closed_where (are_at_place k left) new k ≡ closed_where (are_at_place k all) old k) → Closes old new
  closes_left old new left all h k = sym (whole new (are_at_place k left)) ∙ ap closed_slot (h k) ∙ whole old (are_at_place k all)
    where
      whole : (files : Slab FileRow) (b : Bool) → closed_slot (closed_where b files k) ≡ closed_slot (get files k)
      whole files true = twice (get files k)
      whole files false = refl

  -- no file is left once all are closed
  pub none_left : (all : List Row) → length (finished_files client (with_finished_closed client all)) ≡ 0
  none_left [] = refl
  none_left (row ∷ all) =
      omega (arith, tally_cons is_finished_row (file_edited (closed_for client) row) (with_finished_closed client all), ap bit (settled_slot row.file), none_left all)

  -- what is closed stays as it is
  pub closed_twice : (all : List Row) → with_finished_closed client (with_finished_closed client all) ≡ with_finished_closed client all
  closed_twice [] = refl
  closed_twice (row ∷ all) = ap (λ slot. with_file slot row ∷ with_finished_closed client (with_finished_closed client all)) (twice row.file) ∙ ap (λ others. file_edited (closed_for client) row ∷ others) (closed_twice all)

  -- where no file is finished, none is changed
  pub none_finished : (all : List Row) → length (finished_files client all) ≡ 0 → with_finished_closed client all ≡ all
  none_finished [] none = refl
  none_finished (row ∷ all) none =
      joined (unchanged row.file (is_finished_of client row.file) refl (omega (arith, none, tally_cons is_finished_row row all))) (none_finished all (omega (arith, none, tally_cons is_finished_row row all)))
    where
      unchanged : (file : Option FileRow) (b : Bool) → is_finished_of client file ≡ b → bit b ≡ 0 → closed_slot file ≡ file
      unchanged None b e zero = refl
      unchanged (Some file) true e zero = cc
      unchanged (Some file) false e zero = ap (λ b. Some (if b then with_state Closed file else file)) e

      joined : closed_slot row.file ≡ row.file → with_finished_closed client all ≡ all → with_finished_closed client (row ∷ all) ≡ row ∷ all
      joined e f = ap (λ file. with_file file row ∷ with_finished_closed client all) e ∙ ap (λ others. row ∷ others) f

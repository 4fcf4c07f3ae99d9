-- What a change of the table leaves of the rows that are seen, and of what is kept.
use Rattle.std.proofs.Common.{◌≡◌, ℕ, ◌+◌, ◌≤◌, Bool, true, false, true≢false, List, [], ◌∷◌, map, length, refl, sym, ap, ◌∙◌, subst, cond, if◌then◌else◌, is_some, is_eq, ◌==◌, Option, Some, None, arith, eq-eqb, eqb-true}
use Rattle.std.specs.Prelude.{◌||◌, filter}
use Rattle.std.specs.List.{list_any}
use Rattle.std.specs.Option.{option_map, option_and_then}
use Rattle.std.specs.Ordering.{is_lt}
use Rattle.slab.specs.Slab.{Slab, get, Updates, SameValues}
use Rattle.file_paths.specs.PathOrder.{path_cmp, same_path}
use Rattle.namespace_rows.specs.declared.file_row.FileRow.{FileRow}
use Rattle.namespace_rows.specs.declared.row.Row.{Row}
use Rattle.namespace_rows.specs.First.{first}
use Rattle.namespace_rows.specs.Rows.{row_at}
use Rattle.namespace_rows.specs.Namespace.{is_ascending, is_before_all}
use Rattle.namespace_rows.proofs.Tests.{both}
use Rattle.namespace_rows.proofs.PathOrders.{less_is, same_path_is}
use Rattle.namespace_rows.specs.Changes.{with_file, file_edited}
use Rattle.flat_rows.proofs.Holders.{bit, tally, tally_cons}
use Rattle.inode_visits.specs.Holding.{has_files}
use Rattle.file_table.specs.Place.{place_in}
use Rattle.file_table.specs.Seen.{file_held, seen, seen_rows}
use Rattle.file_table.specs.Kept.{is_at_place, rows_at_place, are_at_place, held_count, AreKept, get_unless}

abbrev slot_count : Option FileRow → ℕ
slot_count slot = if is_some slot then 1 else 0

at_most_one : (slot : Option FileRow) → slot_count slot ≤ 1
at_most_one None = omega arith
at_most_one (Some file) = omega arith

abbrev tells : ℕ → Row → Bool
tells place row = is_at_place place row.file

-- ---- rows that pass a test, counted

any_counted : (p : Row → Bool) (rows : List Row) → list_any p rows ≡ true → 1 ≤ tally p rows
any_counted p [] h = cc
any_counted p (row ∷ rows) h = by (p row) refl h (any_counted p rows)
  where
    by : (b : Bool) → p row ≡ b → (b || list_any p rows) ≡ true → (list_any p rows ≡ true → 1 ≤ tally p rows) → 1 ≤ tally p (row ∷ rows)
    by true e k rest = omega (arith, tally_cons p row rows, ap bit e)
    by false e k rest = omega (arith, tally_cons p row rows, rest k)

none_counted : (p : Row → Bool) (rows : List Row) → list_any p rows ≡ false → tally p rows ≡ 0
none_counted p [] h = refl
none_counted p (row ∷ rows) h = by (p row) refl h (none_counted p rows)
  where
    by : (b : Bool) → p row ≡ b → (b || list_any p rows) ≡ false → (list_any p rows ≡ false → tally p rows ≡ 0) → tally p (row ∷ rows) ≡ 0
    by true e k rest = cc
    by false e k rest = omega (arith, tally_cons p row rows, ap bit e, rest k)

-- ---- slabs that agree where the rows tell a place

module _ (old new : Slab FileRow) where
  abbrev Agree : List Row → Type 0
  Agree rows = (place : ℕ) → 1 ≤ length (rows_at_place place rows) → get new place ≡ get old place

  seen_agree : (rows : List Row) → Agree rows → seen_rows new rows ≡ seen_rows old rows
  seen_agree [] h = refl
  seen_agree (row ∷ rows) h =
      both_parts (head row.file refl) (seen_agree rows (λ place some. h place (omega (arith, tally_cons (tells place) row rows, some))))
    where
      head : (file : Option FileRow) → row.file ≡ file → file_held new row.file ≡ file_held old row.file
      head None e = ap (file_held new) e ∙ sym (ap (file_held old) e)
      head (Some own) e =
          let here : tells (place_in own) row ≡ true = ap (is_at_place (place_in own)) e ∙ eq-eqb (place_in own) (place_in own) refl in
          ap (file_held new) e ∙ h (place_in own) (omega (arith, tally_cons (tells (place_in own)) row rows, ap bit here)) ∙ sym (ap (file_held old) e)

      both_parts : file_held new row.file ≡ file_held old row.file → seen_rows new rows ≡ seen_rows old rows → seen_rows new (row ∷ rows) ≡ seen_rows old (row ∷ rows)
      both_parts e f = ap (λ slot. with_file slot row ∷ seen_rows new rows) e ∙ ap (λ others. seen old row ∷ others) f

pub seen_same : (old new : Slab FileRow) (rows : List Row) → SameValues old new → seen_rows new rows ≡ seen_rows old rows
seen_same old new rows same = seen_agree old new rows (λ place some. same place)

pub kept_same : (old new : Slab FileRow) (rows : List Row) → SameValues old new → AreKept old rows → AreKept new rows
kept_same old new rows same kept place = kept place ∙ ap slot_count (sym (same place))

pub seen_elsewhere : (old new : Slab FileRow) (rows : List Row) (place : ℕ) (slot : Option FileRow) → Updates old new place slot → length (rows_at_place place rows) ≡ 0
    → seen_rows new rows ≡ seen_rows old rows
seen_elsewhere old new rows place slot updates none =
    seen_agree old new rows (λ k some. updates.others k (λ e. omega (arith, none, some, ap (λ p. length (rows_at_place p rows)) e)))

pub seen_put : (old new : Slab FileRow) (rows : List Row) (place : ℕ) (file : FileRow) → get old place ≡ None → Updates old new place (Some file) → AreKept old rows
    → seen_rows new rows ≡ seen_rows old rows
seen_put old new rows place file vacant updates kept = seen_elsewhere old new rows place (Some file) updates (kept place ∙ ap slot_count vacant)

pub kept_put : (old new : Slab FileRow) (rows more : List Row) (place : ℕ) (file : FileRow) → get old place ≡ None → Updates old new place (Some file) → AreKept old rows
    → ((k : ℕ) → length (rows_at_place k more) ≡ length (rows_at_place k rows) + (if place == k then 1 else 0)) → AreKept new more
kept_put old new rows more place file vacant updates kept counts k = by (place == k) refl (counts k)
  where
    by : (b : Bool) → (place == k) ≡ b → length (rows_at_place k more) ≡ length (rows_at_place k rows) + (if b then 1 else 0) → length (rows_at_place k more) ≡ held_count new k
    by true e count =
        let here : place ≡ k = eqb-true place k e in
        let before : held_count old k ≡ 0 = ap slot_count (sym (ap (get old) here) ∙ vacant) in
        let now : held_count new k ≡ 1 = ap slot_count (sym (ap (get new) here) ∙ updates.changed) in
        omega (arith, count, kept k, before, now)
    by false e count =
        let now : held_count new k ≡ held_count old k = ap slot_count (updates.others k (λ same. true≢false (sym (eq-eqb place k (sym same)) ∙ e))) in
        omega (arith, count, kept k, now)

pub kept_changed : (old new : Slab FileRow) (rows : List Row) (place : ℕ) (edit : FileRow → FileRow) → Updates old new place (option_map edit (get old place)) → AreKept old rows → AreKept new rows
kept_changed old new rows place edit updates kept k = kept k ∙ by (place == k) refl
  where
    mapped : (slot : Option FileRow) → slot_count slot ≡ slot_count (option_map edit slot)
    mapped None = refl
    mapped (Some file) = refl

    by : (b : Bool) → (place == k) ≡ b → held_count old k ≡ held_count new k
    by true e =
        let here : place ≡ k = eqb-true place k e in
        ap (held_count old) (sym here) ∙ mapped (get old place) ∙ ap slot_count (sym updates.changed) ∙ ap (held_count new) here
    by false e = ap slot_count (sym (updates.others k (λ same. true≢false (sym (eq-eqb place k (sym same)) ∙ e))))

-- ---- the file of the row at a path is changed

-- behind the row of the path there is none other of it
apart_behind : (path : List (List ℕ)) (row other : Row) → same_path path row.path ≡ true → is_lt (path_cmp row.path other.path) ≡ true → same_path path other.path ≡ false
apart_behind path row other at low = ap (λ p. same_path p other.path) (same_path_is path row.path at) ∙ ap is_eq (less_is _ low)

counted_first : (p q : Row → Bool) (row : Row) (rows : List Row) → first (filter q rows) ≡ Some row → p row ≡ true → 1 ≤ tally p rows
counted_first p q row [] e h = cc
counted_first p q row (x ∷ xs) e h = by (q x) e (counted_first p q row xs)
  where
    one : (a b : Row) → Some a ≡ Some b → a ≡ b
    one a b k = cc

    by : (b : Bool) → first (cond b (x ∷ filter q xs) (filter q xs)) ≡ Some row → (first (filter q xs) ≡ Some row → p row ≡ true → 1 ≤ tally p xs) → 1 ≤ tally p (x ∷ xs)
    by true k rest = omega (arith, tally_cons p x xs, ap bit (ap p (one x row k) ∙ h))
    by false k rest = omega (arith, tally_cons p x xs, rest k h)

module _ (path : List (List ℕ)) (edit : FileRow → FileRow) where
  abbrev stands : Row → Bool
  stands row = same_path path row.path

  abbrev edited : Row → Row
  edited row = cond (same_path path row.path) (file_edited edit row) row

  edited_behind : (files : Slab FileRow) (row : Row) (rows : List Row) → same_path path row.path ≡ true → is_before_all row rows ≡ true → map edited (seen_rows files rows) ≡ seen_rows files rows
  edited_behind files row [] at low = refl
  edited_behind files row (other ∷ rows) at low =
      let lows = both (is_lt (path_cmp row.path other.path)) (is_before_all row rows) low in
      ap (λ b. cond b (file_edited edit (seen files other)) (seen files other) ∷ map edited (seen_rows files rows)) (apart_behind path row other at lows.0)
      ∙ ap (λ others. seen files other ∷ others) (edited_behind files row rows at lows.1)

  unchanged_behind : (files : Slab FileRow) (rows : List Row) → is_ascending rows ≡ true → option_and_then (λ (row : Row). row.file) (row_at path rows) ≡ None
      → map edited (seen_rows files rows) ≡ seen_rows files rows
  unchanged_behind files [] up none = refl
  unchanged_behind files (row ∷ rows) up none =
      let ups = both (is_before_all row rows) (is_ascending rows) up in
      by (same_path path row.path) refl none (λ at. edited_behind files row rows at ups.0) (unchanged_behind files rows ups.1)
    where
      by : (b : Bool) → same_path path row.path ≡ b → option_and_then (λ (r : Row). r.file) (first (cond b (row ∷ filter stands rows) (filter stands rows))) ≡ None
          → (same_path path row.path ≡ true → map edited (seen_rows files rows) ≡ seen_rows files rows)
          → (option_and_then (λ (r : Row). r.file) (row_at path rows) ≡ None → map edited (seen_rows files rows) ≡ seen_rows files rows)
          → cond b (file_edited edit (seen files row)) (seen files row) ∷ map edited (seen_rows files rows) ≡ seen_rows files (row ∷ rows)
      by true e k here rest =
          ap (λ file. with_file (option_map edit (file_held files file)) row ∷ map edited (seen_rows files rows)) k
          ∙ ap (λ others. with_file None row ∷ others) (here e) ∙ sym (ap (λ file. with_file (file_held files file) row ∷ seen_rows files rows) k)
      by false e k here rest = ap (λ others. seen files row ∷ others) (rest k)

pub unchanged_there : (files : Slab FileRow) (rows : List Row) (path : List (List ℕ)) (edit : FileRow → FileRow) → is_ascending rows ≡ true
    → option_and_then (λ (row : Row). row.file) (row_at path rows) ≡ None → map (λ row. if same_path path row.path then file_edited edit row else row) (seen_rows files rows) ≡ seen_rows files rows
unchanged_there files rows path edit up none = unchanged_behind path edit files rows up none

module _ (old new : Slab FileRow) (path : List (List ℕ)) (row : Row) (own : FileRow) (edit : FileRow → FileRow)
    (is_file : row.file ≡ Some own) (updates : Updates old new (place_in own) (option_map edit (get old (place_in own)))) where
  abbrev here : Row → Bool
  here = tells (place_in own)

  row_here : here row ≡ true
  row_here = ap (is_at_place (place_in own)) is_file ∙ eq-eqb (place_in own) (place_in own) refl

  held_elsewhere : (file : Option FileRow) → is_at_place (place_in own) file ≡ false → file_held new file ≡ file_held old file
  held_elsewhere None h = refl
  held_elsewhere (Some other) h = updates.others (place_in other) (λ e. true≢false (sym (eq-eqb (place_in other) (place_in own) e) ∙ h))

  -- where no more than one of the rows tells the place
  changed_once : (rows : List Row) → is_ascending rows ≡ true → row_at path rows ≡ Some row → tally here rows ≤ 1 → seen_rows new rows ≡ map (edited path edit) (seen_rows old rows)
  changed_once [] up at once = cc
  changed_once (x ∷ xs) up at once =
      let ups = both (is_before_all x xs) (is_ascending xs) up in
      by (same_path path x.path) refl at (λ s. edited_behind path edit old x xs s ups.0) (changed_once xs ups.1)
    where
      one : (a b : Row) → Some a ≡ Some b → a ≡ b
      one a b k = cc

      at_path : x ≡ row → seen new x ≡ file_edited edit (seen old x)
      at_path same =
          let file : x.file ≡ Some own = ap (λ r. r.file) same ∙ is_file in
          ap (λ f. with_file (file_held new f) x) file ∙ ap (λ slot. with_file slot x) updates.changed ∙ sym (ap (λ f. with_file (option_map edit (file_held old f)) x) file)

      others_alone : x ≡ row → tally here xs ≡ 0
      others_alone same = omega (arith, once, tally_cons here x xs, ap bit (ap here same ∙ row_here))

      elsewhere : 1 ≤ tally here xs → here x ≡ false
      elsewhere some = by_test (here x) refl
        where
          by_test : (b : Bool) → here x ≡ b → b ≡ false
          by_test true e = absurd (omega (arith, once, some, tally_cons here x xs, ap bit e))
          by_test false e = refl

      by : (b : Bool) → same_path path x.path ≡ b → first (cond b (x ∷ filter (λ r. same_path path r.path) xs) (filter (λ r. same_path path r.path) xs)) ≡ Some row
          → (same_path path x.path ≡ true → map (edited path edit) (seen_rows old xs) ≡ seen_rows old xs)
          → (row_at path xs ≡ Some row → tally here xs ≤ 1 → seen_rows new xs ≡ map (edited path edit) (seen_rows old xs))
          → seen_rows new (x ∷ xs) ≡ cond b (file_edited edit (seen old x)) (seen old x) ∷ map (edited path edit) (seen_rows old xs)
      by true e k behind rest =
          ap (λ r. r ∷ seen_rows new xs) (at_path (one x row k))
          ∙ ap (λ others. file_edited edit (seen old x) ∷ others)
          (seen_elsewhere old new xs (place_in own) (option_map edit (get old (place_in own))) updates (others_alone (one x row k)) ∙ sym (behind e))
      by false e k behind rest =
          let some : 1 ≤ tally here xs = counted_first here (λ r. same_path path r.path) row xs k row_here in
          ap (λ slot. with_file slot x ∷ seen_rows new xs) (held_elsewhere x.file (elsewhere some))
          ∙ ap (λ others. seen old x ∷ others) (rest k (omega (arith, once, tally_cons here x xs)))

pub seen_changed : (old new : Slab FileRow) (rows : List Row) (path : List (List ℕ)) (row : Row) (own : FileRow) (edit : FileRow → FileRow)
    → is_ascending rows ≡ true → row_at path rows ≡ Some row → row.file ≡ Some own → Updates old new (place_in own) (option_map edit (get old (place_in own))) → AreKept old rows
    → seen_rows new rows ≡ map (λ row. if same_path path row.path then file_edited edit row else row) (seen_rows old rows)
seen_changed old new rows path row own edit up at is_file updates kept =
    changed_once old new path row own edit is_file updates rows up at (subst (λ n. n ≤ 1) (sym (kept (place_in own))) (at_most_one (get old (place_in own))))

-- ---- files are taken out whose rows are gone

module _ (old new : Slab FileRow) (rows gone : List Row) (left : (k : ℕ) → get new k ≡ get_unless (are_at_place k gone) old k)
    (counts : (k : ℕ) → length (rows_at_place k rows) + length (rows_at_place k gone) ≡ held_count old k) where
  untouched : (k : ℕ) → are_at_place k gone ≡ false → get new k ≡ get old k
  untouched k e = left k ∙ ap (λ b. get_unless b old k) e

  pub seen_forgotten : seen_rows new rows ≡ seen_rows old rows
  seen_forgotten = seen_agree old new rows (λ k some. by k some (are_at_place k gone) refl)
    where
      by : (k : ℕ) → 1 ≤ length (rows_at_place k rows) → (b : Bool) → are_at_place k gone ≡ b → get new k ≡ get old k
      by k some true e = absurd (omega (arith, some, counts k, at_most_one (get old k), any_counted (tells k) gone e))
      by k some false e = untouched k e

  pub kept_forgotten : AreKept new rows
  kept_forgotten k = by (are_at_place k gone) refl
    where
      by : (b : Bool) → are_at_place k gone ≡ b → length (rows_at_place k rows) ≡ held_count new k
      by true e =
          let now : held_count new k ≡ 0 = ap slot_count (left k ∙ ap (λ b. get_unless b old k) e) in
          omega (arith, now, counts k, at_most_one (get old k), any_counted (tells k) gone e)
      by false e =
          let now : held_count new k ≡ held_count old k = ap slot_count (untouched k e) in
          omega (arith, now, counts k, none_counted (tells k) gone e)

-- ---- rows of which none is seen to be a file tell no place

or_true : (a b : Bool) → b ≡ true → (a || b) ≡ true
or_true true b h = refl
or_true false b h = h

held_some : (slot : Option FileRow) → 1 ≤ slot_count slot → is_some slot ≡ true
held_some None h = absurd (omega (arith, h))
held_some (Some file) h = refl

module _ (files : Slab FileRow) where
  some_seen : (rows : List Row) (k : ℕ) → is_some (get files k) ≡ true → are_at_place k rows ≡ true → has_files (seen_rows files rows) ≡ true
  some_seen [] k some h = absurd (true≢false (sym h))
  some_seen (row ∷ rows) k some h = by (is_at_place k row.file) refl h (some_seen rows k some)
    where
      here : (file : Option FileRow) → is_at_place k file ≡ true → is_some (file_held files file) ≡ true
      here None e = absurd (true≢false (sym e))
      here (Some own) e = ap (λ place. is_some (get files place)) (eqb-true (place_in own) k e) ∙ some

      by : (b : Bool) → is_at_place k row.file ≡ b → (b || are_at_place k rows) ≡ true → (are_at_place k rows ≡ true → has_files (seen_rows files rows) ≡ true) → (is_some (file_held files row.file) || has_files (seen_rows files rows)) ≡ true
      by true e g rest = ap (λ c. c || has_files (seen_rows files rows)) (here row.file e)
      by false e g rest = or_true (is_some (file_held files row.file)) (has_files (seen_rows files rows)) (rest g)

  pub none_at : (gone : List Row) → ((k : ℕ) → length (rows_at_place k gone) ≤ held_count files k) → has_files (seen_rows files gone) ≡ false → (k : ℕ) → are_at_place k gone ≡ false
  none_at gone counts none k = by (are_at_place k gone) refl
    where
      by : (b : Bool) → are_at_place k gone ≡ b → b ≡ false
      by false e = refl
      by true e = absurd (true≢false (sym (some_seen gone k (held_some (get files k) (omega (arith, counts k, any_counted (tells k) gone e))) e) ∙ none))

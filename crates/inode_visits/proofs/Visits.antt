-- A visit of a directory, entry by entry.
use Rattle.std.proofs.Common.{◌≡◌, ℕ, ◌+◌, ◌≤◌, ◌<◌, ◌^◌, nat_lt, Bool, true, false, not, ◌||◌, cond, List, [], ◌∷◌, ◌++◌, map, length, length-append, append_assoc, Option, Some, None, refl, sym, ap, ◌∙◌, true≢false, arith}
use Rattle.std.proofs.lemmas.Bool.{le-ltb, ltb-false}
use Rattle.std.proofs.lemmas.List.{length-map, map-append}
use Rattle.std.proofs.lemmas.List.Elements.{filter-append}
use Rattle.std.proofs.lemmas.List.Folds.{list_all-append}
use Rattle.std.specs.List.{filter, list_any}
use Rattle.slab.specs.Slab.{Slab}
use Rattle.std.specs.Option.{option_map, option_to_list}
use Rattle.permission_bits.specs.declared.rights.Rights.{Rights}
use Rattle.file_paths.specs.Path.{is_path}
use Rattle.namespace_rows.specs.declared.file_row.FileRow.{FileRow}
use Rattle.namespace_rows.specs.declared.row.Row.{Row}
use Rattle.file_blocks.specs.Blocks.{told_length}
use Rattle.namespace_rows.specs.Files.{holders, holder_of_file}
use Rattle.flat_rows.specs.FileOutcome.{file_bytes}
use Rattle.flat_rows.specs.Outcome.{bytes_in}
use Rattle.namespace_rows.specs.First.{first}
use Rattle.namespace_rows.specs.Rows.{is_directory}
use Rattle.namespace_rows.specs.Changes.{are_paths}
use Rattle.namespace_rows.proofs.Tests.{both}
use Rattle.inode_nodes.specs.Node.{Node, flatten, rows, row_of, top_of, under, row_placed}
use Rattle.file_table.specs.Seen.{seen, seen_rows}
use Rattle.inode_visits.specs.SeenNode.{seen_branch}
use Rattle.inode_visits.specs.Holding.{has_files}
use Rattle.inode_visits.specs.Visits.{told_number, directories, files, sum_told, is_closed, counted_open, row_found}
use Rattle.inode_visits.specs.declared.visit.Counted.{Counted}
use Rattle.inode_visits.specs.declared.visit.Found.{Found}
use Rattle.inode_nodes.proofs.Filters.{Entries, filter-map, append_rows}

-- entries as the namespace sees them, with a table of files
abbrev pub seen_entries : Slab FileRow → Entries → Entries
seen_entries files entries = map (λ entry. (entry.0, seen_branch files entry.1)) entries

pub seen_under : (files : Slab FileRow) (n : List ℕ) (rs : List Row) → map (under n) (seen_rows files rs) ≡ seen_rows files (map (under n) rs)
seen_under files n [] = refl
seen_under files n (r ∷ rs) = ap (λ l. seen files (under n r) ∷ l) (seen_under files n rs)

pub seen_flatten : (files : Slab FileRow) (es : Entries) → flatten (seen_entries files es) ≡ seen_rows files (flatten es)
seen_flatten files [] = refl
seen_flatten files (e ∷ es) =
    ap (λ l. l ++ flatten (seen_entries files es)) (seen_under files e.0 (rows e.1)) ∙ ap (λ l. seen_rows files (map (under e.0) (rows e.1)) ++ l) (seen_flatten files es)
    ∙ sym (map-append (seen files) (map (under e.0) (rows e.1)) (flatten es))

pub seen_placed : (files : Slab FileRow) (path : List (List ℕ)) (rs : List Row) → map (row_placed path) (seen_rows files rs) ≡ seen_rows files (map (row_placed path) rs)
seen_placed files path [] = refl
seen_placed files path (r ∷ rs) = ap (λ l. seen files (row_placed path r) ∷ l) (seen_placed files path rs)

pub shorter : (it new : Entries) (n : List ℕ) (b : Node) → it ≡ (n, b) ∷ new → length (flatten new) ≤ length (flatten it)
shorter it new n b is = omega (arith, ap (λ (x : Entries). length (flatten x)) is, length-append (map (under n) (rows b)) (flatten new))

-- a child has fewer rows beneath it than are left
pub lower : (it new : Entries) (n : List ℕ) (b : Node) → it ≡ (n, b) ∷ new → length b.beneath < length (flatten it)
lower it new n b is = omega (arith, ap (λ (x : Entries). length (flatten x)) is, length-append (map (under n) (rows b)) (flatten new), length-map (rows b) (under n))

-- a test that reads no path
module _ (p : Row → Bool) (same : (n : List ℕ) (row : Row) → p (under n row) ≡ p row) where
  filter_entry : (it new : Entries) (n : List ℕ) (b : Node) → it ≡ (n, b) ∷ new → filter p (flatten it) ≡ map (under n) (filter p (rows b)) ++ filter p (flatten new)
  filter_entry it new n b is =
      ap (λ (x : Entries). filter p (flatten x)) is ∙ filter-append p (map (under n) (rows b)) (flatten new) ∙ ap (λ l. l ++ filter p (flatten new)) (filter-map p p (under n) (same n) (rows b))

  count_entry : (it new : Entries) (n : List ℕ) (b : Node) → it ≡ (n, b) ∷ new → length (filter p (flatten it)) ≡ length (filter p (rows b)) + length (filter p (flatten new))
  count_entry it new n b is =
      ap length (filter_entry it new n b is) ∙ length-append (map (under n) (filter p (rows b))) (filter p (flatten new)) ∙ ap (λ k. k + length (filter p (flatten new))) (length-map (filter p (rows b)) (under n))

  first_some : (xs ys : List Row) (r : Row) → first xs ≡ Some r → first (xs ++ ys) ≡ Some r
  first_some [] ys r h = cc
  first_some (x ∷ xs) ys r h = h

  first_none : (n : List ℕ) (xs ys : List Row) → first xs ≡ None → first (map (under n) xs ++ ys) ≡ first ys
  first_none n [] ys h = refl
  first_none n (x ∷ xs) ys h = cc

  first_under : (n : List ℕ) (xs : List Row) (r : Row) → first xs ≡ Some r → first (map (under n) xs) ≡ Some (under n r)
  first_under n [] r h = cc
  first_under n (x ∷ xs) r h = ap under_or h
    where
      under_or : Option Row → Option Row
      under_or None = None
      under_or (Some row) = Some (under n row)

  pub first_here : (it new : Entries) (n : List ℕ) (b : Node) (r : Row) → it ≡ (n, b) ∷ new → first (filter p (rows b)) ≡ Some r → first (filter p (flatten it)) ≡ Some (under n r)
  first_here it new n b r is found = ap first (filter_entry it new n b is) ∙ first_some (map (under n) (filter p (rows b))) (filter p (flatten new)) (under n r) (first_under n (filter p (rows b)) r found)

  pub first_next : (it new : Entries) (n : List ℕ) (b : Node) → it ≡ (n, b) ∷ new → first (filter p (rows b)) ≡ None → first (filter p (flatten new)) ≡ first (filter p (flatten it))
  first_next it new n b is none = sym (ap first (filter_entry it new n b is) ∙ first_none n (filter p (rows b)) (filter p (flatten new)) none)

-- whether any row passes such a test

any_append : (p : Row → Bool) (xs ys : List Row) → list_any p (xs ++ ys) ≡ (list_any p xs || list_any p ys)
any_append p [] ys = refl
any_append p (x ∷ xs) ys = by (p x) (any_append p xs ys)
  where
    by : (b : Bool) → list_any p (xs ++ ys) ≡ (list_any p xs || list_any p ys) → (b || list_any p (xs ++ ys)) ≡ ((b || list_any p xs) || list_any p ys)
    by true rest = refl
    by false rest = rest

pub none_passes : (p : Row → Bool) (rs : List Row) → list_any p rs ≡ false → first (filter p rs) ≡ None
none_passes p [] h = refl
none_passes p (r ∷ rs) h = by (p r) h (none_passes p rs)
  where
    by : (b : Bool) → (b || list_any p rs) ≡ false → (list_any p rs ≡ false → first (filter p rs) ≡ None) → first (cond b (r ∷ filter p rs) (filter p rs)) ≡ None
    by true e rest = absurd (true≢false e)
    by false e rest = rest e

module _ (p : Row → Bool) (same : (n : List ℕ) (row : Row) → p (under n row) ≡ p row) where
  any_under : (n : List ℕ) (rs : List Row) → list_any p (map (under n) rs) ≡ list_any p rs
  any_under n [] = refl
  any_under n (r ∷ rs) = ap (λ b. b || list_any p (map (under n) rs)) (same n r) ∙ ap (λ b. p r || b) (any_under n rs)

  any_entry : (it new : Entries) (n : List ℕ) (b : Node) → it ≡ (n, b) ∷ new → list_any p (flatten it) ≡ (list_any p (rows b) || list_any p (flatten new))
  any_entry it new n b is = ap (λ (x : Entries). list_any p (flatten x)) is ∙ any_append p (map (under n) (rows b)) (flatten new) ∙ ap (λ c. c || list_any p (flatten new)) (any_under n (rows b))

  pub any_here : (it new : Entries) (n : List ℕ) (b : Node) → it ≡ (n, b) ∷ new → list_any p (rows b) ≡ true → list_any p (flatten it) ≡ true
  any_here it new n b is h = any_entry it new n b is ∙ ap (λ c. c || list_any p (flatten new)) h

  pub any_next : (it new : Entries) (n : List ℕ) (b : Node) → it ≡ (n, b) ∷ new → list_any p (rows b) ≡ false → list_any p (flatten new) ≡ list_any p (flatten it)
  any_next it new n b is h = sym (any_entry it new n b is ∙ ap (λ c. c || list_any p (flatten new)) h)

told_sum : (before here left : ℕ) → told_number (told_number (before + told_number here) + left) ≡ told_number (before + (here + left))
told_sum before here left = omega arith

length_entry : (it new : Entries) (n : List ℕ) (b : Node) → it ≡ (n, b) ∷ new → length (flatten it) ≡ length (rows b) + length (flatten new)
length_entry it new n b is = ap (λ (x : Entries). length (flatten x)) is ∙ length-append (map (under n) (rows b)) (flatten new) ∙ ap (λ k. k + length (flatten new)) (length-map (rows b) (under n))

pub told_few : (n : ℕ) → told_number n < 2 ^ 64
told_few n = omega arith

pub told_itself : (n : ℕ) → n < 2 ^ 64 → told_number (n + 0) ≡ n
told_itself n h = omega arith

module _ (it new : Entries) (n : List ℕ) (b : Node) (is : it ≡ (n, b) ∷ new) where
  pub directories_step : (before here after all : ℕ) → here ≡ told_number (directories (rows b)) → after ≡ told_number (before + here) → told_number (before + directories (flatten it)) ≡ all → told_number (after + directories (flatten new)) ≡ all
  directories_step before here after all h a k =
      ap (λ x. told_number (x + directories (flatten new))) (a ∙ ap (λ x. told_number (before + x)) h) ∙ told_sum before (directories (rows b)) (directories (flatten new))
      ∙ ap (λ x. told_number (before + x)) (sym (count_entry is_directory (λ m row. refl) it new n b is)) ∙ k

  pub files_step : (before here after all : ℕ) → here ≡ told_number (files (rows b)) → after ≡ told_number (before + here) → told_number (before + files (flatten it)) ≡ all → told_number (after + files (flatten new)) ≡ all
  files_step before here after all h a k =
      ap (λ x. told_number (x + files (flatten new))) (a ∙ ap (λ x. told_number (before + x)) h) ∙ told_sum before (files (rows b)) (files (flatten new))
      ∙ ap (λ x. told_number (before + x)) (sym (count_entry (λ row. not (is_directory row)) (λ m row. refl) it new n b is)) ∙ k

  pub length_step : (before here after all : ℕ) → here ≡ told_number (length (rows b)) → after ≡ told_number (before + here) → told_number (before + length (flatten it)) ≡ all → told_number (after + length (flatten new)) ≡ all
  length_step before here after all h a k =
      ap (λ x. told_number (x + length (flatten new))) (a ∙ ap (λ x. told_number (before + x)) h) ∙ told_sum before (length (rows b)) (length (flatten new))
      ∙ ap (λ x. told_number (before + x)) (sym (length_entry it new n b is)) ∙ k

-- the bytes of files

module _ (f : Row → Row) (same : (row : Row) → (f row).file ≡ row.file) where
  pub bytes_map : (rs : List Row) → bytes_in (map f rs) ≡ bytes_in rs
  bytes_map [] = refl
  bytes_map (r ∷ rs) = ap (λ file. file_bytes file + bytes_in (map f rs)) (same r) ∙ ap (λ k. file_bytes r.file + k) (bytes_map rs)

bytes_append : (xs ys : List Row) → bytes_in (xs ++ ys) ≡ bytes_in xs + bytes_in ys
bytes_append [] ys = omega arith
bytes_append (x ∷ xs) ys = omega (arith, bytes_append xs ys)

bytes_entry : (it new : Entries) (n : List ℕ) (b : Node) → it ≡ (n, b) ∷ new → bytes_in (flatten it) ≡ bytes_in (rows b) + bytes_in (flatten new)
bytes_entry it new n b is =
    ap (λ (x : Entries). bytes_in (flatten x)) is ∙ bytes_append (map (under n) (rows b)) (flatten new) ∙ ap (λ k. k + bytes_in (flatten new)) (bytes_map (under n) (λ row. refl) (rows b))

more : (m n k : ℕ) → k ≤ n → k ≤ m + n
more m n k h = omega (arith, h)

less : (m n k : ℕ) → k ≤ m → k ≤ m + n
less m n k h = omega (arith, h)

none_beyond : (n : ℕ) → 2 ^ 64 ≤ n → told_length n ≡ None
none_beyond n h = rw (le-ltb n (2 ^ 64) h) refl

-- lengths that are told are added
pub sum_is : (m n : ℕ) → sum_told (told_length m) (told_length n) ≡ told_length (m + n)
sum_is m n = by (nat_lt m (2 ^ 64)) (nat_lt n (2 ^ 64)) refl refl
  where
    by : (a b : Bool) → nat_lt m (2 ^ 64) ≡ a → nat_lt n (2 ^ 64) ≡ b → sum_told (told_length m) (told_length n) ≡ told_length (m + n)
    by true true e f = rw (e, f) refl
    by true false e f = rw (e, f, none_beyond (m + n) (more m n (2 ^ 64) (ltb-false n (2 ^ 64) f))) refl
    by false b e f = rw (e, none_beyond (m + n) (less m n (2 ^ 64) (ltb-false m (2 ^ 64) e))) refl

-- the files of some rows have so many bytes together, behind those of the rows before
pub record CountedBytes (all : List Row) (left : List Row) (bytes : Option ℕ) : Type 0 where
  pub before : ℕ
  pub told : bytes ≡ told_length before
  pub whole : before + bytes_in left ≡ bytes_in all

pub counted_none : (all : List Row) → CountedBytes all all (Some 0)
counted_none all = record { before = 0; told = refl; whole = omega arith }

pub counted_next : (all : List Row) (it new : Entries) (n : List ℕ) (b : Node) (bytes here after : Option ℕ) → it ≡ (n, b) ∷ new → here ≡ told_length (bytes_in (rows b)) → after ≡ sum_told bytes here → CountedBytes all (flatten it) bytes → CountedBytes all (flatten new) after
counted_next all it new n b bytes here after is h a counted = record {
  before = counted.before + bytes_in (rows b);
  told = a ∙ ap (sum_told bytes) h ∙ ap (λ x. sum_told x (told_length (bytes_in (rows b)))) counted.told ∙ sum_is counted.before (bytes_in (rows b));
  whole = omega (arith, counted.whole, bytes_entry it new n b is);
}

pub counted_all : (all left : List Row) (bytes : Option ℕ) → left ≡ [] → CountedBytes all left bytes → bytes ≡ told_length (bytes_in all)
counted_all all left bytes none counted = counted.told ∙ ap told_length (sum_none (ap bytes_in none) counted.whole)
  where
    sum_none : {k m n : ℕ} → m ≡ 0 → k + m ≡ n → k ≡ n
    sum_none e h = omega (arith, e, h)

-- rows that are counted where none of them is closed

module _ (caller : List ℕ) (groups : List (List ℕ)) (need : Rights) where
  abbrev closed : Row → Bool
  closed row = is_closed caller groups need row

  abbrev counted : Bool → ℕ → Bool → Option Counted
  counted shut number files = cond shut None (Some (record { number = told_number number; has_files = files }))

  -- what is counted has none that is closed, and so many rows
  pub counted_all_open : (rs : List Row) (all : Counted) → counted_open caller groups need rs ≡ Some all → list_any closed rs ≡ false
  counted_all_open rs all h = by (list_any closed rs) h
    where
      by : (b : Bool) → counted b (length rs) (has_files rs) ≡ Some all → b ≡ false
      by true e = cc
      by false e = refl

  pub counted_is : (rs : List Row) (all : Counted) → counted_open caller groups need rs ≡ Some all → all ≡ record { number = told_number (length rs); has_files = has_files rs }
  counted_is rs all h = by (list_any closed rs) h
    where
      one : {x y : Counted} → Some x ≡ Some y → x ≡ y
      one e = cc

      by : (b : Bool) → counted b (length rs) (has_files rs) ≡ Some all → all ≡ record { number = told_number (length rs); has_files = has_files rs }
      by true e = cc
      by false e = sym (one e)

  pub not_counted : (rs : List Row) → counted_open caller groups need rs ≡ None → list_any closed rs ≡ true
  not_counted rs h = by (list_any closed rs) h
    where
      by : (b : Bool) → counted b (length rs) (has_files rs) ≡ None → b ≡ true
      by true e = refl
      by false e = cc

  pub is_counted : (rs : List Row) (all : Counted) → list_any closed rs ≡ false → all.number ≡ told_number (length rs) → all.has_files ≡ has_files rs → Some all ≡ counted_open caller groups need rs
  is_counted rs all none number files = rw (none, number, files) refl

  pub is_not_counted : (rs : List Row) → list_any closed rs ≡ true → None ≡ counted_open caller groups need rs
  is_not_counted rs some = rw some refl

-- the holders of files

module _ (f : Row → Row) (same : (row : Row) → (f row).file ≡ row.file) where
  pub holders_map : (rs : List Row) → holders (map f rs) ≡ holders rs
  holders_map [] = refl
  holders_map (r ∷ rs) = ap (λ file. option_to_list (holder_of_file file) ++ holders (map f rs)) (same r) ∙ ap (λ l. option_to_list (holder_of_file r.file) ++ l) (holders_map rs)

holders_append : (xs ys : List Row) → holders (xs ++ ys) ≡ holders xs ++ holders ys
holders_append [] ys = refl
holders_append (x ∷ xs) ys = ap (λ l. option_to_list (holder_of_file x.file) ++ l) (holders_append xs ys) ∙ sym (append_assoc (option_to_list (holder_of_file x.file)) (holders xs) (holders ys))

-- those of one entry are added, and those of the entries behind it are left
pub held_next : (it new : Entries) (n : List ℕ) (b : Node) (before after all : List (List ℕ)) → it ≡ (n, b) ∷ new → after ≡ before ++ holders (rows b) → before ++ holders (flatten it) ≡ all → after ++ holders (flatten new) ≡ all
held_next it new n b before after all is a h =
    ap (λ l. l ++ holders (flatten new)) a ∙ append_assoc before (holders (rows b)) (holders (flatten new))
    ∙ ap (λ l. before ++ l) (sym (ap (λ (x : Entries). holders (flatten x)) is ∙ holders_append (map (under n) (rows b)) (flatten new) ∙ ap (λ l. l ++ holders (flatten new)) (holders_map (under n) (λ row. refl) (rows b)))) ∙ h

-- the same of the files that pass a test which reads no path
module _ (p : Row → Bool) (same : (n : List ℕ) (row : Row) → p (under n row) ≡ p row) where
  pub passing_next : (it new : Entries) (n : List ℕ) (b : Node) (before after all : List (List ℕ)) → it ≡ (n, b) ∷ new → after ≡ before ++ holders (filter p (rows b)) → before ++ holders (filter p (flatten it)) ≡ all
      → after ++ holders (filter p (flatten new)) ≡ all
  passing_next it new n b before after all is a h =
      ap (λ l. l ++ holders (filter p (flatten new))) a ∙ append_assoc before (holders (filter p (rows b))) (holders (filter p (flatten new)))
      ∙ ap (λ l. before ++ l) (sym (ap holders (filter_entry p same it new n b is) ∙ holders_append (map (under n) (filter p (rows b))) (filter p (flatten new)) ∙ ap (λ l. l ++ holders (filter p (flatten new))) (holders_map (under n) (λ row. refl) (filter p (rows b))))) ∙ h

-- nothing was found
pub none_found : (found : Option Found) (o : Option Row) → option_map row_found found ≡ o → found ≡ None → o ≡ None
none_found found o is none = sym is ∙ ap (option_map row_found) none

-- rows with their paths

placed_twice : (p : List (List ℕ)) (n : List ℕ) (xs : List Row) → map (row_placed p) (map (under n) xs) ≡ map (row_placed (p ++ n ∷ [])) xs
placed_twice p n [] = refl
placed_twice p n (r ∷ rs) = ap (λ q. row_of q (top_of r) ∷ map (row_placed p) (map (under n) rs)) (sym (append_assoc p (n ∷ []) r.path)) ∙ ap (λ t. row_placed (p ++ n ∷ []) r ∷ t) (placed_twice p n rs)

placed_entry : (p : List (List ℕ)) (it new : Entries) (n : List ℕ) (b : Node) → it ≡ (n, b) ∷ new → map (row_placed p) (flatten it) ≡ map (row_placed (p ++ n ∷ [])) (rows b) ++ map (row_placed p) (flatten new)
placed_entry p it new n b is =
    ap (λ (x : Entries). map (row_placed p) (flatten x)) is ∙ map-append (row_placed p) (map (under n) (rows b)) (flatten new) ∙ ap (λ l. l ++ map (row_placed p) (flatten new)) (placed_twice p n (rows b))

paths_both : (xs ys : List Row) → are_paths (xs ++ ys) ≡ true → (are_paths xs ≡ true) × (are_paths ys ≡ true)
paths_both xs ys h = both (are_paths xs) (are_paths ys) (sym (list_all-append (λ row. is_path row.path) xs ys) ∙ h)

pub paths_here : (p q : List (List ℕ)) (it new : Entries) (n : List ℕ) (b : Node) → q ≡ p ++ n ∷ [] → it ≡ (n, b) ∷ new → are_paths (map (row_placed p) (flatten it)) ≡ true → are_paths (map (row_placed q) (rows b)) ≡ true
paths_here p q it new n b longer is h =
    ap (λ x. are_paths (map (row_placed x) (rows b))) longer ∙ (paths_both (map (row_placed (p ++ n ∷ [])) (rows b)) (map (row_placed p) (flatten new)) (sym (ap are_paths (placed_entry p it new n b is)) ∙ h)).0

pub paths_next : (p : List (List ℕ)) (it new : Entries) (n : List ℕ) (b : Node) → it ≡ (n, b) ∷ new → are_paths (map (row_placed p) (flatten it)) ≡ true → are_paths (map (row_placed p) (flatten new)) ≡ true
paths_next p it new n b is h = (paths_both (map (row_placed (p ++ n ∷ [])) (rows b)) (map (row_placed p) (flatten new)) (sym (ap are_paths (placed_entry p it new n b is)) ∙ h)).1

pub added_next : (p q : List (List ℕ)) (it new : Entries) (n : List ℕ) (b : Node) (before after all : List Row) → q ≡ p ++ n ∷ [] → it ≡ (n, b) ∷ new → after ≡ before ++ map (row_placed q) (rows b) → before ++ map (row_placed p) (flatten it) ≡ all
    → after ++ map (row_placed p) (flatten new) ≡ all
added_next p q it new n b before after all longer is a h =
    ap (λ l. l ++ map (row_placed p) (flatten new)) (a ∙ ap (λ x. before ++ map (row_placed x) (rows b)) longer) ∙ append_rows before (map (row_placed (p ++ n ∷ [])) (rows b)) (map (row_placed p) (flatten new))
    ∙ ap (λ l. before ++ l) (sym (placed_entry p it new n b is)) ∙ h

-- Paths within the limits, behind one front and behind another.
use Rattle.std.proofs.Common.{◌≡◌, ℕ, zero, suc, ◌+◌, ◌≤◌, ◌<◌, Bool, true, false, ◌&&◌, List, [], ◌∷◌, ◌++◌, map, length, take, get_or, length-append, Option, refl, sym, ap, ◌∙◌, subst, arith}
use Rattle.std.specs.Prelude.{nat_le}
use Rattle.std.specs.List.{list_all, flat_map}
use Rattle.std.proofs.lemmas.Bool.Decides.{nat_tests}
use Rattle.std.proofs.lemmas.List.{take_more}
use Rattle.std.proofs.lemmas.List.Folds.{list_all-append}
use Rattle.file_paths.specs.Name.{is_name}
use Rattle.file_paths.specs.Path.{IsPath, is_path, path_text, component}
use Rattle.namespace_rows.specs.declared.row.Row.{Row}
use Rattle.namespace_rows.specs.Changes.{rows_under, moved_row, are_paths}
use Rattle.namespace_rows.proofs.Tests.{both, and, all_imp, all_kept}
use Rattle.inode_nodes.specs.Node.{Node, flatten, rows, rows_or, under, row_placed}
use Rattle.inode_nodes.specs.Part.{IsWhole}
use Rattle.inode_visits.specs.Limits.{bytes_of, fits_behind}
use Rattle.inode_nodes.proofs.Filters.{Entries, inside}
use Rattle.inode_nodes.proofs.Moves.{moved_placed}

-- texts

bytes_append : (a b : List (List ℕ)) → bytes_of (a ++ b) ≡ bytes_of a + bytes_of b
bytes_append [] b = omega arith
bytes_append (n ∷ ns) b = omega (arith, bytes_append ns b, length-append n (flat_map component (ns ++ b)), length-append n (flat_map component ns))

bytes_name : (n : List ℕ) (ns : List (List ℕ)) → bytes_of (n ∷ ns) ≡ 1 + length n + bytes_of ns
bytes_name n ns = omega (arith, length-append n (flat_map component ns))

bytes_front : (ns : List (List ℕ)) (k : ℕ) → bytes_of (take k ns) ≤ bytes_of ns
bytes_front ns zero = omega arith
bytes_front [] (suc k) = omega arith
bytes_front (n ∷ ns) (suc k) = omega (arith, bytes_front ns k, bytes_name n (take k ns), bytes_name n ns)

bytes_more : (path : List (List ℕ)) (i : ℕ) (n : List ℕ) → i < length path → n ≡ get_or path i n → bytes_of (take (i + 1) path) ≡ bytes_of (take i path) + (1 + length n)
bytes_more path i n h is =
    ap bytes_of (take_more path i n h ∙ ap (λ m. take i path ++ m ∷ []) (sym is)) ∙ bytes_append (take i path) (n ∷ []) ∙ ap (λ k. bytes_of (take i path) + k) (one n)
  where
    one : (n : List ℕ) → bytes_of (n ∷ []) ≡ 1 + length n
    one n = omega (arith, bytes_name n [])

le_true : (a b : ℕ) → nat_le a b ≡ true → a ≤ b
le_true a b h = grind (arith, nat_tests)

true_le : (a b : ℕ) → a ≤ b → nat_le a b ≡ true
true_le a b h = grind (arith, nat_tests)

same_le : (a b m : ℕ) → a ≡ b → nat_le a m ≡ nat_le b m
same_le a b m h = ap (λ k. nat_le k m) h

record Tests (names : List (List ℕ)) : Type 0 where
  few : nat_le (length names) 1000 ≡ true
  short : nat_le (length (path_text names)) 8000 ≡ true
  named : list_all is_name names ≡ true

tests : (names : List (List ℕ)) → is_path names ≡ true → Tests names
tests names h =
    let last = both (nat_le (length names) 1000 && nat_le (length (path_text names)) 8000) (list_all is_name names) h in
    let first = both (nat_le (length names) 1000) (nat_le (length (path_text names)) 8000) last.0 in
    record { few = first.0; short = first.1; named = last.1 }

text_le : (names : List (List ℕ)) → nat_le (length (path_text names)) 8000 ≡ nat_le (bytes_of names) 8000
text_le [] = refl
text_le (n ∷ ns) = refl

path_bytes : (names : List (List ℕ)) (k : ℕ) → IsPath names → bytes_of (take k names) ≤ 8000
path_bytes names k h = omega (arith, bytes_front names k, le_true (bytes_of names) 8000 (sym (text_le names) ∙ (tests names h).short))

pub bytes_fit : (names path : List (List ℕ)) (i total : ℕ) (n : List ℕ) → names ≡ path → IsPath path → i < length names → n ≡ get_or names i n → total ≡ bytes_of (take i path) → total + (1 + length n) ≤ 8000
bytes_fit names path i total n is h less at so_far =
    let more = bytes_more path i n (subst (λ p. i < length p) is less) (subst (λ p. n ≡ get_or p i n) is at) in
    let few = path_bytes path (i + 1) h in
    omega (arith, more, few, so_far)

-- behind a longer front

fits_under : (depth bytes : ℕ) (n : List ℕ) (row : Row) → fits_behind depth bytes (under n row) ≡ fits_behind (depth + 1) (bytes + 1 + length n) row
fits_under depth bytes n row =
    ap (λ b. b && nat_le (bytes + bytes_of (n ∷ row.path)) 8000) (same_le (depth + length (n ∷ row.path)) (depth + 1 + length row.path) 1000 (omega arith))
    ∙ ap (λ b. nat_le (depth + 1 + length row.path) 1000 && b) (same_le (bytes + bytes_of (n ∷ row.path)) (bytes + 1 + length n + bytes_of row.path) 8000 (omega (arith, bytes_name n row.path)))

all_under : (depth bytes : ℕ) (n : List ℕ) (rs : List Row) → list_all (fits_behind depth bytes) (map (under n) rs) ≡ list_all (fits_behind (depth + 1) (bytes + 1 + length n)) rs
all_under depth bytes n [] = refl
all_under depth bytes n (r ∷ rs) = rw (fits_under depth bytes n r, all_under depth bytes n rs) refl

fits_entry : (depth bytes : ℕ) (it new : Entries) (n : List ℕ) (b : Node) → it ≡ (n, b) ∷ new
    → list_all (fits_behind depth bytes) (flatten it) ≡ (list_all (fits_behind (depth + 1) (bytes + 1 + length n)) (rows b) && list_all (fits_behind depth bytes) (flatten new))
fits_entry depth bytes it new n b is =
    ap (λ (x : Entries). list_all (fits_behind depth bytes) (flatten x)) is ∙ list_all-append (fits_behind depth bytes) (map (under n) (rows b)) (flatten new)
    ∙ ap (λ c. c && list_all (fits_behind depth bytes) (flatten new)) (all_under depth bytes n (rows b))

pub fits_next : (depth bytes : ℕ) (it new : Entries) (n : List ℕ) (b : Node) (deeper more : ℕ) (fit : Bool) → it ≡ (n, b) ∷ new → deeper ≡ depth + 1 → more ≡ bytes + 1 + length n → fit ≡ list_all (fits_behind deeper more) (rows b) → fit ≡ true
    → list_all (fits_behind depth bytes) (flatten new) ≡ list_all (fits_behind depth bytes) (flatten it)
fits_next depth bytes it new n b deeper more fit is d m h passes =
    sym (fits_entry depth bytes it new n b is ∙ ap (λ c. c && list_all (fits_behind depth bytes) (flatten new)) (sym (ap (λ k. list_all (fits_behind k more) (rows b)) d ∙ ap (λ k. list_all (fits_behind (depth + 1) k) (rows b)) m) ∙ sym h ∙ passes))

pub fits_not : (depth bytes : ℕ) (it new : Entries) (n : List ℕ) (b : Node) (deeper more : ℕ) (fit : Bool) → it ≡ (n, b) ∷ new → deeper ≡ depth + 1 → more ≡ bytes + 1 + length n → fit ≡ list_all (fits_behind deeper more) (rows b) → fit ≡ false
    → false ≡ list_all (fits_behind depth bytes) (flatten it)
fits_not depth bytes it new n b deeper more fit is d m h fails =
    sym (fits_entry depth bytes it new n b is ∙ ap (λ c. c && list_all (fits_behind depth bytes) (flatten new)) (sym (ap (λ k. list_all (fits_behind k more) (rows b)) d ∙ ap (λ k. list_all (fits_behind (depth + 1) k) (rows b)) m) ∙ sym h ∙ fails))

-- behind a front that is a path

names_behind : (front rest other : List (List ℕ)) → list_all is_name other ≡ true → list_all is_name (front ++ rest) ≡ true → list_all is_name (other ++ rest) ≡ true
names_behind front rest other h k =
    list_all-append is_name other rest ∙ and _ _ h (both (list_all is_name front) (list_all is_name rest) (sym (list_all-append is_name front rest) ∙ k)).1

path_behind : (front other : List (List ℕ)) (row : Row) → is_path other ≡ true → is_path (front ++ row.path) ≡ true → is_path (other ++ row.path) ≡ fits_behind (length other) (bytes_of other) row
path_behind front other row h k =
    let named : list_all is_name (other ++ row.path) ≡ true = names_behind front row.path other (tests other h).named (tests (front ++ row.path) k).named in
    ap (λ b. nat_le (length (other ++ row.path)) 1000 && nat_le (length (path_text (other ++ row.path))) 8000 && b) named
    ∙ and_true (nat_le (length (other ++ row.path)) 1000 && nat_le (length (path_text (other ++ row.path))) 8000)
    ∙ ap (λ b. nat_le (length (other ++ row.path)) 1000 && b) (text_le (other ++ row.path) ∙ same_le (bytes_of (other ++ row.path)) (bytes_of other + bytes_of row.path) 8000 (bytes_append other row.path))
    ∙ ap (λ b. b && nat_le (bytes_of other + bytes_of row.path) 8000) (same_le (length (other ++ row.path)) (length other + length row.path) 1000 (length-append other row.path))
  where
    and_true : (b : Bool) → (b && true) ≡ b
    and_true true = refl
    and_true false = refl

paths_behind : (front other : List (List ℕ)) (rs : List Row) → is_path other ≡ true → are_paths (map (row_placed front) rs) ≡ true → are_paths (map (row_placed other) rs) ≡ list_all (fits_behind (length other) (bytes_of other)) rs
paths_behind front other [] h k = refl
paths_behind front other (r ∷ rs) h k =
    let ks = both (is_path (front ++ r.path)) (are_paths (map (row_placed front) rs)) k in
    ap (λ b. b && are_paths (map (row_placed other) rs)) (path_behind front other r h ks.0) ∙ ap (λ b. fits_behind (length other) (bytes_of other) r && b) (paths_behind front other rs h ks.1)

-- no front that is deeper or longer
fits_shorter : (d e b c : ℕ) (row : Row) → e ≤ d → c ≤ b → fits_behind d b row ≡ true → fits_behind e c row ≡ true
fits_shorter d e b c row less short h =
    let parts = both (nat_le (d + length row.path) 1000) (nat_le (b + bytes_of row.path) 8000) h in
    let few : d + length row.path ≤ 1000 = le_true (d + length row.path) 1000 parts.0 in
    let light : b + bytes_of row.path ≤ 8000 = le_true (b + bytes_of row.path) 8000 parts.1 in
    and _ _ (true_le (e + length row.path) 1000 (omega arith)) (true_le (c + bytes_of row.path) 8000 (omega arith))

-- what was found at these names, among rows that are all of these
module _ (names from to : List (List ℕ)) (is : names ≡ from) (own all : List Row) (seen : own ≡ all) (within : are_paths own ≡ true) (source : IsPath from) (target : IsPath to) where
  under_from : (o : Option Node) → IsWhole names own o → rows_under from all ≡ map (row_placed from) (rows_or o)
  under_from o whole = sym (ap (λ p. rows_under p all) is) ∙ sym (ap (rows_under names) seen) ∙ whole ∙ ap (λ p. map (row_placed p) (rows_or o)) is

  old_paths : are_paths (rows_under from all) ≡ true
  old_paths = all_kept (inside from) (λ row. is_path row.path) all (ap are_paths (sym seen) ∙ within)

  pub fits_moved : (o : Option Node) → IsWhole names own o → list_all (fits_behind (length to) (bytes_of to)) (rows_or o) ≡ are_paths (map (moved_row from to) (rows_under from all))
  fits_moved o whole =
      sym (paths_behind from to (rows_or o) target (sym (ap are_paths (under_from o whole)) ∙ old_paths)) ∙ ap are_paths (sym (moved_placed from to (rows_or o)) ∙ ap (map (moved_row from to)) (sym (under_from o whole)))

  pub fits_short : (o : Option Node) → IsWhole names own o → length to ≤ length from → bytes_of to ≤ bytes_of from → are_paths (map (moved_row from to) (rows_under from all)) ≡ true
  fits_short o whole less short =
      let held : are_paths (map (row_placed from) (rows_or o)) ≡ true = sym (ap are_paths (under_from o whole)) ∙ old_paths in
      sym (fits_moved o whole)
      ∙ all_imp (fits_behind (length from) (bytes_of from)) (fits_behind (length to) (bytes_of to)) (λ row h. fits_shorter (length from) (length to) (bytes_of from) (bytes_of to) row less short h) (rows_or o)
      (sym (paths_behind from from (rows_or o) source held) ∙ held)

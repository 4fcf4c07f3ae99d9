-- A file that is put in the place of another: the directory that holds it is the last component above its path.
use Rattle.std.proofs.Common.{◌≡◌, ℕ, Bool, true, false, ◌&&◌, ◌||◌, List, [], ◌∷◌, ◌++◌, length, take, drop, cond, Option, Some, None, refl, sym, ap, ◌∙◌, subst}
use Rattle.std.specs.Prelude.{filter}
use Rattle.std.specs.List.{last_or}
use Rattle.std.specs.Option.{option_map}
use Rattle.std.specs.Ordering.{is_gt, is_lt, ordering_reverse}
use Rattle.std.specs.declared.cmp.Ordering.TheVariants.{Less, Greater}
use Rattle.file_paths.specs.Path.{is_beneath, is_prefix, parent_of}
use Rattle.file_paths.specs.PathOrder.{path_cmp, same_path, paths_total}
use Rattle.hdfs_values.specs.Text.{same}
use Rattle.hdfs_values.proofs.Texts.{same_is, same_self}
use Rattle.file_states.specs.declared.kind.ObjectKind.TheVariants.{File}
use Rattle.refusals.specs.declared.refusal.Refusal.TheVariants.{IsDirectory}
use Rattle.acl_entries.specs.Acl.{Acl}
use Rattle.default_acl.specs.Inheritance.{inherited_acl}
use Rattle.namespace_rows.specs.declared.file_row.FileRow.{FileRow}
use Rattle.namespace_rows.specs.declared.row.Row.{Row}
use Rattle.namespace_rows.specs.First.{first}
use Rattle.namespace_rows.specs.Rows.{is_directory, is_none, is_missing, row_at, ancestor, with_sub_tree}
use Rattle.namespace_rows.specs.Namespace.{is_root, is_rooted, is_child, has_parent, have_parents, is_before_all, is_ascending}
use Rattle.namespace_rows.specs.Changes.{last_name}
use Rattle.flat_rows.specs.FileOutcome.{directory_there}
use Rattle.flat_rows.specs.Outcome.{new_at, new_rows, with_new}
use Rattle.namespace_rows.proofs.Tests.{both, and}
use Rattle.namespace_rows.proofs.PathOrders.{same_path_is, less_is, starts_upto}
use Rattle.flat_rows.proofs.Changes.{same_self as same_path_self}
use Rattle.namespace_rows.proofs.Namespaces.{namespace_tests}
use Rattle.inode_tree.specs.Tree.{IsTree}
use Rattle.flat_rows.proofs.Firsts.{first_passes, first_found}

-- the path without its last name
abbrev front : List ℕ → List (List ℕ) → List (List ℕ)
front name names = take (length names) (name ∷ names)

beneath_front : (name : List ℕ) (names : List (List ℕ)) → is_beneath (name ∷ names) (front name names) ≡ true
beneath_front name [] = refl
beneath_front name (m ∷ ms) = and _ _ (same_self name) (beneath_front m ms)

same_back : (a b : List ℕ) → same a b ≡ true → same b a ≡ true
same_back a b h = ap (λ x. same x a) (sym (same_is a b h)) ∙ same_self a

-- each path that is above it is above its front or the front
front_longest : (name : List ℕ) (names q : List (List ℕ)) → is_beneath (name ∷ names) q ≡ true → is_prefix q (front name names) ≡ true
front_longest name names [] h = refl
front_longest name [] (o ∷ os) h = cc ((both (same name o) false h).1)
front_longest name (m ∷ ms) (o ∷ os) h =
    let hs = both (same name o) (is_beneath (m ∷ ms) os) h in
    and _ _ (same_back name o hs.0) (front_longest m ms os hs.1)

child_front : (name : List ℕ) (names q : List (List ℕ)) → is_child (name ∷ names) q ≡ true → q ≡ front name names
child_front name [] [] h = refl
child_front name [] (o ∷ os) h = cc ((both (same name o) false h).1)
child_front name (m ∷ ms) [] h = cc
child_front name (m ∷ ms) (o ∷ os) h =
    let hs = both (same name o) (is_child (m ∷ ms) os) h in
    ap (λ x. x ∷ os) (sym (same_is name o hs.0)) ∙ ap (λ xs. name ∷ xs) (child_front m ms os hs.1)

front_left : (name : List ℕ) (names : List (List ℕ)) → drop (length (front name names)) (name ∷ names) ≡ last_name (name ∷ names) ∷ []
front_left name [] = refl
front_left name (m ∷ ms) = front_left m ms

front_and_last : (name : List ℕ) (names : List (List ℕ)) → front name names ++ last_name (name ∷ names) ∷ [] ≡ name ∷ names
front_and_last name [] = refl
front_and_last name (m ∷ ms) = ap (λ xs. name ∷ xs) (front_and_last m ms)

-- a directory holds what has a path, and is found at its front

held : (name : List ℕ) (names : List (List ℕ)) (rows : List Row) (row : Row) → have_parents rows rows ≡ true → row_at (name ∷ names) rows ≡ Some row → has_parent (name ∷ names) rows ≡ true
held name names rows row parents is =
    let found = same_path_is (name ∷ names) row.path (first_found (λ r. same_path (name ∷ names) r.path) rows row is) in
    subst (λ p. (is_root p || has_parent p rows) ≡ true) (sym found) (first_passes (λ r. same_path (name ∷ names) r.path) (λ r. is_root r.path || has_parent r.path rows) rows row parents is)

module _ (name : List ℕ) (names : List (List ℕ)) where
  at_front : (row : Row) → same_path (front name names) row.path ≡ false → (is_child (name ∷ names) row.path && is_directory row) ≡ false
  at_front row apart = by (is_child (name ∷ names) row.path) refl
    where
      by : (b : Bool) → is_child (name ∷ names) row.path ≡ b → (b && is_directory row) ≡ false
      by false h = refl
      by true h = cc (sym apart ∙ ap (same_path (front name names)) (child_front name names row.path h) ∙ same_path_self (front name names))

  parent_found : (rows : List Row) → has_parent (name ∷ names) rows ≡ true → is_missing (front name names) rows ≡ false
  parent_found [] h = cc
  parent_found (row ∷ rows) h = by (same_path (front name names) row.path) refl (parent_found rows)
    where
      by : (b : Bool) → same_path (front name names) row.path ≡ b → (has_parent (name ∷ names) rows ≡ true → is_missing (front name names) rows ≡ false)
          → is_none (first (cond b (row ∷ filter (λ r. same_path (front name names) r.path) rows) (filter (λ r. same_path (front name names) r.path) rows))) ≡ false
      by true e others = refl
      by false e others = others (subst (λ b. (b || has_parent (name ∷ names) rows) ≡ true) (at_front row e) h)

-- the last component above a path

greater_of : (p q : List (List ℕ)) → path_cmp p q ≡ Less → path_cmp q p ≡ Greater
greater_of p q h = paths_total.antisymm q p ∙ ap ordering_reverse h

some_behind : (seen row : Row) (rows : List Row) → last_or None rows ≡ Some row → last_or (Some seen) rows ≡ Some row
some_behind seen row [] h = cc
some_behind seen row (r ∷ rows) h = h

module _ (name : List ℕ) (names : List (List ℕ)) where
  abbrev above : Row → Bool
  above row = is_beneath (name ∷ names) row.path

  not_above : (row : Row) → path_cmp (front name names) row.path ≡ Less → above row ≡ false
  not_above row less = by (above row) refl
    where
      by : (b : Bool) → above row ≡ b → b ≡ false
      by false h = refl
      by true h = cc (sym (starts_upto row.path (front name names) (front_longest name names row.path h)) ∙ ap is_gt (greater_of (front name names) row.path less))

  none_above : (row : Row) (rows : List Row) → row.path ≡ front name names → is_before_all row rows ≡ true → filter above rows ≡ []
  none_above row [] at low = refl
  none_above row (other ∷ rows) at low =
      let lows = both (is_lt (path_cmp row.path other.path)) (is_before_all row rows) low in
      ap (λ b. cond b (other ∷ filter above rows) (filter above rows)) (not_above other (ap (λ p. path_cmp p other.path) (sym at) ∙ less_is _ lows.0)) ∙ none_above row rows at lows.1

  last_above : (rows : List Row) (row : Row) → is_ascending rows ≡ true → row_at (front name names) rows ≡ Some row → ancestor (name ∷ names) rows ≡ Some row
  last_above [] row up is = cc
  last_above (other ∷ rows) row up is = by (same_path (front name names) other.path) refl is (λ k. last_above rows row ups.1 k)
    where
      ups : (is_before_all other rows ≡ true) × (is_ascending rows ≡ true)
      ups = both (is_before_all other rows) (is_ascending rows) up

      passed : (b : Bool) → last_or None (filter above rows) ≡ Some row → last_or None (cond b (other ∷ filter above rows) (filter above rows)) ≡ Some row
      passed true h = some_behind other row (filter above rows) h
      passed false h = h

      by : (b : Bool) → same_path (front name names) other.path ≡ b → first (cond b (other ∷ filter (λ r. same_path (front name names) r.path) rows) (filter (λ r. same_path (front name names) r.path) rows)) ≡ Some row
          → (row_at (front name names) rows ≡ Some row → ancestor (name ∷ names) rows ≡ Some row) → last_or None (cond (above other) (other ∷ filter above rows) (filter above rows)) ≡ Some row
      by true e k others =
          let at = sym (same_path_is (front name names) other.path e) in
          ap (λ b. last_or None (cond b (other ∷ filter above rows) (filter above rows))) (ap (is_beneath (name ∷ names)) at ∙ beneath_front name names)
          ∙ ap (last_or (Some other)) (none_above other rows at ups.0) ∙ k
      by false e k others = passed (above other) (others k)

-- the root is a directory

root_is : (path : List (List ℕ)) → is_root path ≡ true → path ≡ []
root_is [] h = refl
root_is (name ∷ names) h = cc

root_directory : (rows : List Row) → is_rooted rows ≡ true → directory_there (row_at [] rows) ≡ Some IsDirectory
root_directory [] h = cc
root_directory (row ∷ rows) h =
    let hs = both (is_root row.path) (is_directory row) h in
    ap (λ b. directory_there (first (cond b (row ∷ filter (λ r. same_path [] r.path) rows) (filter (λ r. same_path [] r.path) rows)))) (ap (same_path []) (root_is row.path hs.0))
    ∙ ap (λ d. cond d (Some IsDirectory) None) hs.1

-- what replaces a file

pub below_root : (path : List (List ℕ)) (rows : List Row) → IsTree rows → directory_there (row_at path rows) ≡ None → parent_of path ≡ None → ⊥
below_root [] rows tree file none = apart (sym (root_directory rows (namespace_tests rows tree.namespace).rooted) ∙ file)
  where
    apart : Some IsDirectory ≡ None → ⊥
    apart e = cc
below_root (name ∷ names) rows tree file none = cc

some_at : (path : List (List ℕ)) (rows : List Row) → is_missing path rows ≡ false → (row : Row) × (row_at path rows ≡ Some row)
some_at path rows there = by (row_at path rows) refl there
  where
    by : (at : Option Row) → row_at path rows ≡ at → is_none at ≡ false → (row : Row) × (row_at path rows ≡ Some row)
    by None e h = cc
    by (Some row) e h = (row, e)

pub held_by : (path above : List (List ℕ)) (rows : List Row) → IsTree rows → is_missing path rows ≡ false → parent_of path ≡ Some above → has_parent path rows ≡ true
held_by [] above rows tree there is = cc
held_by (name ∷ names) above rows tree there is =
    let found = some_at (name ∷ names) rows there in
    held name names rows found.0 (namespace_tests rows tree.namespace).held found.1

one : {X : Type 0} (x y : X) → Some x ≡ Some y → x ≡ y
one x y e = cc

pub parent_stands : (path above : List (List ℕ)) (rows : List Row) → IsTree rows → is_missing path rows ≡ false → parent_of path ≡ Some above → is_missing above rows ≡ false
parent_stands [] above rows tree there is = cc
parent_stands (name ∷ names) above rows tree there is =
    subst (λ p. is_missing p rows ≡ false) (one (front name names) above is) (parent_found name names rows (held_by (name ∷ names) above rows tree there is))

replaced : (path front : List (List ℕ)) (rows : List Row) (above : Row) (mode : ℕ) (file : FileRow) (owner : List ℕ) → IsTree rows → parent_of path ≡ Some front → row_at front rows ≡ Some above → above.path ≡ front
    → with_sub_tree rows (record { path = path; kind = File; owner = owner; group = above.group; acl = inherited_acl above.acl mode File; file = Some file } ∷ []) ≡ with_new path mode (Some file) owner (ancestor path rows) rows
replaced [] before rows above mode file owner tree parent is at = cc
replaced (name ∷ names) before rows above mode file owner tree parent is at =
    let same_front = one (front name names) before parent in
    let on_front = at ∙ sym same_front in
    let last = last_name (name ∷ names) in
    sym (ap (λ o. with_new (name ∷ names) mode (Some file) owner o rows) (last_above name names rows above (namespace_tests rows tree.namespace).ascending (ap (λ p. row_at p rows) same_front ∙ is))
    ∙ ap (λ l. with_sub_tree rows (new_rows above owner mode (Some file) l)) (ap (λ p. drop (length p) (name ∷ names)) on_front ∙ front_left name names)
    ∙ ap (λ p. with_sub_tree rows (new_at above.acl above.group owner mode (Some file) p ∷ [])) (ap (λ p. p ++ last ∷ []) on_front ∙ front_and_last name names))

pub replaced_file : (path front : List (List ℕ)) (rows : List Row) (above : Row) (mode : ℕ) (file : FileRow) (owner made_owner group : List ℕ) (acl : Acl) → IsTree rows → parent_of path ≡ Some front → row_at front rows ≡ Some above → above.path ≡ front
    → made_owner ≡ owner → group ≡ above.group → acl ≡ inherited_acl above.acl mode File
    → with_sub_tree rows (record { path = path; kind = File; owner = made_owner; group = group; acl = acl; file = Some file } ∷ []) ≡ with_new path mode (Some file) owner (ancestor path rows) rows
replaced_file path front rows above mode file owner made_owner group acl tree parent is at owned grouped listed = rw (owned, grouped, listed) (replaced path front rows above mode file owner tree parent is at)

-- what a look-up found

pub some_got : {X : Type 0} (f : X → Row) (got : Option X) (at : Option Row) (x : X) → option_map f got ≡ at → got ≡ Some x → at ≡ Some (f x)
some_got f got at x h is = sym h ∙ ap (option_map f) is

pub none_got : {X : Type 0} (f : X → Row) (got : Option X) (at : Option Row) → option_map f got ≡ at → got ≡ None → is_none at ≡ true
none_got f got at h is = ap is_none (sym h ∙ ap (option_map f) is)

-- The directories that are made beneath the last component that exists fit among the rows.
use Rattle.std.proofs.Common.{◌≡◌, ℕ, Bool, true, false, ◌&&◌, ◌||◌, List, [], ◌∷◌, ◌++◌, length, drop, take, Option, Some, None, refl, sym, ap, ◌∙◌, subst, Ordering, Less, Equal, Greater, is_eq, cond}
use Rattle.std.specs.Prelude.{filter, not}
use Rattle.std.specs.List.{list_all, list_any, last_or}
use Rattle.std.specs.Ordering.{is_lt, ordering_then}
use Rattle.hdfs_values.specs.Text.{same, text_cmp}
use Rattle.file_paths.specs.Path.{is_prefix, is_beneath}
use Rattle.file_paths.specs.PathOrder.{path_cmp, same_path, paths_total}
use Rattle.hdfs_values.proofs.Texts.{same_is, same_self}
use Rattle.file_states.specs.declared.kind.ObjectKind.TheVariants.{File}
use Rattle.acl_entries.specs.Acl.{Acl, EntryList, suits_file}
use Rattle.default_acl.specs.Inheritance.{inherited_acl, acl_from_default}
use Rattle.namespace_rows.specs.declared.file_row.FileRow.{FileRow}
use Rattle.namespace_rows.specs.declared.row.Row.{Row}
use Rattle.namespace_rows.specs.First.{first}
use Rattle.namespace_rows.specs.Rows.{is_directory, is_directory_kind, file_above, ancestor}
use Rattle.namespace_rows.specs.Namespace.{is_ascending, is_before_all, is_child, has_parent, suits_parts, suits_kind, fits}
use Rattle.flat_rows.specs.Outcome.{new_at, new_row, new_rows, mode_of_new, file_of_new, kind_of_new}
use Rattle.namespace_rows.proofs.Tests.{both, and, or_left, or_right, all_imp, all_filtered}
use Rattle.namespace_rows.proofs.PathOrders.{less_is}

-- paths

cons_cmp : (n : List ℕ) (ns ms : List (List ℕ)) → path_cmp (n ∷ ns) (n ∷ ms) ≡ path_cmp ns ms
cons_cmp n ns ms = ap (λ o. ordering_then o (path_cmp ns ms)) (tied (text_cmp n n) (same_self n))
  where
    tied : (o : Ordering) → is_eq o ≡ true → o ≡ Equal
    tied Less h = cc
    tied Equal h = refl
    tied Greater h = cc

pub longer_less : (p : List (List ℕ)) (n : List ℕ) → path_cmp p (p ++ n ∷ []) ≡ Less
longer_less [] n = refl
longer_less (m ∷ ms) n = cons_cmp m ms (ms ++ n ∷ []) ∙ longer_less ms n

pub starts_self : (p : List (List ℕ)) → is_prefix p p ≡ true
starts_self [] = refl
starts_self (n ∷ ns) = and _ _ (same_self n) (starts_self ns)

pub starts_longer : (p : List (List ℕ)) (n : List ℕ) → is_prefix p (p ++ n ∷ []) ≡ true
starts_longer [] n = refl
starts_longer (m ∷ ms) n = and _ _ (same_self m) (starts_longer ms n)

pub starts_onward : (p q r : List (List ℕ)) → is_prefix p q ≡ true → is_prefix q r ≡ true → is_prefix p r ≡ true
starts_onward [] q r h k = refl
starts_onward (n ∷ ns) [] r h k = cc
starts_onward (n ∷ ns) (m ∷ ms) [] h k = cc
starts_onward (n ∷ ns) (m ∷ ms) (o ∷ os) h k =
    let hs = both (same n m) (is_prefix ns ms) h in
    let ks = both (same m o) (is_prefix ms os) k in
    and _ _ (ap (λ t. same t o) (same_is n m hs.0) ∙ ks.0) (starts_onward ns ms os hs.1 ks.1)

pub child_longer : (p : List (List ℕ)) (n : List ℕ) → is_child (p ++ n ∷ []) p ≡ true
child_longer [] n = refl
child_longer (m ∷ ms) n = and _ _ (same_self m) (child_longer ms n)

tied_self : (p : List (List ℕ)) → same_path p p ≡ true
tied_self [] = refl
tied_self (n ∷ ns) = ap is_eq (cons_cmp n ns ns) ∙ tied_self ns

-- what a path beneath another goes on with
pub record Beneath (path above : List (List ℕ)) : Type 0 where
  pub name : List ℕ
  pub names : List (List ℕ)
  pub left : drop (length above) path ≡ name ∷ names
  pub front : take (length above) path ≡ above

pub beneath_parts : (path above : List (List ℕ)) → is_beneath path above ≡ true → Beneath path above
beneath_parts [] above h = absurd (no h)
  where
    no : false ≡ true → ⊥
    no e = cc
beneath_parts (n ∷ ns) [] h = record { name = n; names = ns; left = refl; front = refl }
beneath_parts (n ∷ ns) (m ∷ ms) h =
    let hs = both (same n m) (is_beneath ns ms) h in
    let rest = beneath_parts ns ms hs.1 in
    record { name = rest.name; names = rest.names; left = rest.left; front = ap (λ t. n ∷ t) rest.front ∙ ap (λ t. t ∷ ms) (same_is n m hs.0) }

-- the last of a list

pub last_all : (p : Row → Bool) (row : Row) (rows : List Row) (seen : Option Row) → ((r : Row) → seen ≡ Some r → p r ≡ true) → list_all p rows ≡ true → last_or seen rows ≡ Some row → p row ≡ true
last_all p row [] seen s h e = s row e
last_all p row (r ∷ rows) seen s h e = let hs = both (p r) (list_all p rows) h in last_all p row rows (Some r) (λ x same. subst (λ y. p y ≡ true) (one r x same) hs.0) hs.1 e
  where
    one : (x y : Row) → Some x ≡ Some y → x ≡ y
    one x y same = cc

last_any : (q : Row → Bool) (row : Row) (rows : List Row) (seen : Row) → q row ≡ true → last_or (Some seen) rows ≡ Some row → (q seen || list_any q rows) ≡ true
last_any q row [] seen h e = or_left _ _ (ap q (one seen row e) ∙ h)
  where
    one : (x y : Row) → Some x ≡ Some y → x ≡ y
    one x y same = cc
last_any q row (r ∷ rows) seen h e = or_right (q seen) _ (last_any q row rows r h e)

last_found : (q : Row → Bool) (row : Row) (rows : List Row) → q row ≡ true → last_or None rows ≡ Some row → list_any q rows ≡ true
last_found q row [] h e = cc
last_found q row (r ∷ rows) h e = last_any q row rows r h e

any_unfiltered : (p q : Row → Bool) (rows : List Row) → list_any q (filter p rows) ≡ true → list_any q rows ≡ true
any_unfiltered p q [] h = h
any_unfiltered p q (row ∷ rows) h = by_head (p row) h (any_unfiltered p q rows)
  where
    by_head : (b : Bool) → list_any q (cond b (row ∷ filter p rows) (filter p rows)) ≡ true → (list_any q (filter p rows) ≡ true → list_any q rows ≡ true) → (q row || list_any q rows) ≡ true
    by_head true k others = by_test (q row) k
      where
        by_test : (c : Bool) → (c || list_any q (filter p rows)) ≡ true → (c || list_any q rows) ≡ true
        by_test true m = refl
        by_test false m = others m
    by_head false k others = or_right (q row) _ (others k)

none_found : (p : Row → Bool) (rows : List Row) → first (filter p rows) ≡ None → list_any p rows ≡ false
none_found p [] h = refl
none_found p (row ∷ rows) h = by_head (p row) h (none_found p rows)
  where
    by_head : (b : Bool) → first (cond b (row ∷ filter p rows) (filter p rows)) ≡ None → (first (filter p rows) ≡ None → list_any p rows ≡ false) → (b || list_any p rows) ≡ false
    by_head true k others = cc
    by_head false k others = others k

pub ancestor_above : (path : List (List ℕ)) (rows : List Row) (above : Row) → ancestor path rows ≡ Some above → is_beneath path above.path ≡ true
ancestor_above path rows above found =
    last_all (λ row. is_beneath path row.path) above (filter (λ row. is_beneath path row.path) rows) None (λ r e. cc) (all_filtered (λ row. is_beneath path row.path) rows) found

-- what is made suits its kind

new_suits : (above : Acl) (mode : ℕ) (file : Option FileRow) → suits_parts (is_directory_kind (kind_of_new file)) (inherited_acl above mode (kind_of_new file)) file ≡ true
new_suits above mode None = refl
new_suits above mode (Some file) = by above.default
  where
    by : (default : Option EntryList) → suits_file (acl_from_default default mode File) ≡ true
    by None = refl
    by (Some list) = refl

-- the chain of new directories, and the file that may end it

module _ (owner : List ℕ) (mode : ℕ) (file : Option FileRow) where
  abbrev made_of : Row → List ℕ → List (List ℕ) → Row
  made_of above name names = new_row above owner (mode_of_new mode names) (file_of_new file names) name

  chain_starts : (above : Row) (names : List (List ℕ)) → list_all (λ row. is_prefix above.path row.path) (new_rows above owner mode file names) ≡ true
  chain_starts above [] = refl
  chain_starts above (name ∷ names) =
      let longer = starts_longer above.path name in
      and _ _ longer
      (all_imp (λ row. is_prefix (above.path ++ name ∷ []) row.path) (λ row. is_prefix above.path row.path) (λ row h. starts_onward above.path (above.path ++ name ∷ []) row.path longer h)
      (new_rows (made_of above name names) owner mode file names) (chain_starts (made_of above name names) names))

  chain_low : (above : Row) (names : List (List ℕ)) → is_before_all above (new_rows above owner mode file names) ≡ true
  chain_low above [] = refl
  chain_low above (name ∷ names) =
      let longer = longer_less above.path name in
      and _ _ (ap is_lt longer)
      (all_imp (λ row. is_lt (path_cmp (above.path ++ name ∷ []) row.path)) (λ row. is_lt (path_cmp above.path row.path))
      (λ row h. ap is_lt (paths_total.trans above.path (above.path ++ name ∷ []) row.path longer (less_is _ h)))
      (new_rows (made_of above name names) owner mode file names) (chain_low (made_of above name names) names))

  chain_ascending : (above : Row) (names : List (List ℕ)) → is_ascending (new_rows above owner mode file names) ≡ true
  chain_ascending above [] = refl
  chain_ascending above (name ∷ names) = and _ _ (chain_low (made_of above name names) names) (chain_ascending (made_of above name names) names)

  chain_held : (all : List Row) (above : Row) (names : List (List ℕ)) → ((p : List (List ℕ)) → is_child p above.path ≡ true → has_parent p all ≡ true)
      → ((q : Row → Bool) → list_any q (new_rows above owner mode file names) ≡ true → list_any q all ≡ true) → list_all (λ row. has_parent row.path all) (new_rows above owner mode file names) ≡ true
  chain_held all above [] held inside = refl
  chain_held all above (name ∷ []) held inside = and _ _ (held (above.path ++ name ∷ []) (child_longer above.path name)) refl
  chain_held all above (name ∷ next ∷ names) held inside =
      let made = made_of above name (next ∷ names) in
      and _ _ (held (above.path ++ name ∷ []) (child_longer above.path name))
      (chain_held all made (next ∷ names)
      (λ p c. inside (λ row. is_child p row.path && is_directory row) (or_left _ _ (and _ _ c refl)))
      (λ q h. inside q (or_right (q made) _ h)))

  chain_suits : (above : Row) (names : List (List ℕ)) → list_all suits_kind (new_rows above owner mode file names) ≡ true
  chain_suits above [] = refl
  chain_suits above (name ∷ names) = and _ _ (new_suits above.acl (mode_of_new mode names) (file_of_new file names)) (chain_suits (made_of above name names) names)

  -- each but the first has its parent among them
  inner_held : (above : Row) (name : List ℕ) (names : List (List ℕ))
      → list_all (λ row. has_parent row.path (new_rows above owner mode file (name ∷ names))) (new_rows (made_of above name names) owner mode file names) ≡ true
  inner_held above name [] = refl
  inner_held above name (next ∷ names) =
      let made = made_of above name (next ∷ names) in
      chain_held (made ∷ new_rows made owner mode file (next ∷ names)) made (next ∷ names)
      (λ p c. or_left _ _ (and _ _ c refl)) (λ q h. or_right (q made) _ h)

  chain_fits : (rows : List Row) (above : Row) (name : List ℕ) (names : List (List ℕ)) → has_parent (above.path ++ name ∷ []) rows ≡ true → fits rows (new_rows above owner mode file (name ∷ names)) ≡ true
  chain_fits rows above name names held =
      let made = made_of above name names in
      let others = new_rows made owner mode file names in
      let block : List Row = made ∷ others in
      let inner : list_all (λ row. has_parent row.path block) others ≡ true = inner_held above name names in
      and _ _ held
      (and _ _ (and _ _ (and _ _ (and _ _ (starts_self made.path) (chain_starts made names)) (chain_ascending above (name ∷ names)))
      (and _ _ (or_left _ _ (tied_self made.path))
      (all_imp (λ row. has_parent row.path block) (λ row. same_path made.path row.path || has_parent row.path block) (λ row h. or_right (same_path made.path row.path) _ h) others inner)))
      (chain_suits above (name ∷ names)))

  -- beneath the last component that exists, where no file is above
  pub missing_fit : (path : List (List ℕ)) (rows : List Row) (above : Row) → ancestor path rows ≡ Some above → file_above path rows ≡ None
      → fits rows (new_rows above owner mode file (drop (length above.path) path)) ≡ true
  missing_fit path rows above found clear =
      let beneath = ancestor_above path rows above found in
      let parts = beneath_parts path above.path beneath in
      let among : (q : Row → Bool) → q above ≡ true → list_any q rows ≡ true =
      λ q h. any_unfiltered (λ row. is_beneath path row.path) q rows (last_found q above (filter (λ row. is_beneath path row.path) rows) h found) in
      let directory : is_directory above ≡ true = by_kind (is_directory above) refl beneath among in
      let held : has_parent (above.path ++ parts.name ∷ []) rows ≡ true = among (λ row. is_child (above.path ++ parts.name ∷ []) row.path && is_directory row) (and _ _ (child_longer above.path parts.name) directory) in
      rw parts.left (chain_fits rows above parts.name parts.names held)
    where
      none : list_any (λ row. is_beneath path row.path && not (is_directory row)) rows ≡ false
      none = none_found (λ row. is_beneath path row.path && not (is_directory row)) rows clear

      by_kind : (b : Bool) → is_directory above ≡ b → is_beneath path above.path ≡ true → ((q : Row → Bool) → q above ≡ true → list_any q rows ≡ true) → b ≡ true
      by_kind true e beneath among = refl
      by_kind false e beneath among = sym none ∙ among (λ row. is_beneath path row.path && not (is_directory row)) (and _ _ beneath (ap not e))

  -- only the path, the group and the access control list of the row above are read
  pub same_chain : (a b : Row) (names : List (List ℕ)) → a.path ≡ b.path → a.group ≡ b.group → a.acl ≡ b.acl → new_rows a owner mode file names ≡ new_rows b owner mode file names
  same_chain a b [] p g l = refl
  same_chain a b (name ∷ names) p g l =
      let one : made_of a name names ≡ made_of b name names =
      ap (λ t. new_at a.acl a.group owner (mode_of_new mode names) (file_of_new file names) (t ++ name ∷ [])) p
      ∙ ap (λ t. new_at a.acl t owner (mode_of_new mode names) (file_of_new file names) (b.path ++ name ∷ [])) g
      ∙ ap (λ t. new_at t b.group owner (mode_of_new mode names) (file_of_new file names) (b.path ++ name ∷ [])) l in
      ap (λ made. made ∷ new_rows made owner mode file names) one

-- What changes of the nodes leave of the rows that are seen and of what is kept.
use Rattle.std.proofs.Common.{◌≡◌, ℕ, zero, suc, ◌+◌, ◌≤◌, Bool, true, false, ◌&&◌, ◌||◌, List, [], ◌∷◌, ◌++◌, map, filter, length, drop, cond, if◌then◌else◌, is_eq, Option, Some, None, option_map, Result, Ok, Err, OnOk, OnErr, refl, sym, ap, ◌∙◌, subst, is_some, eq-eqb, arith}
use Rattle.std.specs.Prelude.{not, IsSome}
use Rattle.std.specs.Option.{option_and_then}
use Rattle.std.specs.List.{list_any}
use Rattle.std.specs.Ordering.{is_lt}
use Rattle.std.proofs.lemmas.Bool.{false≢true}
use Rattle.std.proofs.lemmas.List.{take-append-drop, append-nil}
use Rattle.slab.specs.Slab.{Slab, get, ContainsKey, Updates, SameValues}
use Rattle.file_paths.specs.Path.{is_prefix}
use Rattle.file_paths.specs.PathOrder.{path_cmp, same_path}
use Rattle.acl_entries.specs.Acl.{Acl}
use Rattle.namespace_rows.specs.declared.file_row.FileRow.{FileRow}
use Rattle.namespace_rows.specs.declared.row.Row.{Row}
use Rattle.namespace_rows.specs.First.{first}
use Rattle.namespace_rows.specs.Rows.{is_directory, is_none, row_at, is_missing, file_above, ancestor, is_some_where, has_file, is_before, is_beyond, rows_replaced}
use Rattle.namespace_rows.specs.Namespace.{IsNamespace, is_ascending, is_before_all, is_child, has_parent, have_parents, is_root, suits_parts, suits_kind}
use Rattle.namespace_rows.proofs.Tests.{both, and}
use Rattle.namespace_rows.proofs.Namespaces.{namespace_tests}
use Rattle.namespace_rows.proofs.PathOrders.{less_is, starts_upto, same_path_is}
use Rattle.namespace_rows.specs.Changes.{rows_under, without, with_rows_moved, with_file}
use Rattle.flat_rows.specs.Outcome.{kind_of_new, with_new}
use Rattle.flat_rows.proofs.Changes.{same_self}
use Rattle.flat_rows.proofs.Firsts.{first_passes}
use Rattle.flat_rows.proofs.Holders.{tally_append, tally_map}
use Rattle.flat_rows.proofs.Missing.{found, child_shorter}
use Rattle.flat_rows.proofs.Moves.{parent_inside}
use Rattle.flat_rows.proofs.NewDirectories.{ancestor_above, beneath_parts, starts_self}
use Rattle.flat_rows.proofs.Making.{first_missing, some_ancestor}
use Rattle.file_table.specs.Place.{placed, place_in}
use Rattle.file_table.specs.Seen.{file_held, seen, seen_rows}
use Rattle.file_table.specs.Kept.{is_at_place, rows_at_place, are_at_place, held_count, AreKept, get_unless}
use Rattle.inode_nodes.specs.Node.{Top, Node, rows, rows_or, row_of, row_placed, with_rows}
use Rattle.inode_nodes.specs.Part.{IsWhole}
use Rattle.inode_nodes.specs.Change.{branch_grafted}
use Rattle.inode_nodes.proofs.Through.{put_top, there_within}
use Rattle.inode_nodes.proofs.Wholes.{filter_within, row_at_whole}
use Rattle.inode_visits.specs.Holding.{has_files}
use Rattle.inode_files.specs.Rooms.{IsRoomFor, IsPut}
use Rattle.inode_files.specs.Exchange.{IsExchanged}
use Rattle.inode_files.proofs.SeenRows.{shown, shown_all, shown_at, shown_ascending, shown_under, shown_missing, shown_parent, shown_file_above, shown_ancestor, shown_without, shown_replaced, shown_moved, shown_new}
use Rattle.inode_files.proofs.Places.{seen_same, kept_same, seen_elsewhere, seen_put, kept_put, kept_changed, seen_forgotten, kept_forgotten, none_at}
use Rattle.inode_files.proofs.Counts.{count_without, count_replaced, count_moved, count_new, none_under}

abbrev told_at : ℕ → Option FileRow → ℕ
told_at place file = if is_at_place place file then 1 else 0

-- what is asked of the rows seen, asked of the own rows of the nodes

module _ (files : Slab FileRow) (own all : List Row) (view : seen_rows files own ≡ all) where
  pub own_missing : (path : List (List ℕ)) → is_missing path own ≡ is_missing path all
  own_missing path = sym (shown_missing (file_held files) path own) ∙ ap (is_missing path) view

  pub own_parent : (path : List (List ℕ)) → has_parent path own ≡ has_parent path all
  own_parent path = sym (shown_parent (file_held files) path own) ∙ ap (has_parent path) view

  pub own_clear : (path : List (List ℕ)) → file_above path all ≡ None → file_above path own ≡ None
  own_clear path clear = by (file_above path own) (sym (shown_file_above (file_held files) path own) ∙ ap (file_above path) view ∙ clear)
    where
      by : (o : Option Row) → option_map (shown (file_held files)) o ≡ None → o ≡ None
      by None e = refl
      by (Some row) e = cc

  pub own_under : (path : List (List ℕ)) → rows_under path all ≡ [] → rows_under path own ≡ []
  own_under path none = by (rows_under path own) (sym (shown_under (file_held files) path own) ∙ ap (rows_under path) view ∙ none)
    where
      by : (rs : List Row) → map (shown (file_held files)) rs ≡ [] → rs ≡ []
      by [] e = refl
      by (row ∷ rs) e = cc

-- a file that was put in at its place

module _ (old roomy new : Slab FileRow) (file : Option FileRow) (place : Option ℕ) (same : SameValues old roomy) (room : IsRoomFor roomy file place) (put : IsPut file roomy new)
    (own : List Row) (kept : AreKept old own) where
  placed_at : (f : FileRow) (p : ℕ) → file ≡ Some f → place ≡ Some p → IsRoomFor roomy (Some f) (Some p) → IsPut (Some f) roomy new → Updates roomy new p (Some f)
  placed_at f p e k r u = subst (λ key. Updates roomy new key (Some f)) (sym r.place_is) u

  pub seen_kept : seen_rows new own ≡ seen_rows old own
  seen_kept = by file place refl refl room put ∙ seen_same old roomy own same
    where
      by : (f : Option FileRow) (p : Option ℕ) → file ≡ f → place ≡ p → IsRoomFor roomy f p → IsPut f roomy new → seen_rows new own ≡ seen_rows roomy own
      by None p e k r u = seen_same roomy new own u
      by (Some f) None e k r u = absurd r
      by (Some f) (Some p) e k r u = seen_put roomy new own p f r.vacant (placed_at f p e k r u) (kept_same old roomy own same kept)

  pub kept_with : (more : List Row) → ((k : ℕ) → length (rows_at_place k more) ≡ length (rows_at_place k own) + told_at k (option_map placed place)) → AreKept new more
  kept_with more counts = by file place refl refl room put
    where
      by : (f : Option FileRow) (p : Option ℕ) → file ≡ f → place ≡ p → IsRoomFor roomy f p → IsPut f roomy new → AreKept new more
      by None p e k r u =
          kept_same roomy new more u (kept_same old roomy more same (λ i.
          let none : told_at i (option_map placed place) ≡ 0 = ap (λ q. told_at i (option_map placed q)) (k ∙ r) in
          omega (arith, counts i, kept i, none)))
      by (Some f) None e k r u = absurd r
      by (Some f) (Some p) e k r u =
          kept_put roomy new own more p f r.vacant (placed_at f p e k r u) (kept_same old roomy own same kept)
          (λ i. counts i ∙ ap (λ q. length (rows_at_place i own) + told_at i (option_map placed q)) k)

  pub held_put : file_held new (option_map placed place) ≡ file
  held_put = by file place refl refl room put
    where
      by : (f : Option FileRow) (p : Option ℕ) → file ≡ f → place ≡ p → IsRoomFor roomy f p → IsPut f roomy new → file_held new (option_map placed place) ≡ file
      by None p e k r u = ap (λ q. file_held new (option_map placed q)) (k ∙ r) ∙ sym e
      by (Some f) None e k r u = absurd r
      by (Some f) (Some p) e k r u = ap (λ q. file_held new (option_map placed q)) k ∙ (placed_at f p e k r u).changed ∙ sym e

  pub kind_put : kind_of_new (option_map placed place) ≡ kind_of_new file
  kind_put = by file place refl refl room
    where
      by : (f : Option FileRow) (p : Option ℕ) → file ≡ f → place ≡ p → IsRoomFor roomy f p → kind_of_new (option_map placed place) ≡ kind_of_new file
      by None p e k r = ap (λ q. kind_of_new (option_map placed q)) (k ∙ r) ∙ sym (ap kind_of_new e)
      by (Some f) None e k r = absurd r
      by (Some f) (Some p) e k r = ap (λ q. kind_of_new (option_map placed q)) k ∙ sym (ap kind_of_new e)

-- what is made

module _ (files : Slab FileRow) (node : Node) (all : List Row) (view : seen_rows files (rows node) ≡ all) (path : List (List ℕ)) (namespace : IsNamespace all) (missing : is_missing path all ≡ true) where
  below : is_root path ≡ false
  below = by path refl
    where
      by : (p : List (List ℕ)) → path ≡ p → is_root p ≡ false
      by [] e = absurd (false≢true (ap (λ p. is_missing p (rows node)) (sym e) ∙ own_missing files (rows node) all view path ∙ missing))
      by (n ∷ ns) e = refl

  record Above : Type 0 where
    row : Row
    found : ancestor path (rows node) ≡ Some row
    seen : ancestor path all ≡ Some (shown (file_held files) row)

  above : Above
  above =
      let one = some_ancestor path all namespace below in
      by (ancestor path (rows node)) refl (sym (shown_ancestor (file_held files) path (rows node)) ∙ ap (ancestor path) view) one.0 one.1
    where
      by : (o : Option Row) → ancestor path (rows node) ≡ o → option_map (shown (file_held files)) (ancestor path (rows node)) ≡ ancestor path all → (a : Row) → ancestor path all ≡ Some a → Above
      by None e is a k = absurd (no (sym (ap (option_map (shown (file_held files))) e) ∙ is ∙ k))
        where
          no : None ≡ Some a → ⊥
          no h = cc
      by (Some row) e is a k = record { row = row; found = e; seen = sym is ∙ ap (option_map (shown (file_held files))) e }

  pub count_made : (k : ℕ) (mode : ℕ) (file : Option FileRow) (owner : List ℕ)
      → length (rows_at_place k (with_new path mode file owner (ancestor path (rows node)) (rows node))) ≡ length (rows_at_place k (rows node)) + told_at k file
  count_made k mode file owner =
      let parts = beneath_parts path above.row.path (ancestor_above path all (shown (file_held files) above.row) above.seen) in
      ap (λ o. length (rows_at_place k (with_new path mode file owner o (rows node)))) above.found
      ∙ count_new k path mode file owner above.row (rows node)
      (λ name names e.
      let whole : path ≡ above.row.path ++ name ∷ names =
      sym (take-append-drop (length above.row.path) path) ∙ ap (λ t. t ++ drop (length above.row.path) path) parts.front ∙ ap (λ t. above.row.path ++ t) e in
      own_under files (rows node) all view (above.row.path ++ name ∷ []) (none_under (above.row.path ++ name ∷ []) all namespace
      (first_missing path all (shown (file_held files) above.row) name names namespace missing above.seen whole)))
      (λ e. no parts.name parts.names (sym parts.left ∙ e))
    where
      no : (name : List ℕ) (names : List (List ℕ)) → (name ∷ names) ≡ [] → ⊥
      no name names h = cc

module _ (old roomy new : Slab FileRow) (file : Option FileRow) (place : Option ℕ) (same : SameValues old roomy) (room : IsRoomFor roomy file place) (put : IsPut file roomy new)
    (node made : Node) (kept : AreKept old (rows node)) (all : List Row) (view : seen_rows old (rows node) ≡ all) (path : List (List ℕ)) (mode : ℕ) (owner : List ℕ)
    (namespace : IsNamespace all) (missing : is_missing path all ≡ true) (done : rows made ≡ with_new path mode (option_map placed place) owner (ancestor path (rows node)) (rows node)) where
  pub kept_made : AreKept new (rows made)
  kept_made =
      kept_with old roomy new file place same room put (rows node) kept (rows made)
      (λ k. ap (λ rs. length (rows_at_place k rs)) done ∙ count_made old node all view path namespace missing k mode (option_map placed place) owner)

  pub seen_made : seen_rows new (rows made) ≡ with_new path mode file owner (ancestor path all) all
  seen_made =
      let now : seen_rows new (rows node) ≡ all = seen_kept old roomy new file place same room put (rows node) kept ∙ view in
      let held : file_held new (option_map placed place) ≡ file = held_put old roomy new file place same room put (rows node) kept in
      let kind : kind_of_new (file_held new (option_map placed place)) ≡ kind_of_new (option_map placed place) =
      ap kind_of_new held ∙ sym (kind_put old roomy new file place same room put (rows node) kept) in
      ap (seen_rows new) done ∙ sym (shown_new (file_held new) refl path mode (option_map placed place) owner (rows node) kind)
      ∙ ap (λ f. with_new path mode f owner (ancestor path (seen_rows new (rows node))) (seen_rows new (rows node))) held
      ∙ ap (λ rs. with_new path mode file owner (ancestor path rs) rs) now

-- what is removed

module _ (old new : Slab FileRow) (node left : Node) (taken : Option Node) (path : List (List ℕ)) (whole : IsWhole path (rows node) taken) (done : rows left ≡ without path (rows node))
    (kept : AreKept old (rows node)) (forgotten : (k : ℕ) → get new k ≡ get_unless (are_at_place k (rows_or taken)) old k) where
  count_left : (k : ℕ) → length (rows_at_place k (rows left)) + length (rows_at_place k (rows_or taken)) ≡ held_count old k
  count_left k =
      let stay : length (rows_at_place k (rows left)) ≡ length (rows_at_place k (without path (rows node))) = ap (λ rs. length (rows_at_place k rs)) done in
      let gone : length (rows_at_place k (rows_under path (rows node))) ≡ length (rows_at_place k (rows_or taken)) =
      ap (λ rs. length (rows_at_place k rs)) whole ∙ tally_map (λ row. is_at_place k row.file) (row_placed path) (λ row. refl) (rows_or taken) in
      omega (arith, stay, gone, kept k, count_without k path (rows node))

  pub kept_removed : AreKept new (rows left)
  kept_removed = kept_forgotten old new (rows left) (rows_or taken) forgotten count_left

  pub seen_removed : (all : List Row) → seen_rows old (rows node) ≡ all → seen_rows new (rows left) ≡ without path all
  seen_removed all view =
      seen_forgotten old new (rows left) (rows_or taken) forgotten count_left ∙ ap (seen_rows old) done ∙ sym (shown_without (file_held old) path (rows node)) ∙ ap (without path) view

-- what is removed where none of it is a file

module _ (files : Slab FileRow) (path : List (List ℕ)) where
  placed_files : (rs : List Row) → has_files (seen_rows files (map (row_placed path) rs)) ≡ has_files (seen_rows files rs)
  placed_files [] = refl
  placed_files (r ∷ rs) = ap (λ b. is_some (file_held files r.file) || b) (placed_files rs)

  pub none_taken : (node : Node) (taken : Option Node) → IsWhole path (rows node) taken → AreKept files (rows node) → (all : List Row) → seen_rows files (rows node) ≡ all → has_files (rows_under path all) ≡ false
      → (k : ℕ) → are_at_place k (rows_or taken) ≡ false
  none_taken node taken whole kept all view none =
      none_at files (rows_or taken) fewer
      (sym (placed_files (rows_or taken)) ∙ ap (λ rs. has_files (seen_rows files rs)) (sym whole) ∙ ap has_files (sym (shown_under (file_held files) path (rows node)) ∙ ap (rows_under path) view) ∙ none)
    where
      fewer : (k : ℕ) → length (rows_at_place k (rows_or taken)) ≤ held_count files k
      fewer k =
          let gone : length (rows_at_place k (rows_under path (rows node))) ≡ length (rows_at_place k (rows_or taken)) =
          ap (λ rs. length (rows_at_place k rs)) whole ∙ tally_map (λ row. is_at_place k row.file) (row_placed path) (λ row. refl) (rows_or taken) in
          omega (arith, gone, kept k, count_without k path (rows node))

-- what is moved

none_left : (p q : Row → Bool) (rs : List Row) → filter p rs ≡ [] → filter p (filter q rs) ≡ []
none_left p q [] none = refl
none_left p q (r ∷ rs) none = by (p r) (q r) refl none (none_left p q rs)
  where
    by : (a b : Bool) → p r ≡ a → cond a (r ∷ filter p rs) (filter p rs) ≡ [] → (filter p rs ≡ [] → filter p (filter q rs) ≡ []) → filter p (cond b (r ∷ filter q rs) (filter q rs)) ≡ []
    by true b e h rest = cc
    by false true e h rest = rw e (rest h)
    by false false e h rest = rest h

module _ (files : Slab FileRow) (node moved : Node) (all : List Row) (view : seen_rows files (rows node) ≡ all) (from to : List (List ℕ)) where
  pub seen_moved : rows moved ≡ with_rows_moved from to (rows node) → seen_rows files (rows moved) ≡ with_rows_moved from to all
  seen_moved done = ap (seen_rows files) done ∙ sym (shown_moved (file_held files) from to (rows node)) ∙ ap (with_rows_moved from to) view

  pub kept_moved : {T E : Type 0} (r : Result T E) → AreKept files (rows node) → IsNamespace all → is_missing to all ≡ true
      → OnOk r (rows moved ≡ with_rows_moved from to (rows node)) → OnErr r (moved ≡ node) → AreKept files (rows moved)
  kept_moved (Ok x) kept namespace free done same =
      let none : rows_under to (without from (rows node)) ≡ [] =
      none_left (λ row. is_prefix to row.path) (λ row. not (is_prefix from row.path)) (rows node) (own_under files (rows node) all view to (none_under to all namespace free)) in
      λ k. ap (λ rs. length (rows_at_place k rs)) done ∙ count_moved k from to (rows node) none ∙ kept k
  kept_moved (Err e) kept namespace free done same = subst (λ n. AreKept files (rows n)) (sym same) kept

-- a leaf that is put at a path

pub grafted : (path above : List (List ℕ)) (name : List ℕ) (node branch now : Node) → path ≡ above ++ name ∷ [] → now ≡ with_rows node (branch_grafted (above ++ name ∷ []) branch node.beneath)
    → rows now ≡ branch_grafted path branch (rows node)
grafted path above name node branch now parted done =
    ap rows done ∙ sym (put_top above name branch node.top node.beneath) ∙ ap (λ p. branch_grafted p branch (rows node)) (sym parted)

leaf_grafted : (path : List (List ℕ)) (node leaf now : Node) (top : Top) → leaf ≡ record { top = top; beneath = [] } → rows now ≡ branch_grafted path leaf (rows node)
    → rows now ≡ rows_replaced path (row_of path top ∷ []) (rows node)
leaf_grafted path node leaf now top leaf_is done =
    done ∙ ap (λ n. branch_grafted path n (rows node)) leaf_is ∙ ap (λ p. rows_replaced path (row_of p top ∷ []) (rows node)) (append-nil path)

leaf_put : (path above : List (List ℕ)) (name : List ℕ) (node leaf now : Node) (top : Top) → leaf ≡ record { top = top; beneath = [] } → path ≡ above ++ name ∷ []
    → now ≡ with_rows node (branch_grafted (above ++ name ∷ []) leaf node.beneath) → rows now ≡ rows_replaced path (row_of path top ∷ []) (rows node)
leaf_put path above name node leaf now top leaf_is parted done = leaf_grafted path node leaf now top leaf_is (grafted path above name node leaf now parted done)

count_one : (k : ℕ) (row : Row) → length (rows_at_place k (row ∷ [])) ≡ told_at k row.file
count_one k row = by (is_at_place k row.file)
  where
    by : (b : Bool) → length (cond b (row ∷ []) []) ≡ (if b then 1 else 0)
    by true = refl
    by false = refl

seen_leaf : (files : Slab FileRow) (path : List (List ℕ)) (row : Row) (own : List Row) → seen_rows files (rows_replaced path (row ∷ []) own) ≡ rows_replaced path (seen files row ∷ []) (seen_rows files own)
seen_leaf files path row own = sym (shown_replaced (file_held files) path (row ∷ []) own)

-- a file that is put in the place of another

-- rows at and beneath the path aren't read where others are put there
replaced_without : (path : List (List ℕ)) (block rs : List Row) → rows_replaced path block (without path rs) ≡ rows_replaced path block rs
replaced_without path block rs =
    ap (λ l. l ++ (block ++ filter (is_beyond path) (without path rs))) (filter_within (is_before path) (λ row. not (is_prefix path row.path)) before rs)
    ∙ ap (λ l. filter (is_before path) rs ++ (block ++ l)) (filter_within (is_beyond path) (λ row. not (is_prefix path row.path)) (λ row h. (both (is_lt (path_cmp path row.path)) (not (is_prefix path row.path)) h).1) rs)
  where
    before : (row : Row) → is_before path row ≡ true → not (is_prefix path row.path) ≡ true
    before row h = by (is_prefix path row.path) refl
      where
        by : (b : Bool) → is_prefix path row.path ≡ b → not b ≡ true
        by true e = absurd (false≢true (sym (starts_upto path row.path e) ∙ h))
        by false e = refl

-- nothing is beneath a file

any_filter : (p q : Row → Bool) (rs : List Row) → list_any (λ r. p r && q r) rs ≡ list_any q (filter p rs)
any_filter p q [] = refl
any_filter p q (r ∷ rs) = by (p r) (any_filter p q rs)
  where
    by : (b : Bool) → list_any (λ r. p r && q r) rs ≡ list_any q (filter p rs) → ((b && q r) || list_any (λ r. p r && q r) rs) ≡ list_any q (cond b (r ∷ filter p rs) (filter p rs))
    by true e = ap (λ t. q r || t) e
    by false e = e

same_filter : (p q : Row → Bool) → ((r : Row) → q r ≡ true → p r ≡ true) → (rs : List Row) → list_any (λ r. p r && not (q r)) rs ≡ false → filter p rs ≡ filter q rs
same_filter p q within [] none = refl
same_filter p q within (r ∷ rs) none = by (p r) (q r) refl refl none (same_filter p q within rs)
  where
    by : (a b : Bool) → p r ≡ a → q r ≡ b → ((a && not b) || list_any (λ r. p r && not (q r)) rs) ≡ false → (list_any (λ r. p r && not (q r)) rs ≡ false → filter p rs ≡ filter q rs)
        → cond a (r ∷ filter p rs) (filter p rs) ≡ cond b (r ∷ filter q rs) (filter q rs)
    by true true e f h rest = ap (λ l. r ∷ l) (rest h)
    by true false e f h rest = cc
    by false true e f h rest = absurd (false≢true (sym e ∙ within r f))
    by false false e f h rest = rest h

module _ (top : List (List ℕ)) where
  abbrev stands : Row → Bool
  stands row = same_path top row.path

  none_behind : (x : Row) (rs : List Row) → stands x ≡ true → is_before_all x rs ≡ true → filter stands rs ≡ []
  none_behind x [] at low = refl
  none_behind x (r ∷ rs) at low =
      let lows = both (is_lt (path_cmp x.path r.path)) (is_before_all x rs) low in
      let apart : stands r ≡ false = ap (λ p. same_path p r.path) (same_path_is top x.path at) ∙ ap is_eq (less_is _ lows.0) in
      rw apart (none_behind x rs at lows.1)

  alone_at : (row : Row) (rs : List Row) → is_ascending rs ≡ true → row_at top rs ≡ Some row → filter stands rs ≡ row ∷ []
  alone_at row [] up at = cc
  alone_at row (x ∷ xs) up at =
      let ups = both (is_before_all x xs) (is_ascending xs) up in
      by (stands x) refl at (λ s. none_behind x xs s ups.0) (alone_at row xs ups.1)
    where
      by : (b : Bool) → stands x ≡ b → first (cond b (x ∷ filter stands xs) (filter stands xs)) ≡ Some row → (stands x ≡ true → filter stands xs ≡ []) → (row_at top xs ≡ Some row → filter stands xs ≡ row ∷ [])
          → cond b (x ∷ filter stands xs) (filter stands xs) ≡ row ∷ []
      by true e k behind rest = let none = behind e in cc
      by false e k behind rest = rest k

  module _ (rs : List Row) (held : have_parents rs rs ≡ true) (up : is_ascending rs ≡ true) where
    directory_above : (k : ℕ) (path : List (List ℕ)) → length path ≤ k → list_any (λ r. same_path path r.path) rs ≡ true → is_prefix top path ≡ true → same_path top path ≡ false
        → list_any (λ r. stands r && is_directory r) rs ≡ true
    directory_above k [] le there inside apart = by top inside apart
      where
        by : (p : List (List ℕ)) → is_prefix p [] ≡ true → same_path p [] ≡ false → list_any (λ r. stands r && is_directory r) rs ≡ true
        by [] h e = cc
        by (n ∷ ns) h e = cc
    directory_above zero (n ∷ ns) le there inside apart = absurd (omega (arith, le))
    directory_above (suc k) (n ∷ ns) le there inside apart =
        let one = found (λ r. same_path (n ∷ ns) r.path) rs there in
        let path : (n ∷ ns) ≡ one.row.path = same_path_is (n ∷ ns) one.row.path one.passes in
        let parent : has_parent (n ∷ ns) rs ≡ true = ap (λ p. is_root p || has_parent p rs) path ∙ one.shared (λ row. is_root row.path || has_parent row.path rs) held in
        let above = found (λ a. is_child (n ∷ ns) a.path && is_directory a) rs parent in
        let parts = both (is_child (n ∷ ns) above.row.path) (is_directory above.row) above.passes in
        let within : is_prefix top above.row.path ≡ true = parent_inside top (n ∷ ns) above.row.path inside apart parts.0 in
        by above.row (same_path top above.row.path) refl parts.1 above.among
        (λ e. directory_above k above.row.path (omega (arith, le, child_shorter (n ∷ ns) above.row.path parts.0)) (above.among (λ r. same_path above.row.path r.path) (same_self above.row.path)) within e)
      where
        by : (above : Row) (b : Bool) → same_path top above.path ≡ b → is_directory above ≡ true → ((q : Row → Bool) → q above ≡ true → list_any q rs ≡ true)
            → (same_path top above.path ≡ false → list_any (λ r. stands r && is_directory r) rs ≡ true) → list_any (λ r. stands r && is_directory r) rs ≡ true
        by above true e kind among rest = among (λ r. stands r && is_directory r) (and _ _ e kind)
        by above false e kind among rest = rest e

    file_alone : (row : Row) → row_at top rs ≡ Some row → is_directory row ≡ false → rows_under top rs ≡ row ∷ []
    file_alone row at kind = by (list_any (λ r. is_prefix top r.path && not (stands r)) rs) refl
      where
        or_false : (b : Bool) → (b || false) ≡ b
        or_false true = refl
        or_false false = refl

        not_true : (b : Bool) → not b ≡ true → b ≡ false
        not_true true h = cc
        not_true false h = refl

        by : (b : Bool) → list_any (λ r. is_prefix top r.path && not (stands r)) rs ≡ b → rows_under top rs ≡ row ∷ []
        by false e = same_filter (λ r. is_prefix top r.path) stands (λ r h. subst (λ p. is_prefix top p ≡ true) (same_path_is top r.path h) (starts_self top)) rs e ∙ alone_at row rs up at
        by true e =
            let one = found (λ r. is_prefix top r.path && not (stands r)) rs e in
            let parts = both (is_prefix top one.row.path) (not (stands one.row)) one.passes in
            let directory : list_any (λ r. stands r && is_directory r) rs ≡ true =
            directory_above (length one.row.path) one.row.path (omega arith) (one.among (λ r. same_path one.row.path r.path) (same_self one.row.path)) parts.0 (not_true (stands one.row) parts.1) in
            absurd (false≢true (sym kind ∙ sym (or_false (is_directory row)) ∙ ap (list_any is_directory) (sym (alone_at row rs up at)) ∙ sym (any_filter stands is_directory rs) ∙ directory))

-- what a new node has, by the place of its file
abbrev top_with : Option FileRow → List ℕ → List ℕ → Acl → Top
top_with file owner group acl = record { kind = kind_of_new file; owner = owner; group = group; acl = acl; file = file }

pub on_any_err : {T E : Type 0} {P : Type 0} (r : Result T E) → P → OnErr r P
on_any_err (Ok x) p = tt
on_any_err (Err e) p = p

pub no_parent_of_root : (path : List (List ℕ)) (all : List Row) → length path ≡ 0 → has_parent path all ≡ true → ⊥
no_parent_of_root [] all none h = false≢true (sym (go all) ∙ h)
  where
    go : (all : List Row) → has_parent [] all ≡ false
    go [] = refl
    go (r ∷ rs) = go rs
no_parent_of_root (n ∷ ns) all none h = absurd (omega (arith, none))

-- the path that is parted, and what stands there
pub part_there : (path above : List (List ℕ)) (name : List ℕ) (node : Node) → path ≡ above ++ name ∷ [] → is_missing path (rows node) ≡ false → is_missing (above ++ name ∷ []) node.beneath ≡ false
part_there path above name node parted there = there_within above name node (ap (λ p. is_missing p (rows node)) (sym parted) ∙ there)

pub whole_there : (path : List (List ℕ)) (own : List Row) (branch : Node) → IsWhole path own (Some branch) → is_missing path own ≡ false
whole_there path own branch whole = ap is_none (sym (row_at_whole path own (Some branch) whole))

-- a leaf is put in, and the files of what stood there are forgotten

pub placed_places : (k : ℕ) (path : List (List ℕ)) (rs : List Row) → are_at_place k (map (row_placed path) rs) ≡ are_at_place k rs
placed_places k path [] = refl
placed_places k path (r ∷ rs) = ap (λ b. is_at_place k r.file || b) (placed_places k path rs)

pub exchanged : (path : List (List ℕ)) (own : List Row) (part : Option Node) → IsWhole path own part → (file : Option FileRow) (old both new : Slab FileRow) → IsPut file old both
    → ((k : ℕ) → get new k ≡ get_unless (are_at_place k (rows_or part)) both k) → IsExchanged path own file old new
exchanged path own part whole file old both new put gone =
    record {
      both = both;
      put = put;
      gone = λ k. gone k ∙ ap (λ b. get_unless b both k) (sym (ap (are_at_place k) whole ∙ placed_places k path (rows_or part)));
    }

module _ (old roomy last : Slab FileRow) (file : Option FileRow) (place : Option ℕ) (same : SameValues old roomy) (room : IsRoomFor roomy file place)
    (node leaf now : Node) (kept : AreKept old (rows node)) (path : List (List ℕ)) (exchange : IsExchanged path (rows node) file roomy last)
    (owner group : List ℕ) (acl : Acl) (leaf_is : leaf ≡ record { top = top_with (option_map placed place) owner group acl; beneath = [] })
    (done : rows now ≡ branch_grafted path leaf (rows node)) where
  abbrev new : Slab FileRow
  new = exchange.both

  abbrev out : List Row
  out = rows_under path (rows node)

  abbrev leaf_row : Row
  leaf_row = row_of path (top_with (option_map placed place) owner group acl)

  with_leaf : rows now ≡ rows_replaced path (leaf_row ∷ []) (rows node)
  with_leaf = leaf_grafted path node leaf now (top_with (option_map placed place) owner group acl) leaf_is done

  count_put : (k : ℕ) → length (rows_at_place k (rows now)) + length (rows_at_place k out) ≡ length (rows_at_place k (rows node)) + told_at k (option_map placed place)
  count_put k =
      let here : length (rows_at_place k (rows now)) ≡ length (rows_at_place k (rows_replaced path (leaf_row ∷ []) (rows node))) = ap (λ rs. length (rows_at_place k rs)) with_leaf in
      omega (arith, here, count_replaced k path (leaf_row ∷ []) (rows node), count_one k leaf_row)

  held_both : (k : ℕ) → length (rows_at_place k (rows now)) + length (rows_at_place k out) ≡ held_count new k
  held_both k =
      let apart : (i : ℕ) → length (rows_at_place i (rows now ++ out)) ≡ length (rows_at_place i (rows now)) + length (rows_at_place i out) =
      λ i. tally_append (λ row. is_at_place i row.file) (rows now) out in
      sym (apart k) ∙ kept_with old roomy new file place same room exchange.put (rows node) kept (rows now ++ out) (λ i. apart i ∙ count_put i) k

  pub kept_inserted : AreKept last (rows now)
  kept_inserted = kept_forgotten new last (rows now) out exchange.gone held_both

  pub seen_inserted : (all : List Row) → seen_rows old (rows node) ≡ all → seen_rows last (rows now) ≡ rows_replaced path (row_of path (top_with file owner group acl) ∷ []) all
  seen_inserted all view =
      let kind : kind_of_new (option_map placed place) ≡ kind_of_new file = kind_put old roomy new file place same room exchange.put (rows node) kept in
      let held : file_held new (option_map placed place) ≡ file = held_put old roomy new file place same room exchange.put (rows node) kept in
      let row_is : seen new leaf_row ≡ row_of path (top_with file owner group acl) =
      ap (λ k. row_of path (record { kind = k; owner = owner; group = group; acl = acl; file = file_held new (option_map placed place) })) kind
      ∙ ap (λ f. row_of path (record { kind = kind_of_new file; owner = owner; group = group; acl = acl; file = f })) held in
      seen_forgotten new last (rows now) out exchange.gone held_both ∙ ap (seen_rows new) with_leaf ∙ seen_leaf new path leaf_row (rows node)
      ∙ ap (λ row. rows_replaced path (row ∷ []) (seen_rows new (rows node))) row_is
      ∙ ap (rows_replaced path (row_of path (top_with file owner group acl) ∷ [])) (seen_kept old roomy new file place same room exchange.put (rows node) kept ∙ view)

-- a file is put in the place of another

module _ (old : Slab FileRow) (node : Node) (all : List Row) (view : seen_rows old (rows node) ≡ all) (path : List (List ℕ)) (there : has_file path all ≡ true) (namespace : IsNamespace all) where
  record FileThere : Type 0 where
    row : Row
    own : FileRow
    at : row_at path (rows node) ≡ Some row
    kind : is_directory row ≡ false
    tells : row.file ≡ Some own
    held : IsSome (get old (place_in own))

  file_there : FileThere
  file_there = by (row_at path (rows node)) refl (sym (shown_at (file_held old) path (rows node)) ∙ ap (row_at path) view)
    where
      in_table : (row : Row) → row_at path (rows node) ≡ Some row → (file : Option FileRow) → row.file ≡ file → (b : Bool) → is_directory row ≡ b → not b ≡ true → suits_parts b row.acl (file_held old file) ≡ true → FileThere
      in_table row at file tells true kind is suits = cc
      in_table row at None tells false kind is suits = cc
      in_table row at (Some own) tells false kind is suits = record { row = row; own = own; at = at; kind = kind; tells = tells; held = by_slot (get old (place_in own)) suits }
        where
          by_slot : (slot : Option FileRow) → suits_parts false row.acl slot ≡ true → IsSome slot
          by_slot None h = cc
          by_slot (Some f) h = refl

      by : (o : Option Row) → row_at path (rows node) ≡ o → option_map (shown (file_held old)) (row_at path (rows node)) ≡ row_at path all → FileThere
      by None e is = absurd (no (ap (is_some_where (λ row. not (is_directory row))) (sym (ap (option_map (shown (file_held old))) e) ∙ is) ∙ there))
        where
          no : false ≡ true → ⊥
          no h = cc
      by (Some row) e is =
          let found_row : row_at path all ≡ Some (shown (file_held old) row) = sym is ∙ ap (option_map (shown (file_held old))) e in
          let suits : suits_kind (shown (file_held old) row) ≡ true =
          first_passes (λ r. same_path path r.path) suits_kind all (shown (file_held old) row) (namespace_tests all namespace).suit found_row in
          let file : not (is_directory row) ≡ true = ap (is_some_where (λ r. not (is_directory r))) (sym found_row) ∙ there in
          in_table row e row.file refl (is_directory row) refl file suits

  pub file_stands : is_missing path (rows node) ≡ false
  file_stands = ap is_none file_there.at

  told_there : (told : Option ℕ) → option_map placed told ≡ option_and_then (λ (row : Row). row.file) (row_at path (rows node)) → option_map placed told ≡ Some file_there.own
  told_there told is = is ∙ ap (option_and_then (λ (row : Row). row.file)) file_there.at ∙ file_there.tells

  pub place_told : (told : Option ℕ) → option_map placed told ≡ option_and_then (λ (row : Row). row.file) (row_at path (rows node)) → told ≡ None → ⊥
  place_told told is none = no (sym (ap (option_map placed) none) ∙ told_there told is)
    where
      no : None ≡ Some file_there.own → ⊥
      no h = cc

  place_is : (told : Option ℕ) (place : ℕ) → option_map placed told ≡ option_and_then (λ (row : Row). row.file) (row_at path (rows node)) → told ≡ Some place → place_in file_there.own ≡ place
  place_is told place is some = ap place_in (one file_there.own (placed place) (sym (told_there told is) ∙ ap (option_map placed) some))
    where
      one : (a b : FileRow) → Some a ≡ Some b → a ≡ b
      one a b h = cc

  pub place_held : (told : Option ℕ) (place : ℕ) → option_map placed told ≡ option_and_then (λ (row : Row). row.file) (row_at path (rows node)) → told ≡ Some place → ContainsKey old place
  place_held told place is some = subst (λ p. ContainsKey old p) (place_is told place is some) file_there.held

  count_there : (k : ℕ) → length (rows_at_place k (rows_under path (rows node))) ≡ told_at k (Some file_there.own)
  count_there k =
      let tests = namespace_tests all namespace in
      let held : have_parents (rows node) (rows node) ≡ true =
      sym (shown_all (file_held old) (λ row. is_root row.path || has_parent row.path (seen_rows old (rows node))) (λ row. is_root row.path || has_parent row.path (rows node))
      (λ row. ap (λ b. is_root row.path || b) (shown_parent (file_held old) row.path (rows node))) (rows node)) ∙ ap (λ rs. have_parents rs rs) view ∙ tests.held in
      let up : is_ascending (rows node) ≡ true = sym (shown_ascending (file_held old) (rows node)) ∙ ap is_ascending view ∙ tests.ascending in
      ap (λ rs. length (rows_at_place k rs)) (file_alone path (rows node) held up file_there.row file_there.at file_there.kind) ∙ count_one k file_there.row ∙ ap (told_at k) file_there.tells

  module _ (new : Slab FileRow) (file : FileRow) (told : Option ℕ) (place : ℕ) (is : option_map placed told ≡ option_and_then (λ (row : Row). row.file) (row_at path (rows node))) (some : told ≡ Some place)
      (updates : Updates old new place (Some file)) (kept : AreKept old (rows node)) (leaf now : Node) (owner group : List ℕ) (acl : Acl)
      (leaf_is : leaf ≡ record { top = top_with (Some (placed place)) owner group acl; beneath = [] })
      (above : List (List ℕ)) (name : List ℕ) (parted : path ≡ above ++ name ∷ []) (done : now ≡ with_rows node (branch_grafted (above ++ name ∷ []) leaf node.beneath)) where
    abbrev row_put : Row
    row_put = row_of path (top_with (Some (placed place)) owner group acl)

    with_put : rows now ≡ rows_replaced path (row_put ∷ []) (rows node)
    with_put = leaf_put path above name node leaf now (top_with (Some (placed place)) owner group acl) leaf_is parted done

    same_place : (k : ℕ) → told_at k (Some file_there.own) ≡ told_at k (Some (placed place))
    same_place k = ap (λ p. told_at k (Some (placed p))) (place_is told place is some)

    count_same : (k : ℕ) → length (rows_at_place k (rows now)) ≡ length (rows_at_place k (rows node))
    count_same k =
        let here : length (rows_at_place k (rows now)) ≡ length (rows_at_place k (rows_replaced path (row_put ∷ []) (rows node))) = ap (λ rs. length (rows_at_place k rs)) with_put in
        omega (arith, here, count_there k, same_place k, count_replaced k path (row_put ∷ []) (rows node), count_one k row_put)

    edited : option_map (λ (f : FileRow). file) (get old place) ≡ Some file
    edited = by (get old place) (place_held told place is some)
      where
        by : (slot : Option FileRow) → IsSome slot → option_map (λ (f : FileRow). file) slot ≡ Some file
        by None h = absurd (false≢true h)
        by (Some f) h = refl

    pub kept_replaced : AreKept new (rows now)
    kept_replaced k =
        count_same k ∙ kept_changed old new (rows node) place (λ f. file) (subst (λ slot. Updates old new place slot) (sym edited) updates) kept k

    -- no other row tells the place
    none_elsewhere : length (rows_at_place place (without path (rows node))) ≡ 0
    none_elsewhere =
        let one : held_count old place ≡ 1 = by (get old place) (place_held told place is some) in
        let self : told_at place (Some (placed place)) ≡ 1 = ap (λ b. if b then 1 else 0) (eq-eqb place place refl) in
        omega (arith, one, self, kept place, count_there place, same_place place, count_without place path (rows node))
      where
        by : (slot : Option FileRow) → IsSome slot → ◌≡◌ {A = ℕ} (if is_some slot then 1 else 0) 1
        by None h = absurd (false≢true h)
        by (Some f) h = refl

    pub seen_replaced : seen_rows new (rows now) ≡ rows_replaced path (row_of path (top_with (Some file) owner group acl) ∷ []) all
    seen_replaced =
        let wanted : List Row = row_of path (top_with (Some file) owner group acl) ∷ [] in
        let row_is : seen new row_put ≡ row_of path (top_with (Some file) owner group acl) = ap (λ f. with_file f row_put) updates.changed in
        let others : without path (seen_rows new (rows node)) ≡ without path (seen_rows old (rows node)) =
        shown_without (file_held new) path (rows node) ∙ seen_elsewhere old new (without path (rows node)) place (Some file) updates none_elsewhere
        ∙ sym (shown_without (file_held old) path (rows node)) in
        ap (seen_rows new) with_put ∙ seen_leaf new path row_put (rows node) ∙ ap (λ row. rows_replaced path (row ∷ []) (seen_rows new (rows node))) row_is
        ∙ sym (replaced_without path wanted (seen_rows new (rows node))) ∙ ap (rows_replaced path wanted) others ∙ replaced_without path wanted (seen_rows old (rows node))
        ∙ ap (rows_replaced path wanted) view

-- The names of what a directory holds, among rows in path order.
use Rattle.std.proofs.Common.{◌≡◌, ℕ, Bool, true, false, ◌&&◌, List, [], ◌∷◌, ◌++◌, map, cond, Option, Some, refl, sym, ap, ◌∙◌}
use Rattle.std.proofs.lemmas.Bool.{false≢true}
use Rattle.std.proofs.lemmas.List.{append-nil}
use Rattle.std.proofs.lemmas.List.Elements.{filter-append}
use Rattle.std.proofs.lemmas.List.Folds.{list_all-append}
use Rattle.std.specs.List.{filter, list_all}
use Rattle.std.specs.Map.{keys_of}
use Rattle.std.specs.Ordering.{is_lt}
use Rattle.std.specs.BTreeMap.{BTreeMap}
use Rattle.hdfs_values.specs.Text.{same}
use Rattle.hdfs_values.proofs.Texts.{same_symm}
use Rattle.file_paths.specs.Path.{is_prefix}
use Rattle.file_paths.specs.PathOrder.{path_cmp}
use Rattle.namespace_rows.specs.declared.row.Row.{Row}
use Rattle.namespace_rows.specs.Namespace.{is_ascending, is_before_all, is_child}
use Rattle.namespace_rows.specs.Changes.{last_name, child_names}
use Rattle.namespace_rows.proofs.Tests.{both, and}
use Rattle.flat_rows.proofs.Moves.{front_cmp, front_child}
use Rattle.namespace_rows.proofs.Namespaces.{ascending_filter}
use Rattle.inode_nodes.specs.Kept.{branch_of, rows_in}
use Rattle.inode_nodes.specs.declared.node.Held.TheVariants.{Directory}
use Rattle.inode_nodes.specs.declared.node.Node.TheInside.{Inside}
use Rattle.inode_nodes.specs.Node.{Node, flatten, rows, rows_or, row_of, top_of, under, row_placed}
use Rattle.inode_nodes.specs.Part.{IsWhole}
use Rattle.inode_nodes.proofs.Filters.{Entries, filter-map, inside}
use Rattle.inode_nodes.proofs.Wholes.{filter_within}

abbrev child : List (List ℕ) → Row → Bool
child path row = is_child row.path path

-- one level

deeper : (n : List ℕ) (rs : List Row) → list_all (λ other. is_lt (path_cmp (n ∷ []) other.path)) (map (under n) rs) ≡ true → filter (child []) (map (under n) rs) ≡ []
deeper n [] h = refl
deeper n (r ∷ rs) h =
    let hs = both (is_lt (path_cmp (n ∷ []) (n ∷ r.path))) (list_all (λ other. is_lt (path_cmp (n ∷ []) other.path)) (map (under n) rs)) h in
    by r.path (ap is_lt (sym (front_cmp (n ∷ []) [] r.path)) ∙ hs.0) (deeper n rs hs.1)
  where
    by : (p : List (List ℕ)) → is_lt (path_cmp [] p) ≡ true → filter (child []) (map (under n) rs) ≡ [] → cond (is_child (n ∷ p) []) (under n r ∷ filter (child []) (map (under n) rs)) (filter (child []) (map (under n) rs)) ≡ []
    by [] k e = cc
    by (m ∷ ms) k e = e

ascending_behind : (xs ys : List Row) → is_ascending (xs ++ ys) ≡ true → is_ascending ys ≡ true
ascending_behind [] ys h = h
ascending_behind (x ∷ xs) ys h = ascending_behind xs ys (both (is_before_all x (xs ++ ys)) (is_ascending (xs ++ ys)) h).1

child_keys : (es : Entries) → is_ascending (flatten es) ≡ true → keys_of es ≡ child_names [] (flatten es)
child_keys [] h = refl
child_keys (e ∷ es) h =
    let top : Row = under e.0 (row_of [] e.1.top) in
    let more : List Row = map (under e.0) e.1.beneath in
    let hs = both (is_before_all top (more ++ flatten es)) (is_ascending (more ++ flatten es)) h in
    let low = both (is_before_all top more) (is_before_all top (flatten es)) (sym (list_all-append (λ other. is_lt (path_cmp top.path other.path)) more (flatten es)) ∙ hs.0) in
    let none : filter (child []) (more ++ flatten es) ≡ filter (child []) (flatten es) = filter-append (child []) more (flatten es) ∙ ap (λ l. l ++ filter (child []) (flatten es)) (deeper e.0 e.1.beneath low.0) in
    ap (λ l. e.0 ∷ l) (child_keys es (ascending_behind more (flatten es) hs.1) ∙ ap (map (λ row. last_name row.path)) (sym none))

pub held_keys : (i : Inside) (m : BTreeMap (List ℕ) Node) (b : Node) → branch_of i ≡ b → i.held ≡ Directory m → is_ascending (rows b) ≡ true → keys_of m.entries ≡ child_names [] (rows b)
held_keys i m b seen is up =
    let beneath : flatten m.entries ≡ b.beneath = sym (ap rows_in is) ∙ ap (λ x. x.beneath) seen in
    child_keys m.entries (ap is_ascending beneath ∙ (both (is_before_all (row_of [] b.top) b.beneath) (is_ascending b.beneath) up).1) ∙ ap (child_names []) beneath

-- at a path

placed_before : (path : List (List ℕ)) (r : Row) (rs : List Row) → is_before_all (row_placed path r) (map (row_placed path) rs) ≡ is_before_all r rs
placed_before path r [] = refl
placed_before path r (s ∷ rs) = ap (λ o. is_lt o && is_before_all (row_placed path r) (map (row_placed path) rs)) (front_cmp path r.path s.path) ∙ ap (λ b. is_lt (path_cmp r.path s.path) && b) (placed_before path r rs)

placed_ascending : (path : List (List ℕ)) (rs : List Row) → is_ascending (map (row_placed path) rs) ≡ is_ascending rs
placed_ascending path [] = refl
placed_ascending path (r ∷ rs) = ap (λ b. b && is_ascending (map (row_placed path) rs)) (placed_before path r rs) ∙ ap (λ b. is_before_all r rs && b) (placed_ascending path rs)

pub part_ascending : (path : List (List ℕ)) (all : List Row) (b : Node) → IsWhole path all (Some b) → is_ascending all ≡ true → is_ascending (rows b) ≡ true
part_ascending path all b whole up = sym (placed_ascending path (rows b)) ∙ sym (ap is_ascending whole) ∙ ascending_filter (inside path) all up

child_inside : (path : List (List ℕ)) (row : Row) → child path row ≡ true → inside path row ≡ true
child_inside path row h = go path row.path h
  where
    go : (p q : List (List ℕ)) → is_child q p ≡ true → is_prefix p q ≡ true
    go [] q h = refl
    go (n ∷ ns) [] h = cc
    go (n ∷ ns) (m ∷ []) h = absurd (false≢true (both (same m n) false h).1)
    go (n ∷ ns) (m ∷ k ∷ ms) h = let parts = both (same m n) (is_child (k ∷ ms) ns) h in and _ _ (same_symm n m ∙ parts.0) (go ns (k ∷ ms) parts.1)

child_placed : (path q : List (List ℕ)) → is_child (path ++ q) path ≡ is_child q []
child_placed path q = ap (is_child (path ++ q)) (sym (append-nil path)) ∙ front_child path q []

last_longer : (p : List (List ℕ)) (n : List ℕ) → last_name (p ++ n ∷ []) ≡ n
last_longer [] n = refl
last_longer (m ∷ []) n = refl
last_longer (m ∷ k ∷ ms) n = last_longer (k ∷ ms) n

-- the names of children, wherever their directory stands
placed_names : (path : List (List ℕ)) (rs : List Row) → map (λ row. last_name row.path) (map (row_placed path) (filter (child []) rs)) ≡ map (λ row. last_name row.path) (filter (child []) rs)
placed_names path [] = refl
placed_names path (r ∷ rs) = by r.path (placed_names path rs)
  where
    by : (p : List (List ℕ)) → map (λ row. last_name row.path) (map (row_placed path) (filter (child []) rs)) ≡ map (λ row. last_name row.path) (filter (child []) rs)
        → map (λ row. last_name row.path) (map (row_placed path) (cond (is_child p []) (row_of p (top_of r) ∷ filter (child []) rs) (filter (child []) rs))) ≡ map (λ row. last_name row.path) (cond (is_child p []) (row_of p (top_of r) ∷ filter (child []) rs) (filter (child []) rs))
    by [] e = e
    by (n ∷ []) e = ap (λ k. k ∷ map (λ row. last_name row.path) (map (row_placed path) (filter (child []) rs))) (last_longer path n) ∙ ap (λ l. n ∷ l) e
    by (n ∷ m ∷ ms) e = e

pub child_names_whole : (path : List (List ℕ)) (all : List Row) (part : Option Node) → IsWhole path all part → child_names [] (rows_or part) ≡ child_names path all
child_names_whole path all part whole =
    sym (placed_names path (rows_or part))
    ∙ ap (map (λ row. last_name row.path)) (sym (filter-map (child path) (child []) (row_placed path) (λ r. child_placed path r.path) (rows_or part)) ∙ sym (ap (filter (child path)) whole) ∙ filter_within (child path) (inside path) (child_inside path) all)

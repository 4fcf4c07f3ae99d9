-- A change of one branch, seen from the directory that holds it by a name.
use Rattle.std.proofs.Common.{◌≡◌, ℕ, Ordering, Less, Equal, Greater, Bool, true, false, ◌&&◌, List, [], ◌∷◌, ◌++◌, map, cond, Option, Some, None, IsSome, refl, sym, ap, ◌∙◌, subst}
use Rattle.std.proofs.lemmas.List.{append-nil, map-append}
use Rattle.std.specs.List.{filter}
use Rattle.std.specs.List.Sorted.{IsStrictlySortedBy}
use Rattle.std.specs.Map.{keys_of, lookup, set_value, remove_entry}
use Rattle.std.specs.BTreeMap.{insert_entry}
use Rattle.std.specs.Ordering.{is_eq, is_gt, is_lt}
use Rattle.file_paths.specs.PathOrder.{path_cmp, same_path}
use Rattle.namespace_rows.specs.declared.row.Change.{Change}
use Rattle.namespace_rows.specs.declared.row.Change.TheVariants as change
use Rattle.namespace_rows.specs.declared.row.Row.{Row}
use Rattle.namespace_rows.specs.Rows.{is_before, is_beyond, rows_replaced}
use Rattle.namespace_rows.specs.declared.file_row.FileRow.{FileRow}
use Rattle.namespace_rows.specs.Files.{with_state, with_file_replication, without_last, committed_at, completed_at, recovered_at}
use Rattle.namespace_rows.specs.Changes.{without, file_edited, with_change}
use Rattle.inode_nodes.specs.Node.{Node, Top, flatten, rows, row_of, top_of, under, row_placed}
use Rattle.inode_nodes.specs.Change.{branch_grafted}
use Rattle.inode_nodes.proofs.Split.{R, Side, split, at, entry}
use Rattle.inode_nodes.proofs.Filters.{Entries, flatten-append, append_rows, self, filter-flatten, filter-missing, before-splits, beyond-splits, outside-splits, outside}
use Rattle.inode_nodes.proofs.Parts.{placed_under, placed_top}

abbrev pub OnRows : Type 0
OnRows = List Row → List Row

-- f changes the rows at the name as g changes those of the branch, and leaves the top of the directory
pub record IsLevel (n : List ℕ) (f g : OnRows) : Type 0 where
  pub level : (es fs : Entries) (b c : Node) → Side Greater n es → Side Less n fs → rows c ≡ g (rows b) → f (flatten (es ++ ((n, b) ∷ fs))) ≡ flatten (es ++ ((n, c) ∷ fs))
  pub top : (t : Top) (rs : List Row) → f (row_of [] t ∷ rs) ≡ row_of [] t ∷ f rs

abbrev pub Sorted : Entries → Type 0
Sorted es = IsStrictlySortedBy R (keys_of es)

some_entry : (n : List ℕ) (found : Option Node) (b : Node) (fs : Entries) → found ≡ Some b → entry n found ++ fs ≡ (n, b) ∷ fs
some_entry n found b fs h = ap (λ f. entry n f ++ fs) h

-- the map after a child was changed through `get_mut`
pub set_entry : (f g : OnRows) (n : List ℕ) → IsLevel n f g → (es : Entries) (b c : Node) → Sorted es → lookup (at n) es ≡ Some b → rows c ≡ g (rows b) → flatten (set_value (at n) es c) ≡ f (flatten es)
set_entry f g n d es b c sorted there is =
    let s = split n es sorted in
    let found : s.found ≡ Some b = sym s.found_is ∙ there in
    let whole : es ≡ s.before ++ ((n, b) ∷ s.after) = s.whole ∙ ap (λ t. s.before ++ t) (some_entry n s.found b s.after found) in
    ap flatten (s.written c (subst IsSome (sym found) refl)) ∙ sym (ap (λ x. f (flatten x)) whole ∙ d.level s.before s.after b c s.low s.high is)

-- a map without the name
pub record IsKept (n : List ℕ) (f : OnRows) : Type 0 where
  pub kept : (es fs : Entries) → Side Greater n es → Side Less n fs → f (flatten (es ++ fs)) ≡ flatten (es ++ fs)

pub missing_entry : (f : OnRows) (n : List ℕ) → IsKept n f → (es : Entries) → Sorted es → lookup (at n) es ≡ None → flatten es ≡ f (flatten es)
missing_entry f n d es sorted missing =
    let s = split n es sorted in
    let whole : es ≡ s.before ++ s.after = s.whole ∙ ap (λ o. s.before ++ (entry n o ++ s.after)) (sym s.found_is ∙ missing) in
    subst (λ x. flatten x ≡ f (flatten x)) (sym whole) (sym (d.kept s.before s.after s.low s.high))

-- blocks of rows

joined : (n : List ℕ) (p q m a x y z r : List Row) → p ≡ a ++ (map (under n) x ++ []) → q ≡ map (under n) y ++ z → r ≡ x ++ (m ++ y) → p ++ (map (under n) m ++ q) ≡ a ++ (map (under n) r ++ z)
joined n p q m a x y z r e1 e2 e3 = rw (e1, e2, e3) (simp (append_rows, map-append, append-nil))

pub replaced-level : (n : List ℕ) (ns : List (List ℕ)) (block : List Row) → IsLevel n (rows_replaced (n ∷ ns) (map (under n) block)) (rows_replaced ns block)
replaced-level n ns block = record {
  level = λ es fs b c s t is.
      joined n _ _ block (flatten es) (filter (is_before ns) (rows b)) (filter (is_beyond ns) (rows b)) (flatten fs) (rows c)
      (filter-flatten (is_before (n ∷ ns)) (is_before ns) n true false (before-splits n ns) es fs b s t)
      (filter-flatten (is_beyond (n ∷ ns)) (is_beyond ns) n false true (beyond-splits n ns) es fs b s t) is
      ∙ sym (flatten-append es ((n, c) ∷ fs));
  top = λ t rs. refl;
}

pub grafted-level : (n : List ℕ) (ns : List (List ℕ)) (new : Node) → IsLevel n (branch_grafted (n ∷ ns) new) (branch_grafted ns new)
grafted-level n ns new =
    subst (λ block. IsLevel n (rows_replaced (n ∷ ns) block) (branch_grafted ns new)) (sym (placed_under n ns (rows new))) (replaced-level n ns (map (row_placed ns) (rows new)))

not_before : (path : List (List ℕ)) (a b : List Row) → cond (is_gt (path_cmp [] path)) a b ≡ b
not_before [] a b = refl
not_before (m ∷ path) a b = refl

not_beyond : (path : List (List ℕ)) (a b : List Row) → cond (is_lt (path_cmp [] path) && false) a b ≡ b
not_beyond [] a b = refl
not_beyond (m ∷ path) a b = refl

none-before : (rs : List Row) → filter (is_before []) rs ≡ []
none-before [] = refl
none-before (r ∷ rs) = not_before r.path (r ∷ filter (is_before []) rs) (filter (is_before []) rs) ∙ none-before rs

none-beyond : (rs : List Row) → filter (is_beyond []) rs ≡ []
none-beyond [] = refl
none-beyond (r ∷ rs) = not_beyond r.path (r ∷ filter (is_beyond []) rs) (filter (is_beyond []) rs) ∙ none-beyond rs

pub replaced_top : (block rs : List Row) → block ≡ rows_replaced [] block rs
replaced_top block rs = sym (rw (none-before rs, none-beyond rs) (append-nil block))

pub grafted_top : (new : Node) (rs : List Row) → rows new ≡ branch_grafted [] new rs
grafted_top new rs = sym (placed_top (rows new)) ∙ replaced_top (map (row_placed []) (rows new)) rs

-- the map after an insertion
pub put_entry : (n : List ℕ) (es : Entries) (new : Node) → Sorted es → flatten (insert_entry R es n new) ≡ rows_replaced (n ∷ []) (map (under n) (rows new)) (flatten es)
put_entry n es new sorted =
    let s = split n es sorted in
    ap flatten (s.inserted new) ∙ sym (ap (λ x. rows_replaced (n ∷ []) (map (under n) (rows new)) (flatten x)) s.whole ∙ by s.found s.before s.after s.low s.high)
  where
    by : (found : Option Node) (es fs : Entries) → Side Greater n es → Side Less n fs → rows_replaced (n ∷ []) (map (under n) (rows new)) (flatten (es ++ (entry n found ++ fs))) ≡ flatten (es ++ ((n, new) ∷ fs))
    by (Some b) es fs s t = (replaced-level n [] (rows new)).level es fs b new s t (replaced_top (rows new) (rows b))
    by None es fs s t =
        joined n _ _ (rows new) (flatten es) [] [] (flatten fs) (rows new)
        (filter-missing (is_before (n ∷ [])) (is_before []) n true false (before-splits n []) es fs s t)
        (filter-missing (is_beyond (n ∷ [])) (is_beyond []) n false true (beyond-splits n []) es fs s t) (sym (append-nil (rows new)))
        ∙ sym (flatten-append es ((n, new) ∷ fs))

-- what is without a path

pub without-level : (n : List ℕ) (ns : List (List ℕ)) → IsLevel n (without (n ∷ ns)) (without ns)
without-level n ns = record {
  level = λ es fs b c s t is.
      filter-flatten (outside (n ∷ ns)) (outside ns) n true true (outside-splits n ns) es fs b s t ∙ ap (λ r. flatten es ++ (map (under n) r ++ flatten fs)) (sym is) ∙ sym (flatten-append es ((n, c) ∷ fs));
  top = λ t rs. refl;
}

pub without-kept : (n : List ℕ) (ns : List (List ℕ)) → IsKept n (without (n ∷ ns))
without-kept n ns = record {
  kept = λ es fs s t. filter-missing (outside (n ∷ ns)) (outside ns) n true true (outside-splits n ns) es fs s t ∙ sym (flatten-append es fs);
}

none-outside : (rs : List Row) → filter (outside []) rs ≡ []
none-outside [] = refl
none-outside (r ∷ rs) = none-outside rs

-- the map after a removal
pub cut_entry : (n : List ℕ) (es : Entries) → Sorted es → flatten (remove_entry (at n) es) ≡ without (n ∷ []) (flatten es)
cut_entry n es sorted =
    let s = split n es sorted in
    ap flatten s.removed ∙ sym (ap (λ x. without (n ∷ []) (flatten x)) s.whole ∙ by s.found s.before s.after s.low s.high)
  where
    by : (found : Option Node) (es fs : Entries) → Side Greater n es → Side Less n fs → without (n ∷ []) (flatten (es ++ (entry n found ++ fs))) ≡ flatten (es ++ fs)
    by None es fs s t = (without-kept n []).kept es fs s t
    by (Some b) es fs s t =
        filter-flatten (outside (n ∷ [])) (outside []) n true true (outside-splits n []) es fs b s t ∙ rw (none-outside (rows b)) (sym (flatten-append es fs))

-- rewriting

-- the rows with the one at a path made anew
abbrev pub rewritten_by : (Row → Row) → List (List ℕ) → OnRows
rewritten_by new path rows = map (λ row. cond (same_path path row.path) (new row) row) rows

-- what is made of a row reads and changes no path
pub record IsPathless (new : Row → Row) : Type 0 where
  pub under_name : (n : List ℕ) (row : Row) → new (under n row) ≡ under n (new row)
  pub top : (t : Top) → row_of [] (top_of (new (row_of [] t))) ≡ new (row_of [] t)

pub edited_pathless : (edit : FileRow → FileRow) → IsPathless (file_edited edit)
edited_pathless edit = record { under_name = λ n row. refl; top = λ t. refl }

pub changed_pathless : (c : Change) → IsPathless (with_change c)
changed_pathless (change.Owner owner group) = record { under_name = λ n row. refl; top = λ t. refl }
changed_pathless (change.List acl) = record { under_name = λ n row. refl; top = λ t. refl }
changed_pathless (change.State state) = edited_pathless (with_state state)
changed_pathless (change.Replication replication) = edited_pathless (with_file_replication replication)
changed_pathless (change.Committed block bytes) = edited_pathless (committed_at block bytes)
changed_pathless (change.Completed block bytes) = edited_pathless (completed_at block bytes)
changed_pathless change.LastTaken = edited_pathless without_last
changed_pathless (change.Recovered block bytes) = edited_pathless (recovered_at block bytes)

module _ (new : Row → Row) (pathless : IsPathless new) where
  abbrev one : List (List ℕ) → Row → Row
  one path row = cond (same_path path row.path) (new row) row

  other_row : (n : List ℕ) (ns : List (List ℕ)) (m : List ℕ) (o : Ordering) → R n m ≡ o → is_eq o ≡ false → (rs : List Row) → map (one (n ∷ ns)) (map (under m) rs) ≡ map (under m) rs
  other_row n ns m o h k [] = refl
  other_row n ns m Less h k (r ∷ rs) = rw h (ap (λ t. under m r ∷ t) (other_row n ns m Less h k rs))
  other_row n ns m Equal h k (r ∷ rs) = cc
  other_row n ns m Greater h k (r ∷ rs) = rw h (ap (λ t. under m r ∷ t) (other_row n ns m Greater h k rs))

  other_side : (o : Ordering) (n : List ℕ) (ns : List (List ℕ)) → is_eq o ≡ false → (es : Entries) → Side o n es → map (one (n ∷ ns)) (flatten es) ≡ flatten es
  other_side o n ns h [] s = refl
  other_side o n ns h (e ∷ es) s =
      map-append (one (n ∷ ns)) (map (under e.0) (rows e.1)) (flatten es) ∙ ap (λ l. l ++ map (one (n ∷ ns)) (flatten es)) (other_row n ns e.0 o s.0 h (rows e.1)) ∙ ap (λ l. map (under e.0) (rows e.1) ++ l) (other_side o n ns h es s.1)

  same_row : (n : List ℕ) (ns : List (List ℕ)) (rs : List Row) → map (one (n ∷ ns)) (map (under n) rs) ≡ map (under n) (map (one ns) rs)
  same_row n ns [] = refl
  same_row n ns (r ∷ rs) = rw (self n) (by_test (same_path ns r.path) (same_row n ns rs))
    where
      by_test : (t : Bool) → map (one (n ∷ ns)) (map (under n) rs) ≡ map (under n) (map (one ns) rs)
          → cond t (new (under n r)) (under n r) ∷ map (one (n ∷ ns)) (map (under n) rs) ≡ under n (cond t (new r) r) ∷ map (under n) (map (one ns) rs)
      by_test true e = ap (λ t. t ∷ map (one (n ∷ ns)) (map (under n) rs)) (pathless.under_name n r) ∙ ap (λ t. under n (new r) ∷ t) e
      by_test false e = ap (λ t. under n r ∷ t) e

  pub rewritten-level : (n : List ℕ) (ns : List (List ℕ)) → IsLevel n (rewritten_by new (n ∷ ns)) (rewritten_by new ns)
  rewritten-level n ns = record {
    level = λ es fs b d s t is.
        ap (map (one (n ∷ ns))) (flatten-append es ((n, b) ∷ fs)) ∙ map-append (one (n ∷ ns)) (flatten es) (map (under n) (rows b) ++ flatten fs)
        ∙ ap (λ l. l ++ map (one (n ∷ ns)) (map (under n) (rows b) ++ flatten fs)) (other_side Greater n ns refl es s)
        ∙ ap (λ l. flatten es ++ l) (map-append (one (n ∷ ns)) (map (under n) (rows b)) (flatten fs) ∙ ap (λ l. l ++ map (one (n ∷ ns)) (flatten fs)) (same_row n ns (rows b) ∙ ap (map (under n)) (sym is)) ∙ ap (λ l. map (under n) (rows d) ++ l) (other_side Less n ns refl fs t))
        ∙ sym (flatten-append es ((n, d) ∷ fs));
    top = λ t rs. refl;
  }

  pub rewritten-kept : (n : List ℕ) (ns : List (List ℕ)) → IsKept n (rewritten_by new (n ∷ ns))
  rewritten-kept n ns = record {
    kept = λ es fs s t.
        ap (map (one (n ∷ ns))) (flatten-append es fs) ∙ map-append (one (n ∷ ns)) (flatten es) (flatten fs) ∙ ap (λ l. l ++ map (one (n ∷ ns)) (flatten fs)) (other_side Greater n ns refl es s)
        ∙ ap (λ l. flatten es ++ l) (other_side Less n ns refl fs t) ∙ sym (flatten-append es fs);
  }

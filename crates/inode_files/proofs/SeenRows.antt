-- Questions on rows of the namespace and changes of them don't look at what a row has as a file, so they commute with giving each row another file part.
use Rattle.std.proofs.Common.{◌≡◌, ℕ, Bool, true, false, ◌||◌, List, [], ◌∷◌, ◌++◌, map, filter, length, drop, if◌then◌else◌, cond, Option, Some, None, is_some, option_map, refl, sym, ap, ◌∙◌}
use Rattle.std.proofs.lemmas.List.{map-append}
use Rattle.std.specs.List.{list_all, list_any, last_or}
use Rattle.namespace_rows.specs.declared.file_row.FileRow.{FileRow}
use Rattle.namespace_rows.specs.declared.row.Row.{Row}
use Rattle.namespace_rows.specs.declared.row.Change.{Change}
use Rattle.namespace_rows.specs.declared.row.Change.TheVariants as change
use Rattle.namespace_rows.specs.First.{first}
use Rattle.namespace_rows.specs.Rows.{is_directory, is_none, row_at, is_missing, file_above, ancestor, is_before, is_beyond, rows_replaced, with_sub_tree}
use Rattle.namespace_rows.specs.Namespace.{is_before_all, is_root, is_rooted, is_ascending, has_parent, have_parents, suits_parts, suits_kind, is_namespace}
use Rattle.namespace_rows.specs.Changes.{rows_under, children, last_name, child_names, without, moved_row, with_rows_moved, with_file, with_change, row_rewritten, are_paths}
use Rattle.flat_rows.specs.Outcome.{is_alone, mode_of_new, file_of_new, kind_of_new, new_row, new_rows, with_new}

abbrev pub shown : (Option FileRow → Option FileRow) → Row → Row
shown h row = with_file (h row.file) row

module _ (h : Option FileRow → Option FileRow) where
  pub shown_filter : (p q : Row → Bool) → ((row : Row) → p (shown h row) ≡ q row) → (rows : List Row) → filter p (map (shown h) rows) ≡ map (shown h) (filter q rows)
  shown_filter p q same [] = refl
  shown_filter p q same (row ∷ rows) = rw (same row) (by (q row) (shown_filter p q same rows))
    where
      by : (b : Bool) → filter p (map (shown h) rows) ≡ map (shown h) (filter q rows)
          → cond b (shown h row ∷ filter p (map (shown h) rows)) (filter p (map (shown h) rows)) ≡ map (shown h) (cond b (row ∷ filter q rows) (filter q rows))
      by true e = ap (λ t. shown h row ∷ t) e
      by false e = e

  pub shown_all : (p q : Row → Bool) → ((row : Row) → p (shown h row) ≡ q row) → (rows : List Row) → list_all p (map (shown h) rows) ≡ list_all q rows
  shown_all p q same [] = refl
  shown_all p q same (row ∷ rows) = rw (same row, shown_all p q same rows) refl

  pub shown_any : (p q : Row → Bool) → ((row : Row) → p (shown h row) ≡ q row) → (rows : List Row) → list_any p (map (shown h) rows) ≡ list_any q rows
  shown_any p q same [] = refl
  shown_any p q same (row ∷ rows) = rw (same row, shown_any p q same rows) refl

  pub shown_first : (rows : List Row) → first (map (shown h) rows) ≡ option_map (shown h) (first rows)
  shown_first [] = refl
  shown_first (row ∷ rows) = refl

  pub shown_under : (path : List (List ℕ)) (rows : List Row) → rows_under path (map (shown h) rows) ≡ map (shown h) (rows_under path rows)
  shown_under path rows = shown_filter _ _ (λ row. refl) rows

  pub shown_at : (path : List (List ℕ)) (rows : List Row) → row_at path (map (shown h) rows) ≡ option_map (shown h) (row_at path rows)
  shown_at path rows = ap first (shown_filter _ _ (λ row. refl) rows) ∙ shown_first _

  pub shown_none : (found : Option Row) → is_none (option_map (shown h) found) ≡ is_none found
  shown_none None = refl
  shown_none (Some row) = refl

  pub shown_missing : (path : List (List ℕ)) (rows : List Row) → is_missing path (map (shown h) rows) ≡ is_missing path rows
  shown_missing path rows = ap is_none (shown_at path rows) ∙ shown_none (row_at path rows)

  pub shown_parent : (path : List (List ℕ)) (rows : List Row) → has_parent path (map (shown h) rows) ≡ has_parent path rows
  shown_parent path rows = shown_any _ _ (λ above. refl) rows

  pub shown_file_above : (path : List (List ℕ)) (rows : List Row) → file_above path (map (shown h) rows) ≡ option_map (shown h) (file_above path rows)
  shown_file_above path rows = ap first (shown_filter _ _ (λ row. refl) rows) ∙ shown_first _

  shown_before : (row : Row) (rows : List Row) → is_before_all (shown h row) (map (shown h) rows) ≡ is_before_all row rows
  shown_before row rows = shown_all _ _ (λ other. refl) rows

  pub shown_ascending : (rows : List Row) → is_ascending (map (shown h) rows) ≡ is_ascending rows
  shown_ascending [] = refl
  shown_ascending (row ∷ rows) = rw (shown_before row rows, shown_ascending rows) refl

  pub shown_paths : (rows : List Row) → are_paths (map (shown h) rows) ≡ are_paths rows
  shown_paths rows = shown_all _ _ (λ row. refl) rows

  shown_last : (seen : Option Row) (rows : List Row) → last_or (option_map (shown h) seen) (map (shown h) rows) ≡ option_map (shown h) (last_or seen rows)
  shown_last seen [] = refl
  shown_last seen (row ∷ rows) = shown_last (Some row) rows

  shown_end : (p : Row → Bool) → ((row : Row) → p (shown h row) ≡ p row) → (rows : List Row) → last_or None (filter p (map (shown h) rows)) ≡ option_map (shown h) (last_or None (filter p rows))
  shown_end p same rows = ap (last_or None) (shown_filter p p same rows) ∙ shown_last None (filter p rows)

  pub shown_ancestor : (path : List (List ℕ)) (rows : List Row) → ancestor path (map (shown h) rows) ≡ option_map (shown h) (ancestor path rows)
  shown_ancestor path rows = shown_end _ (λ row. refl) rows

  pub shown_without : (path : List (List ℕ)) (rows : List Row) → without path (map (shown h) rows) ≡ map (shown h) (without path rows)
  shown_without path rows = shown_filter _ _ (λ row. refl) rows

  pub shown_replaced : (path : List (List ℕ)) (block rows : List Row) → rows_replaced path (map (shown h) block) (map (shown h) rows) ≡ map (shown h) (rows_replaced path block rows)
  shown_replaced path block rows =
      rw (shown_filter (is_before path) (is_before path) (λ row. refl) rows, shown_filter (is_beyond path) (is_beyond path) (λ row. refl) rows)
      (sym (map-append (shown h) (filter (is_before path) rows) (block ++ filter (is_beyond path) rows)
      ∙ ap (λ t. map (shown h) (filter (is_before path) rows) ++ t) (map-append (shown h) block (filter (is_beyond path) rows))))

  pub shown_sub_tree : (rows block : List Row) → with_sub_tree (map (shown h) rows) (map (shown h) block) ≡ map (shown h) (with_sub_tree rows block)
  shown_sub_tree rows [] = refl
  shown_sub_tree rows (top ∷ beneath) = shown_replaced top.path (top ∷ beneath) rows

  shown_mapped : (f : Row → Row) → ((row : Row) → f (shown h row) ≡ shown h (f row)) → (rows : List Row) → map f (map (shown h) rows) ≡ map (shown h) (map f rows)
  shown_mapped f same [] = refl
  shown_mapped f same (row ∷ rows) = rw (same row, shown_mapped f same rows) refl

  shown_block : (from to : List (List ℕ)) (rows : List Row) → map (moved_row from to) (rows_under from (map (shown h) rows)) ≡ map (shown h) (map (moved_row from to) (rows_under from rows))
  shown_block from to rows = ap (map (moved_row from to)) (shown_under from rows) ∙ shown_mapped (moved_row from to) (λ row. refl) (rows_under from rows)

  pub shown_moved : (from to : List (List ℕ)) (rows : List Row) → with_rows_moved from to (map (shown h) rows) ≡ map (shown h) (with_rows_moved from to rows)
  shown_moved from to rows =
      ap (λ block. rows_replaced to block (without from (map (shown h) rows))) (shown_block from to rows)
      ∙ ap (rows_replaced to (map (shown h) (map (moved_row from to) (rows_under from rows)))) (shown_without from rows)
      ∙ shown_replaced to (map (moved_row from to) (rows_under from rows)) (without from rows)

  shown_rewritten : (path : List (List ℕ)) (change : Change) → ((row : Row) → with_change change (shown h row) ≡ shown h (with_change change row))
      → (rows : List Row) → row_rewritten path change (map (shown h) rows) ≡ map (shown h) (row_rewritten path change rows)
  shown_rewritten path change same rows = shown_mapped _ (λ row. by row _) rows
    where
      by : (row : Row) (b : Bool) → (if b then with_change change (shown h row) else shown h row) ≡ shown h (if b then with_change change row else row)
      by row true = same row
      by row false = refl

  pub shown_owner : (path : List (List ℕ)) (owner group : List ℕ) (rows : List Row)
      → row_rewritten path (change.Owner owner group) (map (shown h) rows) ≡ map (shown h) (row_rewritten path (change.Owner owner group) rows)
  shown_owner path owner group rows = shown_rewritten path (change.Owner owner group) (λ row. refl) rows

  -- `_` is the type of access control lists, whose crate this one doesn't use
  pub shown_list : (path : List (List ℕ)) (acl : _) (rows : List Row) → row_rewritten path (change.List acl) (map (shown h) rows) ≡ map (shown h) (row_rewritten path (change.List acl) rows)
  shown_list path acl rows = shown_rewritten path (change.List acl) (λ row. refl) rows

  module _ (none : h None ≡ None) where
    shown_file : (file : Option FileRow) (names : List (List ℕ)) → file_of_new (h file) names ≡ h (file_of_new file names)
    shown_file file [] = refl
    shown_file file (name ∷ names) = sym none

    shown_kind : (file : Option FileRow) → kind_of_new (h file) ≡ kind_of_new file → (names : List (List ℕ)) → kind_of_new (h (file_of_new file names)) ≡ kind_of_new (file_of_new file names)
    shown_kind file same [] = same
    shown_kind file same (name ∷ names) = ap kind_of_new none

    shown_row : (above : Row) (owner : List ℕ) (mode : ℕ) (file : Option FileRow) (name : List ℕ) → kind_of_new (h file) ≡ kind_of_new file
        → new_row (shown h above) owner mode (h file) name ≡ shown h (new_row above owner mode file name)
    shown_row above owner mode file name same = rw same refl

    shown_rows : (owner : List ℕ) (mode : ℕ) (file : Option FileRow) → kind_of_new (h file) ≡ kind_of_new file → (above : Row) (names : List (List ℕ))
        → new_rows (shown h above) owner mode (h file) names ≡ map (shown h) (new_rows above owner mode file names)
    shown_rows owner mode file same above [] = refl
    shown_rows owner mode file same above (name ∷ names) =
        let made : Row = new_row above owner (mode_of_new mode names) (file_of_new file names) name in
        let is : new_row (shown h above) owner (mode_of_new mode names) (file_of_new (h file) names) name ≡ shown h made =
        ap (λ f. new_row (shown h above) owner (mode_of_new mode names) f name) (shown_file file names)
        ∙ shown_row above owner (mode_of_new mode names) (file_of_new file names) name (shown_kind file same names) in
        ap (λ row. row ∷ new_rows row owner mode (h file) names) is ∙ ap (λ t. shown h made ∷ t) (shown_rows owner mode file same made names)

  pub shown_new : h None ≡ None → (path : List (List ℕ)) (mode : ℕ) (file : Option FileRow) (owner : List ℕ) (rows : List Row) → kind_of_new (h file) ≡ kind_of_new file
      → with_new path mode (h file) owner (ancestor path (map (shown h) rows)) (map (shown h) rows) ≡ map (shown h) (with_new path mode file owner (ancestor path rows) rows)
  shown_new none path mode file owner rows same =
      ap (λ found. with_new path mode (h file) owner found (map (shown h) rows)) (shown_ancestor path rows) ∙ by (ancestor path rows)
    where
      by : (found : Option Row) → with_new path mode (h file) owner (option_map (shown h) found) (map (shown h) rows) ≡ map (shown h) (with_new path mode file owner found rows)
      by None = refl
      by (Some above) =
          ap (with_sub_tree (map (shown h) rows)) (shown_rows none owner mode file same above (drop (length above.path) path))
          ∙ shown_sub_tree rows (new_rows above owner mode file (drop (length above.path) path))

  pub shown_alone : (rows : List Row) → is_alone (map (shown h) rows) ≡ is_alone rows
  shown_alone [] = refl
  shown_alone (row ∷ []) = refl
  shown_alone (row ∷ other ∷ rows) = refl

  shown_names : (rows : List Row) → map (λ row. last_name row.path) (map (shown h) rows) ≡ map (λ row. last_name row.path) rows
  shown_names [] = refl
  shown_names (row ∷ rows) = ap (λ t. last_name row.path ∷ t) (shown_names rows)

  pub shown_child_names : (path : List (List ℕ)) (rows : List Row) → child_names path (map (shown h) rows) ≡ child_names path rows
  shown_child_names path rows = ap (map (λ row. last_name row.path)) (shown_filter _ _ (λ row. refl) rows) ∙ shown_names (children path rows)

  pub shown_moved_paths : (from to : List (List ℕ)) (rows : List Row)
      → are_paths (map (moved_row from to) (rows_under from (map (shown h) rows))) ≡ are_paths (map (moved_row from to) (rows_under from rows))
  shown_moved_paths from to rows = ap are_paths (shown_block from to rows) ∙ shown_paths (map (moved_row from to) (rows_under from rows))

-- a namespace stays one, where files stay files

suits_some : (directory : Bool) (acl : _) (file other : Option FileRow) → is_some other ≡ is_some file → suits_parts directory acl other ≡ suits_parts directory acl file
suits_some true acl None None e = refl
suits_some true acl None (Some x) e = cc
suits_some true acl (Some x) None e = cc
suits_some true acl (Some x) (Some y) e = refl
suits_some false acl None None e = refl
suits_some false acl None (Some x) e = cc
suits_some false acl (Some x) None e = cc
suits_some false acl (Some x) (Some y) e = refl

module _ (h : Option FileRow → Option FileRow) (keeps : (file : Option FileRow) → is_some (h file) ≡ is_some file) where
  shown_rooted : (rows : List Row) → is_rooted (map (shown h) rows) ≡ is_rooted rows
  shown_rooted [] = refl
  shown_rooted (row ∷ rows) = refl

  shown_parents : (rows all : List Row) → have_parents (map (shown h) rows) (map (shown h) all) ≡ have_parents rows all
  shown_parents rows all =
      shown_all h (λ row. is_root row.path || has_parent row.path (map (shown h) all)) (λ row. is_root row.path || has_parent row.path all) (λ row. ap (λ b. is_root row.path || b) (shown_parent h row.path all)) rows

  shown_suits : (rows : List Row) → list_all suits_kind (map (shown h) rows) ≡ list_all suits_kind rows
  shown_suits rows = shown_all h suits_kind suits_kind (λ row. suits_some (is_directory row) row.acl row.file (h row.file) (keeps row.file)) rows

  pub shown_namespace : (rows : List Row) → is_namespace (map (shown h) rows) ≡ is_namespace rows
  shown_namespace rows = rw (shown_rooted rows, shown_ascending h rows, shown_parents rows rows, shown_suits rows) refl

-- What stands at a path where something is made.
use Rattle.std.proofs.Common.{◌≡◌, ℕ, true, false, ◌&&◌, List, [], ◌∷◌, ◌++◌, length, drop, append_assoc, Option, Some, None, refl, sym, ap, ◌∙◌, cond}
use Rattle.std.specs.Prelude.{filter}
use Rattle.std.proofs.lemmas.List.{take-append-drop}
use Rattle.hdfs_values.specs.Text.{same}
use Rattle.file_paths.specs.Path.{is_prefix}
use Rattle.file_paths.specs.PathOrder.{same_path}
use Rattle.file_states.specs.declared.kind.ObjectKind.TheVariants.{Directory}
use Rattle.acl_entries.specs.Acl.{Acl, acl_of_mode}
use Rattle.default_acl.specs.Inheritance.{acl_from_default}
use Rattle.namespace_rows.specs.declared.file_row.FileRow.{FileRow}
use Rattle.namespace_rows.specs.declared.row.Row.{Row}
use Rattle.namespace_rows.specs.First.{first}
use Rattle.namespace_rows.specs.Rows.{row_at, ancestor, with_sub_tree}
use Rattle.namespace_rows.specs.Namespace.{IsNamespace, is_root}
use Rattle.namespace_rows.proofs.Namespaces.{namespace_tests}
use Rattle.namespace_rows.proofs.Tests.{both}
use Rattle.permission_bits.specs.Mode.{for_missing_parent}
use Rattle.flat_rows.specs.Outcome.{with_new, new_rows, new_row, mode_of_new, file_of_new, kind_of_new}
use Rattle.flat_rows.proofs.Changes.{same_self}
use Rattle.flat_rows.proofs.Moves.{front_inside}
use Rattle.flat_rows.proofs.NewDirectories.{beneath_parts, ancestor_above}
use Rattle.permission_laws.proofs.RowsAt.{at_new}
use Rattle.outcome_laws.proofs.Listing.{by_names, and_false}

abbrev at : List (List ℕ) → List Row → List Row
at path rows = filter (λ row. same_path path row.path) rows

-- a path is none of those above it
longer : (front : List (List ℕ)) (n : List ℕ) (ns : List (List ℕ)) → same_path (front ++ n ∷ ns) front ≡ false
longer [] n ns = refl
longer (m ∷ ms) n ns = by_names m m (ms ++ n ∷ ns) ms ∙ ap (λ b. same m m && b) (longer ms n ns) ∙ and_false (same m m)

-- a path at which nothing stands isn't the root
pub not_root : (path : List (List ℕ)) (rows : List Row) → IsNamespace rows → row_at path rows ≡ None → is_root path ≡ false
not_root (n ∷ ns) rows h e = refl
not_root [] [] h e = cc
not_root [] (root ∷ rows) h e = absurd (by root.path refl (both (is_root root.path) _ (namespace_tests (root ∷ rows) h).rooted).0)
  where
    by : (p : List (List ℕ)) → root.path ≡ p → is_root p ≡ true → ⊥
    by [] k r = no (sym (ap (λ q. first (cond (same_path [] q) (root ∷ at [] rows) (at [] rows))) k) ∙ e)
      where
        no : Some root ≡ None → ⊥
        no f = cc
    by (n ∷ ns) k r = cc

module _ (mode : ℕ) (file : Option FileRow) (owner : List ℕ) where
  -- the last of what is made beneath a component with this group and this list
  pub record MadeRow (group : List ℕ) (acl : Acl) (o : Option Row) : Type 0 where
    pub row : Row
    pub there : o ≡ Some row
    pub owner_is : row.owner ≡ owner
    pub group_is : row.group ≡ group
    pub kind_is : row.kind ≡ kind_of_new file
    pub file_is : row.file ≡ file
    pub list_is : acl.default ≡ None → row.acl ≡ acl_of_mode mode (kind_of_new file)

  last_made : (path : List (List ℕ)) (above : Row) (name : List ℕ) (names : List (List ℕ)) → path ≡ above.path ++ name ∷ names
      → MadeRow above.group above.acl (row_at path (new_rows above owner mode file (name ∷ names)))
  last_made path above name [] whole =
      let made : Row = new_row above owner mode file name in
      record {
        row = made;
        there = ap (λ p. first (cond (same_path p made.path) (made ∷ []) [])) whole ∙ ap (λ b. first (cond b (made ∷ []) [])) (same_self made.path);
        owner_is = refl;
        group_is = refl;
        kind_is = refl;
        file_is = refl;
        list_is = λ none. ap (λ d. acl_from_default d mode (kind_of_new file)) none;
      }
  last_made path above name (next ∷ names) whole =
      let made : Row = new_row above owner (mode_of_new mode (next ∷ names)) (file_of_new file (next ∷ names)) name in
      let onward : path ≡ made.path ++ next ∷ names = whole ∙ sym (append_assoc above.path (name ∷ []) (next ∷ names)) in
      let rest = last_made path made next names onward in
      let passed : same_path path made.path ≡ false = ap (λ p. same_path p made.path) onward ∙ longer made.path next names in
      record {
        row = rest.row;
        there = ap (λ b. first (cond b (made ∷ at path (new_rows made owner mode file (next ∷ names))) (at path (new_rows made owner mode file (next ∷ names))))) passed ∙ rest.there;
        owner_is = rest.owner_is;
        group_is = rest.group_is;
        kind_is = rest.kind_is;
        file_is = rest.file_is;
        list_is = λ none. rest.list_is (ap (λ d. (acl_from_default d (for_missing_parent mode) Directory).default) none);
      }

  module _ (path : List (List ℕ)) (rows : List Row) (above : Row) (last : ancestor path rows ≡ Some above) where
    pub made_there : MadeRow above.group above.acl (row_at path (with_new path mode file owner (Some above) rows))
    made_there =
        let parts = beneath_parts path above.path (ancestor_above path rows above last) in
        let top : List (List ℕ) = above.path ++ parts.name ∷ [] in
        let whole : path ≡ above.path ++ parts.name ∷ parts.names =
        sym (take-append-drop (length above.path) path) ∙ ap (λ t. t ++ drop (length above.path) path) parts.front ∙ ap (λ t. above.path ++ t) parts.left in
        let within : is_prefix top path ≡ true = ap (is_prefix top) (whole ∙ sym (append_assoc above.path (parts.name ∷ []) parts.names)) ∙ front_inside top parts.names in
        let made = last_made path above parts.name parts.names whole in
        record {
          row = made.row;
          there = ap (λ names. row_at path (with_sub_tree rows (new_rows above owner mode file names))) parts.left ∙ at_new path top (new_rows above owner mode file (parts.name ∷ parts.names)) rows within ∙ made.there;
          owner_is = made.owner_is;
          group_is = made.group_is;
          kind_is = made.kind_is;
          file_is = made.file_is;
          list_is = made.list_is;
        }

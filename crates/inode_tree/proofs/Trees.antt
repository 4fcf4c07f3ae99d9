-- Each change leaves a tree a tree.
use Rattle.std.proofs.Common.{◌≡◌, ℕ, Bool, true, false, ◌||◌, not, List, [], ◌∷◌, map, length, arith, Option, Some, None, Result, Ok, Err, OnOk, OnErr, refl, sym, ap, ◌∙◌, subst}
use Rattle.std.proofs.lemmas.Bool.{false≢true}
use Rattle.std.specs.declared.alloc.AllocError.{AllocError}
use Rattle.file_paths.specs.Path.{IsPath, is_prefix}
use Rattle.acl_entries.specs.Acl.{Acl, suits_file}
use Rattle.namespace_rows.specs.declared.file_row.FileRow.{FileRow}
use Rattle.namespace_rows.specs.declared.row.Change.{Change}
use Rattle.namespace_rows.specs.declared.row.Row.{Row}
use Rattle.namespace_rows.specs.Rows.{is_directory_kind, is_missing, row_at, file_above, ancestor, with_sub_tree}
use Rattle.namespace_rows.specs.Namespace.{has_parent, is_root, suits_parts, suits_kind, fits}
use Rattle.flat_rows.specs.Outcome.{kind_of_new, with_new}
use Rattle.namespace_rows.specs.Changes.{are_paths, rows_under, without, moved_row, with_rows_moved, row_rewritten, suits_change}
use Rattle.namespace_rows.proofs.Tests.{and}
use Rattle.namespace_rows.proofs.Namespaces.{with_sub_tree_namespace}
use Rattle.flat_rows.proofs.NewDirectories.{missing_fit}
use Rattle.flat_rows.proofs.Moves.{moved_namespace}
use Rattle.flat_rows.proofs.Changes.{without_namespace, without_paths, replaced_paths, with_sub_tree_paths, row_fits, missing_paths, rewritten_namespace, rewritten_paths}
use Rattle.inode_tree.specs.Tree.{IsTree}
use Rattle.inode_nodes.proofs.Through.{on_ok}

pub sub_tree_tree : (block all : List Row) → fits all block ≡ true → are_paths block ≡ true → IsTree all → IsTree (with_sub_tree all block)
sub_tree_tree block all fit paths tree = record { namespace = with_sub_tree_namespace all block tree.namespace fit; paths = with_sub_tree_paths block all paths tree.paths }

pub row_tree : (row : Row) (all : List Row) → has_parent row.path all ≡ true → suits_kind row ≡ true → IsPath row.path → IsTree all → IsTree (with_sub_tree all (row ∷ []))
row_tree row all held suits path tree = sub_tree_tree (row ∷ []) all (row_fits row all held suits) (and _ _ path refl) tree

pub made_tree : (owner : List ℕ) (mode : ℕ) (file : Option FileRow) (path : List (List ℕ)) (all : List Row) → file_above path all ≡ None → IsPath path → IsTree all → IsTree (with_new path mode file owner (ancestor path all) all)
made_tree owner mode file path all clear is tree = by (ancestor path all) refl
  where
    by : (o : Option Row) → ancestor path all ≡ o → IsTree (with_new path mode file owner o all)
    by None e = tree
    by (Some above) e = sub_tree_tree _ all (missing_fit owner mode file path all above e clear) (missing_paths owner mode file path all above e is) tree

pub without_tree : (path : List (List ℕ)) (all : List Row) → is_root path ≡ false → IsTree all → IsTree (without path all)
without_tree path all below tree = record { namespace = without_namespace path all below tree.namespace; paths = without_paths path all tree.paths }

pub rewritten_tree : (path : List (List ℕ)) (change : Change) (all : List Row) → suits_change change (row_at path all) ≡ true → IsTree all → IsTree (row_rewritten path change all)
rewritten_tree path change all suits tree = record { namespace = rewritten_namespace path change all tree.namespace suits; paths = rewritten_paths path change all tree.paths }

pub new_suits : (file : Option FileRow) (acl : Acl) → (is_directory_kind (kind_of_new file) || suits_file acl) ≡ true → suits_parts (is_directory_kind (kind_of_new file)) acl file ≡ true
new_suits None acl h = refl
new_suits (Some file) acl h = h

-- after a call that may fail
pub either_tree : {T E : Type 0} (r : Result T E) (old new wanted : List Row) → OnOk r (new ≡ wanted) → OnErr r (new ≡ old) → IsTree wanted → IsTree old → IsTree new
either_tree (Ok x) old new wanted done kept t u = subst IsTree (sym done) t
either_tree (Err e) old new wanted done kept t u = subst IsTree (sym kept) u

pub no_parent_above : (path : List (List ℕ)) (all : List Row) → length path ≡ 0 → has_parent path all ≡ true → ⊥
no_parent_above [] all none h = false≢true (sym (go all) ∙ h)
  where
    go : (all : List Row) → has_parent [] all ≡ false
    go [] = refl
    go (r ∷ rs) = go rs
no_parent_above (n ∷ ns) all none h = absurd (omega (arith, none))

module _ (path names : List (List ℕ)) (is : names ≡ path) (own all : List Row) (seen : own ≡ all) (tree : IsTree own) where
  held_own : has_parent path all ≡ true → has_parent names own ≡ true
  held_own held = ap (λ p. has_parent p own) is ∙ ap (has_parent path) seen ∙ held

  pub insert_keeps : (r : Result (Unit {0}) AllocError) (row : Row) (new : List Row) → row.path ≡ names → has_parent path all ≡ true → suits_kind row ≡ true → IsPath path → OnOk r (new ≡ with_sub_tree own (row ∷ [])) → OnErr r (new ≡ own) → IsTree new
  insert_keeps r row new at held suits within ok err =
      either_tree r own new (with_sub_tree own (row ∷ [])) ok err (row_tree row own (ap (λ p. has_parent p own) at ∙ held_own held) suits (subst IsPath (sym (at ∙ is)) within) tree) tree

  pub make_keeps : {T : Type 0} (r : Result T AllocError) (owner : List ℕ) (mode : ℕ) (file : Option FileRow) (new : List Row) → file_above path all ≡ None → IsPath path → OnOk r (new ≡ with_new names mode file owner (ancestor names own) own) → OnErr r (new ≡ own) → IsTree new
  make_keeps r owner mode file new clear within ok err =
      either_tree r own new (with_new names mode file owner (ancestor names own) own) ok err
      (made_tree owner mode file names own (ap (λ p. file_above p own) is ∙ ap (file_above path) seen ∙ clear) (subst IsPath (sym is) within) tree) tree

  pub rewrite_keeps : (change : Change) (new : List Row) → suits_change change (row_at path all) ≡ true → new ≡ row_rewritten names change own → IsTree new
  rewrite_keeps change new suits done =
      subst IsTree (sym done) (rewritten_tree names change own (ap (λ p. suits_change change (row_at p own)) is ∙ ap (λ l. suits_change change (row_at path l)) seen ∙ suits) tree)

pub remove_keeps : (first : List ℕ) (rest : List (List ℕ)) (own new : List Row) → new ≡ without (first ∷ rest) own → IsTree own → IsTree new
remove_keeps first rest own new done tree = subst IsTree (sym done) (without_tree (first ∷ rest) own refl tree)

pub moved_tree : (from to : List (List ℕ)) (all : List Row) → is_prefix from to ≡ false → has_parent to all ≡ true → are_paths (map (moved_row from to) (rows_under from all)) ≡ true → IsTree all → IsTree (with_rows_moved from to all)
moved_tree from to all beside held within tree = record {
  namespace = moved_namespace from to all beside held tree.namespace;
  paths = replaced_paths to (map (moved_row from to) (rows_under from all)) (without from all) within (without_paths from all tree.paths);
}

not_false : (b : Bool) → not b ≡ true → b ≡ false
not_false true h = sym h
not_false false h = refl

module _ (from to ns ms : List (List ℕ)) (is : ns ≡ from) (ends : ms ≡ to) (own all : List Row) (seen : own ≡ all) (tree : IsTree own) where
  pub move_keeps : (r : Result (Unit {0}) AllocError) (new : List Row) → has_parent to all ≡ true → not (is_prefix from to) ≡ true → are_paths (map (moved_row from to) (rows_under from all)) ≡ true → OnOk r (new ≡ with_rows_moved ns ms own) → OnErr r (new ≡ own) → IsTree new
  move_keeps r new held beside within ok err =
      let same : with_rows_moved ns ms own ≡ with_rows_moved from to all = ap (λ p. with_rows_moved p ms own) is ∙ ap (λ p. with_rows_moved from p own) ends ∙ ap (with_rows_moved from to) seen in
      either_tree r own new (with_rows_moved from to all) (on_ok r (λ e. e ∙ same) ok) err (moved_tree from to all (not_false (is_prefix from to) beside) held within (subst IsTree seen tree)) tree

  pub move_there : not (is_missing from all) ≡ true → is_missing ns own ≡ false
  move_there there = ap (λ p. is_missing p own) is ∙ ap (is_missing from) seen ∙ not_false (is_missing from all) there

  pub move_free : is_missing to all ≡ true → is_missing ms own ≡ true
  move_free free = ap (λ p. is_missing p own) ends ∙ ap (is_missing to) seen ∙ free

  pub move_parent : has_parent to all ≡ true → has_parent ms own ≡ true
  move_parent held = ap (λ p. has_parent p own) ends ∙ ap (has_parent to) seen ∙ held

  pub move_beside : not (is_prefix from to) ≡ true → is_prefix ns ms ≡ false
  move_beside beside = ap (λ p. is_prefix p ms) is ∙ ap (is_prefix from) ends ∙ not_false (is_prefix from to) beside

-- What is asked of the rows at and beneath a path, where a branch stands there.
use Rattle.std.proofs.Common.{◌≡◌, ℕ, Bool, true, not, ◌||◌, cond, List, [], ◌∷◌, ◌++◌, map, length, IsTrue, Option, Some, None, refl, sym, ap, ◌∙◌, subst}
use Rattle.std.specs.Prelude.{is_some}
use Rattle.std.proofs.lemmas.List.{length-map}
use Rattle.std.specs.List.{filter, list_all, list_any}
use Rattle.std.specs.Option.{option_map}
use Rattle.permission_bits.specs.declared.rights.Rights.{Rights}
use Rattle.file_paths.specs.Path.{is_path, IsPath}
use Rattle.namespace_rows.specs.declared.row.Row.{Row}
use Rattle.file_blocks.specs.Blocks.{told_length}
use Rattle.namespace_rows.specs.Files.{holders}
use Rattle.flat_rows.specs.Outcome.{bytes_in}
use Rattle.namespace_rows.specs.First.{first}
use Rattle.namespace_rows.specs.Rows.{is_directory}
use Rattle.namespace_rows.specs.Namespace.{is_ascending}
use Rattle.namespace_rows.specs.Changes.{rows_under, child_names, are_paths}
use Rattle.namespace_rows.proofs.Tests.{both, all_kept}
use Rattle.namespace_rows.proofs.Namespaces.{namespace_tests}
use Rattle.inode_nodes.specs.Node.{Node, rows, rows_or, row_placed}
use Rattle.inode_nodes.specs.Part.{IsWhole}
use Rattle.inode_tree.specs.Tree.{IsTree, has_files}
use Rattle.inode_visits.specs.Visits.{told_number, counted_open, counts_of, is_closed}
use Rattle.inode_visits.specs.declared.visit.Counted.{Counted}
use Rattle.inode_visits.specs.declared.visit.Counts.{Counts}
use Rattle.inode_nodes.proofs.Filters.{filter-map, inside}
use Rattle.inode_visits.proofs.Visits.{bytes_map, holders_map}
use Rattle.inode_nodes.proofs.Children.{part_ascending, child_names_whole}

abbrev made : ℕ → ℕ → ℕ → Counts
made directories files bytes = record { directories = told_number directories; files = told_number files; bytes = told_length bytes }

first_placed : (path : List (List ℕ)) (rs : List Row) → first (map (row_placed path) rs) ≡ option_map (row_placed path) (first rs)
first_placed path [] = refl
first_placed path (r ∷ rs) = refl

first_passes : (p q : Row → Bool) (rs : List Row) (row : Row) → list_all q rs ≡ true → first (filter p rs) ≡ Some row → q row ≡ true
first_passes p q rs row h found = by (filter p rs) (all_kept p q rs h) found
  where
    by : (xs : List Row) → list_all q xs ≡ true → first xs ≡ Some row → q row ≡ true
    by [] k e = cc
    by (x ∷ xs) k e = subst (λ y. q y ≡ true) (one x e) (both (q x) (list_all q xs) k).0
      where
        one : (x : Row) → Some x ≡ Some row → x ≡ row
        one x e = cc

any_placed : (path : List (List ℕ)) (p : Row → Bool) → ((row : Row) → p (row_placed path row) ≡ p row) → (rs : List Row) → list_any p (map (row_placed path) rs) ≡ list_any p rs
any_placed path p same [] = refl
any_placed path p same (r ∷ rs) = ap (λ b. b || list_any p (map (row_placed path) rs)) (same r) ∙ ap (λ b. p r || b) (any_placed path p same rs)

-- what is counted of so many rows, where none of them is closed
abbrev counted : ℕ → Bool → Bool → Option Counted
counted number files closed = cond closed None (Some (record { number = told_number number; has_files = files }))

-- what was found at these names, among rows of a tree that are all of these
module _ (names path : List (List ℕ)) (is : names ≡ path) (own all : List Row) (seen : own ≡ all) (tree : IsTree own) (o : Option Node) (whole : IsWhole names own o) where
  under : rows_under path all ≡ map (row_placed path) (rows_or o)
  under = sym (ap (λ p. rows_under p all) is) ∙ sym (ap (rows_under names) seen) ∙ whole ∙ ap (λ p. map (row_placed p) (rows_or o)) is

  module _ (p : Row → Bool) (same : (row : Row) → p (row_placed path row) ≡ p row) where
    passing : filter p (rows_under path all) ≡ map (row_placed path) (filter p (rows_or o))
    passing = ap (filter p) under ∙ filter-map p p (row_placed path) same (rows_or o)

    number : length (filter p (rows_or o)) ≡ length (filter p (rows_under path all))
    number = sym (ap length passing ∙ length-map (filter p (rows_or o)) (row_placed path))

    pub first_there : option_map (row_placed path) (first (filter p (rows_or o))) ≡ first (filter p (rows_under path all))
    first_there = sym (ap first passing ∙ first_placed path (filter p (rows_or o)))

  pub counts_there : counts_of (rows_or o) ≡ counts_of (rows_under path all)
  counts_there =
      ap (λ n. made n (length (filter (λ row. not (is_directory row)) (rows_or o))) (bytes_in (rows_or o))) (number is_directory (λ row. refl))
      ∙ ap (λ n. made (length (filter is_directory (rows_under path all))) n (bytes_in (rows_or o))) (number (λ row. not (is_directory row)) (λ row. refl))
      ∙ ap (made (length (filter is_directory (rows_under path all))) (length (filter (λ row. not (is_directory row)) (rows_under path all)))) (sym (ap bytes_in under ∙ bytes_map (row_placed path) (λ row. refl) (rows_or o)))

  pub counted_there : (caller : List ℕ) (groups : List (List ℕ)) (need : Rights) → counted_open caller groups need (rows_or o) ≡ counted_open caller groups need (rows_under path all)
  counted_there caller groups need =
      ap (counted (length (rows_or o)) (has_files (rows_or o))) (sym (ap (list_any (is_closed caller groups need)) under ∙ any_placed path (is_closed caller groups need) (λ row. refl) (rows_or o)))
      ∙ ap (λ n. counted n (has_files (rows_or o)) (list_any (is_closed caller groups need) (rows_under path all))) (sym (ap length under ∙ length-map (rows_or o) (row_placed path)))
      ∙ ap (λ b. counted (length (rows_under path all)) b (list_any (is_closed caller groups need) (rows_under path all))) (sym (ap has_files under ∙ any_placed path (λ row. is_some row.file) (λ row. refl) (rows_or o)))

  pub holders_there : holders (rows_or o) ≡ holders (rows_under path all)
  holders_there = sym (ap holders under ∙ holders_map (row_placed path) (λ row. refl) (rows_or o))

  paths_there : are_paths (map (row_placed path) (rows_or o)) ≡ true
  paths_there = sym (ap are_paths under) ∙ all_kept (inside path) (λ row. is_path row.path) all (ap are_paths (sym seen) ∙ tree.paths)

  pub rows_there : (b : Node) → o ≡ Some b → IsTrue (are_paths (map (row_placed path) (rows b)))
  rows_there b found = subst (λ x. are_paths (map (row_placed path) (rows_or x)) ≡ true) found paths_there

  -- the row that was found has a path
  pub found_path : (p : Row → Bool) (row : Row) → ((row : Row) → p (row_placed path row) ≡ p row) → first (filter p (rows_or o)) ≡ Some row → IsPath (path ++ row.path)
  found_path p row same found =
      first_passes p (λ r. is_path r.path) (map (row_placed path) (rows_or o)) (row_placed path row) paths_there (ap first (filter-map p p (row_placed path) same (rows_or o)) ∙ first_placed path (filter p (rows_or o)) ∙ ap (option_map (row_placed path)) found)

  pub ascending_there : (b : Node) → o ≡ Some b → is_ascending (rows b) ≡ true
  ascending_there b found = part_ascending names own b (subst (IsWhole names own) found whole) (namespace_tests own tree.namespace).ascending

  pub names_there : child_names [] (rows_or o) ≡ child_names path all
  names_there = child_names_whole names own o whole ∙ ap (λ p. child_names p own) is ∙ ap (child_names path) seen

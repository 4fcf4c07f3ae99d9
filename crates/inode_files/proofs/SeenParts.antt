-- Branches of nodes, and what is asked of them, as the namespace sees them.
use Rattle.std.proofs.Common.{◌≡◌, ℕ, Bool, true, List, map, filter, Option, Some, None, refl, sym, ap, ◌∙◌}
use Rattle.std.specs.Option.{option_map, option_and_then}
use Rattle.slab.specs.Slab.{Slab, get, Updates}
use Rattle.namespace_rows.specs.declared.file_row.FileRow.{FileRow}
use Rattle.namespace_rows.specs.declared.row.Row.{Row}
use Rattle.namespace_rows.specs.First.{first}
use Rattle.namespace_rows.specs.Rows.{row_at}
use Rattle.namespace_rows.specs.Namespace.{is_ascending}
use Rattle.namespace_rows.specs.Changes.{row_rewritten}
use Rattle.file_table.specs.Place.{placed}
use Rattle.file_table.specs.Kept.{AreKept}
use Rattle.file_table.specs.Seen.{file_held, seen, seen_rows}
use Rattle.inode_nodes.specs.declared.change.Given.{Given}
use Rattle.inode_nodes.specs.declared.change.Given.TheVariants as given
use Rattle.inode_nodes.specs.Change.{change_of}
use Rattle.inode_nodes.specs.Node.{Node, rows_or, under, row_placed}
use Rattle.inode_nodes.specs.Part.{IsPart, IsWhole}
use Rattle.inode_nodes.proofs.Wholes.{row_at_whole}
use Rattle.inode_visits.specs.SeenNode.{seen_branch}
use Rattle.inode_visits.specs.Visits.{row_found}
use Rattle.inode_visits.specs.declared.visit.Found.{Found}
use Rattle.inode_visits.proofs.Visits.{seen_under, seen_placed}
use Rattle.inode_files.specs.Branch.{file_rewritten}
use Rattle.inode_files.proofs.SeenRows.{shown_filter, shown_first, shown_under, shown_ascending, shown_owner, shown_list}
use Rattle.inode_files.proofs.Counts.{count_owner, count_list}
use Rattle.inode_files.proofs.Places.{seen_changed, unchanged_there}

module _ (files : Slab FileRow) where
  seen_rows_or : (part : Option Node) → rows_or (option_map (seen_branch files) part) ≡ seen_rows files (rows_or part)
  seen_rows_or None = refl
  seen_rows_or (Some branch) = refl

  pub seen_part : (n : List ℕ) (beneath : List Row) (part : Option Node) → IsPart n beneath part → IsPart n (seen_rows files beneath) (option_map (seen_branch files) part)
  seen_part n beneath part is = record {
    seen = λ p q splits.
        let before : (row : Row) → Bool = λ row. p (seen files row) in
        let within : (row : Row) → Bool = λ row. q (seen files row) in
        shown_filter (file_held files) p before (λ row. refl) beneath
        ∙ ap (seen_rows files) (is.seen before within (record { lows = λ other row. splits.lows other (seen files row); highs = λ other row. splits.highs other (seen files row); here = λ row. splits.here (seen files row) }))
        ∙ sym (seen_under files n (filter within (rows_or part)))
        ∙ ap (map (under n)) (sym (shown_filter (file_held files) q within (λ row. refl) (rows_or part)) ∙ ap (filter q) (sym (seen_rows_or part)));
  }

  pub seen_whole : (path : List (List ℕ)) (all : List Row) (part : Option Node) → IsWhole path all part → IsWhole path (seen_rows files all) (option_map (seen_branch files) part)
  seen_whole path all part whole =
      shown_under (file_held files) path all ∙ ap (seen_rows files) whole ∙ sym (seen_placed files path (rows_or part)) ∙ ap (map (row_placed path)) (sym (seen_rows_or part))

  found_seen : (found : Option Found) → option_map (seen files) (option_map row_found found) ≡ option_map row_found found
  found_seen None = refl
  found_seen (Some found) = refl

  pub first_seen : (p : Row → Bool) → ((row : Row) → p (seen files row) ≡ p row) → (found : Option Found) (rs : List Row) → option_map row_found found ≡ first (filter p rs) → option_map row_found found ≡ first (filter p (seen_rows files rs))
  first_seen p same found rs is =
      sym (found_seen found) ∙ ap (option_map (seen files)) is ∙ sym (shown_first (file_held files) (filter p rs)) ∙ ap first (sym (shown_filter (file_held files) p p same rs))

  pub seen_given : (path : List (List ℕ)) (change : Given) (rs : List Row) → seen_rows files (row_rewritten path (change_of change) rs) ≡ row_rewritten path (change_of change) (seen_rows files rs)
  seen_given path (given.Owners owner group) rs = sym (shown_owner (file_held files) path owner group rs)
  seen_given path (given.List acl) rs = sym (shown_list (file_held files) path acl rs)

pub kept_given : (files : Slab FileRow) (path : List (List ℕ)) (change : Given) (rs : List Row) → AreKept files rs → AreKept files (row_rewritten path (change_of change) rs)
kept_given files path (given.Owners owner group) rs kept = λ place. count_owner place path owner group rs ∙ kept place
kept_given files path (given.List acl) rs kept = λ place. count_list place path acl rs ∙ kept place

-- what has a path, and the place of the file there

pub place_found : (path : List (List ℕ)) (all : List Row) (part : Option Node) (own : Option FileRow) → IsWhole path all part → own ≡ option_and_then (λ branch. branch.top.file) part → own ≡ option_and_then (λ row. row.file) (row_at path all)
place_found path all None own whole is = is ∙ ap (option_and_then (λ (row : Row). row.file)) (row_at_whole path all None whole)
place_found path all (Some branch) own whole is = is ∙ ap (option_and_then (λ (row : Row). row.file)) (row_at_whole path all (Some branch) whole)

record AtPlace (place : ℕ) (found : Option Row) : Type 0 where
  row : Row
  at : found ≡ Some row
  own : row.file ≡ Some (placed place)

at_place : (place : ℕ) (found : Option Row) → Some (placed place) ≡ option_and_then (λ (row : Row). row.file) found → AtPlace place found
at_place place None is = cc
at_place place (Some row) is = record { row = row; at = refl; own = sym is }

module _ (old new : Slab FileRow) (rs all : List Row) (path : List (List ℕ)) (edit : FileRow → FileRow) (seen_all : seen_rows old rs ≡ all) (ascending : is_ascending all ≡ true) where
  own_ascending : is_ascending rs ≡ true
  own_ascending = sym (shown_ascending (file_held old) rs) ∙ ap is_ascending seen_all ∙ ascending

  pub edited_there : (place : ℕ) (told : Option ℕ) → told ≡ Some place → option_map placed told ≡ option_and_then (λ (row : Row). row.file) (row_at path rs) → Updates old new place (option_map edit (get old place)) → AreKept old rs → seen_rows new rs ≡ file_rewritten path edit all
  edited_there place told is at updates kept =
      let there = at_place place (row_at path rs) (sym (ap (option_map placed) is) ∙ at) in
      seen_changed old new rs path there.row (placed place) edit own_ascending there.at there.own updates kept ∙ ap (file_rewritten path edit) seen_all

  pub edited_nowhere : (told : Option ℕ) → told ≡ None → option_map placed told ≡ option_and_then (λ (row : Row). row.file) (row_at path rs) → all ≡ file_rewritten path edit all
  edited_nowhere told is at =
      sym seen_all ∙ sym (unchanged_there old rs path edit own_ascending (sym (sym (ap (option_map placed) is) ∙ at))) ∙ ap (file_rewritten path edit) seen_all

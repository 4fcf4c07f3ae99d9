-- What visits tell of files: their blocks, and which are left where some are forgotten.
use Rattle.std.proofs.Common.{◌≡◌, ℕ, List, [], ◌∷◌, ◌++◌, map, append_assoc, Bool, true, false, ◌||◌, is_some, Option, refl, sym, ap, ◌∙◌}
use Rattle.slab.specs.Slab.{Slab, get}
use Rattle.namespace_rows.specs.declared.file_row.FileRow.{FileRow}
use Rattle.namespace_rows.specs.declared.row.Row.{Row}
use Rattle.namespace_rows.specs.Files.{ids_in, blocks_in}
use Rattle.inode_nodes.specs.Node.{Node, flatten, rows, under}
use Rattle.inode_nodes.proofs.Filters.{Entries}
use Rattle.inode_visits.specs.Holding.{has_files}
use Rattle.file_table.specs.Kept.{is_at_place, are_at_place, get_unless}
use Rattle.inode_visits.proofs.Visits.{any_here, any_next}

module _ (f : Row → Row) (same : (row : Row) → (f row).file ≡ row.file) where
  pub blocks_map : (rs : List Row) → blocks_in (map f rs) ≡ blocks_in rs
  blocks_map [] = refl
  blocks_map (r ∷ rs) = ap (λ file. ids_in file ++ blocks_in (map f rs)) (same r) ∙ ap (λ l. ids_in r.file ++ l) (blocks_map rs)

blocks_append : (xs ys : List Row) → blocks_in (xs ++ ys) ≡ blocks_in xs ++ blocks_in ys
blocks_append [] ys = refl
blocks_append (x ∷ xs) ys = ap (λ l. ids_in x.file ++ l) (blocks_append xs ys) ∙ sym (append_assoc (ids_in x.file) (blocks_in xs) (blocks_in ys))

-- those of one entry are added, and those of the entries behind it are left
pub blocks_next : (it new : Entries) (n : List ℕ) (b : Node) (before after all : List ℕ) → it ≡ (n, b) ∷ new → after ≡ before ++ blocks_in (rows b) → before ++ blocks_in (flatten it) ≡ all → after ++ blocks_in (flatten new) ≡ all
blocks_next it new n b before after all is a h =
    ap (λ l. l ++ blocks_in (flatten new)) a ∙ append_assoc before (blocks_in (rows b)) (blocks_in (flatten new))
    ∙ ap (λ l. before ++ l) (sym (ap (λ (x : Entries). blocks_in (flatten x)) is ∙ blocks_append (map (under n) (rows b)) (flatten new) ∙ ap (λ l. l ++ blocks_in (flatten new)) (blocks_map (under n) (λ row. refl) (rows b)))) ∙ h

-- whether there is a file in one entry is told, and what of the entries behind it is left
pub any_step : (it new : Entries) (n : List ℕ) (b : Node) (before after all : Bool) → it ≡ (n, b) ∷ new → after ≡ (before || has_files (rows b)) → (before || has_files (flatten it)) ≡ all → (after || has_files (flatten new)) ≡ all
any_step it new n b before after all is a h = by before (has_files (rows b)) refl a h
  where
    test : Row → Bool
    test row = is_some row.file

    by : (x y : Bool) → has_files (rows b) ≡ y → after ≡ (x || y) → (x || has_files (flatten it)) ≡ all → (after || has_files (flatten new)) ≡ all
    by true y e f g = ap (λ c. c || has_files (flatten new)) f ∙ g
    by false true e f g = ap (λ c. c || has_files (flatten new)) f ∙ sym (any_here test (λ m row. refl) it new n b is e) ∙ g
    by false false e f g = ap (λ c. c || has_files (flatten new)) f ∙ any_next test (λ m row. refl) it new n b is e ∙ g

pub or_false : (b : Bool) → (b || false) ≡ b
or_false true = refl
or_false false = refl

-- files of entries that are forgotten one behind the other

module _ (k : ℕ) where
  at_place_under : (n : List ℕ) (row : Row) → is_at_place k (under n row).file ≡ is_at_place k row.file
  at_place_under n row = refl

  -- what is left once the rest is forgotten too
  pub forgotten_next : (it new : Entries) (n : List ℕ) (b : Node) (now after : Slab FileRow) (all : Option FileRow) → it ≡ (n, b) ∷ new → get after k ≡ get_unless (are_at_place k (rows b)) now k → get_unless (are_at_place k (flatten it)) now k ≡ all
      → get_unless (are_at_place k (flatten new)) after k ≡ all
  forgotten_next it new n b now after all is left h = by (are_at_place k (rows b)) (are_at_place k (flatten new)) refl refl left
    where
      test : Row → Bool
      test row = is_at_place k row.file

      by : (x y : Bool) → are_at_place k (rows b) ≡ x → are_at_place k (flatten new) ≡ y → get after k ≡ get_unless x now k → get_unless y after k ≡ all
      by true true e f g = ap (λ c. get_unless c now k) (sym (any_here test at_place_under it new n b is e)) ∙ h
      by true false e f g = g ∙ ap (λ c. get_unless c now k) (sym (any_here test at_place_under it new n b is e)) ∙ h
      by false true e f g = ap (λ c. get_unless c now k) (sym f ∙ any_next test at_place_under it new n b is e) ∙ h
      by false false e f g = g ∙ ap (λ c. get_unless c now k) (sym f ∙ any_next test at_place_under it new n b is e) ∙ h

-- The row at a path, where a branch stands there.
use Rattle.std.proofs.Common.{◌≡◌, ℕ, Bool, true, false, List, [], ◌∷◌, ◌++◌, map, cond, Option, Some, None, refl, sym, ap, ◌∙◌, subst}
use Rattle.std.proofs.lemmas.List.{append-nil}
use Rattle.std.specs.List.{filter}
use Rattle.std.specs.Option.{option_map}
use Rattle.file_paths.specs.Path.{is_prefix}
use Rattle.file_paths.specs.PathOrder.{same_path}
use Rattle.namespace_rows.specs.declared.row.Row.{Row}
use Rattle.namespace_rows.specs.First.{first}
use Rattle.namespace_rows.specs.Rows.{row_at}
use Rattle.namespace_rows.proofs.PathOrders.{same_path_is}
use Rattle.flat_rows.proofs.NewDirectories.{starts_self}
use Rattle.inode_nodes.specs.Node.{Node, rows_or, row_of, row_placed}
use Rattle.inode_nodes.specs.Part.{IsWhole}
use Rattle.inode_nodes.proofs.Filters.{self, filter-map, inside, standing}

-- a test that passes no row that another drops
pub filter_within : (p q : Row → Bool) → ((row : Row) → p row ≡ true → q row ≡ true) → (rs : List Row) → filter p (filter q rs) ≡ filter p rs
filter_within p q h [] = refl
filter_within p q h (r ∷ rs) = by (p r) (q r) refl refl (h r) (filter_within p q h rs)
  where
    by : (a b : Bool) → p r ≡ a → q r ≡ b → (a ≡ true → b ≡ true) → filter p (filter q rs) ≡ filter p rs → filter p (cond b (r ∷ filter q rs) (filter q rs)) ≡ cond a (r ∷ filter p rs) (filter p rs)
    by true true e f k others = rw e (ap (λ t. r ∷ t) others)
    by true false e f k others = absurd (no (k refl))
      where
        no : false ≡ true → ⊥
        no d = cc
    by false true e f k others = rw e others
    by false false e f k others = others

pub standing_inside : (path : List (List ℕ)) (row : Row) → standing path row ≡ true → inside path row ≡ true
standing_inside path row h = subst (λ p. is_prefix path p ≡ true) (same_path_is path row.path h) (starts_self path)

pub same_placed : (path q : List (List ℕ)) → same_path path (path ++ q) ≡ same_path [] q
same_placed [] q = refl
same_placed (n ∷ ns) q = rw (self n) (same_placed ns q)

-- the rows of the whole that have the path
pub found_at : (path : List (List ℕ)) (all : List Row) (part : Option Node) → IsWhole path all part → filter (standing path) all ≡ map (row_placed path) (filter (standing []) (rows_or part))
found_at path all part whole =
    sym (filter_within (standing path) (inside path) (standing_inside path) all) ∙ ap (filter (standing path)) whole ∙ filter-map (standing path) (standing []) (row_placed path) (λ r. same_placed path r.path) (rows_or part)

pub row_at_whole : (path : List (List ℕ)) (all : List Row) (part : Option Node) → IsWhole path all part → option_map (λ b. row_of path b.top) part ≡ row_at path all
row_at_whole path all None whole = sym (ap first (found_at path all None whole))
row_at_whole path all (Some b) whole = ap (λ p. Some (row_of p b.top)) (sym (append-nil path)) ∙ sym (ap first (found_at path all (Some b) whole))

pub row_found : (names path : List (List ℕ)) (rs all : List Row) (o part : Option Node) → names ≡ path → rs ≡ all → o ≡ part → IsWhole names rs o → option_map (λ b. row_of path b.top) part ≡ row_at path all
row_found names path rs all o part is seen found whole =
    subst (λ p. option_map (λ b. row_of p b.top) part ≡ row_at p all) is
    (subst (λ r. option_map (λ b. row_of names b.top) part ≡ row_at names r) seen (subst (λ x. option_map (λ b. row_of names b.top) x ≡ row_at names rs) found (row_at_whole names rs o whole)))

-- What no refusal of a rename tells, and what has a path in a namespace.
use Rattle.std.proofs.Common.{◌≡◌, ℕ, Bool, true, false, ◌&&◌, ◌||◌, List, [], ◌∷◌, length, take, cond, Option, Some, None, refl, sym, ap, ◌∙◌}
use Rattle.std.specs.Prelude.{filter, not}
use Rattle.std.specs.Option.{option_or}
use Rattle.file_paths.specs.Path.{is_prefix}
use Rattle.file_paths.specs.PathOrder.{same_path}
use Rattle.hdfs_values.proofs.Texts.{same_self}
use Rattle.hdfs_types.specs.declared.op.Op.TheVariants.{Rename}
use Rattle.refusals.specs.declared.refusal.Refusal.{Refusal}
use Rattle.principals.specs.Users.{Users}
use Rattle.namespace_rows.specs.declared.row.Row.{Row}
use Rattle.namespace_rows.specs.First.{first}
use Rattle.namespace_rows.specs.Rows.{is_directory, is_none, is_missing, row_at, if_directory, directory_of}
use Rattle.namespace_rows.specs.Namespace.{is_child, has_parent}
use Rattle.namespace_rows.specs.Changes.{are_paths}
use Rattle.flat_rows.specs.Facts.{Facts}
use Rattle.flat_rows.specs.Outcome.{refused_where, nothing_at, something_at, beneath_file, first_refusal, rows_moved}
use Rattle.namespace_rows.proofs.Tests.{or_right}
use Rattle.namespace_rows.proofs.PathOrders.{same_path_is}

-- none of two is none of either
pub neither : {X : Type 0} (a b : Option X) → option_or a b ≡ None → (a ≡ None) × (b ≡ None)
neither (Some x) b h = absurd (no h)
  where
    no : Some x ≡ None → ⊥
    no e = cc
neither None b h = (refl, h)

unrefused : (b : Bool) (refusal : Refusal) → refused_where b refusal ≡ None → b ≡ false
unrefused true refusal h = absurd (no h)
  where
    no : Some refusal ≡ None → ⊥
    no e = cc
unrefused false refusal h = refl

there : (o : Option Row) → nothing_at o ≡ None → not (is_none o) ≡ true
there None h = cc
there (Some row) h = refl

free : (o : Option Row) → something_at o ≡ None → is_none o ≡ true
free None h = refl
free (Some row) h = cc

not_false : (b : Bool) → not b ≡ false → b ≡ true
not_false true h = refl
not_false false h = cc

pub record Free (from to : List (List ℕ)) (rows : List Row) : Type 0 where
  pub there : not (is_missing from rows) ≡ true
  pub free : is_missing to rows ≡ true
  pub parent : is_none (directory_of to rows) ≡ false
  pub beside : not (is_prefix from to) ≡ true
  pub within : are_paths (rows_moved from to rows) ≡ true

pub unrefused_rename : (facts : Facts) (caller : List ℕ) (from to : List (List ℕ)) (rows : List Row) (users : Users) → first_refusal facts caller (Rename from to) rows users ≡ None → Free from to rows
unrefused_rename facts caller from to rows users h =
    let a = neither _ _ h in
    let b = neither (beneath_file from rows) _ a.1 in
    let c = neither (nothing_at (row_at from rows)) _ b.1 in
    let d = neither (beneath_file to rows) _ c.1 in
    let e = neither _ _ d.1 in
    let f = neither (something_at (row_at to rows)) _ e.1 in
    let g = neither _ _ f.1 in
    let i = neither _ _ g.1 in
    record {
      there = there (row_at from rows) c.0;
      free = free (row_at to rows) f.0;
      parent = unrefused (is_none (directory_of to rows)) _ g.0;
      beside = ap not (unrefused (is_prefix from to) _ e.0);
      within = not_false (are_paths (rows_moved from to rows)) (unrefused (not (are_paths (rows_moved from to rows))) _ i.0);
    }

-- the directory that holds a path is its parent
child_of_parent : (name : List ℕ) (names : List (List ℕ)) → is_child (name ∷ names) (take (length names) (name ∷ names)) ≡ true
child_of_parent name [] = refl
child_of_parent name (other ∷ names) = ap (λ b. b && is_child (other ∷ names) (take (length names) (other ∷ names))) (same_self name) ∙ child_of_parent other names

module _ (path above : List (List ℕ)) (child : is_child path above ≡ true) where
  held_by : (rows : List Row) → is_none (if_directory (first (filter (λ row. same_path above row.path) rows))) ≡ false → has_parent path rows ≡ true
  held_by [] h = cc
  held_by (row ∷ rows) h = by (same_path above row.path) refl h (held_by rows)
    where
      is_held : same_path above row.path ≡ true → (d : Bool) → is_directory row ≡ d → is_none (cond d (Some row) None) ≡ false → (is_child path row.path && is_directory row) ≡ true
      is_held e true dir k = rw dir (ap (λ c. c && true) (ap (is_child path) (sym (same_path_is above row.path e)) ∙ child))
      is_held e false dir k = cc

      by : (b : Bool) → same_path above row.path ≡ b → is_none (if_directory (first (cond b (row ∷ filter (λ other. same_path above other.path) rows) (filter (λ other. same_path above other.path) rows)))) ≡ false
          → (is_none (if_directory (first (filter (λ other. same_path above other.path) rows))) ≡ false → has_parent path rows ≡ true) → has_parent path (row ∷ rows) ≡ true
      by true e k others = ap (λ c. c || has_parent path rows) (is_held e (is_directory row) refl k)
      by false e k others = or_right (is_child path row.path && is_directory row) (has_parent path rows) (others k)

pub parent_there : (path : List (List ℕ)) (rows : List Row) → is_none (directory_of path rows) ≡ false → has_parent path rows ≡ true
parent_there [] rows h = cc
parent_there (name ∷ names) rows h = held_by (name ∷ names) (take (length names) (name ∷ names)) (child_of_parent name names) rows h

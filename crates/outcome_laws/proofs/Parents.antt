-- What the maker of a path may do in the parents that are made on the way.
use Rattle.std.proofs.Common.{◌≡◌, ℕ, ◌/◌, ◌%◌, ◌==◌, Bool, true, false, ◌&&◌, ◌||◌, not, List, [], ◌∷◌, ◌++◌, length, drop, append_assoc, bit_and, Option, Some, None, refl, sym, ap, ◌∙◌, cond}
use Rattle.std.specs.List.{list_all}
use Rattle.std.proofs.lemmas.List.{take-append-drop}
use Rattle.std.proofs.lemmas.Nat.{and_or_self}
use lib.Bits.{or_shr, or_mod}
use Rattle.hdfs_values.specs.Text.{same}
use Rattle.permission_bits.specs.Mode.{user_bits, for_missing_parent}
use Rattle.permission_bits.specs.Rights.{covers}
use Rattle.file_paths.specs.Path.{is_beneath}
use Rattle.file_paths.specs.PathOrder.{same_path}
use Rattle.file_states.specs.declared.kind.ObjectKind.TheVariants.{Directory}
use Rattle.acl_entries.specs.JudgedEntry.{Chosen}
use Rattle.default_acl.specs.Inheritance.{acl_from_default}
use Rattle.namespace_rows.specs.declared.file_row.FileRow.{FileRow}
use Rattle.namespace_rows.specs.declared.row.Row.{Row}
use Rattle.namespace_rows.specs.Rows.{row_at, ancestor}
use Rattle.namespace_rows.proofs.PathOrders.{same_path_is}
use Rattle.namespace_rows.proofs.Tests.{and}
use Rattle.flat_rows.specs.Outcome.{new_row, new_rows}
use Rattle.flat_rows.proofs.Firsts.{first_found}
use Rattle.flat_rows.proofs.NewDirectories.{beneath_parts, ancestor_above}
use Rattle.permission_laws.specs.Attempt.{Attempt, by_superuser, may}
use Rattle.outcome_laws.proofs.Listing.{and_false}

-- the owner of a parent that is made on the way may traverse it and write
owner_covers : (mode : ℕ) → covers (user_bits (for_missing_parent mode)) 3 ≡ true
owner_covers mode =
    ap (λ bits. bit_and bits 3 == 3) (ap (λ bits. bits % 8) (or_shr (mode % 512) 192 6) ∙ or_mod (mode % 512 / 64) 3 3)
    ∙ ap (λ bits. bits == 3) (and_or_self 3 (mode % 512 / 64 % 8))

or_right : (a b : Bool) → b ≡ true → (a || b) ≡ true
or_right true b h = refl
or_right false b h = h

not_beneath : (path : List (List ℕ)) → is_beneath path path ≡ false
not_beneath [] = refl
not_beneath (n ∷ ns) = ap (λ b. same n n && b) (not_beneath ns) ∙ and_false (same n n)

-- the path as what stands above it and the names behind
pub whole_of : (path : List (List ℕ)) (rows : List Row) (above : Row) → ancestor path rows ≡ Some above → path ≡ above.path ++ drop (length above.path) path
whole_of path rows above found =
    sym (take-append-drop (length above.path) path) ∙ ap (λ t. t ++ drop (length above.path) path) (beneath_parts path above.path (ancestor_above path rows above found)).front

pub path_found : (path : List (List ℕ)) (rows : List Row) (row : Row) → row_at path rows ≡ Some row → path ≡ row.path
path_found path rows row at = same_path_is path row.path (first_found (λ r. same_path path r.path) rows row at)

module _ (made : List (List ℕ)) where
  -- what stands above the path that is made lets its owner traverse it and write
  abbrev pub serves : Row → Bool
  serves row = not (is_beneath made row.path) || covers row.acl.access.user.0 3

  module _ (owner : List ℕ) (mode : ℕ) (file : Option FileRow) where
    pub all_serve : (above : Row) (names : List (List ℕ)) → above.acl.default ≡ None → made ≡ above.path ++ names → list_all serves (new_rows above owner mode file names) ≡ true
    all_serve above [] none whole = refl
    all_serve above (name ∷ []) none whole =
        let row : Row = new_row above owner mode file name in
        and _ _ (ap (λ b. not b || covers row.acl.access.user.0 3) (ap (λ p. is_beneath p row.path) whole ∙ not_beneath row.path)) refl
    all_serve above (name ∷ next ∷ names) none whole =
        let row : Row = new_row above owner (for_missing_parent mode) None name in
        and _ _ (or_right (not (is_beneath made row.path)) _ (ap (λ d. covers (acl_from_default d (for_missing_parent mode) Directory).access.user.0 3) none ∙ owner_covers mode))
        (all_serve row (next ∷ names) (ap (λ d. (acl_from_default d (for_missing_parent mode) Directory).default) none) (whole ∙ sym (append_assoc above.path (name ∷ []) (next ∷ names))))

  pub serving_maker : (a : Attempt) (path : List (List ℕ)) (row : Row) → path ≡ row.path → is_beneath made path ≡ true → same a.caller row.owner ≡ true → serves row ≡ true → may 3 a row ≡ true
  serving_maker a path row found under owned serving =
      or_right (by_superuser a) _ (by (same a.caller row.owner) _ _ owned (sym (ap (λ b. not b || covers row.acl.access.user.0 3) (ap (is_beneath made) (sym found) ∙ under)) ∙ serving))
    where
      by : (b : Bool) (own other : Chosen) → b ≡ true → own.granted ≡ true → (cond b own other).granted ≡ true
      by true own other is granted = granted
      by false own other is granted = cc

-- What a deletion is refused for, and how much it takes away.
use Rattle.std.proofs.Common.{◌≡◌, ℕ, ◌+◌, Bool, true, false, List, [], ◌∷◌, length, cond, Option, Some, None, refl, subst, arith}
use Rattle.std.specs.Prelude.{filter, not}
use Rattle.std.specs.Option.{option_or}
use Rattle.file_paths.specs.Path.{is_prefix}
use Rattle.file_paths.specs.PathOrder.{same_path}
use Rattle.hdfs_types.specs.declared.op.Op.TheVariants.{Delete}
use Rattle.refusals.specs.declared.refusal.Refusal.{Refusal}
use Rattle.hdfs_values.proofs.Texts.{same_self}
use Rattle.principals.specs.Users.{Users}
use Rattle.namespace_rows.specs.declared.row.Row.{Row}
use Rattle.namespace_rows.specs.First.{first}
use Rattle.namespace_rows.specs.Rows.{row_at, is_missing, is_none}
use Rattle.namespace_rows.specs.Namespace.{is_root}
use Rattle.namespace_rows.specs.Changes.{rows_under}
use Rattle.flat_rows.specs.Facts.{Facts}
use Rattle.flat_rows.specs.Outcome.{beneath_file, nothing_at, refusal_of_missing, first_refusal, is_alone}
use Rattle.namespace_rows.proofs.PathOrders.{same_path_is}

first_of : (a b rest : Option Refusal) (refusal : Refusal) → option_or a (option_or b None) ≡ Some refusal → option_or a (option_or b rest) ≡ Some refusal
first_of (Some r) b rest refusal h = h
first_of None (Some r) rest refusal h = h
first_of None None rest refusal h = cc

pub below_root : (path : List (List ℕ)) → (length path ≡ 0 → ⊥) → is_root path ≡ false
below_root [] some = absurd (some refl)
below_root (name ∷ names) some = refl

pub missing_refused : (facts : Facts) (caller : List ℕ) (path : List (List ℕ)) (recursive : Bool) (rows : List Row) (users : Users) (refusal : Refusal) → is_root path ≡ false → refusal_of_missing path rows ≡ Some refusal
    → first_refusal facts caller (Delete path recursive) rows users ≡ Some refusal
missing_refused facts caller path recursive rows users refusal below missing = rw below (first_of (beneath_file path rows) (nothing_at (row_at path rows)) _ refusal missing)

pub parted : {X : Type 0} (p : X → Bool) (xs : List X) → length (filter p xs) + length (filter (λ x. not (p x)) xs) ≡ length xs
parted p [] = refl
parted p (x ∷ xs) = by (p x) (parted p xs)
  where
    by : (b : Bool) → length (filter p xs) + length (filter (λ y. not (p y)) xs) ≡ length xs
        → length (cond b (x ∷ filter p xs) (filter p xs)) + length (cond (not b) (x ∷ filter (λ y. not (p y)) xs) (filter (λ y. not (p y)) xs)) ≡ length (x ∷ xs)
    by true h = omega (arith, h)
    by false h = omega (arith, h)

-- the last of the names
-- what stands alone at a path is one row
at_or_under : (path : List (List ℕ)) (row : Row) → same_path path row.path ≡ true → is_prefix path row.path ≡ true
at_or_under path row at = subst (λ other. is_prefix path other ≡ true) (same_path_is path row.path at) (at_itself path)
  where
    at_itself : (names : List (List ℕ)) → is_prefix names names ≡ true
    at_itself [] = refl
    at_itself (name ∷ names) = rw (same_self name) (at_itself names)

some_under : (path : List (List ℕ)) (rows : List Row) → is_missing path rows ≡ false → rows_under path rows ≡ [] → ⊥
some_under path [] there none = cc
some_under path (row ∷ rows) there none = by (same_path path row.path) refl there none (some_under path rows)
  where
    by : (b : Bool) → same_path path row.path ≡ b → is_none (first (cond b (row ∷ filter (λ other. same_path path other.path) rows) (filter (λ other. same_path path other.path) rows))) ≡ false
        → cond (is_prefix path row.path) (row ∷ rows_under path rows) (rows_under path rows) ≡ [] → (is_missing path rows ≡ false → rows_under path rows ≡ [] → ⊥) → ⊥
    by true at h none others = cc (subst (λ b. cond b (row ∷ rows_under path rows) (rows_under path rows) ≡ []) (at_or_under path row at) none)
    by false at h none others = under (is_prefix path row.path) none (others h)
      where
        under : (b : Bool) → cond b (row ∷ rows_under path rows) (rows_under path rows) ≡ [] → (rows_under path rows ≡ [] → ⊥) → ⊥
        under true e go = cc
        under false e go = go e

one_row : (rows : List Row) → is_alone rows ≡ true → (rows ≡ [] → ⊥) → 1 ≡ length rows
one_row [] alone some = absurd (some refl)
one_row (row ∷ []) alone some = refl
one_row (row ∷ other ∷ rows) alone some = cc

pub alone_is_one : (path : List (List ℕ)) (rows : List Row) → is_missing path rows ≡ false → is_alone (rows_under path rows) ≡ true → 1 ≡ length (rows_under path rows)
alone_is_one path rows there alone = one_row (rows_under path rows) alone (some_under path rows there)

-- A directory of these entries is alone where it has none.
use Rattle.std.proofs.Common.{◌≡◌, Bool, true, false, List, [], ◌∷◌, length, refl}
use Rattle.namespace_rows.specs.declared.row.Row.{Row}
use Rattle.flat_rows.specs.Outcome.{is_alone}
use Rattle.inode_nodes.specs.Node.{flatten}
use Rattle.inode_nodes.proofs.Filters.{Entries}

pub by_entries : (top : Row) (es : Entries) (r : Bool) → (r ≡ true → length es ≡ 0) → (length es ≡ 0 → r ≡ true) → r ≡ is_alone (top ∷ flatten es)
by_entries top [] r f g = g refl
by_entries top (e ∷ es) true f g = absurd (no (f refl))
  where
    no : length (e ∷ es) ≡ 0 → ⊥
    no h = cc
by_entries top (e ∷ es) false f g = refl

-- Rows that were read one after another.
use Rattle.std.proofs.Common.{◌≡◌, ℕ, zero, suc, ◌<◌, List, [], ◌∷◌, length, take, get_or, subst, arith}
use Rattle.std.specs.List.{AllByRecursion}

-- one more
pub all_more : {X : Type 0} (P : X → Type 0) (xs : List X) (index : ℕ) (x : X) → index < length xs → x ≡ get_or xs index x → P x → AllByRecursion P (take index xs) → AllByRecursion P (take (suc index) xs)
all_more P [] index x within is own all = absurd (omega arith)
all_more P (y ∷ xs) zero x within is own all = (subst P is own, tt)
all_more P (y ∷ xs) (suc index) x within is own all = (all.0, all_more P xs index x (omega arith) is own all.1)

pub all_taken : {X : Type 0} (P : X → Type 0) (xs : List X) → AllByRecursion P (take (length xs) xs) → AllByRecursion P xs
all_taken P [] all = tt
all_taken P (x ∷ xs) all = (all.0, all_taken P xs all.1)

-- The first of a list, and the first answer that a list gives.
use Rattle.std.specs.Prelude.{List, [], ◌∷◌, Option, Some, None}
use Rattle.std.specs.Option.{option_or}

abbrev pub first : {X : Type 0} → List X → Option X
first [] = None
first (x ∷ xs) = Some x

-- what the first element answers that has an answer
abbrev pub first_answer : {X Y : Type 0} → (X → Option Y) → List X → Option Y
first_answer f [] = None
first_answer f (x ∷ xs) = option_or (f x) (first_answer f xs)

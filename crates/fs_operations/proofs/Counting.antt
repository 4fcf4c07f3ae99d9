-- Each row is a directory or a file; the last name of a path; and a row that stands alone.
use Rattle.std.proofs.Common.{◌≡◌, ℕ, suc, ◌-◌, List, [], ◌∷◌, length, get_or, refl, ap, ◌∙◌, arith}
use Rattle.std.specs.List.{slice_get}
use Rattle.std.specs.Option.{option_to_list}
use Rattle.std.proofs.lemmas.Option.{slice_get-get_or}
use Rattle.namespace_rows.specs.Changes.{last_name}
use Rattle.flat_rows.specs.Outcome.{own_name}

last_is : (name : List ℕ) (names : List (List ℕ)) → get_or (name ∷ names) (length names) [] ≡ last_name (name ∷ names)
last_is name [] = refl
last_is name (other ∷ names) = last_is other names

pub last_got : (path : List (List ℕ)) → option_to_list (slice_get path (length path - 1)) ≡ own_name path
last_got [] = refl
last_got (name ∷ names) =
    ap (λ i. option_to_list (slice_get (name ∷ names) i)) (before (length names)) ∙ ap option_to_list (slice_get-get_or (name ∷ names) (length names) [] (omega arith)) ∙ ap (λ n. n ∷ []) (last_is name names)
  where
    before : (n : ℕ) → suc n - 1 ≡ n
    before n = omega arith

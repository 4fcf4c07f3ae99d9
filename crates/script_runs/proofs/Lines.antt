-- The lines of a script, one after another.
use Rattle.std.proofs.Common.{◌≡◌, ℕ, ◌+◌, ◌<◌, List, length, map, take, get_or, sym, ap, ◌∙◌, arith}
use Rattle.std.specs.List.{fold}
use Rattle.std.proofs.Math.ListN.{get_or-map}
use Rattle.std.proofs.lemmas.List.{length-map}
use Rattle.std.proofs.lemmas.List.Sums.{fold_more}

-- one more step of a fold over what items show
pub fold_step : {X Y S : Type 0} (f : X → Y) (step : S → Y → S) (start old new : S) (xs : List X) (i : ℕ) (d : X) → i < length xs
    → old ≡ fold step start (take i (map f xs)) → new ≡ step old (f (get_or xs i d)) → new ≡ fold step start (take (i + 1) (map f xs))
fold_step f step start old new xs i d lt before after =
    let in_map : i < length (map f xs) = omega (arith, length-map xs f) in
    after ∙ ap (λ s. step s (f (get_or xs i d))) before ∙ ap (step (fold step start (take i (map f xs)))) (sym (get_or-map f xs i d)) ∙ sym (fold_more step start (map f xs) i (f d) in_map)

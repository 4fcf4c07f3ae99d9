-- The groups that a word names.
use Rattle.std.proofs.Common.{◌≡◌, ℕ, ◌+◌, ◌<◌, false, List, [], ◌∷◌, ◌++◌, length, map, get_or, take, drop, Some, None, arith}
use Rattle.std.specs.List.{list_all}
use Rattle.std.proofs.lemmas.Grind.{common_steps}
use Rattle.std.proofs.lemmas.List.{take_more}
use Rattle.hdfs_values.specs.Who.{is_who, who_of}
use Rattle.hdfs_values.proofs.Texts.{guard_some, guard_none}

-- one more piece is a name
pub whos_step : {X : Type 0} (f : X → List ℕ) (xs : List X) (i : ℕ) (d : X) (n : List ℕ) (old new : List (List ℕ)) → i < length xs → who_of (f (get_or xs i d)) ≡ Some n
    → old ≡ map f (take i xs) → new ≡ old ++ n ∷ [] → new ≡ map f (take (i + 1) xs)
whos_step f xs i d n old new lt e before after = let parts = guard_some _ _ _ e in
    grind (arith, common_steps, parts.1, take_more xs i d lt)

pub whos_left : {X : Type 0} (f : X → List ℕ) (xs : List X) (i : ℕ) (d : X) (n : List ℕ) → i < length xs → who_of (f (get_or xs i d)) ≡ Some n
    → list_all is_who (map f (drop (i + 1) xs)) ≡ list_all is_who (map f (drop i xs))
whos_left f xs i d n lt e = let parts = guard_some _ _ _ e in grind (arith, common_steps, parts.0)

pub whos_stop : {X : Type 0} (f : X → List ℕ) (xs : List X) (i : ℕ) (d : X) → i < length xs → who_of (f (get_or xs i d)) ≡ None
    → list_all is_who (map f (drop i xs)) ≡ false
whos_stop f xs i d lt e = let no = guard_none _ _ e in grind (arith, common_steps, no)

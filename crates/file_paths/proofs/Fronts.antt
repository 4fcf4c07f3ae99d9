-- The front of a path is a path.
use Rattle.std.proofs.Common.{◌≡◌, ℕ, zero, suc, ◌-◌, ◌≤◌, ◌<◌, true, List, [], ◌∷◌, length, take, Some, refl, arith, length-append}
use Rattle.std.specs.List.{list_all, flat_map}
use Rattle.std.proofs.lemmas.Bool.Decides.{nat_tests}
use Rattle.std.proofs.lemmas.Grind.{common_steps}
use Rattle.file_paths.specs.Name.{is_name}
use Rattle.file_paths.specs.Path.{IsPath, path_text, component, parent_of}

names_front : (ns : List (List ℕ)) (k : ℕ) → list_all is_name ns ≡ true → list_all is_name (take k ns) ≡ true
names_front ns zero h = refl
names_front [] (suc k) h = refl
names_front (n ∷ ns) (suc k) h = grind (arith, nat_tests, names_front ns k)

text_front : (ns : List (List ℕ)) (k : ℕ) → length (flat_map component (take k ns)) ≤ length (flat_map component ns)
text_front ns zero = omega arith
text_front [] (suc k) = omega arith
text_front (n ∷ ns) (suc k) = omega (arith, text_front ns k, length-append n (flat_map component (take k ns)), length-append n (flat_map component ns))

spelled_front : (ns : List (List ℕ)) (k : ℕ) → length (path_text ns) ≤ 8000 → length (path_text (take k ns)) ≤ 8000
spelled_front [] zero h = h
spelled_front [] (suc k) h = h
spelled_front (n ∷ ns) zero h = omega arith
spelled_front (n ∷ ns) (suc k) h = omega (arith, text_front (n ∷ ns) (suc k))

pub front_path : (ns : List (List ℕ)) (k : ℕ) → IsPath ns → IsPath (take k ns)
front_path ns k h = grind (arith, nat_tests, common_steps, names_front ns k, spelled_front ns k)

pub parent_front : (p : List (List ℕ)) → 0 < length p → Some (take (length p - 1) p) ≡ parent_of p
parent_front [] some = absurd (omega arith)
parent_front (n ∷ p) some = grind (arith, common_steps)

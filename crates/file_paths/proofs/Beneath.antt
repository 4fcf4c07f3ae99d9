-- The tests on two paths, against those of the code.
use Rattle.std.proofs.Common.{◌≡◌, ℕ, ◌<◌, ◌≤◌, Bool, true, false, List, [], ◌∷◌, ◌&&◌, length, take, refl, ap, ◌∙◌, arith}
use Rattle.std.specs.Cmp.Lexicographic.{pointwise}
use Rattle.hdfs_values.specs.Text.{same}
use Rattle.file_paths.specs.Path.{is_beneath, is_prefix}
use Rattle.file_paths.specs.PathOrder.{same_path}
use Rattle.file_paths.proofs.Alike.{paired}
use Rattle.hdfs_values.proofs.Texts.{same_symm}

longer : (p q : List (List ℕ)) → length q < length p → pointwise same (take (length q) p) q ≡ is_beneath p q
longer [] q lt = absurd (omega arith)
longer (n ∷ ns) [] lt = refl
longer (n ∷ ns) (m ∷ ms) lt = ap (λ b. same n m && b) (longer ns ms (omega arith))

-- the path is longer, and its front is the other
pub beneath_front : (p q : List (List ℕ)) → length q < length p → same_path (take (length q) p) q ≡ is_beneath p q
beneath_front p q lt = paired (take (length q) p) q ∙ longer p q lt

false_and : (b : Bool) → (b && false) ≡ false
false_and true = refl
false_and false = refl

pub not_beneath : (p q : List (List ℕ)) → length p ≤ length q → is_beneath p q ≡ false
not_beneath [] q le = refl
not_beneath (n ∷ ns) [] le = absurd (omega arith)
not_beneath (n ∷ ns) (m ∷ ms) le = ap (λ b. same n m && b) (not_beneath ns ms (omega arith)) ∙ false_and (same n m)

starts : (q p : List (List ℕ)) → length q ≤ length p → pointwise same (take (length q) p) q ≡ is_prefix q p
starts [] p le = refl
starts (m ∷ ms) [] le = absurd (omega arith)
starts (m ∷ ms) (n ∷ ns) le = ap (λ b. same n m && b) (starts ms ns (omega arith)) ∙ ap (λ b. b && is_prefix ms ns) (same_symm n m)

-- the path is at least as long, and its front is the other
pub starts_front : (q p : List (List ℕ)) → length q ≤ length p → same_path (take (length q) p) q ≡ is_prefix q p
starts_front q p le = paired (take (length q) p) q ∙ starts q p le

pub not_starts : (q p : List (List ℕ)) → length p < length q → is_prefix q p ≡ false
not_starts [] p lt = absurd (omega arith)
not_starts (m ∷ ms) [] lt = refl
not_starts (m ∷ ms) (n ∷ ns) lt = ap (λ b. same m n && b) (not_starts ms ns (omega arith)) ∙ false_and (same m n)

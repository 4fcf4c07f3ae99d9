-- Names compared in turn, against the order of paths.
use Rattle.std.proofs.Common.{◌≡◌, ℕ, Bool, true, false, not, List, refl, sym, ◌∙◌, subst}
use Rattle.std.specs.Bool.{Decides}
use Rattle.std.specs.Cmp.Lexicographic.{pointwise, lists_ties}
use Rattle.std.proofs.lemmas.Slice.Eq.{slice_eq-Decides}
use Rattle.hdfs_values.specs.Text.{same, text_cmp}
use Rattle.hdfs_values.proofs.Texts.{same_is, same_self}
use Rattle.file_paths.specs.PathOrder.{same_path}

pub text_decides : (a b : List ℕ) → Decides (same a b) (a ≡ b)
text_decides a b = (same_is a b, λ e. subst (λ (x : List ℕ). same a x ≡ true) e (same_self a))

texts_decide : (a b : List (List ℕ)) → Decides (pointwise same a b) (a ≡ b)
texts_decide a b = slice_eq-Decides text_decides a b (pointwise same a b) refl

-- paths compare as equal where their names do, pair by pair
pub paired : (p q : List (List ℕ)) → same_path p q ≡ pointwise same p q
paired p q = sym (lists_ties text_cmp (λ _ _. refl) p q)

-- so they have the same names
pub path_decides : (p q : List (List ℕ)) → Decides (same_path p q) (p ≡ q)
path_decides p q = subst (λ (x : Bool). Decides x (p ≡ q)) (sym (paired p q)) (texts_decide p q)

-- two tests of one thing answer alike
pub decided_alike : {P : Type 0} (r s : Bool) → Decides r P → Decides s P → r ≡ s
decided_alike true s d e = sym (e.1 (d.0 refl))
decided_alike false true d e = d.1 (e.0 refl)
decided_alike false false d e = refl

-- the code compares two names with `!=`
pub not_unlike : (a b : List ℕ) (unlike : Bool) → unlike ≡ not (same a b) → unlike ≡ false → a ≡ b
not_unlike a b unlike tested isnt = same_is a b (alike (same a b) (sym tested ∙ isnt))
  where
    alike : (b : Bool) → not b ≡ false → b ≡ true
    alike true e = refl
    alike false e = sym e

-- Two texts that compare as equal are one; and what a guarded answer tells.
use Rattle.std.proofs.Common.{◌≡◌, ℕ, Bool, true, false, List, Some, None, cond, refl, sym, ◌∙◌}
use Rattle.std.specs.Bool.{Decides}
use Rattle.std.specs.Cmp.Lexicographic.{pointwise, texts_ties, pointwise_decides}
use Rattle.std.specs.Prelude.{nat_eq}
use Rattle.std.proofs.lemmas.Bool.Decides.{Decides-eqb}
use Rattle.std.proofs.lemmas.Cmp.{nat_list_eq_equiv}
use Rattle.hdfs_values.specs.Text.{same}

decided : (a b : List ℕ) → Decides (pointwise nat_eq a b) (a ≡ b)
decided = pointwise_decides (λ x y. Decides-eqb x y)

pub same_is : (a b : List ℕ) → same a b ≡ true → a ≡ b
same_is a b h = (decided a b).0 (texts_ties a b ∙ h)

pub same_self : (a : List ℕ) → same a a ≡ true
same_self a = sym (texts_ties a a) ∙ (decided a a).1 refl

pub same_symm : (a b : List ℕ) → same a b ≡ same b a
same_symm a b = sym (texts_ties a b) ∙ nat_list_eq_equiv.symm a b ∙ texts_ties b a

pub guard_some : {X : Type 0} (b : Bool) (x y : X) → cond b (Some x) None ≡ Some y → (b ≡ true) × (x ≡ y)
guard_some true x y e = (refl, cc)
guard_some false x y e = cc

pub guard_none : {X : Type 0} (b : Bool) (x : X) → cond b (Some x) None ≡ None → b ≡ false
guard_none true x e = cc
guard_none false x e = refl

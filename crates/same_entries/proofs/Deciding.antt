-- Tests that decide whether two values are one.
use Rattle.std.proofs.Common.{◌≡◌, Bool, true, false, ◌&&◌, refl, sym, ap, ◌∙◌, subst}
use Rattle.std.specs.Bool.{Decides}
pub use Rattle.file_paths.proofs.Alike.{text_decides}

-- the test is computed in another way
pub decides_by : {P : Type 0} (r b : Bool) → r ≡ b → Decides b P → Decides r P
decides_by {P} r b e d = subst (λ (x : Bool). Decides x P) (sym e) d

-- two tests in a row
pub both_decide : {P Q R : Type 0} (a b : Bool) → Decides a P → Decides b Q → (P → Q → R) → (R → P) → (R → Q) → Decides (a && b) R
both_decide {P} {Q} {R} a b p q together first second = (forth a b p q, λ r. back a b (p.1 (first r)) (q.1 (second r)))
  where
    forth : (a b : Bool) → Decides a P → Decides b Q → (a && b) ≡ true → R
    forth true b p q e = together (p.0 refl) (q.0 e)
    forth false b p q e = absurd (never e)
      where
        never : false ≡ true → ⊥
        never e = cc

    back : (a b : Bool) → a ≡ true → b ≡ true → (a && b) ≡ true
    back a b x y = ap (λ (c : Bool). c && b) x ∙ y

-- Rights that cover others.
use Rattle.std.proofs.Common.{◌≡◌, ℕ, zero, suc, ◌<◌, Bool, true, false, ◌||◌, List, [], ◌∷◌, refl, sym, ap, ◌∙◌, arith, max}
use Rattle.std.specs.Prelude.{◌==◌}
use Rattle.std.specs.List.{list_any}
use Rattle.std.specs.Int.{bit_at}
use Rattle.std.proofs.lemmas.Nat.Bits.{bit_at-lt, bit_at_or}
use Rattle.std.specs.Int.RustNames.{bit_and, bit_or}
use Rattle.std.specs.Int.Bits.{and_self}
use Rattle.std.proofs.lemmas.Bool.{eq-eqb, eqb-true}
use Rattle.std.proofs.lemmas.Nat.{and_assoc, and_comm, and_or_self, or_comm}
use Rattle.permission_bits.specs.Rights.{covers}
use Rattle.permission_bits.specs.declared.rights.Rights.{Rights}
use Rattle.acl_entries.specs.declared.entry_list.NamedEntry.{NamedEntry}
use Rattle.acl_entries.specs.Acl.{union, union_of_named}
use Rattle.partial_acl.proofs.Tests.{both, and}
use Rattle.acl_laws.specs.Laws.{all_within, has_bit}

pub covers_self : (a : ℕ) → covers a a ≡ true
covers_self a = eq-eqb _ _ (and_self a)

pub covers_trans : (a b c : ℕ) → covers a b ≡ true → covers b c ≡ true → covers a c ≡ true
covers_trans a b c h k =
    let has : bit_and a b ≡ b = eqb-true _ _ h in
    let own : bit_and b c ≡ c = eqb-true _ _ k in
    eq-eqb _ _ (ap (bit_and a) (sym own) ∙ sym (and_assoc c a b) ∙ ap (λ x. bit_and x c) has ∙ own)

-- what two have in common is covered by both
pub covers_left : (a b : ℕ) → covers a (bit_and a b) ≡ true
covers_left a b = eq-eqb _ _ (sym (and_assoc b a a) ∙ ap (λ x. bit_and x b) (and_self a))

pub covers_right : (a b : ℕ) → covers b (bit_and a b) ≡ true
covers_right a b = ap (covers b) (and_comm a b) ∙ covers_left b a

-- what either has is covered by the union
covers_added : (a b : ℕ) → covers (bit_or a b) b ≡ true
covers_added a b = eq-eqb _ _ (and_or_self b a)

covers_grown : (a b : ℕ) → covers (bit_or a b) a ≡ true
covers_grown a b = ap (λ x. covers x a) (or_comm a b) ∙ covers_added b a

-- a right that two cover is covered by what they have in common
pub covers_common : (a b need : ℕ) → covers a need ≡ true → covers b need ≡ true → covers (bit_and a b) need ≡ true
covers_common a b need h k =
    let has_a : bit_and a need ≡ need = eqb-true _ _ h in
    let has_b : bit_and b need ≡ need = eqb-true _ _ k in
    eq-eqb _ _ (and_assoc need a b ∙ ap (bit_and a) has_b ∙ has_a)

pub union_has : (granted : Rights) (named : List NamedEntry) (part : ℕ) → covers granted.0 part ≡ true → covers (union_of_named granted named).0 part ≡ true
union_has granted [] part h = h
union_has granted (e ∷ es) part h = union_has (union granted e.rights) es part (covers_trans (bit_or granted.0 e.rights.0) granted.0 part (covers_grown granted.0 e.rights.0) h)

pub union_has_each : (granted : Rights) (named : List NamedEntry) → all_within (union_of_named granted named).0 named ≡ true
union_has_each granted [] = refl
union_has_each granted (e ∷ es) =
    and _ _ (union_has (union granted e.rights) es e.rights.0 (covers_added granted.0 e.rights.0)) (union_has_each (union granted e.rights) es)

pub all_wider : (wide narrow : ℕ) (named : List NamedEntry) → covers wide narrow ≡ true → all_within narrow named ≡ true → all_within wide named ≡ true
all_wider wide narrow [] h k = refl
all_wider wide narrow (e ∷ es) h k =
    let parts = both (covers narrow e.rights.0) (all_within narrow es) k in
    and _ _ (covers_trans wide narrow e.rights.0 h parts.0) (all_wider wide narrow es h parts.1)

-- ---- bits

larger_is_one : (a b : ℕ) → a < 2 → b < 2 → (max a b == 1) ≡ ((a == 1) || (b == 1))
larger_is_one zero zero h k = refl
larger_is_one zero (suc zero) h k = refl
larger_is_one zero (suc (suc b)) h k = absurd (omega arith)
larger_is_one (suc zero) zero h k = refl
larger_is_one (suc zero) (suc zero) h k = refl
larger_is_one (suc zero) (suc (suc b)) h k = absurd (omega arith)
larger_is_one (suc (suc a)) b h k = absurd (omega arith)

bit_of_either : (bit a b : ℕ) → has_bit bit (bit_or a b) ≡ (has_bit bit a || has_bit bit b)
bit_of_either bit a b = ap (λ x. x == 1) (bit_at_or a b bit) ∙ larger_is_one (bit_at a bit) (bit_at b bit) (bit_at-lt a bit) (bit_at-lt b bit)

pub either_of_three : (a b c : Bool) → ((a || b) || c) ≡ true → (a || (b || c)) ≡ true
either_of_three true b c h = refl
either_of_three false b c h = h

pub union_from : (bit : ℕ) (granted : Rights) (named : List NamedEntry) → has_bit bit (union_of_named granted named).0 ≡ true
    → (has_bit bit granted.0 || list_any (λ (entry : NamedEntry). has_bit bit entry.rights.0) named) ≡ true
union_from bit granted [] h = ap (λ b. b || false) h
union_from bit granted (e ∷ es) h =
    let rest = list_any (λ (entry : NamedEntry). has_bit bit entry.rights.0) es in
    either_of_three (has_bit bit granted.0) (has_bit bit e.rights.0) rest (ap (λ b. b || rest) (sym (bit_of_either bit granted.0 e.rights.0)) ∙ union_from bit (union granted e.rights) es h)

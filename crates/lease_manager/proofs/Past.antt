-- The leases past the hard limit are those at the front of the list, whose entries are turned round.
use Rattle.std.proofs.Common.{◌≡◌, ℕ, ◌≤◌, false, cond, nat_lt, List, [], ◌∷◌, ◌++◌, refl, sym, ap, ◌∙◌, subst, arith}
use Rattle.std.proofs.lemmas.Bool.Decides.{nat_tests}
use Rattle.std.proofs.lemmas.List.{append-nil}
use Rattle.std.specs.List.{AllByRecursion}
use Rattle.lease_manager.specs.Leases.{Renewal, Limits, AreInOrder, renewals_past_hard, clients, age}
use Rattle.lease_manager.specs.Shown.{renewals_of}
use Rattle.lease_manager.proofs.Renewals.{Entries, renewal, last_is_first}

later_isn't : (hard now first other : ℕ) → first ≤ other → nat_lt hard (age first now) ≡ false → nat_lt hard (age other now) ≡ false
later_isn't hard now first other after young = grind (arith, nat_tests)

none_past : (limits : Limits) (now first : ℕ) (rs : List Renewal) → AllByRecursion (λ (other : Renewal). first ≤ other.moment) rs → nat_lt limits.hard (age first now) ≡ false → renewals_past_hard limits now rs ≡ []
none_past limits now first [] after young = refl
none_past limits now first (r ∷ rs) after young =
    ap (λ b. cond b (r ∷ renewals_past_hard limits now rs) (renewals_past_hard limits now rs)) (later_isn't limits.hard now first r.moment after.0 young)
    ∙ none_past limits now first rs after.1 young

-- where the oldest isn't past the limit, none is
pub none_behind : (limits : Limits) (now : ℕ) (e : List ℕ × ℕ) (es rest : Entries) → es ≡ rest ++ e ∷ [] → AreInOrder (renewals_of es) → nat_lt limits.hard (age e.1 now) ≡ false → renewals_past_hard limits now (renewals_of es) ≡ []
none_behind limits now e es rest is order young =
    ap (renewals_past_hard limits now) (last_is_first e es rest is)
    ∙ ap (λ b. cond b (renewal e ∷ renewals_past_hard limits now (renewals_of rest)) (renewals_past_hard limits now (renewals_of rest))) young
    ∙ none_past limits now e.1 (renewals_of rest) (subst AreInOrder (last_is_first e es rest is) order).0 young

-- what was told is all, once nothing is left
pub told_all : (told all : List (List ℕ)) (left : List Renewal) → left ≡ [] → told ++ clients left ≡ all → told ≡ all
told_all told all left none kept = sym (append-nil told) ∙ ap (λ rs. told ++ clients rs) (sym none) ∙ kept

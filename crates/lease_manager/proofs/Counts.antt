-- How many files a client has open, behind a change of the map that counts them.
use Rattle.std.proofs.Common.{◌≡◌, ℕ, ◌+◌, ◌-◌, Bool, true, false, List, [], ◌∷◌, Option, Some, None, unwrap_or, Result, Ok, Err, OnErr, arith, refl, sym, ap, ◌∙◌, cond}
use Rattle.std.specs.Cmp.{IsEquivalence}
use Rattle.std.specs.Map.{lookup, set_value}
use Rattle.std.specs.Option.{IsSome, is_some}
use Rattle.std.proofs.lemmas.Map.{lookup-set_value}
use Rattle.hdfs_values.specs.Text.{same}
use Rattle.hdfs_values.proofs.Texts.{same_is, same_self, same_symm}
use Rattle.lease_manager.specs.Writers.{count_of, CanCountOneMore}

same_laws : IsEquivalence same
same_laws = record { refl = same_self; symm = same_symm; congr = λ x y z p. ap (λ w. same w z) (same_is x y p) }

pub counted_set : (counts : List (List ℕ × ℕ)) (client other : List ℕ) (n : ℕ) → IsSome (lookup (same client) counts) → count_of (set_value (same client) counts n) other ≡ cond (same client other) n (count_of counts other)
counted_set counts client other n there =
    ap (λ found. unwrap_or found 0) (lookup-set_value same_laws (same client) (λ x y at. ap (λ w. same w y) (same_is client x at)) other n counts there) ∙ by (same client other)
  where
    by : (b : Bool) → unwrap_or (cond b (Some n) (lookup (same other) counts)) 0 ≡ cond b n (count_of counts other)
    by true = refl
    by false = refl

pub absent_stays : (counts : List (List ℕ × ℕ)) (client : List ℕ) (n : ℕ) → lookup (same client) counts ≡ None → set_value (same client) counts n ≡ counts
absent_stays [] client n none = refl
absent_stays (entry ∷ counts) client n none = by (same client entry.0) none (absent_stays counts client n)
  where
    by : (b : Bool) → cond b (Some entry.1) (lookup (same client) counts) ≡ None → (lookup (same client) counts ≡ None → set_value (same client) counts n ≡ counts)
        → cond b ((entry.0, n) ∷ counts) (entry ∷ set_value (same client) counts n) ≡ entry ∷ counts
    by true h rest = cc
    by false h rest = ap (λ es. entry ∷ es) (rest h)

-- so many files less
pub counted_less : (counts : List (List ℕ × ℕ)) (client other : List ℕ) (number : ℕ)
    → count_of (set_value (same client) counts (count_of counts client - number)) other ≡ cond (same client other) (count_of counts client - number) (count_of counts other)
counted_less counts client other number = by (lookup (same client) counts) refl
  where
    nothing : 0 - number ≡ 0
    nothing = omega arith

    here : (b : Bool) → same client other ≡ b → lookup (same client) counts ≡ None → count_of counts other ≡ cond b (count_of counts client - number) (count_of counts other)
    here true at none = ap (λ who. count_of counts who) (sym (same_is client other at)) ∙ (ap (λ found. unwrap_or found 0) none ∙ (sym nothing ∙ ap (λ found. unwrap_or found 0 - number) (sym none)))
    here false at none = refl

    by : (found : Option ℕ) → lookup (same client) counts ≡ found
        → count_of (set_value (same client) counts (count_of counts client - number)) other ≡ cond (same client other) (count_of counts client - number) (count_of counts other)
    by None none = ap (λ es. count_of es other) (absent_stays counts client (count_of counts client - number) none) ∙ here (same client other) refl none
    by (Some n) at = counted_set counts client other (count_of counts client - number) (some n at)
      where
        some : (n : ℕ) → lookup (same client) counts ≡ Some n → IsSome (lookup (same client) counts)
        some n at = ap is_some at

-- a client that is counted anew, with none
pub counted_new : (before after : Option ℕ) (b : Bool) → (b ≡ true → before ≡ None) → after ≡ cond b (Some 0) before → unwrap_or after 0 ≡ unwrap_or before 0
counted_new before after true none is = ap (λ found. unwrap_or found 0) is ∙ sym (ap (λ found. unwrap_or found 0) (none refl))
counted_new before after false none is = ap (λ found. unwrap_or found 0) is

-- ---- the map before and after a call, as it is seen

pub set_more : (old inside new : List (List ℕ × ℕ)) (client other : List ℕ) (n m : ℕ) → inside ≡ old → n ≡ count_of old client → m ≡ n + 1 → new ≡ set_value (same client) inside m → CanCountOneMore old client
    → count_of new other ≡ cond (same client other) (count_of old client + 1) (count_of old other)
set_more old inside new client other n m seen is more made room =
    ap (λ es. count_of es other) (made ∙ (ap (λ es. set_value (same client) es m) seen ∙ ap (set_value (same client) old) (more ∙ ap (λ k. k + 1) is)))
    ∙ counted_set old client other (count_of old client + 1) room.known

pub set_less : (old inside new : List (List ℕ × ℕ)) (client other : List ℕ) (number n m : ℕ) → inside ≡ old → n ≡ count_of old client → m ≡ n - number → new ≡ set_value (same client) inside m
    → count_of new other ≡ cond (same client other) (count_of old client - number) (count_of old other)
set_less old inside new client other number n m seen is less made =
    ap (λ es. count_of es other) (made ∙ (ap (λ es. set_value (same client) es m) seen ∙ ap (set_value (same client) old) (less ∙ ap (λ k. k - number) is)))
    ∙ counted_less old client other number

unsaid : (found : Option ℕ) → false ≡ is_some found → found ≡ None
unsaid None h = refl
unsaid (Some n) h = cc

pub made_anew : (old inside : List (List ℕ × ℕ)) (after : Option ℕ) (client key other : List ℕ) → inside ≡ old → key ≡ client → false ≡ is_some (lookup (same client) inside)
    → after ≡ cond (same key other) (Some 0) (lookup (same other) inside) → unwrap_or after 0 ≡ count_of old other
made_anew old inside after client key other seen is absent made =
    counted_new (lookup (same other) inside) after (same key other) (λ at. unsaid _ (absent ∙ ap (λ who. is_some (lookup (same who) inside)) (sym is ∙ same_is key other at))) made
    ∙ ap (λ es. count_of es other) seen

-- ---- a client that is looked up once

pub count_found : (old inside : List (List ℕ × ℕ)) (client : List ℕ) (n : ℕ) → inside ≡ old → Some n ≡ lookup (same client) inside → n ≡ count_of old client
count_found old inside client n seen found = ap (λ o. unwrap_or o 0) found ∙ ap (λ es. count_of es client) seen

pub absent_less : (old inside new : List (List ℕ × ℕ)) (client other : List ℕ) (number : ℕ) → inside ≡ old → None ≡ lookup (same client) inside → new ≡ inside
    → count_of new other ≡ cond (same client other) (count_of old client - number) (count_of old other)
absent_less old inside new client other number seen none kept =
    ap (λ es. count_of es other) (kept ∙ (seen ∙ sym (absent_stays old client (count_of old client - number) (ap (λ es. lookup (same client) es) (sym seen) ∙ sym none))))
    ∙ counted_less old client other number

pub absent_more : {X : Type 0} (old inside : List (List ℕ × ℕ)) (client : List ℕ) → inside ≡ old → None ≡ lookup (same client) inside → CanCountOneMore old client → X
absent_more {X} old inside client seen none room = by (lookup (same client) old) (none ∙ ap (λ es. lookup (same client) es) seen) room.known
  where
    by : (found : Option ℕ) → None ≡ found → IsSome found → X
    by None at known = cc
    by (Some n) at known = cc

-- ---- one more that isn't counted in the end

-- a number that is written again
kept_known : (old inside new : List (List ℕ × ℕ)) (client other : List ℕ) (n : ℕ) → inside ≡ old → Some n ≡ lookup (same client) inside → new ≡ set_value (same client) inside n
    → count_of new other ≡ count_of old other
kept_known old inside new client other n seen found made =
    ap (λ es. count_of es other) made
    ∙ counted_set inside client other n (ap is_some (sym found))
    ∙ by (same client other) refl
    ∙ ap (λ es. count_of es other) seen
  where
    by : (b : Bool) → same client other ≡ b → cond b n (count_of inside other) ≡ count_of inside other
    by true at = ap (λ o. unwrap_or o 0) found ∙ ap (count_of inside) (same_is client other at)
    by false at = refl

pub refused_known : {T E : Type 0} (result : Result T E) (old inside new : List (List ℕ × ℕ)) (client : List ℕ) (n : ℕ) → inside ≡ old → Some n ≡ lookup (same client) inside
    → new ≡ set_value (same client) inside n → OnErr result ((other : List ℕ) → count_of new other ≡ count_of old other)
refused_known (Ok value) old inside new client n seen found made = tt
refused_known (Err fault) old inside new client n seen found made = λ other. kept_known old inside new client other n seen found made

-- one more and then one less
pub taken_back : (old more new : List (List ℕ × ℕ)) (client : List ℕ) → ((other : List ℕ) → count_of more other ≡ cond (same client other) (count_of old client + 1) (count_of old other))
    → ((other : List ℕ) → count_of new other ≡ cond (same client other) (count_of more client - 1) (count_of more other)) → (other : List ℕ) → count_of new other ≡ count_of old other
taken_back old more new client added less other = by (same client other) refl (added other) (less other)
  where
    by : (b : Bool) → same client other ≡ b → count_of more other ≡ cond b (count_of old client + 1) (count_of old other) → count_of new other ≡ cond b (count_of more client - 1) (count_of more other)
        → count_of new other ≡ count_of old other
    by true at one left =
        let own : count_of more client ≡ count_of old client + 1 = added client ∙ ap (λ b. cond b (count_of old client + 1) (count_of old client)) (same_self client) in
        let whose : count_of old client ≡ count_of old other = ap (count_of old) (same_is client other at) in
        omega (arith, own, left, whose)
    by false at one left = left ∙ one

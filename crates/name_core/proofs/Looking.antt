-- A look answers what the entries give; and the newest entry.
use Rattle.std.proofs.Common.{◌≡◌, ◌<◌, ◌-◌, ℕ, List, [], ◌∷◌, length, reverse, Some, get_or, arith, refl, sym, ap, ◌∙◌}
use Rattle.std.proofs.lemmas.List.{get_or-reverse, length-reverse}
use Rattle.std.proofs.lemmas.Option.{slice_get-get_or}
use Rattle.std.specs.List.{slice_get}
use Rattle.hdfs_types.specs.declared.op.Request.{Request}
use Rattle.flat_rows.specs.declared.verdict.Verdict.{Verdict}
use Rattle.flat_rows.specs.Facts.{Facts}
use Rattle.flat_rows.specs.Outcome.{step}
use Rattle.history.specs.LegalHistory.{now_at, verdict_of}
use Rattle.history.specs.State.{rows_of, users_of, facts_of}
use Rattle.name_core.specs.declared.namenode.NameCore.TheInside.{Inside}
use Rattle.name_core.specs.NameCore.{Looks}
use Rattle.name_core.specs.Kept.{IsKept, core_of, entries_of, opening_of}
use Rattle.namesystem.proofs.Stepping.{same_step}

pub looked : (a : Inside) (r : Request) (v : Verdict) → IsKept a → ((facts : Facts) → v ≡ (step facts a.system.tree a.system.users r.caller r.op).verdict) → v ≡ verdict_of (opening_of a) (entries_of a) r
looked a r v k h =
    let facts : Facts = facts_of (opening_of a) (entries_of a) (now_at (entries_of a) r) in
    h facts ∙ ap (λ s. s.verdict) (same_step facts facts a.system.tree (rows_of (opening_of a) (entries_of a)) a.system.users (users_of (entries_of a)) r.caller r.op refl k.tree k.users)

pub looks_is : (a : Inside) (r kept : Request) (v : Verdict) (n : ℕ) → IsKept a → kept ≡ r → n ≡ length (entries_of a)
    → ((facts : Facts) → v ≡ (step facts a.system.tree a.system.users r.caller r.op).verdict) → Looks (core_of a) r (record { place = n; request = kept; verdict = v })
looks_is a r kept v n k is place h =
    ap (λ x. record { place = x; request = kept; verdict = v }) place
    ∙ ap (λ x. record { place = length (entries_of a); request = x; verdict = v }) is
    ∙ ap (λ x. record { place = length (entries_of a); request = r; verdict = x }) (looked a r v k h)

-- the newest is the last of those that are kept, and the first of the entries
pub newest_first : {X : Type 0} (xs : List X) → slice_get (reverse xs) 0 ≡ slice_get xs (length xs - 1)
newest_first [] = refl
newest_first (x ∷ xs) =
    let some : 0 < length (x ∷ xs) = omega arith in
    let within : 0 < length (reverse (x ∷ xs)) = omega (arith, length-reverse (x ∷ xs)) in
    let before : length (x ∷ xs) - 1 < length (x ∷ xs) = omega arith in
    let same : length (x ∷ xs) - 1 - 0 ≡ length (x ∷ xs) - 1 = omega arith in
    slice_get-get_or (reverse (x ∷ xs)) 0 x within
    ∙ (ap (λ y. Some y) (get_or-reverse (x ∷ xs) 0 x some ∙ ap (λ n. get_or (x ∷ xs) n x) same) ∙ sym (slice_get-get_or (x ∷ xs) (length (x ∷ xs) - 1) x before))

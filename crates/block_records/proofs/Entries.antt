-- The keys of the entries that a test keeps are the keys that it keeps by a look-up, where the keys ascend.
use Rattle.std.proofs.Common.{◌≡◌, ℕ, Bool, true, false, cond, List, [], ◌∷◌, filter, Some, refl, ap, ◌∙◌}
use Rattle.std.proofs.lemmas.List.Elements.{All-contains_itself, All-head, All-tail, All-weaker}
use Rattle.std.proofs.lemmas.Map.Keys.{IsDistinct-from_sorted}
use Rattle.std.proofs.lemmas.Map.Views.{lookup-from_Contains}
use Rattle.std.specs.Cmp.{eq_by_cmp_equiv, nat_cmp_total}
use Rattle.std.specs.List.{All, Contains}
use Rattle.std.specs.List.Sorted.{IsStrictlySortedBy}
use Rattle.std.specs.Map.{keys_of}
use Rattle.std.specs.Ordering.{nat_cmp}
use Rattle.block_records.specs.Numbers.{entry_at}

-- a test of entries keeps the keys that a test of keys keeps, where both say the same of each entry
kept_keys : {V : Type 0} (keep : ℕ × V → Bool) (p : ℕ → Bool) (entries : List (ℕ × V)) → All (λ entry. keep entry ≡ p entry.0) entries → keys_of (filter keep entries) ≡ filter p (keys_of entries)
kept_keys keep p [] same = refl
kept_keys {V} keep p (entry ∷ entries) same =
    by (keep entry) (All-head (λ e. keep e ≡ p e.0) entry entries same) (kept_keys keep p entries (All-tail (λ e. keep e ≡ p e.0) entry entries same))
  where
    by : (b : Bool) → b ≡ p entry.0 → keys_of (filter keep entries) ≡ filter p (keys_of entries)
        → keys_of (cond b (entry ∷ filter keep entries) (filter keep entries)) ≡ cond (p entry.0) (entry.0 ∷ filter p (keys_of entries)) (filter p (keys_of entries))
    by true is rest = ap (λ l. entry.0 ∷ l) rest ∙ ap (λ b. cond b (entry.0 ∷ filter p (keys_of entries)) (filter p (keys_of entries))) is
    by false is rest = rest ∙ ap (λ b. cond b (entry.0 ∷ filter p (keys_of entries)) (filter p (keys_of entries))) is

-- the same where the test of keys looks them up
pub found_keys : {V : Type 0} (keep : ℕ × V → Bool) (p : ℕ → Bool) (entries : List (ℕ × V)) → IsStrictlySortedBy nat_cmp (keys_of entries)
    → ((entry : ℕ × V) → entry_at entry.0 entries ≡ Some entry.1 → keep entry ≡ p entry.0) → keys_of (filter keep entries) ≡ filter p (keys_of entries)
found_keys {V} keep p entries up each = kept_keys keep p entries (All-weaker (Contains entries) (λ entry. keep entry ≡ p entry.0) found entries (All-contains_itself entries))
  where
    found : (entry : ℕ × V) → Contains entries entry → keep entry ≡ p entry.0
    found entry there = each entry (lookup-from_Contains (eq_by_cmp_equiv nat_cmp_total) entry.0 entry.1 entries (IsDistinct-from_sorted nat_cmp (keys_of entries) up) there)

-- Entries and receipts that belong to one another.
use Rattle.std.proofs.Common.{◌≡◌, ◌<◌, ◌≤◌, ◌+◌, ℕ, zero, suc, Bool, true, false, List, length, Option, Some, None, refl, sym, ap, subst, ◌∙◌, slice_get, arith}
use Rattle.std.specs.Option.{option_and_then, option_map_or, IsSomeAnd}
use Rattle.hdfs_types.specs.Request.{is_look}
use Rattle.history.specs.declared.entry.HistoryEntry.{HistoryEntry}
use Rattle.history.specs.declared.entry.Answer.{Answer}
use Rattle.history_replay.specs.Agreement.{Claims, receipt_of, entry_at_place, bound_of, MatchesReceipt}
use Rattle.audit_check.specs.Laws.{AllAgree}

module _ (claims : Claims) (agree : AllAgree claims) where
  -- the entry has the receipt's place
  abbrev Has : ℕ → Answer → Type 0
  Has before answer = (is_look answer.request.op ≡ false) × (answer.place ≡ before + 1)

  pub received : (before : ℕ) (entry : HistoryEntry) → length claims.begun ≤ before → slice_get claims.history before ≡ Some entry → IsSomeAnd (receipt_of claims.passes entry.pass entry.index) (Has before)
  received before entry since at = (agree entry.pass entry.index).received before entry since at (refl, refl)

  pub own_receipts : (one other : ℕ) (entry another : HistoryEntry) → length claims.begun ≤ one → length claims.begun ≤ other → slice_get claims.history one ≡ Some entry → slice_get claims.history other ≡ Some another
      → entry.pass ≡ another.pass → entry.index ≡ another.index → one ≡ other
  own_receipts one other entry another since also at there passes indexes =
      by (receipt_of claims.passes entry.pass entry.index) (received one entry since at)
      (subst (λ o. IsSomeAnd o (Has other)) (ap (λ p. receipt_of claims.passes p another.index) (sym passes) ∙ ap (receipt_of claims.passes entry.pass) (sym indexes)) (received other another also there))
    where
      by : (o : Option Answer) → IsSomeAnd o (Has one) → IsSomeAnd o (Has other) → one ≡ other
      by None p q = absurd p
      by (Some answer) p q = omega (arith, p.1, q.1)

  -- the entry at the place of a receipt of a change names the receipt
  abbrev Named : ℕ → ℕ → HistoryEntry → Type 0
  Named pass index entry = (entry.pass ≡ pass) × (entry.index ≡ index)

  -- no receipt is bound to stand before the passes began
  grows : (pass : ℕ) (answers : List Answer) → slice_get claims.passes pass ≡ Some answers → (index : ℕ) → length claims.begun ≤ bound_of (length claims.begun) answers index
  grows pass answers e zero = omega arith
  grows pass answers e (suc before) = by (grows pass answers e before) (slice_get answers before) refl
    where
      by_look : length claims.begun ≤ bound_of (length claims.begun) answers before → (last : Answer) → slice_get answers before ≡ Some last → (b : Bool) → is_look last.request.op ≡ b → length claims.begun ≤ last.place
      by_look low last at false k = omega (arith, low, (((agree pass before).placed answers last e at).change k).0)
      by_look low last at true k = omega (arith, low, (((agree pass before).placed answers last e at).look k).0)

      by : length claims.begun ≤ bound_of (length claims.begun) answers before → (o : Option Answer) → slice_get answers before ≡ o
          → length claims.begun ≤ option_map_or (λ (answer : Answer). answer.place) o (length claims.begun)
      by low None at = omega arith
      by low (Some last) at = by_look low last at (is_look last.request.op) refl

  pub stands : (pass index : ℕ) (answer : Answer) → receipt_of claims.passes pass index ≡ Some answer → is_look answer.request.op ≡ false
      → (length claims.begun < answer.place) × IsSomeAnd (entry_at_place claims.history answer.place) (MatchesReceipt pass index answer)
  stands pass index answer told change = by (slice_get claims.passes pass) refl told
    where
      by : (o : Option (List Answer)) → slice_get claims.passes pass ≡ o → option_and_then (λ answers. slice_get answers index) o ≡ Some answer
          → (length claims.begun < answer.place) × IsSomeAnd (entry_at_place claims.history answer.place) (MatchesReceipt pass index answer)
      by None e k = cc
      by (Some answers) e k = let one = ((agree pass index).placed answers answer e k).change change in (omega (arith, grows pass answers e index, one.0), one.1)

  named : (pass index : ℕ) (answer : Answer) → receipt_of claims.passes pass index ≡ Some answer → is_look answer.request.op ≡ false → IsSomeAnd (entry_at_place claims.history answer.place) (Named pass index)
  named pass index answer told change = by_entry (entry_at_place claims.history answer.place) (stands pass index answer told change).1
    where
      by_entry : (o : Option HistoryEntry) → IsSomeAnd o (MatchesReceipt pass index answer) → IsSomeAnd o (Named pass index)
      by_entry None p = p
      by_entry (Some entry) p = (p.pass_is, p.index_is)

  pub own_entries : (pass index other_pass other_index : ℕ) (answer another : Answer) → receipt_of claims.passes pass index ≡ Some answer → receipt_of claims.passes other_pass other_index ≡ Some another
      → is_look answer.request.op ≡ false → is_look another.request.op ≡ false → answer.place ≡ another.place → (pass ≡ other_pass) × (index ≡ other_index)
  own_entries pass index other_pass other_index answer another told also change too places =
      by (entry_at_place claims.history answer.place) (named pass index answer told change)
      (subst (λ p. IsSomeAnd (entry_at_place claims.history p) (Named other_pass other_index)) (sym places) (named other_pass other_index another also too))
    where
      by : (o : Option HistoryEntry) → IsSomeAnd o (Named pass index) → IsSomeAnd o (Named other_pass other_index) → (pass ≡ other_pass) × (index ≡ other_index)
      by None p q = absurd p
      by (Some entry) p q = (sym p.0 ∙ q.0, sym p.1 ∙ q.1)

-- What a history is that agrees with all answers that passes kept.
use Rattle.std.proofs.Common.{◌≡◌, ◌<◌, ◌≤◌, ◌+◌, ◌∙◌, ℕ, zero, suc, Bool, true, false, not, List, length, reverse, Option, Some, None, refl, sym, ap, subst, slice_get, get_or, arith, ◌⊎◌, inl, inr}
use Rattle.std.specs.Option.{IsSomeAnd}
use Rattle.std.proofs.lemmas.List.{length-take, length-reverse, reverse-reverse}
use Rattle.std.proofs.lemmas.Option.{slice_get_within, slice_get_cases}
use Rattle.hdfs_types.specs.Request.{is_look}
use Rattle.history.specs.declared.entry.HistoryEntry.{HistoryEntry}
use Rattle.history.specs.declared.entry.Answer.{Answer}
use Rattle.history.specs.LegalHistory.{IsLegal}
use Rattle.history_replay.specs.Agreement.{Claims, receipt_of, entry_at_place, MatchesReceipt}
use Rattle.audit_check.specs.Checking.{history_opening, claims_of}
use Rattle.audit_check.specs.Laws.{AllAgree}
use Rattle.audit_check.proofs.Legality.{agreed_front, agreed_legal}
use Rattle.audit_check.proofs.Owning.{received, own_entries, stands}
use Rattle.name_core.specs.NameCore.{NameCore}
use Rattle.name_service.specs.Passes.{Pass}
use Rattle.name_service.specs.Serving.{NameServer, BeganLegally, claims_on, receipts_of, is_change, Closes}
use Rattle.name_service.specs.declared.server.Report.{Report}
use Rattle.name_service.proofs.Counting.{counted, count_all}

-- ---- as many entries as changes that were told

is_no_look : (b : Bool) → not b ≡ true → b ≡ false
is_no_look false e = refl
is_no_look true e = absurd (apart e)
  where
    apart : false ≡ true → ⊥
    apart e = cc

module _ (claims : Claims) (agree : AllAgree claims) where
  change : (answer : Answer) → is_change answer ≡ true → is_look answer.request.op ≡ false
  change answer e = is_no_look (is_look answer.request.op) e

  -- the entry of a change is one of the history
  low : (pass index : ℕ) (answer : Answer) → receipt_of claims.passes pass index ≡ Some answer → is_change answer ≡ true → answer.place ≤ length claims.history
  low pass index answer told e = by answer.place (stands claims agree pass index answer told (change answer e)).1
    where
      at : (before : ℕ) (o : Option HistoryEntry) → slice_get claims.history before ≡ o → IsSomeAnd o (MatchesReceipt pass index answer) → suc before ≤ length claims.history
      at before None is p = absurd p
      at before (Some entry) is p = omega (arith, slice_get_within claims.history before entry is)

      by : (place : ℕ) → IsSomeAnd (entry_at_place claims.history place) (MatchesReceipt pass index answer) → place ≤ length claims.history
      by zero p = omega arith
      by (suc before) p = at before (slice_get claims.history before) refl p

  -- each entry since the passes began was told
  told_at : (before : ℕ) → length claims.begun ≤ before → before < length claims.history
      → (pass : ℕ) × (index : ℕ) × (answer : Answer) × (receipt_of claims.passes pass index ≡ Some answer) × (is_change answer ≡ true) × (answer.place ≡ before + 1)
  told_at before since within = by (slice_get_cases claims.history before).1
    where
      Told : Type 0
      Told = (pass : ℕ) × (index : ℕ) × (answer : Answer) × (receipt_of claims.passes pass index ≡ Some answer) × (is_change answer ≡ true) × (answer.place ≡ before + 1)

      receipt : (entry : HistoryEntry) (o : Option Answer) → receipt_of claims.passes entry.pass entry.index ≡ o → IsSomeAnd o (λ answer. (is_look answer.request.op ≡ false) × (answer.place ≡ before + 1)) → Told
      receipt entry None is p = absurd p
      receipt entry (Some answer) is p = (entry.pass, entry.index, answer, is, ap not p.0, p.1)

      by : (((entry : HistoryEntry) × (before < length claims.history) × (slice_get claims.history before ≡ Some entry) × (get_or claims.history before entry ≡ entry)) ⊎ ((length claims.history ≤ before) × (slice_get claims.history before ≡ None))) → Told
      by (inl (entry, less, at, is)) = receipt entry (receipt_of claims.passes entry.pass entry.index) refl (received claims agree before entry since at)
      by (inr (past, none)) = absurd (omega arith)

  pub as_many : (count : ℕ) → length claims.history ≡ length claims.begun + count → count_all is_change claims.passes ≡ count
  as_many count whole =
      counted claims.passes is_change (λ answer. answer.place) (length claims.begun)
      (λ list index other_list other x y is too m n p. own_entries claims agree list index other_list other x y is too (change x m) (change y n) p)
      count
      (λ list index x is m. ((stands claims agree list index x is (change x m)).0, omega (arith, low list index x is m, whole)))
      (λ j past within. filled j past within)
    where
      filled : (j : ℕ) → 0 < j → j ≤ count
          → (list : ℕ) × (index : ℕ) × (x : Answer) × (receipt_of claims.passes list index ≡ Some x) × (is_change x ≡ true) × (x.place ≡ length claims.begun + j)
      filled zero past within = absurd (omega (arith, past))
      filled (suc i) past within = by (told_at (length claims.begun + i) (omega arith) (omega (arith, whole, within)))
        where
          by : ((pass : ℕ) × (index : ℕ) × (answer : Answer) × (receipt_of claims.passes pass index ≡ Some answer) × (is_change answer ≡ true) × (answer.place ≡ (length claims.begun + i) + 1))
              → (list : ℕ) × (index : ℕ) × (x : Answer) × (receipt_of claims.passes list index ≡ Some x) × (is_change x ≡ true) × (x.place ≡ length claims.begun + suc i)
          by (pass, index, answer, is, e, p) = (pass, index, answer, is, e, omega (arith, p))

  pub no_shorter : length claims.begun ≤ length claims.history
  no_shorter = omega (arith, sym (length-take (length claims.begun) claims.history) ∙ ap length (agreed_front claims agree))

-- ---- a server that closes

pub same_claims : (server : NameServer) (core : NameCore) (passes : List Pass) (history : List HistoryEntry) (kept : List (List Answer)) → reverse history ≡ core.entries → kept ≡ receipts_of passes
    → claims_of server history kept ≡ claims_on server core passes
same_claims server core passes history kept entries receipts =
    ap (λ (own : List HistoryEntry). claims_of server own kept) (sym (reverse-reverse history) ∙ ap (λ (own : List HistoryEntry). reverse own) entries) ∙ ap (claims_of server (reverse core.entries)) receipts

pub closes : (server : NameServer) (core : NameCore) (passes : List Pass) (report : Report) → BeganLegally server → AllAgree (claims_on server core passes) → report.core ≡ core
    → length core.entries ≡ length server.entries.items + report.entries → Closes server passes report
closes server core passes report legal agree is entries =
    subst (λ (own : NameCore). AllAgree (claims_on server own passes) → length own.entries ≡ length server.entries.items + report.entries → Closes server passes report) is
    (λ agree entries. record {
      agree = agree;
      legal = subst (IsLegal (history_opening server)) (reverse-reverse report.core.entries) (agreed_legal (claims_on server report.core passes) agree legal);
      goes_on = agreed_front (claims_on server report.core passes) agree;
      entries = entries;
      changes = sym (as_many (claims_on server report.core passes) agree report.entries (length-reverse report.core.entries ∙ entries));
    })
    agree entries

pub no_fewer : (server : NameServer) (core : NameCore) (passes : List Pass) → AllAgree (claims_on server core passes) → length server.entries.items ≤ length core.entries
no_fewer server core passes agree = omega (arith, no_shorter (claims_on server core passes) agree, length-reverse core.entries)

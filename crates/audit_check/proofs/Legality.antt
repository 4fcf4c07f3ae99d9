-- Legal histories, the oldest entry first.
use Rattle.std.proofs.Common.{◌≡◌, ℕ, zero, suc, ◌+◌, ◌<◌, ◌≤◌, ◌∙◌, ◌⊎◌, inl, inr, List, [], ◌∷◌, ◌++◌, length, take, drop, reverse, get_or, Some, None, refl, sym, ap, subst, arith, slice_get}
use Rattle.std.proofs.lemmas.List.{take_more, take_more_same, take_all, take-append-drop, reverse-append, length-reverse, length-take-le}
use Rattle.std.proofs.lemmas.Option.{slice_get_within, slice_get_cases, get_or_from_slice_get}
use Rattle.flat_rows.specs.declared.verdict.Verdict.{Verdict}
use Rattle.history.specs.declared.entry.HistoryEntry.{HistoryEntry}
use Rattle.history.specs.Config.{Opening}
use Rattle.history.specs.LegalHistory.{IsLegal, verdict_of}
use Rattle.history_replay.specs.Agreement.{Claims, Agrees, IsLegalAt, replayed_history}

-- a legal history is what its requests give
replayed_legal : (opening : Opening) (entries : List HistoryEntry) → IsLegal opening entries → replayed_history opening entries ≡ entries
replayed_legal opening [] legal = refl
replayed_legal opening (entry ∷ earlier) legal =
    ap (λ (own : List HistoryEntry). record entry { place = length own + 1; verdict = verdict_of opening own entry.request } ∷ own) (replayed_legal opening earlier legal.2)
    ∙ (ap (λ (place : ℕ). record entry { place = place; verdict = verdict_of opening earlier entry.request } ∷ earlier) (sym legal.0)
    ∙ ap (λ (verdict : Verdict). record entry { verdict = verdict } ∷ earlier) (sym legal.1))

-- ---- fronts of a history

there : (P : Type 0) (history : List HistoryEntry) (n : ℕ) → n < length history → ((entry : HistoryEntry) → slice_get history n ≡ Some entry → P) → P
there P history n within gives = by (slice_get_cases history n).1
  where
    by : (((entry : HistoryEntry) × (n < length history) × (slice_get history n ≡ Some entry) × (get_or history n entry ≡ entry)) ⊎ ((length history ≤ n) × (slice_get history n ≡ None))) → P
    by (inl (entry, less, at, is)) = gives entry at
    by (inr (past, none)) = absurd (omega arith)

next_front : (history : List HistoryEntry) (n : ℕ) (entry : HistoryEntry) → slice_get history n ≡ Some entry → reverse (take (n + 1) history) ≡ entry ∷ reverse (take n history)
next_front history n entry at =
    ap reverse
    (take_more history n entry (slice_get_within history n entry at) ∙ ap (λ (x : HistoryEntry). take n history ++ x ∷ []) (get_or_from_slice_get history n entry entry at))
    ∙ reverse-append (take n history) (entry ∷ [])

length_front : (history : List HistoryEntry) (n : ℕ) (entry : HistoryEntry) → slice_get history n ≡ Some entry → length (reverse (take n history)) + 1 ≡ n + 1
length_front history n entry at =
    let within : n < length history = slice_get_within history n entry at in
    ap (λ (m : ℕ). m + 1) (length-reverse (take n history) ∙ length-take-le n history (omega arith))

-- ---- legal entries

legal_next : (opening : Opening) (history : List HistoryEntry) (n : ℕ) (entry : HistoryEntry) → slice_get history n ≡ Some entry → IsLegalAt opening history n entry
    → IsLegal opening (reverse (take n history)) → IsLegal opening (reverse (take (n + 1) history))
legal_next opening history n entry at here before =
    subst (λ (own : List HistoryEntry). IsLegal opening own) (sym (next_front history n entry at))
    (here.0 ∙ sym (length_front history n entry at), here.1 ∙ ap (λ (own : List HistoryEntry). verdict_of opening own entry.request) (replayed_legal opening (reverse (take n history)) before), before)

legal_front : (opening : Opening) (history : List HistoryEntry) → ((before : ℕ) (entry : HistoryEntry) → slice_get history before ≡ Some entry → IsLegalAt opening history before entry)
    → (n : ℕ) → n ≤ length history → IsLegal opening (reverse (take n history))
legal_front opening history all zero within = tt
legal_front opening history all (suc n) within =
    there (IsLegal opening (reverse (take (suc n) history))) history n (omega arith)
    (λ entry at.
    let e : n + 1 ≡ suc n = omega arith in
    subst (λ (m : ℕ). IsLegal opening (reverse (take m history))) e (legal_next opening history n entry at (all n entry at) (legal_front opening history all n (omega arith))))

pub legal_whole : (opening : Opening) (history : List HistoryEntry) → ((before : ℕ) (entry : HistoryEntry) → slice_get history before ≡ Some entry → IsLegalAt opening history before entry)
    → IsLegal opening (reverse history)
legal_whole opening history all =
    let whole : length history ≤ length history = omega arith in
    subst (λ (own : List HistoryEntry). IsLegal opening (reverse own)) (take_all (length history) history whole) (legal_front opening history all (length history) whole)

-- ---- entries of a legal history

legal_behind : (opening : Opening) (later earlier : List HistoryEntry) → IsLegal opening (later ++ earlier) → IsLegal opening earlier
legal_behind opening [] earlier legal = legal
legal_behind opening (entry ∷ later) earlier legal = legal_behind opening later earlier legal.2

legal_at : (opening : Opening) (history : List HistoryEntry) (n : ℕ) (entry : HistoryEntry) → IsLegal opening (reverse history) → slice_get history n ≡ Some entry → IsLegalAt opening history n entry
legal_at opening history n entry legal at =
    let split : reverse history ≡ reverse (drop (n + 1) history) ++ (entry ∷ reverse (take n history)) =
    ap reverse (sym (take-append-drop (n + 1) history))
    ∙ (reverse-append (take (n + 1) history) (drop (n + 1) history) ∙ ap (λ (own : List HistoryEntry). reverse (drop (n + 1) history) ++ own) (next_front history n entry at)) in
    let here : IsLegal opening (entry ∷ reverse (take n history)) =
    legal_behind opening (reverse (drop (n + 1) history)) (entry ∷ reverse (take n history)) (subst (λ (own : List HistoryEntry). IsLegal opening own) split legal) in
    (here.0 ∙ length_front history n entry at, here.1 ∙ ap (λ (own : List HistoryEntry). verdict_of opening own entry.request) (sym (replayed_legal opening (reverse (take n history)) here.2)))

-- ---- what agrees

-- where all entries of one history stand in another, both begin alike
same_front : (begun history : List HistoryEntry) → ((n : ℕ) (entry : HistoryEntry) → slice_get begun n ≡ Some entry → slice_get history n ≡ Some entry)
    → (n : ℕ) → n ≤ length begun → take n begun ≡ take n history
same_front begun history kept zero within = refl
same_front begun history kept (suc n) within =
    let less : n < length begun = omega arith in
    there (take (suc n) begun ≡ take (suc n) history) begun n less
    (λ entry at.
    let e : n + 1 ≡ suc n = omega arith in
    let stays : slice_get history n ≡ Some entry = kept n entry at in
    subst (λ (m : ℕ). take m begun ≡ take m history) e
    (take_more_same begun history n entry less (slice_get_within history n entry stays) (same_front begun history kept n (omega arith))
    (get_or_from_slice_get begun n entry entry at ∙ sym (get_or_from_slice_get history n entry entry stays))))

stays : (claims : Claims) → ((pass index : ℕ) → Agrees claims pass index) → (n : ℕ) (entry : HistoryEntry) → slice_get claims.begun n ≡ Some entry → slice_get claims.history n ≡ Some entry
stays claims agree n entry stood = (agree entry.pass entry.index).opened n entry stood (refl, refl)

pub agreed_front : (claims : Claims) → ((pass index : ℕ) → Agrees claims pass index) → take (length claims.begun) claims.history ≡ claims.begun
agreed_front claims agree =
    let whole : length claims.begun ≤ length claims.begun = omega arith in
    sym (same_front claims.begun claims.history (stays claims agree) (length claims.begun) whole) ∙ take_all (length claims.begun) claims.begun whole

agreed_at : (claims : Claims) → ((pass index : ℕ) → Agrees claims pass index) → IsLegal claims.opening (reverse claims.begun)
    → (n : ℕ) (entry : HistoryEntry) → slice_get claims.history n ≡ Some entry → IsLegalAt claims.opening claims.history n entry
agreed_at claims agree legal n entry at = by (slice_get_cases claims.begun n).1
  where
    by : (((own : HistoryEntry) × (n < length claims.begun) × (slice_get claims.begun n ≡ Some own) × (get_or claims.begun n own ≡ own)) ⊎ ((length claims.begun ≤ n) × (slice_get claims.begun n ≡ None)))
        → IsLegalAt claims.opening claims.history n entry
    by (inl (own, less, stood, is)) =
        let same : own ≡ entry = let e : Some own ≡ Some entry = sym (stays claims agree n own stood) ∙ at in cc in
        let here : IsLegalAt claims.opening claims.begun n own = legal_at claims.opening claims.begun n own legal stood in
        subst (λ (x : HistoryEntry). IsLegalAt claims.opening claims.history n x) same
        (here.0, here.1 ∙ ap (λ (front : List HistoryEntry). verdict_of claims.opening (replayed_history claims.opening (reverse front)) own.request) (same_front claims.begun claims.history (stays claims agree) n (omega arith)))
    by (inr (since, none)) = (agree entry.pass entry.index).legal n entry since at (refl, refl)

pub agreed_legal : (claims : Claims) → ((pass index : ℕ) → Agrees claims pass index) → IsLegal claims.opening (reverse claims.begun) → IsLegal claims.opening (reverse claims.history)
agreed_legal claims agree legal = legal_whole claims.opening claims.history (agreed_at claims agree legal)

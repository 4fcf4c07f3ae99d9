-- The replay of a history's requests.
use Rattle.std.proofs.Common.{◌≡◌, ℕ, ◌+◌, ◌<◌, ◌≤◌, ◌==◌, ◌∙◌, Bool, true, false, ◌&&◌, ◌||◌, suc, List, [], ◌∷◌, ◌++◌, length, take, reverse, get_or, Option, Some, None, Result, Ok, Err, refl, sym, ap, subst, arith, slice_get, slice_index_or}
use Rattle.std.specs.Bool.{Decides}
use Rattle.std.specs.List.{list_any}
use Rattle.std.specs.Option.{option_and_then, is_some}
use Rattle.std.specs.Result.{IfOk}
use Rattle.std.proofs.lemmas.Bool.Decides.{Decides-eqb}
use Rattle.std.proofs.lemmas.List.{take_more, reverse-append, length-reverse, length-take-le}
use Rattle.std.proofs.lemmas.List.Folds.{list_any_more}
use Rattle.std.proofs.lemmas.Option.{slice_get_within, slice_get_read, get_or_from_slice_get}
use Rattle.hdfs_types.specs.Request.{is_look}
use Rattle.history.specs.declared.entry.HistoryEntry.{HistoryEntry}
use Rattle.history.specs.declared.entry.Answer.{Answer}
use Rattle.history.specs.Config.{Opening}
use Rattle.history.specs.LegalHistory.{verdict_of}
use Rattle.name_core.specs.NameCore.{NameCore, with_next_entry}
use Rattle.history_replay.specs.declared.pair.Pair.{Pair}
use Rattle.history_replay.specs.Agreement.{receipt_of, replayed_history, given_by, IsLegalAt, Finds}
use Rattle.history_replay.specs.Looking.{is_pair, lists, HasAllLooks, ToldHere, FindsAmong, IsLegalBehind, Replayed}
use Rattle.history_replay.proofs.Stepping.{below_step}
use Rattle.history_replay.specs.Replaying.{LegalFrom, TellsAt}

pub below_none : (P : ℕ → Type 0) (n : ℕ) → n < 0 → P n
below_none P n less = absurd (none less)
  where
    none : n < 0 → ⊥
    none h = omega arith

-- ---- how long it is, and how it goes on

pub length-replayed : (opening : Opening) (entries : List HistoryEntry) → length (replayed_history opening entries) ≡ length entries
length-replayed opening [] = refl
length-replayed opening (entry ∷ earlier) = ap suc (length-replayed opening earlier)

pub length-given : (opening : Opening) (history : List HistoryEntry) (i : ℕ) → i ≤ length history → length (given_by opening history i) ≡ i
length-given opening history i within = length-replayed opening (reverse (take i history)) ∙ (length-reverse (take i history) ∙ length-take-le i history within)

pub given_next : (opening : Opening) (history : List HistoryEntry) (i : ℕ) (item : HistoryEntry) → i < length history → item ≡ get_or history i item
    → (with_next_entry (record { opening = opening; entries = given_by opening history i }) item.pass item.index item.request).entries ≡ given_by opening history (i + 1)
given_next opening history i item below is =
    sym (ap (λ (entries : List HistoryEntry). replayed_history opening entries)
    (ap reverse (take_more history i item below ∙ ap (λ (x : HistoryEntry). take i history ++ x ∷ []) (sym is)) ∙ reverse-append (take i history) (item ∷ [])))

core_is : (core : NameCore) (opening : Opening) (entries : List HistoryEntry) → core.opening ≡ opening → core.entries ≡ entries → core ≡ record { opening = opening; entries = entries }
core_is core opening entries o e = ap (λ (x : Opening). record { opening = x; entries = core.entries }) o ∙ ap (λ (x : List HistoryEntry). record { opening = opening; entries = x }) e

pub opened_with : (core : NameCore) (opening : Opening) → core ≡ record { opening = opening; entries = [] } → core.opening ≡ opening
opened_with core opening is = ap (λ (own : NameCore). own.opening) is

pub advanced : (opening : Opening) (history : List HistoryEntry) (i : ℕ) (item : HistoryEntry) (old new : NameCore) → i < length history → item ≡ get_or history i item
    → old.opening ≡ opening → old.entries ≡ given_by opening history i → new ≡ with_next_entry old item.pass item.index item.request
    → (new.opening ≡ opening) × (new.entries ≡ given_by opening history (i + 1))
advanced opening history i item old new below is o e made =
    let all : new ≡ with_next_entry (record { opening = opening; entries = given_by opening history i }) item.pass item.index item.request =
    made ∙ ap (λ (core : NameCore). with_next_entry core item.pass item.index item.request) (core_is old opening (given_by opening history i) o e) in
    (ap (λ (core : NameCore). core.opening) all, ap (λ (core : NameCore). core.entries) all ∙ given_next opening history i item below is)

-- ---- entries

pub legal_here : (opening : Opening) (history : List HistoryEntry) (i : ℕ) (item : HistoryEntry) (core : NameCore) (legal : Bool) → i ≤ length history
    → core.opening ≡ opening → core.entries ≡ given_by opening history i → Decides legal (IsLegalBehind core.opening core.entries item) → Decides legal (IsLegalAt opening history i item)
legal_here opening history i item core legal within o e d =
    subst (λ (n : ℕ). Decides legal ((item.place ≡ n + 1) × (item.verdict ≡ verdict_of opening (given_by opening history i) item.request))) (length-given opening history i within)
    (subst (λ (entries : List HistoryEntry). Decides legal (IsLegalBehind opening entries item)) e
    (subst (λ (x : Opening). Decides legal (IsLegalBehind x core.entries item)) o d))

pub legal_step : (opening : Opening) (begun : ℕ) (history : List HistoryEntry) (i : ℕ) (item : HistoryEntry) (legal : Bool) → item ≡ get_or history i item
    → Decides legal (IsLegalAt opening history i item) → (begun ≤ i → legal ≡ true)
    → ((before : ℕ) → before < i → LegalFrom opening begun history before) → (before : ℕ) → before < i + 1 → LegalFrom opening begun history before
legal_step opening begun history i item legal is d fine earlier =
    below_step (LegalFrom opening begun history) i earlier
    (λ entry since there. subst (λ (x : HistoryEntry). IsLegalAt opening history i x) (is ∙ get_or_from_slice_get history i entry item there) (d.0 (fine since)))

-- ---- looks

parts : (P : Type 0) (passes : List (List Answer)) (pass index : ℕ) (answer : Answer) → receipt_of passes pass index ≡ Some answer
    → ((answers : List Answer) → slice_get passes pass ≡ Some answers → slice_get answers index ≡ Some answer → P) → P
parts P passes pass index answer at gives = by (slice_get passes pass) refl at
  where
    none : None ≡ Some answer → ⊥
    none e = cc

    by : (found : Option (List Answer)) → slice_get passes pass ≡ found → option_and_then (λ answers. slice_get answers index) found ≡ Some answer → P
    by None is e = absurd (none e)
    by (Some answers) is e = gives answers is e

-- a look among those that are listed tells
pub told_iff : (opening : Opening) (entries : List HistoryEntry) (passes : List (List Answer)) (pass index : ℕ) (answer : Answer) (told : Bool) → receipt_of passes pass index ≡ Some answer
    → is_look answer.request.op ≡ true → answer.place ≡ length entries → Decides told (answer.verdict ≡ verdict_of opening entries answer.request) → Decides told (ToldHere opening entries passes pass index)
told_iff opening entries passes pass index answer told at look place d =
    (λ yes other there _ _. subst (λ (x : Answer). x.verdict ≡ verdict_of opening entries x.request) (one other there) (d.0 yes), λ all. d.1 (all answer at look place))
  where
    one : (other : Answer) → receipt_of passes pass index ≡ Some other → answer ≡ other
    one other there = let e : Some answer ≡ Some other = sym at ∙ there in cc

-- and so does the search for it
ok_also : {E : Type 0} (P Q : Bool → Type 0) (found : Result Bool E) → ((told : Bool) → P told → Q told) → IfOk found P → IfOk found Q
ok_also P Q (Ok told) more says = more told says
ok_also P Q (Err e) more says = says

pub told_here : {E : Type 0} (opening : Opening) (entries : List HistoryEntry) (passes : List (List Answer)) (pass index : ℕ) (answer : Answer) (found : Result Bool E) → receipt_of passes pass index ≡ Some answer
    → (is_look answer.request.op ≡ true) × (answer.place ≡ length entries) → IfOk found (λ told. Decides told (answer.verdict ≡ verdict_of opening entries answer.request))
    → IfOk found (λ told. Decides told (ToldHere opening entries passes pass index))
told_here opening entries passes pass index answer found at here says =
    ok_also (λ told. Decides told (answer.verdict ≡ verdict_of opening entries answer.request)) (λ told. Decides told (ToldHere opening entries passes pass index)) found
    (λ told d. told_iff opening entries passes pass index answer told at here.0 here.1 d) says

-- what isn't listed is as it should be
pub other_here : (opening : Opening) (entries : List HistoryEntry) (passes : List (List Answer)) (pass index : ℕ) (answer : Answer) → receipt_of passes pass index ≡ Some answer
    → ((is_look answer.request.op ≡ true) × (answer.place ≡ length entries) → ⊥) → Decides true (ToldHere opening entries passes pass index)
other_here opening entries passes pass index answer at none = (
  λ yes other there look place.
      let e : Some other ≡ Some answer = sym there ∙ at in
      let same : other ≡ answer = cc in
      absurd (none (subst (λ (x : Answer). (is_look x.request.op ≡ true) × (x.place ≡ length entries)) same (look, place))),
  λ all. refl,
)

pub no_receipt : (opening : Opening) (entries : List HistoryEntry) (passes : List (List Answer)) (pass index : ℕ) → receipt_of passes pass index ≡ None → Decides true (ToldHere opening entries passes pass index)
no_receipt opening entries passes pass index none = (
  λ yes other there look place. absurd (apart (sym none ∙ there)),
  λ all. refl,
)
  where
    apart : {A : Type 0} {x : A} → None ≡ Some x → ⊥
    apart e = cc

pub untold_step : (holds : ℕ → ℕ → Type 0) (pairs : List Pair) (i : ℕ) (default : Pair) → i < length pairs → holds (get_or pairs i default).pass (get_or pairs i default).index
    → ((pass index : ℕ) → list_any (is_pair pass index) (take i pairs) ≡ true → holds pass index) → (pass index : ℕ) → list_any (is_pair pass index) (take (i + 1) pairs) ≡ true → holds pass index
untold_step holds pairs i default below here earlier pass index any =
    by (list_any (is_pair pass index) (take i pairs)) refl (sym (list_any_more (is_pair pass index) pairs i default below) ∙ any)
  where
    first : (x y : Bool) → (x && y) ≡ true → x ≡ true
    first true y e = refl
    first false y e = e

    second : (x y : Bool) → (x && y) ≡ true → y ≡ true
    second true y e = e
    second false y e = absurd (apart e)
      where
        apart : false ≡ true → ⊥
        apart h = cc

    this : (item : Pair) → holds item.pass item.index → is_pair pass index item ≡ true → holds pass index
    this item own e =
        subst (λ (n : ℕ). holds pass n) ((Decides-eqb item.index index).0 (second (item.pass == pass) (item.index == index) e))
        (subst (λ (n : ℕ). holds n item.index) ((Decides-eqb item.pass pass).0 (first (item.pass == pass) (item.index == index) e)) own)

    by : (x : Bool) → list_any (is_pair pass index) (take i pairs) ≡ x → (x || is_pair pass index (get_or pairs i default)) ≡ true → holds pass index
    by true at e = earlier pass index at
    by false at e = this (get_or pairs i default) here e

module _ (opening : Opening) (begun : ℕ) (history : List HistoryEntry) (passes : List (List Answer)) (i : ℕ) (core : NameCore) (within : i ≤ length history) (o : core.opening ≡ opening) (e : core.entries ≡ given_by opening history i) where
  count : length core.entries ≡ i
  count = ap length e ∙ length-given opening history i within

  same_verdict : (answer : Answer) → verdict_of core.opening core.entries answer.request ≡ verdict_of opening (given_by opening history i) answer.request
  same_verdict answer = ap (λ (x : Opening). verdict_of x core.entries answer.request) o ∙ ap (λ (x : List HistoryEntry). verdict_of opening x answer.request) e

  -- all looks that rest on so many entries tell what the rules give
  pub tells_here : (looks : List (List Pair)) → length looks ≡ length history + 1 → HasAllLooks looks passes
      → FindsAmong (slice_index_or looks i []) (ToldHere core.opening core.entries passes) None → TellsAt opening history passes i
  tells_here looks len has says pass index answer at look place =
      parts (answer.verdict ≡ verdict_of opening (given_by opening history i) answer.request) passes pass index answer at
      (λ answers there here.
      let listed : lists looks answer.place pass index ≡ true = has pass answers there index answer here look (omega arith) in
      says pass index (subst (λ (n : ℕ). lists looks n pass index ≡ true) place listed) answer at look (place ∙ sym count) ∙ same_verdict answer)

  -- a look that doesn't is one of a pair that fails
  pub untold_fails : (pair : Pair) → (ToldHere core.opening core.entries passes pair.pass pair.index → ⊥) → Replayed opening begun history passes pair.pass pair.index → ⊥
  untold_fails pair fails all = fails
      (λ answer at look place.
      let here : answer.place ≡ i = place ∙ count in
      let less : answer.place ≤ length history = omega arith in
      all.told answer at look less ∙ (ap (λ (n : ℕ). verdict_of opening (given_by opening history n) answer.request) here ∙ sym (same_verdict answer)))

  pub untold_found : (pairs : List Pair) (found : Option Pair) → FindsAmong pairs (ToldHere core.opening core.entries passes) found → is_some found ≡ true → Finds (Replayed opening begun history passes) found
  untold_found pairs None says some = absurd (apart some)
    where
      apart : false ≡ true → ⊥
      apart h = cc
  untold_found pairs (Some pair) says some = untold_fails pair says

  pub none_untold : (looks : List (List Pair)) → length looks ≡ length history + 1 → HasAllLooks looks passes
      → (found : Option Pair) → FindsAmong (slice_index_or looks i []) (ToldHere core.opening core.entries passes) found → is_some found ≡ false → TellsAt opening history passes i
  none_untold looks len has None says none = tells_here looks len has says
  none_untold looks len has (Some pair) says none = absurd (apart none)
    where
      apart : true ≡ false → ⊥
      apart h = cc

  -- at the end of the history
  pub finished : (looks : List (List Pair)) → length looks ≡ length history + 1 → HasAllLooks looks passes → i ≡ length history
      → ((before : ℕ) → before < i → LegalFrom opening begun history before) → ((place : ℕ) → place < i → TellsAt opening history passes place)
      → (found : Option Pair) → FindsAmong (slice_index_or looks i []) (ToldHere core.opening core.entries passes) found → Finds (Replayed opening begun history passes) found
  finished looks len has end legal told None says = λ pass index. record {
    legal = λ before entry since there names.
        let less : before < length history = slice_get_within history before entry there in
        legal before (omega arith) entry since there;
    told = λ answer at look less.
        below_step (TellsAt opening history passes) i told (tells_here looks len has says) answer.place (omega arith) pass index answer at look refl;
  }
  finished looks len has end legal told (Some pair) says = untold_fails pair says

  pub ended : {E : Type 0} (looks : List (List Pair)) → length looks ≡ length history + 1 → HasAllLooks looks passes → i ≡ length history
      → ((before : ℕ) → before < i → LegalFrom opening begun history before) → ((place : ℕ) → place < i → TellsAt opening history passes place)
      → (found : Result (Option Pair) E) → IfOk found (FindsAmong (slice_index_or looks i []) (ToldHere core.opening core.entries passes)) → IfOk found (Finds (Replayed opening begun history passes))
  ended looks len has end legal told (Ok found) says = finished looks len has end legal told found says
  ended looks len has end legal told (Err fault) says = says

-- an entry that isn't legal is one of a pair that fails
pub illegal_fails : (opening : Opening) (begun : ℕ) (history : List HistoryEntry) (passes : List (List Answer)) (i : ℕ) (item own : HistoryEntry) (legal : Bool) (pair : Pair)
    → i < length history → item ≡ get_or history i item → own ≡ get_or history i own → pair.pass ≡ own.pass → pair.index ≡ own.index
    → Decides legal (IsLegalAt opening history i item) → (begun ≤ i) × (legal ≡ false) → Replayed opening begun history passes pair.pass pair.index → ⊥
illegal_fails opening begun history passes i item own legal pair below is own_is pass index d fault all =
    let at : slice_get history i ≡ Some own = slice_get_read history (length history) i own refl below own_is in
    let same : own ≡ item = sym (is ∙ get_or_from_slice_get history i own item at) in
    let here : IsLegalAt opening history i own = all.legal i own fault.0 at (sym pass, sym index) in
    apart (sym fault.1 ∙ d.1 (subst (λ (x : HistoryEntry). IsLegalAt opening history i x) same here))
  where
    apart : false ≡ true → ⊥
    apart h = cc

-- Where the needs that are judged end: at the first denial.
use Rattle.std.proofs.Common.{◌≡◌, ℕ, Bool, true, false, not, List, [], ◌∷◌, ◌++◌, Option, Some, None, map, refl, ap, ◌∙◌, cond}
use Rattle.std.specs.Prelude.{filter}
use Rattle.std.specs.List.{last_or, flat_map}
use Rattle.std.specs.Option.{is_some, option_or}
use Rattle.hdfs_types.specs.declared.op.Op.{Op}
use Rattle.principals.specs.Users.{Users, Caller}
use Rattle.namespace_rows.specs.declared.row.Row.{Row}
use Rattle.required_rights.specs.declared.need.By.{By}
use Rattle.required_rights.specs.declared.need.By.TheVariants.{Superuser}
use Rattle.flat_rows.specs.declared.trail.Judged.{Judged}
use Rattle.namespace_rows.specs.First.{first_answer}
use Rattle.required_rights.specs.RequiredRights.{Demand, required_rights, is_judged_always, judged_needs}
use Rattle.flat_rows.specs.Denial.{Denial, Decided, need_decided, denial_at}
use Rattle.flat_rows.specs.Decision.{Ask, asks_of, denial_of, ask_judged, ask_passed, demand_judged, up_to_denied, asking_caller, decision, trail}
use Rattle.flat_rows.specs.Laws.{are_granted, failed_need, ends_failed, is_failed, EndsAs}
use Rattle.namespace_rows.proofs.Tests.{both, and}

-- a need as it is judged, beside its denial or none
abbrev Judges : Judged → Option Denial → Type 0
Judges need None = need.granted ≡ true
Judges need (Some denied) = need ≡ failed_need denied

-- needs up to the first denial, beside it or none
abbrev Ends : List Judged → Option Denial → Type 0
Ends needs None = are_granted needs ≡ true
Ends needs (Some denied) = EndsAs needs denied

module _ (caller : Caller) (ask : Ask) where
  abbrev as_judged : Decided → Judged
  as_judged what = record { path = ask.row.path; need = ask.need; by = what.by; granted = what.granted }

  of_decided : (what : By) (met : Bool)
      → Judges (as_judged (record { by = what; granted = met }))
      (cond met None (Some (record { need = ask.need; by = what; row = ask.row; caller = caller.name; groups = caller.groups })))
  of_decided what true = refl
  of_decided what false = refl

  of_caller : (superuser : Bool)
      → Judges (as_judged (cond superuser (record { by = Superuser; granted = true }) (need_decided ask.need ask.row ask.above caller.name caller.groups)))
      (cond superuser None (denial_at ask.need ask.row ask.above caller.name caller.groups))
  of_caller true = refl
  of_caller false = let what = need_decided ask.need ask.row ask.above caller.name caller.groups in of_decided what.by what.granted

  judges : Judges (ask_judged caller ask) (denial_of caller ask)
  judges = of_caller caller.is_superuser

-- one more need in front
more : (need : Judged) (here : Option Denial) (needs : List Judged) (later : Option Denial) → Judges need here → Ends needs later
    → Ends (need ∷ cond need.granted needs []) (option_or here later)
more need (Some denied) needs later is ends = rw is (record { met = []; granted = refl; ends = refl })
more need None needs None met ends = rw met ends
more need None needs (Some denied) met ends = record {
  met = need ∷ ends.met;
  granted = and need.granted (are_granted ends.met) met ends.granted;
  ends = ap (λ (b : Bool). need ∷ cond b needs []) met ∙ ap (λ (xs : List Judged). need ∷ xs) ends.ends;
}

-- asks that are judged in front of needs that end so
in_front : (caller : Caller) (asks later : List Ask) (needs : List Judged) → Ends (up_to_denied needs) (first_answer (denial_of caller) later)
    → Ends (up_to_denied (map (ask_judged caller) asks ++ needs)) (first_answer (denial_of caller) (asks ++ later))
in_front caller [] later needs ends = ends
in_front caller (ask ∷ asks) later needs ends =
    more (ask_judged caller ask) (denial_of caller ask) (up_to_denied (map (ask_judged caller) asks ++ needs)) (first_answer (denial_of caller) (asks ++ later)) (judges caller ask)
    (in_front caller asks later needs ends)

-- asks that aren't
passed_in_front : (decided : Option Denial) (asks : List Ask) (needs : List Judged) → Ends (up_to_denied needs) decided → Ends (up_to_denied (map ask_passed asks ++ needs)) decided
passed_in_front decided [] needs ends = ends
passed_in_front decided (ask ∷ asks) needs ends = more (ask_passed ask) None (up_to_denied (map ask_passed asks ++ needs)) decided refl (passed_in_front decided asks needs ends)

module _ (rows : List Row) (caller : Caller) where
  abbrev among : List Demand → Option Denial
  among needs = first_answer (denial_of caller) (flat_map (asks_of rows) needs)

  all_end : (needs : List Demand) → Ends (up_to_denied (flat_map (demand_judged true rows caller) needs)) (among needs)
  all_end [] = refl
  all_end (demand ∷ needs) = in_front caller (asks_of rows demand) (flat_map (asks_of rows) needs) (flat_map (demand_judged true rows caller) needs) (all_end needs)

  always_end : (needs : List Demand) → Ends (up_to_denied (flat_map (demand_judged false rows caller) needs)) (among (filter (λ demand. is_judged_always demand.enforcement) needs))
  always_end [] = refl
  always_end (demand ∷ needs) = by (is_judged_always demand.enforcement) (always_end needs)
    where
      kept : List Demand
      kept = filter (λ demand. is_judged_always demand.enforcement) needs

      later : List Judged
      later = flat_map (demand_judged false rows caller) needs

      by : (b : Bool) → Ends (up_to_denied later) (among kept)
          → Ends (up_to_denied (map (cond b (ask_judged caller) ask_passed) (asks_of rows demand) ++ later)) (among (cond b (demand ∷ kept) kept))
      by true ends = in_front caller (asks_of rows demand) (flat_map (asks_of rows) kept) later ends
      by false ends = passed_in_front (among kept) (asks_of rows demand) later ends

  needs_end : (checking : Bool) (needs : List Demand) → Ends (up_to_denied (flat_map (demand_judged checking rows caller) needs)) (among (judged_needs checking needs))
  needs_end true needs = all_end needs
  needs_end false needs = always_end needs

-- what stands at the end of a list is its last
last_behind : {X : Type 0} (first : Option X) (xs : List X) (x : X) → last_or first (xs ++ x ∷ []) ≡ Some x
last_behind first [] x = refl
last_behind first (y ∷ xs) x = last_behind (Some y) xs x

last_granted : (first : Option Judged) (needs : List Judged) → is_failed first ≡ false → are_granted needs ≡ true → is_failed (last_or first needs) ≡ false
last_granted first [] met all = met
last_granted first (need ∷ needs) met all = let parts = both need.granted (are_granted needs) all in last_granted (Some need) needs (ap not parts.0) parts.1

last_tells : (needs : List Judged) (decided : Option Denial) → Ends needs decided → ends_failed needs ≡ is_some decided
last_tells needs None ends = last_granted None needs refl ends
last_tells needs (Some denied) ends = ap ends_failed ends.ends ∙ ap is_failed (last_behind None ends.met (failed_need denied))

module _ (rows : List Row) (users : Users) (caller : List ℕ) (op : Op) where
  trail_ends : Ends (trail rows users caller op) (decision rows users caller op)
  trail_ends = needs_end rows (asking_caller users caller op) users.checking (required_rights op)

pub ends_where_decided : (rows : List Row) (users : Users) (caller : List ℕ) (op : Op) → ends_failed (trail rows users caller op) ≡ is_some (decision rows users caller op)
ends_where_decided rows users caller op = last_tells (trail rows users caller op) (decision rows users caller op) (trail_ends rows users caller op)

pub ends_as_denied : (rows : List Row) (users : Users) (caller : List ℕ) (op : Op) (denied : Denial) → decision rows users caller op ≡ Some denied → EndsAs (trail rows users caller op) denied
ends_as_denied rows users caller op denied is = rw is at (trail_ends rows users caller op)

pub granted_where_undenied : (rows : List Row) (users : Users) (caller : List ℕ) (op : Op) → decision rows users caller op ≡ None → are_granted (trail rows users caller op) ≡ true
granted_where_undenied rows users caller op is = rw is at (trail_ends rows users caller op)

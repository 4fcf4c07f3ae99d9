-- Needs that are met, one behind the other, deny nobody.
use Rattle.std.proofs.Common.{◌≡◌, ℕ, Bool, true, false, ◌&&◌, List, [], ◌∷◌, ◌++◌, cond, Option, Some, None, map, refl, ap, ◌∙◌}
use Rattle.std.specs.Prelude.{filter}
use Rattle.std.specs.List.{flat_map, list_all}
use Rattle.std.specs.Option.{option_or, option_to_list}
use Rattle.hdfs_types.specs.declared.op.Op.{Op}
use Rattle.refusals.specs.declared.refusal.Refusal.{Refusal}
use Rattle.principals.specs.Users.{Users, Caller}
use Rattle.namespace_rows.specs.declared.row.Row.{Row}
use Rattle.namespace_rows.specs.First.{first_answer}
use Rattle.namespace_rows.specs.Rows.{owner_above}
use Rattle.namespace_rows.proofs.Tests.{and}
use Rattle.required_rights.specs.declared.need.Need.{Need}
use Rattle.required_rights.specs.RequiredRights.{Demand}
use Rattle.flat_rows.specs.Denial.{Denial, denial_at, need_decided}
use Rattle.flat_rows.specs.Decision.{Ask, ask_at, asks_of, denial_among, denial_of, decision}
use Rattle.flat_rows.specs.Facts.{Facts}
use Rattle.flat_rows.specs.Outcome.{denied_or_outcome, first_refusal, refused_or_done, step}
use Rattle.flat_rows.specs.Verdicts.{is_denied}
use Rattle.permission_laws.proofs.Deciding.{meets}
use Rattle.permission_laws.proofs.Stops.{Each, stands}

-- ---- from the decision to the verdict

module _ (facts : Facts) (rows : List Row) (users : Users) (name : List ℕ) (what : Op) where
  pub let_in : decision rows users name what ≡ None → is_denied (step facts rows users name what).verdict ≡ false
  let_in h = ap (λ d. is_denied (denied_or_outcome facts rows users name what d).verdict) h ∙ by (first_refusal facts name what rows users)
    where
      by : (o : Option Refusal) → is_denied (refused_or_done facts rows users name what o).verdict ≡ false
      by None = refl
      by (Some refusal) = refl

  pub allowed : is_denied (step facts rows users name what).verdict ≡ false → decision rows users name what ≡ None
  allowed h = by (decision rows users name what) h
    where
      by : (d : Option Denial) → is_denied (denied_or_outcome facts rows users name what d).verdict ≡ false → d ≡ None
      by None k = refl
      by (Some denial) k = cc

-- ---- needs

module _ (caller : Caller) (rows : List Row) where
  abbrev pub Passes : List Ask → Type 0
  Passes asks = first_answer (denial_of caller) asks ≡ None

  met_passes : (ask : Ask) → meets caller ask.need ask.above ask.row ≡ true → denial_of caller ask ≡ None
  met_passes ask h = by caller.is_superuser
    where
      there : Denial
      there = record { need = ask.need; by = (need_decided ask.need ask.row ask.above caller.name caller.groups).by; row = ask.row; caller = caller.name; groups = caller.groups }

      by : (b : Bool) → cond b None (denial_at ask.need ask.row ask.above caller.name caller.groups) ≡ None
      by true = refl
      by false = ap (λ g. cond g None (Some there)) h

  joined : (xs ys : List Ask) → Passes xs → Passes ys → Passes (xs ++ ys)
  joined [] ys h k = k
  joined (x ∷ xs) ys h k = by (denial_of caller x) h (λ rest. joined xs ys rest k)
    where
      by : (o : Option Denial) → option_or o (first_answer (denial_of caller) xs) ≡ None → (Passes xs → Passes (xs ++ ys)) → option_or o (first_answer (denial_of caller) (xs ++ ys)) ≡ None
      by None here rest = rest here
      by (Some denial) here rest = cc

  abbrev pub PassesAt : Need → List Row → Type 0
  PassesAt need some = Passes (map (ask_at rows need) some)

  pub each_passes : (need : Need) (some : List Row) → list_all (λ row. meets caller need (owner_above row rows) row) some ≡ true → PassesAt need some
  each_passes need [] h = refl
  each_passes need (row ∷ some) h = by (meets caller need (owner_above row rows) row) refl h (each_passes need some)
    where
      by : (b : Bool) → meets caller need (owner_above row rows) row ≡ b → (b && list_all (λ r. meets caller need (owner_above r rows) r) some) ≡ true
          → (list_all (λ r. meets caller need (owner_above r rows) r) some ≡ true → PassesAt need some) → PassesAt need (row ∷ some)
      by true here others rest = ap (λ o. option_or o (first_answer (denial_of caller) (map (ask_at rows need) some))) (met_passes (ask_at rows need row) here) ∙ rest others
      by false here others rest = cc

  -- at the one component that there may be
  pub one_passes : (need : Need) (there : Option Row) → ((row : Row) → there ≡ Some row → meets caller need (owner_above row rows) row ≡ true) → PassesAt need (option_to_list there)
  one_passes need None h = refl
  one_passes need (Some row) h = each_passes need (row ∷ []) (and _ _ (h row refl) refl)

  -- where a condition holds
  pub where_passes : (holds : Bool) (need : Need) (some : List Row) → (holds ≡ true → PassesAt need some) → PassesAt need (cond holds some [])
  where_passes true need some h = h refl
  where_passes false need some h = refl

  pub demand_passes : (demand : Demand) (demands : List Demand) → Passes (asks_of rows demand) → denial_among rows caller demands ≡ None → denial_among rows caller (demand ∷ demands) ≡ None
  demand_passes demand demands h k = joined (asks_of rows demand) (flat_map (asks_of rows) demands) h k

-- ---- rows that pass a filter stand at their paths

pub all_standing : (p q : Row → Bool) (all some : List Row) → Each (stands all) some → ((row : Row) → stands all row → q row ≡ true → p row ≡ true) → list_all p (filter q some) ≡ true
all_standing p q all [] e h = refl
all_standing p q all (row ∷ some) e h = by (q row) refl (all_standing p q all some e.1 h)
  where
    by : (b : Bool) → q row ≡ b → list_all p (filter q some) ≡ true → list_all p (cond b (row ∷ filter q some) (filter q some)) ≡ true
    by true k rest = and _ _ (h row e.0 k) rest
    by false k rest = rest

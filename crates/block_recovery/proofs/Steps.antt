-- What one call leaves of each plan.
use Rattle.std.proofs.Common.{◌≡◌, ◌≤◌, ℕ, max, Bool, true, false, ◌||◌, ◌&&◌, not, List, [], ◌∷◌, fold, Option, Some, None, unwrap_or, refl, sym, ap, ◌∙◌, cond, subst, arith, true≢false}
use Rattle.std.proofs.lemmas.Bool.{le-leb}
use Rattle.std.specs.BTreeMap.{insert_entry}
use Rattle.std.specs.List.{list_any, reduce}
use Rattle.std.specs.Map.{keys_of}
use Rattle.std.specs.Option.{is_some, option_map}
use Rattle.std.specs.Ordering.{nat_cmp}
use Rattle.block_records.specs.Numbers.{is_number, has_number, entry_at}
use Rattle.block_records.proofs.Numbers.{number_is}
use Rattle.block_recovery.specs.Laws.{AreRight, IsRight, Extends, Call, Begin, Reply, Decide, Updated, refusal, plans_left_by}
use Rattle.block_recovery.specs.Plans.{plans_of, plan_at, newest, with_entry_changed, with_plan_changed, with_plan_begun, new_plan, refused_after, refused_begin, refused_reply, refused_decide, refused_updated, with_answer, with_decision, with_updated, takes_part, refused_without}
use Rattle.block_recovery.specs.declared.answer.Answer.{Answer}
use Rattle.block_recovery.specs.declared.decision.Decision.{Decision}
use Rattle.recovery_updates.specs.declared.fault.PlanRefusal.{PlanRefusal}
use Rattle.recovery_updates.specs.declared.fault.PlanRefusal.TheVariants.{AlreadyBegun, Stranger}
use Rattle.block_recovery.specs.declared.plan.Plan.{Plan}
use Rattle.block_answers.specs.declared.commands.Recover.{Recover}
use Rattle.block_recovery.proofs.Lookups.{lookup_inserted, lookup_altered, inserted_ascending, has_inserted}
use Rattle.block_recovery.proofs.Tables.{has_entry}

none_some : {X : Type 0} {A : Type 0} (x : X) → None ≡ Some x → A
none_some x e = cc

some_none : {X : Type 0} {A : Type 0} (x : X) → Some x ≡ None → A
some_none x e = cc

-- ---- where the other plans are

-- the plan that is changed, and each other as before
pub plan_changed : (change : Plan → Plan) (block stamp b s : ℕ) (plans : List (ℕ × List (ℕ × Plan)))
    → plan_at b s (with_plan_changed change block stamp plans) ≡ cond (is_number block b && is_number stamp s) (option_map change (plan_at b s plans)) (plan_at b s plans)
plan_changed change block stamp b s plans =
    ap (λ o. entry_at s (unwrap_or o [])) (lookup_altered (with_entry_changed change stamp) block b plans) ∙ by (is_number block b) (entry_at b plans)
  where
    nowhere : (d : Bool) → None ≡ cond d (option_map change None) None
    nowhere true = refl
    nowhere false = refl

    by : (d : Bool) (found : Option (List (ℕ × Plan)))
        → entry_at s (unwrap_or (cond d (option_map (with_entry_changed change stamp) found) found) []) ≡ cond (d && is_number stamp s) (option_map change (entry_at s (unwrap_or found []))) (entry_at s (unwrap_or found []))
    by true None = nowhere (is_number stamp s)
    by true (Some own) = lookup_altered change stamp s own
    by false None = refl
    by false (Some own) = refl

-- the plan that is begun, and each other as before
pub plan_begun : (recover : Recover) (b s : ℕ) (plans : List (ℕ × List (ℕ × Plan)))
    → plan_at b s (with_plan_begun recover plans) ≡ cond (is_number b recover.block && is_number s recover.stamp) (Some (new_plan recover)) (plan_at b s plans)
plan_begun recover b s plans =
    ap (λ o. entry_at s (unwrap_or o [])) (lookup_inserted recover.block b (insert_entry nat_cmp (plans_of recover.block plans) recover.stamp (new_plan recover)) plans) ∙ by (is_number b recover.block) refl
  where
    by : (d : Bool) → is_number b recover.block ≡ d
        → entry_at s (unwrap_or (cond d (Some (insert_entry nat_cmp (plans_of recover.block plans) recover.stamp (new_plan recover))) (entry_at b plans)) [])
        ≡ cond (d && is_number s recover.stamp) (Some (new_plan recover)) (plan_at b s plans)
    by true at = lookup_inserted recover.stamp s (new_plan recover) (plans_of recover.block plans) ∙ ap (λ n. cond (is_number s recover.stamp) (Some (new_plan recover)) (plan_at n s plans)) (sym (number_is b recover.block at))
    by false at = refl

-- ---- what is refused

-- of two tests each would refuse
clear : (a b : Bool) (r s : PlanRefusal) → cond a (Some r) (cond b (Some s) None) ≡ None → (a ≡ false) × (b ≡ false)
clear true b r s h = some_none r h
clear false true r s h = some_none s h
clear false false r s h = (refl, refl)

clear_part : (a b : Bool) (r s : PlanRefusal) → cond a (Some r) (cond b None (Some s)) ≡ None → (a ≡ false) × (b ≡ true)
clear_part true b r s h = some_none r h
clear_part false true r s h = (refl, refl)
clear_part false false r s h = some_none s h

neither : (a b : Bool) → (a || not b) ≡ false → (a ≡ false) × (b ≡ true)
neither true b h = absurd (true≢false h)
neither false true h = (refl, refl)
neither false false h = absurd (true≢false h)

-- a node that may answer hasn't, the plan isn't decided, and the node was asked
pub record MayAnswer (node : ℕ) (plan : Plan) : Type 0 where
  pub silent : is_some (entry_at node plan.answers) ≡ false
  pub waits : is_some plan.decision ≡ false
  pub asked : has_number node plan.nodes ≡ true

may_answer : (node : ℕ) (plan : Plan) → refused_reply node (Some plan) ≡ None → MayAnswer node plan
may_answer node plan h =
    let first = clear (is_some (entry_at node plan.answers)) (is_some plan.decision || not (has_number node plan.nodes)) _ _ h in
    let second = neither (is_some plan.decision) (has_number node plan.nodes) first.1 in
    record { silent = first.0; waits = second.0; asked = second.1 }

undecided : (plan : Plan) → refused_decide (Some plan) ≡ None → is_some plan.decision ≡ false
undecided plan h = by (is_some plan.decision) h
  where
    by : (b : Bool) → cond b (Some Stranger) (refused_without plan.answers) ≡ None → b ≡ false
    by true h = some_none Stranger h
    by false h = refl

-- ---- what stays of a plan

pub extends_itself : (plan : Plan) → Extends plan plan
extends_itself plan = record { nodes = refl; token = refl; answers = λ node own found. found; closed = λ h. refl; decision = λ decision is. is; updated = λ node h. h }

answer_extends : (node : ℕ) (answer : Answer) (plan : Plan) → refused_reply node (Some plan) ≡ None → Extends plan (with_answer node answer plan)
answer_extends node answer plan h =
    let may = may_answer node plan h in
    record {
      nodes = refl;
      token = refl;
      answers = λ n own found. lookup_inserted node n answer plan.answers ∙ by may.silent n own found (is_number n node) refl;
      closed = λ decided. absurd (true≢false (sym decided ∙ may.waits));
      decision = λ decision is. is;
      updated = λ n h. h;
    }
  where
    by : is_some (entry_at node plan.answers) ≡ false → (n : ℕ) (own : Answer) → entry_at n plan.answers ≡ Some own → (b : Bool) → is_number n node ≡ b → cond b (Some answer) (entry_at n plan.answers) ≡ Some own
    by silent n own found true at = absurd (true≢false (sym (ap is_some found) ∙ (ap (λ m. is_some (entry_at m plan.answers)) (number_is n node at) ∙ silent)))
    by silent n own found false at = found

decision_extends : (plan : Plan) → refused_decide (Some plan) ≡ None → Extends plan (with_decision plan)
decision_extends plan h = record {
  nodes = refl;
  token = refl;
  answers = λ node own found. found;
  closed = λ decided. refl;
  decision = λ decision is. absurd (true≢false (sym (ap is_some is) ∙ undecided plan h));
  updated = λ node h. h;
}

or_right : (x y : Bool) → y ≡ true → (x || y) ≡ true
or_right true y h = refl
or_right false y h = h

updated_extends : (node : ℕ) (plan : Plan) → Extends plan (with_updated node plan)
updated_extends node plan = record {
  nodes = refl;
  token = refl;
  answers = λ node own found. found;
  closed = λ decided. refl;
  decision = λ decision is. is;
  updated = λ n h. has_inserted node n plan.updated ∙ or_right (is_number n node) (list_any (is_number n) plan.updated) h;
}

-- ---- what is right of a plan

begun_right : (recover : Recover) → IsRight (new_plan recover)
unfolding Rattle.std.specs.List.Sorted.IsStrictlySortedBy
begun_right recover = record {
  by_node = tt;
  asked = λ node h. absurd (true≢false (sym h));
  decided = λ decision is. none_some decision is;
  noted = λ node h. absurd (true≢false (sym h));
}

answer_right : (node : ℕ) (answer : Answer) (plan : Plan) → refused_reply node (Some plan) ≡ None → IsRight plan → IsRight (with_answer node answer plan)
answer_right node answer plan h right =
    let may = may_answer node plan h in
    record {
      by_node = inserted_ascending node answer plan.answers right.by_node;
      asked = λ n has. by may.asked n (is_number n node) refl (sym (ap is_some (lookup_inserted node n answer plan.answers)) ∙ has);
      decided = λ decision is. absurd (true≢false (sym (ap is_some is) ∙ may.waits));
      noted = right.noted;
    }
  where
    by : has_number node plan.nodes ≡ true → (n : ℕ) (b : Bool) → is_number n node ≡ b → is_some (cond b (Some answer) (entry_at n plan.answers)) ≡ true → has_number n plan.nodes ≡ true
    by asked n true at has = ap (λ m. has_number m plan.nodes) (number_is n node at) ∙ asked
    by asked n false at has = right.asked n has

decision_right : (plan : Plan) → refused_decide (Some plan) ≡ None → IsRight plan → IsRight (with_decision plan)
decision_right plan h right = record {
  by_node = right.by_node;
  asked = right.asked;
  decided = λ decision is. is;
  noted = λ node noted. absurd (true≢false (sym (right.noted node noted) ∙ by node plan.decision (undecided plan h)));
}
  where
    by : (node : ℕ) (decision : Option Decision) → is_some decision ≡ false → takes_part node decision ≡ false
    by node None h = refl
    by node (Some decision) h = absurd (true≢false h)

updated_right : (node : ℕ) (plan : Plan) → refused_updated node (Some plan) ≡ None → IsRight plan → IsRight (with_updated node plan)
updated_right node plan h right =
    let part = (clear_part (list_any (is_number node) plan.updated) (takes_part node plan.decision) _ _ h).1 in
    record {
      by_node = right.by_node;
      asked = right.asked;
      decided = right.decided;
      noted = λ n has. by part n (is_number n node) refl (sym (has_inserted node n plan.updated) ∙ has);
    }
  where
    by : takes_part node plan.decision ≡ true → (n : ℕ) (b : Bool) → is_number n node ≡ b → (b || list_any (is_number n) plan.updated) ≡ true → takes_part n plan.decision ≡ true
    by part n true at has = ap (λ m. takes_part m plan.decision) (number_is n node at) ∙ part
    by part n false at has = right.noted n has

-- ---- a plan is begun once

low : (a : ℕ) (xs : List ℕ) → a ≤ fold max a xs
low a [] = omega arith
low a (x ∷ xs) = let rest : max a x ≤ fold max (max a x) xs = low (max a x) xs in omega (arith, rest)

reaches : (q a : ℕ) (xs : List ℕ) → (is_number q a || list_any (is_number q) xs) ≡ true → q ≤ fold max a xs
reaches q a [] has = by (is_number q a) refl has
  where
    by : (b : Bool) → is_number q a ≡ b → (b || false) ≡ true → q ≤ a
    by true at h = let e : q ≡ a = number_is q a at in omega (arith, e)
    by false at h = absurd (true≢false (sym h))
reaches q a (x ∷ xs) has = by (is_number q a) refl (is_number q x) refl has (λ h. reaches q (max a x) xs (or_right (is_number q (max a x)) (list_any (is_number q) xs) h))
  where
    rest : max a x ≤ fold max (max a x) xs
    rest = low (max a x) xs

    by : (b : Bool) → is_number q a ≡ b → (d : Bool) → is_number q x ≡ d → (b || (d || list_any (is_number q) xs)) ≡ true → (list_any (is_number q) xs ≡ true → q ≤ fold max (max a x) xs) → q ≤ fold max (max a x) xs
    by true at d to h later = let e : q ≡ a = number_is q a at in omega (arith, e, rest)
    by false at true to h later = let e : q ≡ x = number_is q x to in omega (arith, e, rest)
    by false at false to h later = later h

newest_reaches : (q : ℕ) (keys : List ℕ) → list_any (is_number q) keys ≡ true → (m : ℕ) × (reduce max keys ≡ Some m) × (q ≤ m)
newest_reaches q [] has = absurd (true≢false (sym has))
newest_reaches q (x ∷ xs) has = (fold max x xs, refl, reaches q x xs has)

pub begun_once : (recover : Recover) (plans : List (ℕ × List (ℕ × Plan))) (plan : Plan) → plan_at recover.block recover.stamp plans ≡ Some plan
    → (stamp : ℕ) × (refused_begin recover plans ≡ Some (AlreadyBegun stamp)) × (recover.stamp ≤ stamp)
begun_once recover plans plan found = by (newest_reaches recover.stamp (keys_of own) (has_entry recover.stamp own ∙ ap is_some found))
  where
    own : List (ℕ × Plan)
    own = plans_of recover.block plans

    by : (m : ℕ) × (reduce max (keys_of own) ≡ Some m) × (recover.stamp ≤ m) → (stamp : ℕ) × (refused_begin recover plans ≡ Some (AlreadyBegun stamp)) × (recover.stamp ≤ stamp)
    by newest =
        (newest.0, ap (refused_after recover.stamp) newest.1 ∙ ap (λ b. cond b (Some (AlreadyBegun newest.0)) None) (le-leb recover.stamp newest.0 newest.2), newest.2)

-- where a plan may begin there is none
none_there : (recover : Recover) (plans : List (ℕ × List (ℕ × Plan))) (plan : Plan) {A : Type 0} → refused_begin recover plans ≡ None → plan_at recover.block recover.stamp plans ≡ Some plan → A
none_there recover plans plan h found = let once = begun_once recover plans plan found in some_none (AlreadyBegun once.0) (sym once.1 ∙ h)

-- ---- every plan

abbrev pub Stays : ℕ → ℕ → Plan → List (ℕ × List (ℕ × Plan)) → Type 0
Stays b s plan new = (later : Plan) × (plan_at b s new ≡ Some later) × Extends plan later

-- the plan that is changed is the one at these numbers
there : (block stamp b s : ℕ) (plans : List (ℕ × List (ℕ × Plan))) (plan : Plan) → is_number block b ≡ true → is_number stamp s ≡ true → plan_at b s plans ≡ Some plan → plan_at block stamp plans ≡ Some plan
there block stamp b s plans plan at to found = ap (λ n. plan_at n stamp plans) (number_is block b at) ∙ (ap (λ n. plan_at b n plans) (number_is stamp s to) ∙ found)

module _ (change : Plan → Plan) (block stamp : ℕ) (plans : List (ℕ × List (ℕ × Plan))) where
  changed_stay : ((plan : Plan) → plan_at block stamp plans ≡ Some plan → Extends plan (change plan)) → (b s : ℕ) (plan : Plan) → plan_at b s plans ≡ Some plan → Stays b s plan (with_plan_changed change block stamp plans)
  changed_stay extends b s plan found = by (is_number block b) refl (is_number stamp s) refl (plan_changed change block stamp b s plans)
    where
      by : (x : Bool) → is_number block b ≡ x → (y : Bool) → is_number stamp s ≡ y → plan_at b s (with_plan_changed change block stamp plans) ≡ cond (x && y) (option_map change (plan_at b s plans)) (plan_at b s plans)
          → Stays b s plan (with_plan_changed change block stamp plans)
      by true at true to is = (change plan, is ∙ ap (option_map change) found, extends plan (there block stamp b s plans plan at to found))
      by true at false to is = (plan, is ∙ found, extends_itself plan)
      by false at y to is = (plan, is ∙ found, extends_itself plan)

  changed_right : ((plan : Plan) → plan_at block stamp plans ≡ Some plan → IsRight plan → IsRight (change plan)) → AreRight plans → AreRight (with_plan_changed change block stamp plans)
  changed_right keeps right b s later found = by (is_number block b) refl (is_number stamp s) refl (plan_at b s plans) refl (sym (plan_changed change block stamp b s plans) ∙ found)
    where
      by : (x : Bool) → is_number block b ≡ x → (y : Bool) → is_number stamp s ≡ y → (old : Option Plan) → plan_at b s plans ≡ old → cond (x && y) (option_map change old) old ≡ Some later → IsRight later
      by true at true to None was is = none_some later is
      by true at true to (Some plan) was is =
          subst IsRight (ap (λ o. unwrap_or o later) is) (keeps plan (there block stamp b s plans plan at to was) (right b s plan was))
      by true at false to old was is = right b s later (was ∙ is)
      by false at y to old was is = right b s later (was ∙ is)

begun_stay : (recover : Recover) (plans : List (ℕ × List (ℕ × Plan))) → refused_begin recover plans ≡ None → (b s : ℕ) (plan : Plan) → plan_at b s plans ≡ Some plan → Stays b s plan (with_plan_begun recover plans)
begun_stay recover plans h b s plan found = by (is_number b recover.block) refl (is_number s recover.stamp) refl (plan_begun recover b s plans)
  where
    by : (x : Bool) → is_number b recover.block ≡ x → (y : Bool) → is_number s recover.stamp ≡ y → plan_at b s (with_plan_begun recover plans) ≡ cond (x && y) (Some (new_plan recover)) (plan_at b s plans)
        → Stays b s plan (with_plan_begun recover plans)
    by true at true to is =
        none_there recover plans plan h (ap (λ n. plan_at n recover.stamp plans) (sym (number_is b recover.block at)) ∙ (ap (λ n. plan_at b n plans) (sym (number_is s recover.stamp to)) ∙ found))
    by true at false to is = (plan, is ∙ found, extends_itself plan)
    by false at y to is = (plan, is ∙ found, extends_itself plan)

begun_are_right : (recover : Recover) (plans : List (ℕ × List (ℕ × Plan))) → AreRight plans → AreRight (with_plan_begun recover plans)
begun_are_right recover plans right b s later found = by (is_number b recover.block && is_number s recover.stamp) (sym (plan_begun recover b s plans) ∙ found)
  where
    by : (x : Bool) → cond x (Some (new_plan recover)) (plan_at b s plans) ≡ Some later → IsRight later
    by true is = subst IsRight (ap (λ o. unwrap_or o later) is) (begun_right recover)
    by false is = right b s later is

pub stay : (call : Call) (plans : List (ℕ × List (ℕ × Plan))) (b s : ℕ) (plan : Plan) → refusal call plans ≡ None → plan_at b s plans ≡ Some plan → Stays b s plan (plans_left_by call plans)
stay (Begin recover) plans b s plan h found = begun_stay recover plans h b s plan found
stay (Reply block stamp node answer) plans b s plan h found =
    changed_stay (with_answer node answer) block stamp plans (λ own is. answer_extends node answer own (sym (ap (refused_reply node) is) ∙ h)) b s plan found
stay (Decide block stamp) plans b s plan h found = changed_stay with_decision block stamp plans (λ own is. decision_extends own (sym (ap refused_decide is) ∙ h)) b s plan found
stay (Updated block stamp node) plans b s plan h found = changed_stay (with_updated node) block stamp plans (λ own is. updated_extends node own) b s plan found

pub stay_right : (call : Call) (plans : List (ℕ × List (ℕ × Plan))) → refusal call plans ≡ None → AreRight plans → AreRight (plans_left_by call plans)
stay_right (Begin recover) plans h right = begun_are_right recover plans right
stay_right (Reply block stamp node answer) plans h right =
    changed_right (with_answer node answer) block stamp plans (λ own is. answer_right node answer own (sym (ap (refused_reply node) is) ∙ h)) right
stay_right (Decide block stamp) plans h right = changed_right with_decision block stamp plans (λ own is. decision_right own (sym (ap refused_decide is) ∙ h)) right
stay_right (Updated block stamp node) plans h right = changed_right (with_updated node) block stamp plans (λ own is. updated_right node own (sym (ap (refused_updated node) is) ∙ h)) right

pub none_right : AreRight []
none_right block stamp plan is = none_some plan is

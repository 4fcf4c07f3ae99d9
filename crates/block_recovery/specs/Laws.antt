-- Laws about plans, which follow from their definitions.
use Rattle.std.specs.Prelude.{◌≡◌, ℕ, ◌≤◌, true, List, [], Option, Some, None, is_some}
use Rattle.std.specs.List.{list_any}
use Rattle.std.specs.List.Sorted.{IsStrictlySortedBy}
use Rattle.std.specs.Map.{keys_of}
use Rattle.std.specs.Ordering.{nat_cmp}
use Rattle.block_records.specs.Numbers.{is_number, has_number, entry_at}
use Rattle.block_recovery.specs.Decision.{decision_of}
use Rattle.block_recovery.specs.Plans.{PlanTable, plan_at, with_plan_changed, refused_begin, with_plan_begun, refused_reply, with_answer, refused_decide, with_decision, refused_updated, with_updated, takes_part}
use Rattle.block_recovery.specs.declared.answer.Answer.{Answer}
use Rattle.block_recovery.specs.declared.decision.Decision.{Decision}
use Rattle.recovery_updates.specs.declared.fault.PlanRefusal.{PlanRefusal}
use Rattle.recovery_updates.specs.declared.fault.PlanRefusal.TheVariants.{AlreadyBegun}
use Rattle.block_recovery.specs.declared.plan.Plan.{Plan}
use Rattle.block_answers.specs.declared.commands.Recover.{Recover}

-- ---- what a decision keeps

-- each node that has answered stands once, by its id
abbrev pub AreByNode : List (ℕ × Answer) → Type 0
AreByNode answers = IsStrictlySortedBy nat_cmp (keys_of answers)

-- how many bytes each replica holds that was answered, the decided length has too
abbrev pub NoSharedByteIsLost : Type 0
NoSharedByteIsLost = (answers : List (ℕ × Answer)) (decision : Decision) (bytes : ℕ) → AreByNode answers → decision_of answers ≡ Some decision
    → ((node : ℕ) (own : Answer) → entry_at node answers ≡ Some own → bytes ≤ own.length) → bytes ≤ decision.length

-- each node that takes part has answered that it holds so many bytes
abbrev pub ParticipantsHoldTheLength : Type 0
ParticipantsHoldTheLength = (answers : List (ℕ × Answer)) (decision : Decision) (node : ℕ) → AreByNode answers → decision_of answers ≡ Some decision
    → has_number node decision.nodes ≡ true → (own : Answer) × (entry_at node answers ≡ Some own) × (decision.length ≤ own.length)

-- each finalized replica takes part
abbrev pub FinalizedTakePart : Type 0
FinalizedTakePart = (answers : List (ℕ × Answer)) (decision : Decision) (node : ℕ) (own : Answer) → AreByNode answers → decision_of answers ≡ Some decision
    → entry_at node answers ≡ Some own → own.finalized ≡ true → has_number node decision.nodes ≡ true

-- the decision hangs on what each node has answered, and not on the order in which the answers came
abbrev pub OrderIsFree : Type 0
OrderIsFree = (answers others : List (ℕ × Answer)) → AreByNode answers → AreByNode others → ((node : ℕ) → entry_at node answers ≡ entry_at node others) → decision_of answers ≡ decision_of others

-- ---- one call

-- a call that may change the plans; a commit changes none
pub data Call : Type 0 where
  Begin : Recover → Call
  Reply : (block stamp node : ℕ) → Answer → Call
  Decide : (block stamp : ℕ) → Call
  Updated : (block stamp node : ℕ) → Call

abbrev pub refusal : Call → PlanTable → Option PlanRefusal
refusal (Begin recover) plans = refused_begin recover plans
refusal (Reply block stamp node answer) plans = refused_reply node (plan_at block stamp plans)
refusal (Decide block stamp) plans = refused_decide (plan_at block stamp plans)
refusal (Updated block stamp node) plans = refused_updated node (plan_at block stamp plans)

-- what the call leaves where nothing refuses it
abbrev pub plans_left_by : Call → PlanTable → PlanTable
plans_left_by (Begin recover) plans = with_plan_begun recover plans
plans_left_by (Reply block stamp node answer) plans = with_plan_changed (with_answer node answer) block stamp plans
plans_left_by (Decide block stamp) plans = with_plan_changed with_decision block stamp plans
plans_left_by (Updated block stamp node) plans = with_plan_changed (with_updated node) block stamp plans

-- ---- plans stay

-- what was asked, answered, decided and noted is so later too; behind the decision there are no more answers
pub record Extends (plan later : Plan) : Type 0 where
  pub nodes : later.nodes ≡ plan.nodes
  pub token : later.token ≡ plan.token
  pub answers : (node : ℕ) (own : Answer) → entry_at node plan.answers ≡ Some own → entry_at node later.answers ≡ Some own
  pub closed : is_some plan.decision ≡ true → later.answers ≡ plan.answers
  pub decision : (decision : Decision) → plan.decision ≡ Some decision → later.decision ≡ Some decision
  pub updated : (node : ℕ) → list_any (is_number node) plan.updated ≡ true → list_any (is_number node) later.updated ≡ true

abbrev pub CallsKeepPlans : Type 0
CallsKeepPlans = (call : Call) (plans : PlanTable) (block stamp : ℕ) (plan : Plan) → refusal call plans ≡ None → plan_at block stamp plans ≡ Some plan
    → (later : Plan) × (plan_at block stamp (plans_left_by call plans) ≡ Some later) × Extends plan later

-- where a plan of the block with that stamp was begun, no other is: it is refused, and told a stamp that isn't lower
abbrev pub PlansBeginOnce : Type 0
PlansBeginOnce = (recover : Recover) (plans : PlanTable) (plan : Plan) → plan_at recover.block recover.stamp plans ≡ Some plan
    → (stamp : ℕ) × (refused_begin recover plans ≡ Some (AlreadyBegun stamp)) × (recover.stamp ≤ stamp)

-- ---- plans are right

-- the answers are of nodes that were asked, the decision is the one of these answers, and the nodes that were noted take part
pub record IsRight (plan : Plan) : Type 0 where
  pub by_node : AreByNode plan.answers
  pub asked : (node : ℕ) → is_some (entry_at node plan.answers) ≡ true → has_number node plan.nodes ≡ true
  pub decided : (decision : Decision) → plan.decision ≡ Some decision → decision_of plan.answers ≡ Some decision
  pub noted : (node : ℕ) → list_any (is_number node) plan.updated ≡ true → takes_part node plan.decision ≡ true

abbrev pub AreRight : PlanTable → Type 0
AreRight plans = (block stamp : ℕ) (plan : Plan) → plan_at block stamp plans ≡ Some plan → IsRight plan

-- no plan is there at first, and each call leaves plans that are right
abbrev pub CallsLeavePlansRight : Type 0
CallsLeavePlansRight = AreRight [] × ((call : Call) (plans : PlanTable) → refusal call plans ≡ None → AreRight plans → AreRight (plans_left_by call plans))

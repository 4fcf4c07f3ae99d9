-- The plans that one DataNode has begun to recover blocks: which calls on them are refused, and what the others leave of them.
-- (HDFS-265, "Block recovery"; that a recovery with a newer stamp takes the place of an older one is the NameNode's rule there. The refusals
-- are this project's own.)
use Rattle.std.specs.Prelude.{◌≡◌, ℕ, max, Bool, false, ◌||◌, not, nat_le, List, [], ◌∷◌, if◌then◌else◌, Option, Some, None, is_some, unwrap_or, option_map}
use Rattle.std.specs.BTreeMap.{insert_entry}
use Rattle.std.specs.BTreeSet.{insert_key}
use Rattle.std.specs.List.{list_any, reduce}
use Rattle.std.specs.Map.{keys_of, set_value}
use Rattle.std.specs.Ordering.{nat_cmp}
use Rattle.block_records.specs.Numbers.{is_number, has_number, entry_at}
use Rattle.block_recovery.specs.Decision.{decision_of}
use Rattle.block_recovery.specs.declared.answer.Answer.{Answer}
use Rattle.block_recovery.specs.declared.decision.Commit.{Commit}
use Rattle.block_recovery.specs.declared.decision.Decision.{Decision}
use Rattle.recovery_updates.specs.declared.fault.PlanFault.{PlanFault}
use Rattle.recovery_updates.specs.declared.fault.PlanFault.TheVariants.{Refused, OutOfMemory}
use Rattle.recovery_updates.specs.declared.fault.PlanRefusal.{PlanRefusal}
use Rattle.recovery_updates.specs.declared.fault.PlanRefusal.TheVariants.{AlreadyBegun, Stranger, Doubled, NoReplicaAnswered}
use Rattle.block_recovery.specs.declared.plan.Plan.{Plan}
use Rattle.block_answers.specs.declared.commands.Recover.{Recover}

-- a call that is refused says why; out of memory may come in the place of any other answer
abbrev pub IsPlanFaultOf : Option PlanRefusal → PlanFault → Type 0
IsPlanFaultOf refusal (Refused own) = refusal ≡ Some own
IsPlanFaultOf refusal OutOfMemory = Unit {0}

-- ---- all plans

-- of each block the plans that were begun, by their stamps
abbrev pub PlanTable : Type 0
PlanTable = List (ℕ × List (ℕ × Plan))

abbrev pub plans_of : ℕ → PlanTable → List (ℕ × Plan)
plans_of block plans = unwrap_or (entry_at block plans) []

abbrev pub plan_at : ℕ → ℕ → PlanTable → Option Plan
plan_at block stamp plans = entry_at stamp (plans_of block plans)

-- the greatest stamp of some plans
abbrev pub newest : List (ℕ × Plan) → Option ℕ
newest plans = reduce max (keys_of plans)

abbrev pub with_plan : ℕ → ℕ → Plan → PlanTable → PlanTable
with_plan block stamp plan plans = insert_entry nat_cmp plans block (insert_entry nat_cmp (plans_of block plans) stamp plan)

-- a table with a change of what it has at a number, if anything
abbrev pub altered_by : {X : Type 0} → (X → X) → ℕ → Option X → List (ℕ × X) → List (ℕ × X)
altered_by change number None table = table
altered_by change number (Some own) table = set_value (is_number number) table (change own)

abbrev pub with_entry_changed : {X : Type 0} → (X → X) → ℕ → List (ℕ × X) → List (ℕ × X)
with_entry_changed change number table = altered_by change number (entry_at number table) table

-- one plan is changed, and no other
abbrev pub with_plan_changed : (Plan → Plan) → ℕ → ℕ → PlanTable → PlanTable
with_plan_changed change block stamp plans = with_entry_changed (with_entry_changed change stamp) block plans

-- ---- begin

-- a plan of the block with this stamp or a greater one was begun: the greatest is told
abbrev pub refused_after : ℕ → Option ℕ → Option PlanRefusal
refused_after stamp None = None
refused_after stamp (Some begun) = if nat_le stamp begun then Some (AlreadyBegun begun) else None

abbrev pub refused_begin : Recover → PlanTable → Option PlanRefusal
refused_begin recover plans = refused_after recover.stamp (newest (plans_of recover.block plans))

-- nobody has answered yet
abbrev pub new_plan : Recover → Plan
new_plan recover = record { nodes = recover.nodes; token = recover.token; answers = []; decision = None; updated = [] }

abbrev pub with_plan_begun : Recover → PlanTable → PlanTable
with_plan_begun recover plans = with_plan recover.block recover.stamp (new_plan recover) plans

-- ---- reply

-- a node answers once, and no other node than those that were asked, before the decision
abbrev pub refused_reply : ℕ → Option Plan → Option PlanRefusal
refused_reply node None = Some Stranger
refused_reply node (Some plan) =
    if is_some (entry_at node plan.answers) then Some Doubled
    else (if is_some plan.decision || not (has_number node plan.nodes) then Some Stranger else None)

abbrev pub with_answer : ℕ → Answer → Plan → Plan
with_answer node answer plan = record plan { answers = insert_entry nat_cmp plan.answers node answer }

-- ---- decide

abbrev pub refused_without : {X : Type 0} → List X → Option PlanRefusal
refused_without [] = Some NoReplicaAnswered
refused_without (one ∷ more) = None

-- a plan is decided once, and by some answer
abbrev pub refused_decide : Option Plan → Option PlanRefusal
refused_decide None = Some Stranger
refused_decide (Some plan) = if is_some plan.decision then Some Stranger else refused_without plan.answers

abbrev pub decision_for : Plan → Option Decision
decision_for plan = decision_of plan.answers

abbrev pub with_decision : Plan → Plan
with_decision plan = record plan { decision = decision_for plan }

-- ---- updated

abbrev pub takes_part : ℕ → Option Decision → Bool
takes_part node None = false
takes_part node (Some decision) = has_number node decision.nodes

-- a node is noted once, and no other node than those that take part
abbrev pub refused_updated : ℕ → Option Plan → Option PlanRefusal
refused_updated node None = Some Stranger
refused_updated node (Some plan) =
    if list_any (is_number node) plan.updated then Some Doubled else (if takes_part node plan.decision then None else Some Stranger)

abbrev pub with_updated : ℕ → Plan → Plan
with_updated node plan = record plan { updated = insert_key nat_cmp plan.updated node }

-- ---- commit

-- a plan is committed once it is decided and some node was noted, as often as is asked
abbrev pub refused_plan_commit : Option Plan → Option PlanRefusal
refused_plan_commit None = Some Stranger
refused_plan_commit (Some plan) = if is_some plan.decision then refused_without plan.updated else Some Stranger

-- the decided length, with the nodes that were noted
abbrev pub commit_of : Plan → Option Commit
commit_of plan = option_map (λ (decision : Decision). record { length = decision.length; nodes = plan.updated }) plan.decision

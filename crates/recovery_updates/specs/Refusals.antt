-- The texts of why a plan doesn't do what it is asked to do: the code, the name, and what is told with it.
use Rattle.std.specs.Prelude.{ℕ, List, ◌++◌, codes}
use Rattle.std.specs.Fmt.{decimal}
use Rattle.recovery_updates.specs.declared.fault.PlanRefusal.{PlanRefusal}
use Rattle.recovery_updates.specs.declared.fault.PlanRefusal.TheVariants.{AlreadyBegun, Stranger, Doubled, NoReplicaAnswered}

abbrev pub plan_refusal_text : PlanRefusal → List ℕ
plan_refusal_text (AlreadyBegun stamp) = codes "P1 AlreadyBegun " ++ decimal stamp
plan_refusal_text Stranger = codes "P2 Stranger"
plan_refusal_text Doubled = codes "P3 Doubled"
plan_refusal_text NoReplicaAnswered = codes "P4 NoReplicaAnswered"

-- To which length the replicas of a block are cut by a recovery, and which DataNodes take part.
-- (HDFS-265, "Block recovery": the replicas that take part are brought to one length that each of them holds, and where some are finalized,
-- these decide it. HDFS weighs the stamps of the replicas too; here they play no part.)
use Rattle.std.specs.Prelude.{ℕ, min, Bool, ◌||◌, nat_le, List, map, filter, Option, Some, None}
use Rattle.std.specs.List.{reduce}
use Rattle.std.specs.Map.{keys_of, values_of}
use Rattle.block_recovery.specs.declared.answer.Answer.{Answer}
use Rattle.block_recovery.specs.declared.decision.Decision.{Decision}

-- Answers are by node: each node that has answered stands once, whatever the order of the answers was.

-- the least length of some replicas; none where there is none of them
abbrev pub least_of : List Answer → Option ℕ
least_of answers = reduce min (map (λ own. own.length) answers)

abbrev pub finalized_of : List Answer → List Answer
finalized_of answers = filter (λ own. own.finalized) answers

abbrev pub all_nodes : List (ℕ × Answer) → List ℕ
all_nodes answers = keys_of answers

-- a replica that is finalized, or is written and holds at least that many bytes
abbrev pub suits : ℕ → Answer → Bool
suits length own = own.finalized || nat_le length own.length

abbrev pub suiting_nodes : ℕ → List (ℕ × Answer) → List ℕ
suiting_nodes length answers = keys_of (filter (λ own. suits length own.1) answers)

-- Where there is a least finalized length, it is the length, and the nodes take part whose replica suits it. Else the length is the least
-- of all, and all take part that have answered.
abbrev pub decision_by : List (ℕ × Answer) → Option ℕ → Option ℕ → Option Decision
decision_by answers (Some length) least = Some (record { length = length; nodes = suiting_nodes length answers })
decision_by answers None (Some length) = Some (record { length = length; nodes = all_nodes answers })
decision_by answers None None = None

-- what the answers decide; nothing where there is none
abbrev pub decision_of : List (ℕ × Answer) → Option Decision
decision_of answers = decision_by answers (least_of (finalized_of (values_of answers))) (least_of (values_of answers))

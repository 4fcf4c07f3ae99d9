-- Laws of which DataNodes get the replicas of a block and which one leads its recovery. They follow from the rules, so a slip in the rules that breaks one is
-- refused, also where code and rule have it together.
-- (HDFS Architecture, "Data Replication"; that the node that was heard of last leads is HDFS-265.)
use Rattle.std.specs.Prelude.{◌≡◌, ℕ, ◌≤◌, ◌==◌, Bool, true, false, ◌&&◌, not, nat_lt, List, [], ◌∷◌, length, Some}
use Rattle.std.specs.List.{list_any}
use Rattle.std.specs.Option.{is_some}
use Rattle.block_placement.specs.Placement.{targets}
use Rattle.heartbeats.specs.Live.{Heartbeats, is_live, last_heard, primary_of}

abbrev pub is_one_of : ℕ → List ℕ → Bool
is_one_of node nodes = list_any (λ own. own == node) nodes

abbrev pub are_distinct : List ℕ → Bool
are_distinct [] = true
are_distinct (node ∷ nodes) = not (is_one_of node nodes) && are_distinct nodes

-- ---- targets

abbrev pub TargetsAreAmongTheNodes : Type 0
TargetsAreAmongTheNodes = (load : ℕ → ℕ) (count : ℕ) (nodes : List ℕ) (node : ℕ) → is_one_of node (targets load count nodes) ≡ true → is_one_of node nodes ≡ true

-- nobody is left out who has fewer blocks than one who is chosen
abbrev pub TheLeastLoadedAreChosen : Type 0
TheLeastLoadedAreChosen = (load : ℕ → ℕ) (count : ℕ) (nodes : List ℕ) (chosen other : ℕ)
    → is_one_of chosen (targets load count nodes) ≡ true → is_one_of other nodes ≡ true → is_one_of other (targets load count nodes) ≡ false → nat_lt (load other) (load chosen) ≡ false

-- of DataNodes that are named once each no more are chosen than are asked for
abbrev pub NoMoreAreChosenThanAsked : Type 0
NoMoreAreChosenThanAsked = (load : ℕ → ℕ) (count : ℕ) (nodes : List ℕ) → are_distinct nodes ≡ true → length (targets load count nodes) ≤ count

-- and all where there are no more
abbrev pub AllAreChosenOfFew : Type 0
AllAreChosenOfFew = (load : ℕ → ℕ) (count : ℕ) (nodes : List ℕ) → length nodes ≤ count → targets load count nodes ≡ nodes

-- ---- the node that leads

abbrev pub LeadersAreLive : Type 0
LeadersAreLive = (nodes : Heartbeats) (now node : ℕ) (some : List ℕ) → primary_of nodes now some ≡ Some node → (is_live nodes now node ≡ true) × (is_one_of node some ≡ true)

abbrev pub NobodyLiveWasHeardLater : Type 0
NobodyLiveWasHeardLater = (nodes : Heartbeats) (now node other : ℕ) (some : List ℕ)
    → primary_of nodes now some ≡ Some node → is_one_of other some ≡ true → is_live nodes now other ≡ true → nat_lt (last_heard nodes node) (last_heard nodes other) ≡ false

-- where one of them is live, one leads
abbrev pub SomebodyLeads : Type 0
SomebodyLeads = (nodes : Heartbeats) (now other : ℕ) (some : List ℕ) → is_one_of other some ≡ true → is_live nodes now other ≡ true → is_some (primary_of nodes now some) ≡ true

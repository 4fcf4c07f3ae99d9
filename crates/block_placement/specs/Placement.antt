-- Which nodes are to hold a new block or a copy: those that have the fewest blocks.
-- (HDFS Architecture, "Data Replication"; the rule is this project's own.)
use Rattle.std.specs.Prelude.{ℕ, ◌==◌, Bool, true, ◌&&◌, ◌||◌, not, nat_lt, List, filter, Option, Some, None}
use Rattle.std.specs.List.{count_by}
use Rattle.block_placement.specs.declared.candidate.Candidate.{Candidate}

-- a node has fewer blocks than another, or as many and a lower id
abbrev pub is_ahead : (ℕ → ℕ) → ℕ → ℕ → Bool
is_ahead load node other = nat_lt (load node) (load other) || ((load node == load other) && nat_lt node other)

-- how many of these nodes are ahead of a node
abbrev pub rank : (ℕ → ℕ) → List ℕ → ℕ → ℕ
rank load nodes node = count_by (λ other. is_ahead load other node) nodes

-- so many of these nodes that have the fewest blocks
abbrev pub targets : (ℕ → ℕ) → ℕ → List ℕ → List ℕ
targets load count nodes = filter (λ node. nat_lt (rank load nodes node) count) nodes

-- ---- the same of nodes that stand beside their loads

abbrev pub beside : (ℕ → ℕ) → ℕ → Candidate
beside load node = record { load = load node; node = node }

abbrev pub comes_before : Candidate → Candidate → Bool
comes_before own other = nat_lt own.load other.load || ((own.load == other.load) && nat_lt own.node other.node)

-- a candidate doesn't come behind the last that is chosen; all are chosen where there is no last
abbrev pub is_chosen : Option Candidate → Candidate → Bool
is_chosen None own = true
is_chosen (Some last) own = not (comes_before last own)

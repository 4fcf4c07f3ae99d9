-- Of some DataNodes the one that was heard of last, as one pass over them keeps the best so far.
-- (That the recovery of a block is led by the node that was heard of last is HDFS-265.)
use Rattle.std.specs.Prelude.{ℕ, ◌==◌, ◌&&◌, ◌||◌, nat_lt, Option, Some, None, if◌then◌else◌}
use Rattle.heartbeats.specs.Live.{Heartbeats, is_live, last_heard}

-- a live node, with the moment of its last heartbeat, or the best so far, by which of them is ahead
abbrev pub ahead : ℕ × ℕ → Option (ℕ × ℕ) → Option (ℕ × ℕ)
ahead own None = Some own
ahead own (Some best) = if nat_lt best.1 own.1 || ((best.1 == own.1) && nat_lt own.0 best.0) then Some own else Some best

-- the best so far and behind another node, which counts where it is live
abbrev pub better : Heartbeats → ℕ → Option (ℕ × ℕ) → ℕ → Option (ℕ × ℕ)
better nodes now best node = if is_live nodes now node then ahead (node, last_heard nodes node) best else best

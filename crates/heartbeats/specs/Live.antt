-- The DataNodes by their heartbeats: which are live, and which of some was heard of last.
-- (HDFS Architecture, "Data Disk Failure, Heartbeats and Re-Replication"; that the recovery of a block is led by the node that was
-- heard of last is HDFS-265.)
use Rattle.std.specs.Prelude.{ℕ, ◌==◌, ◌-◌, Bool, false, ◌&&◌, ◌||◌, not, nat_le, nat_lt, List, filter, Option, Some, None, unwrap_or}
use Rattle.std.specs.BTreeMap.{insert_entry}
use Rattle.std.specs.List.{list_any, find}
use Rattle.std.specs.Map.{keys_of}
use Rattle.std.specs.Ordering.{nat_cmp}
use Rattle.block_records.specs.Numbers.{entry_at}

pub record Heartbeats : Type 0 where
  -- in milliseconds: a node is live while its last heartbeat isn't older
  pub dead : ℕ
  -- the nodes that ever sent a heartbeat, by their ids, each with the moment of the last
  pub last : List (ℕ × ℕ)

abbrev pub with_heartbeat : Heartbeats → ℕ → ℕ → Heartbeats
with_heartbeat nodes node now = record nodes { last = insert_entry nat_cmp nodes.last node now }

-- ---- live nodes

-- a node's last heartbeat isn't older than the limit
abbrev pub is_recent : ℕ → ℕ → Option ℕ → Bool
is_recent dead now None = false
is_recent dead now (Some last) = nat_le (now - last) dead

abbrev pub is_live : Heartbeats → ℕ → ℕ → Bool
is_live nodes now node = is_recent nodes.dead now (entry_at node nodes.last)

abbrev pub live_nodes : Heartbeats → ℕ → List ℕ
live_nodes nodes now = filter (is_live nodes now) (keys_of nodes.last)

-- ---- the node that was heard of last

abbrev pub last_heard : Heartbeats → ℕ → ℕ
last_heard nodes node = unwrap_or (entry_at node nodes.last) 0

-- a node was heard of later than another, or as late and has the lower id
abbrev pub is_heard_later : Heartbeats → ℕ → ℕ → Bool
is_heard_later nodes node other = nat_lt (last_heard nodes other) (last_heard nodes node) || ((last_heard nodes other == last_heard nodes node) && nat_lt node other)

-- no node of these is ahead of it
abbrev pub is_heard_last : Heartbeats → List ℕ → ℕ → Bool
is_heard_last nodes some node = not (list_any (λ other. is_heard_later nodes other node) some)

-- of some nodes the live one that no other live one is ahead of
abbrev pub primary_of : Heartbeats → ℕ → List ℕ → Option ℕ
primary_of nodes now some = find (is_heard_last nodes (filter (is_live nodes now) some)) (filter (is_live nodes now) some)

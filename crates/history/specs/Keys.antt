-- The keys that a history gives: the first, and those that were made the current one since, each of which expires once the tokens
-- under it have. A history is a list of entries, the newest first.
-- (HADOOP-4359: the NameNode rolls its keys, and old ones serve until the tokens under them have expired.)
use Rattle.std.specs.Prelude.{ℕ, List, [], ◌∷◌}
use Rattle.hdfs_types.specs.declared.op.Op.{Op}
use Rattle.hdfs_types.specs.declared.op.Op.TheVariants.{RollKey}
use Rattle.block_tokens.specs.Ring.{KeyRing, ring_after_roll}
use Rattle.flat_rows.specs.declared.verdict.Verdict.{Verdict}
use Rattle.flat_rows.specs.declared.verdict.Verdict.TheVariants.{Done, Denied, Refused}
use Rattle.history.specs.declared.entry.HistoryEntry.{HistoryEntry}
use Rattle.history.specs.Config.{Opening}
use Rattle.history.specs.ClockAndLease.{clock_of}

abbrev pub first_ring : Opening → KeyRing
first_ring opening = record { older = []; serial = opening.config.first.serial; key = opening.key; lifetime = opening.config.durations.token_lifetime }

-- what an operation that is done leaves of the keys
abbrev pub ring_after : Op → ℕ → KeyRing → KeyRing
ring_after (RollKey key) now ring = ring_after_roll ring key now
ring_after _ now ring = ring

abbrev pub ring_by : Op → Verdict → ℕ → KeyRing → KeyRing
ring_by op (Done told) now ring = ring_after op now ring
ring_by op (Denied denial) now ring = ring
ring_by op (Refused refusal) now ring = ring

abbrev pub ring_of : Opening → List HistoryEntry → KeyRing
ring_of opening [] = first_ring opening
ring_of opening (entry ∷ earlier) = ring_by entry.request.op entry.verdict (clock_of (entry ∷ earlier)) (ring_of opening earlier)

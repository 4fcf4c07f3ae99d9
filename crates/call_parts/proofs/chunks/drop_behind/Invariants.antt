use Rattle.std.proofs.Common.{◌≡◌, take, length}
use Rattle.call_parts.specs.Chunks.{StandBehind, bytes_of}
use Rattle.call_parts.proofs.chunks.drop_behind.Given as goal

abbrev pub invariant-loop-pieces : goal.invariant-loop-pieces
invariant-loop-pieces l = StandBehind 0 l.pieces.items × (take l.limit (bytes_of l.pieces.items) ≡ take l.limit (bytes_of l.initial.pieces.items))

abbrev pub decreases-loop-pieces : goal.decreases-loop-pieces
decreases-loop-pieces l = length l.pieces.items

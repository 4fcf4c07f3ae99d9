use Rattle.std.proofs.Common.{◌≡◌, ◌++◌, take, drop, length}
use Rattle.call_parts.specs.Chunks.{bytes_of}
use Rattle.call_parts.proofs.chunks.push_each.Given as goal

abbrev pub invariant-loop-piece : goal.invariant-loop-piece
invariant-loop-piece l =
    (l.chunks ++ bytes_of (drop l.piece-index l.others) ≡ l.initial.chunks ++ bytes_of l.others) × (take (length l.initial.chunks) l.chunks ≡ l.initial.chunks)

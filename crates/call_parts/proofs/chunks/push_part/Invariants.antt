use Rattle.std.proofs.Common.{◌≡◌, ◌++◌, take, drop}
use Rattle.call_parts.specs.Chunks.{bytes_of}
use Rattle.call_parts.proofs.chunks.push_part.Given as goal

-- what was put there so far, and what is to come
abbrev pub invariant-loop-piece : goal.invariant-loop-piece
invariant-loop-piece l = l.chunks ++ take l.count (drop l.skipped (bytes_of (drop l.piece-index l.pieces))) ≡ l.fn.chunks ++ take l.fn.count (drop l.fn.skipped (bytes_of l.pieces))

use Rattle.std.proofs.Common.{◌≡◌, ◌++◌, take}
use Rattle.call_parts.specs.Chunks.{bytes_of}
use Rattle.std.specs.String.{string_bytes}
use Rattle.hex.specs.Hex.{encode_lower}
use Rattle.cluster_text.proofs.node_reply.push_pieces.Given as goal

-- the digits of the pieces so far
abbrev pub invariant-loop-piece : goal.invariant-loop-piece
invariant-loop-piece l = string_bytes l.line ≡ string_bytes l.initial.line ++ encode_lower (bytes_of (take l.piece-index l.pieces))

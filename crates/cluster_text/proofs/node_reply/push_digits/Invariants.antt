use Rattle.std.proofs.Common.{◌≡◌, ◌++◌, length}
use Rattle.std.specs.String.{string_bytes}
use Rattle.hex.specs.Hex.{encode_lower}
use Rattle.cluster_text.proofs.node_reply.push_digits.Given as goal

abbrev pub invariant-loop-rest : goal.invariant-loop-rest
invariant-loop-rest l = string_bytes l.line ++ encode_lower l.rest ≡ string_bytes l.initial.line ++ encode_lower l.bytes

abbrev pub decreases-loop-rest : goal.decreases-loop-rest
decreases-loop-rest l = length l.rest

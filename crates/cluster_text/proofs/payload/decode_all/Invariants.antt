use Rattle.std.proofs.Common.{◌≡◌, ◌*◌, length}
use Rattle.cluster_text.proofs.Spelled.{Decoded}
use Rattle.cluster_text.proofs.payload.decode_all.Given as goal

abbrev pub invariant-loop-i : goal.invariant-loop-i
invariant-loop-i l = Decoded l.good l.digits l.bytes l.i × (length l.digits ≡ 2 * length l.bytes)

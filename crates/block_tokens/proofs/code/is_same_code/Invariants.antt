use Rattle.block_tokens.proofs.Differences.{IsDifference}
use Rattle.block_tokens.proofs.code.is_same_code.Given as goal

abbrev pub invariant-loop-i : goal.invariant-loop-i
invariant-loop-i l = IsDifference l.code l.other l.i l.difference

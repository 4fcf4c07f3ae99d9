use Rattle.std.proofs.Common.{◌≡◌, take, sum_by}
use Rattle.file_takeovers.proofs.sought.sum_of.Given as goal

abbrev pub invariant-loop-number : goal.invariant-loop-number
invariant-loop-number l = l.sum ≡ sum_by (λ number. number) (take l.number-index l.numbers)

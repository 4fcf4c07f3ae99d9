use Rattle.std.proofs.Common.{take}
use Rattle.file_takeovers.specs.Expiry.{AreAll}
use Rattle.file_takeovers.proofs.sought.all_sought.Given as goal

abbrev pub invariant-loop-row : goal.invariant-loop-row
invariant-loop-row l = AreAll (record { past = l.past; retry = l.retry; now = l.now }) (take l.row-index l.row-items) l.files

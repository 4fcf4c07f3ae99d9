use Rattle.std.proofs.Common.{◌≡◌, length, take}
use Rattle.data_service.specs.Found.{AreFound}
use Rattle.data_service.proofs.check.find_all.Given as goal

abbrev pub invariant-loop-receipt : goal.invariant-loop-receipt
invariant-loop-receipt l = (length l.found ≡ length l.fn.found) × AreFound l.log l.log_start (take l.receipt-index l.receipts) l.found

-- Which records of a log have a receipt, as functions inside the crate say it.
use Rattle.std.specs.Prelude.{◌≡◌, ℕ, ◌-◌, ◌≤◌, ◌<◌, Bool, false, List, length, get_or, slice_get, Some, count_by, if◌then◌else◌}
use Rattle.call_parts.specs.declared.access_log.AccessRecord.{AccessRecord}
use Rattle.data_service.specs.declared.seat.LogReceipt.{LogReceipt}
use Rattle.data_service.specs.Logged.{Stands, has_number}

-- each receipt stands, and of each record since the opening there is one where that is noted, and none where it isn't
pub record AreFound (log : List AccessRecord) (log_start : ℕ) (receipts : List LogReceipt) (found : List Bool) : Type 0 where
  pub stand : (i : ℕ) (receipt : LogReceipt) → slice_get receipts i ≡ Some receipt → Stands log log_start receipt
  pub counts : (number : ℕ) → log_start ≤ number → number < length log → count_by (has_number number) receipts ≡ (if get_or found (number - log_start) false then 1 else 0)

-- A log and what callers kept of it agree.
-- (This project's own rule: all that was noted down since a server opened is what its callers kept, together.)
use Rattle.std.specs.Prelude.{◌≡◌, ℕ, ◌≤◌, ◌<◌, Bool, List, length, slice_get, Some, count_by, nat_eq}
use Rattle.std.specs.List.{flat_map}
use Rattle.call_parts.specs.declared.access_log.AccessRecord.{AccessRecord}
use Rattle.data_service.specs.declared.seat.LogReceipt.{LogReceipt}
use Rattle.data_service.specs.Seats.{Seat}

-- a server, by how many records its node's log had when it opened
pub record DataServer : Type 0 where
  pub log_start : ℕ

-- all receipts, seat by seat
abbrev pub receipts_of : List Seat → List LogReceipt
receipts_of seats = flat_map (λ seat. seat) seats

-- the log has this record at this number, behind those from before the opening, which are so many
abbrev pub Stands : List AccessRecord → ℕ → LogReceipt → Type 0
Stands log log_start receipt = (log_start ≤ receipt.number) × (slice_get log receipt.number ≡ Some receipt.entry)

abbrev pub has_number : ℕ → LogReceipt → Bool
has_number number receipt = nat_eq receipt.number number

-- the records from before are there; each receipt of this number stands in the log; and a record that came there since has one receipt
pub record IsLogged (log : List AccessRecord) (log_start : ℕ) (receipts : List LogReceipt) (number : ℕ) : Type 0 where
  pub before : number < log_start → number < length log
  pub stand : (i : ℕ) (receipt : LogReceipt) → slice_get receipts i ≡ Some receipt → receipt.number ≡ number → Stands log log_start receipt
  pub once : log_start ≤ number → number < length log → count_by (has_number number) receipts ≡ 1

abbrev pub AllLogged : List AccessRecord → ℕ → List LogReceipt → Type 0
AllLogged log log_start receipts = (number : ℕ) → IsLogged log log_start receipts number

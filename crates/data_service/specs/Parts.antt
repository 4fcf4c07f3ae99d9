-- What of a record takes memory, before it is made.
use Rattle.std.specs.Prelude.{ℕ, Option, Some, None}
use Rattle.node_calls.specs.declared.call.NodeCall.{NodeCall}
use Rattle.node_calls.specs.declared.call.NodeCall.TheVariants.{Presenting, Invalidate, Keys}
use Rattle.replicas.specs.Asking.{asked_by}
use Rattle.data_service.specs.declared.seat.Parts.{Parts}

abbrev pub parts_in : ℕ → NodeCall → Option Parts
parts_in node (Presenting presented asked) = Some (record { caller = (asked_by node presented asked).caller; token = presented.token })
parts_in node (Invalidate block stamp) = None
parts_in node (Keys update) = None

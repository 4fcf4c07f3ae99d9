use Rattle.std.proofs.Common.{◌≡◌}
use Rattle.data_service.specs.Seats.{new_seats}
use Rattle.data_service.proofs.server.seats_for.Given as goal

abbrev pub invariant-loop-number : goal.invariant-loop-number
invariant-loop-number l = l.seats.items ≡ new_seats l._number

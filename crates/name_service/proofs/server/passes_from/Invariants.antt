use Rattle.std.proofs.Common.{◌≡◌}
use Rattle.name_service.specs.Passes.{new_passes}
use Rattle.name_service.proofs.server.passes_from.Given as goal

abbrev pub invariant-loop-number : goal.invariant-loop-number
invariant-loop-number l = l.passes.items ≡ new_passes l.number l.seen

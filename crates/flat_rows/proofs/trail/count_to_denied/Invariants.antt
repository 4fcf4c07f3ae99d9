use Rattle.std.proofs.Common.{◌≡◌, ◌++◌, take, drop}
use Rattle.flat_rows.specs.Decision.{up_to_denied}
use Rattle.flat_rows.proofs.trail.count_to_denied.Given as goal

abbrev pub invariant-loop-need : goal.invariant-loop-need
invariant-loop-need l = record {
  count : l.count ≡ l.need-index;
  met : take l.need-index l.needs ++ up_to_denied (drop l.need-index l.needs) ≡ up_to_denied l.needs;
}

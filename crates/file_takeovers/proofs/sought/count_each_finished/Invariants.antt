use Rattle.std.proofs.Common.{◌≡◌, length, take}
use Rattle.file_takeovers.specs.Expiry.{AreAtLeast}
use Rattle.file_takeovers.proofs.sought.count_each_finished.Given as goal

abbrev pub invariant-loop-client : goal.invariant-loop-client
invariant-loop-client l = record {
  long : length l.numbers.items ≡ l.client-index;
  counted : AreAtLeast l.tree (take l.client-index l.past) l.numbers.items;
}

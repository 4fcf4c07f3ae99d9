use Rattle.std.proofs.Common.{ℕ}
use Rattle.file_takeovers.specs.Expiry.{AreSome, AreToRecover}
use Rattle.file_takeovers.proofs.sought.add_each_held.Given as goal

abbrev pub invariant-loop-client : goal.invariant-loop-client
invariant-loop-client l = record {
  unfinished : AreToRecover l.fn.files → AreToRecover l.files;
  some : (retry now : ℕ) → AreSome (record { past = l.past; retry = retry; now = now }) l.tree l.fn.files → AreSome (record { past = l.past; retry = retry; now = now }) l.tree l.files;
}

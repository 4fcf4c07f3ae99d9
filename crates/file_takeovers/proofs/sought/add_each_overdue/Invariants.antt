use Rattle.std.proofs.Common.{ℕ, List}
use Rattle.file_takeovers.specs.Expiry.{AreSome, AreToRecover}
use Rattle.file_takeovers.proofs.sought.add_each_overdue.Given as goal

abbrev pub invariant-loop-block : goal.invariant-loop-block
invariant-loop-block l = record {
  unfinished : AreToRecover l.fn.files → AreToRecover l.files;
  some : (past : List (List ℕ)) → AreSome (record { past = past; retry = l.retry; now = l.now }) l.tree l.fn.files → AreSome (record { past = past; retry = l.retry; now = l.now }) l.tree l.files;
}

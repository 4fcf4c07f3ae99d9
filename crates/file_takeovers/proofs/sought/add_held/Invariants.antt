use Rattle.std.proofs.Common.{◌≡◌, true, length}
use Rattle.file_takeovers.specs.Expiry.{Expiry, is_among, AreSome, AreToRecover}
use Rattle.file_takeovers.proofs.sought.add_held.Given as goal

abbrev pub invariant-loop-block : goal.invariant-loop-block
invariant-loop-block l = record {
  unfinished : AreToRecover l.fn.files → AreToRecover l.files;
  some : (expiry : Expiry) → is_among expiry.past l.client ≡ true → AreSome expiry l.tree l.fn.files → AreSome expiry l.tree l.files;
}

abbrev pub decreases-loop-block : goal.decreases-loop-block
decreases-loop-block l = length l.blocks.items

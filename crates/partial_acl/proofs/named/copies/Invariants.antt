use Rattle.std.proofs.Common.{◌≡◌, take}
use Rattle.partial_acl.proofs.named.copies.Given as goal

abbrev pub invariant-loop-entry : goal.invariant-loop-entry
invariant-loop-entry l = l.copied.items ≡ take l.entry-index l.entries

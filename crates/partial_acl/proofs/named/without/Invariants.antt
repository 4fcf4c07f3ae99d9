use Rattle.std.proofs.Common.{◌≡◌, ◌++◌, drop}
use Rattle.partial_acl.specs.AclChange.{entries_without, named_in}
use Rattle.partial_acl.proofs.named.without.Given as goal

abbrev pub invariant-loop-entry : goal.invariant-loop-entry
invariant-loop-entry l = l.left.items ++ entries_without (drop l.entry-index l.entries) (named_in l.scope l.kind l.spec) ≡ entries_without l.entries (named_in l.scope l.kind l.spec)

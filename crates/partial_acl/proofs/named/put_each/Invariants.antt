use Rattle.std.proofs.Common.{◌≡◌, drop}
use Rattle.partial_acl.specs.AclChange.{with_each, named_in}
use Rattle.partial_acl.proofs.named.put_each.Given as goal

abbrev pub invariant-loop-entry : goal.invariant-loop-entry
invariant-loop-entry l = with_each l.entries.items (named_in l.scope l.kind (drop l.entry-index l.spec)) ≡ with_each l.initial.entries.items (named_in l.scope l.kind l.spec)

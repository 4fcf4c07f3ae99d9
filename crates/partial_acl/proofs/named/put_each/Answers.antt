use Rattle.std.proofs.Common.{refl, ap, ◌∙◌, ◌+◌, ◌<◌, length, drop, arith}
use Rattle.partial_acl.specs.AclChange.{with_each, named_in}
use Rattle.partial_acl.proofs.NamedLists.{put_more, too_many}
use Rattle.partial_acl.proofs.named.put_each.Goals as goal

pub returns-then-len-gt-MOST_ENTRIES-clause-refused : goal.returns-then-len-gt-MOST_ENTRIES-clause-refused
returns-then-len-gt-MOST_ENTRIES-clause-refused c =
    let rest = named_in c.args.scope c.args.kind (drop (c.loop-entry.entry-index + 1) c.args.spec.now) in
    let many : 32 < length c.put_of.new.entries.items = omega arith in (
      refl,
      too_many c.put_of.new.entries.items rest _ many
          (ap (λ entries. with_each entries rest) c.in_ok-put_of.ensures
          ∙ put_more c.args.scope c.args.kind c.args.spec.now c.loop-entry.entry-index c.entry-item.result c.loop-entry.entries.items c.loop-entry-test.true c.entry-item.is
          ∙ c.loop-entry.invariant),
    )

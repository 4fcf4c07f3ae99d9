use Rattle.std.proofs.Common.{◌+◌, refl, subst, sym}
use Rattle.cluster_parts.specs.Sent.{AreLaid}
use Rattle.cluster_parts.proofs.Laying.{laid_added}
use Rattle.cluster_parts.proofs.sent.Sent.add.Goals as goal

pub returns-then-count-gt0-clause-laid : goal.returns-then-count-gt0-clause-laid
returns-then-count-gt0-clause-laid c = λ history laid within long.
    subst (λ batches. AreLaid history 0 batches (c.args.self.now.count + c.args.count)) (sym c.push_reserved.ensures.items)
    (laid_added history 0 c.args.self.now.batches.items c.args.self.now.count (c.args.self.now.count + 1) c.args.count c.args.source laid refl within long)

use Rattle.std.proofs.Common.{◌∙◌, subst}
use Rattle.hdfs_types.specs.declared.op.Op.TheVariants as op
use Rattle.file_effects.specs.Effected.{IsFree}
use Rattle.file_effects.proofs.Replacing.{nothing_replaced}
use Rattle.file_effects.proofs.effect.replaced_holders.Goals as goal

pub returns-then-not-over : goal.returns-then-not-over
returns-then-not-over c =
    let free = c.requires.free in
    c.new.ensures.items
    ∙ nothing_replaced c.args.path.now free.0 free.1 free.2 c.args.tree.now free.3 c.requires.namespace
    (subst (λ over. IsFree (op.Create c.args.path.now free.0 free.1 over) free.2 c.args.tree.now free.3) c.if-not-over.true free.4)

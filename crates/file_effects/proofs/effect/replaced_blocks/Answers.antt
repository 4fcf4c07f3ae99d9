use Rattle.std.proofs.Common.{◌∙◌, sym}
use Rattle.std.proofs.lemmas.Result.{IfOk-weaker}
use Rattle.file_effects.proofs.BlockChanges.{no_blocks}
use Rattle.file_effects.proofs.effect.replaced_blocks.Goals as goal

pub returns-then-over-clause-new : goal.returns-then-over-clause-new
returns-then-over-clause-new c = IfOk-weaker c.blocks_under.result _ _ (λ blocks is missing. is ∙ no_blocks c.args.path.now c.args.tree.now c.requires.namespace missing) c.blocks_under.ensures

pub returns-clause-blocks : goal.returns-clause-blocks
returns-clause-blocks c = c.new.ensures.items ∙ sym (no_blocks c.args.path.now c.args.tree.now c.requires.namespace (c.requires.free c.if-over.false))

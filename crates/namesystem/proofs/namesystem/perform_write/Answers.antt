use Rattle.std.proofs.Common.{refl, sym, ◌∙◌}
use Rattle.hdfs_types.specs.Verb.{write_op}
use Rattle.namesystem.specs.Performed.{facts_in}
use Rattle.namesystem.proofs.Performing.{performed_not_done, performed_write}
use Rattle.namesystem.proofs.namesystem.perform_write.Goals as goal

pub returns-then-not-is_done-clause-ok : goal.returns-then-not-is_done-clause-ok
returns-then-not-is_done-clause-ok c = λ last exact.
    performed_not_done last c.args.now c.args.caller.now (write_op c.args.write.now) c.args.system.now c.in_ok-verdict.verdict (c.in_ok-verdict.ensures.verdict last c.args.now) (sym c.is_done.ensures ∙ c.if-not-is_done.true) exact

pub returns-clause-ok : goal.returns-clause-ok
returns-clause-ok c = λ last exact.
    performed_write last c.args.now c.args.caller.now c.args.write.now c.args.system.now (record (c.args.system.now) { tree = c.effect.new.tree; writers = c.effect.new.writers; blocks = c.effect.new.blocks }) c.in_ok-verdict.verdict
    (c.in_ok-verdict.ensures.verdict last c.args.now) (sym c.is_done.ensures ∙ c.if-not-is_done.false) c.in-Ok.ensures.ok refl refl (c.in-Ok.ensures.blocks (facts_in last c.args.now c.args.system.now)) exact

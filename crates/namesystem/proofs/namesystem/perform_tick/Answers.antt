use Rattle.std.proofs.Common.{refl, sym, ◌∙◌}
use Rattle.hdfs_types.specs.declared.op.Op.TheVariants as op
use Rattle.namesystem.proofs.Ticking.{denied_tick, performed_tick}
use Rattle.namesystem.proofs.namesystem.perform_tick.Goals as goal

pub returns-in-Some-clause-ok : goal.returns-in-Some-clause-ok
returns-in-Some-clause-ok c = λ last exact.
    denied_tick last c.args.now c.args.caller.now c.args.system.now c.in-Some.denial (sym (c.in_ok-denial.ensures op.Tick refl refl c.requires.needs) ∙ c.in-Some.is) exact

pub returns-clause-ok : goal.returns-clause-ok
returns-clause-ok c = λ last exact.
    performed_tick last c.args.now c.args.caller.now c.args.system.now c.expire.new.tree c.expire.new.blocks c.expire.new.writers c.in_ok-expired.expired c.deref.result.now
    (sym (c.in_ok-denial.ensures op.Tick refl refl c.requires.needs) ∙ c.in_default.is) (c.deref.ensures.value ∙ c.in_ok-past.ensures.past) c.in_ok-past.ensures.renewals.0 (c.in_ok-expired.ensures.ok last exact) exact

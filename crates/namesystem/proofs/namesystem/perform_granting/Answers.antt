use Rattle.std.proofs.Common.{sym, subst}
use Rattle.hdfs_types.specs.Verb.{grant_op}
use Rattle.namesystem.specs.Performed.{IsPerformed}
use Rattle.namesystem.proofs.namesystem.perform_granting.Goals as goal

pub returns-clause-ok : goal.returns-clause-ok
returns-clause-ok c = λ last exact.
    subst (λ verdict. IsPerformed last c.args.now c.args.caller.now (grant_op c.args.grant.now) c.args.system.now verdict c.perform_grant.new.system) (sym c.verdict_of.ensures) (c.in_ok-told.ensures.ok last exact)

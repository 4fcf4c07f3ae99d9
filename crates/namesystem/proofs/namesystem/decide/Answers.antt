use Rattle.std.proofs.Common.{refl}
use Rattle.std.proofs.lemmas.Result.{IfOk-weaker}
use Rattle.hdfs_types.specs.Verb.{write_op}
use Rattle.namesystem.specs.Performed.{facts_in}
use Rattle.namesystem.proofs.Deciding.{free_of, facts_on, reported_end}
use Rattle.namesystem.proofs.namesystem.decide.Goals as goal

pub returns-clause-reported : goal.returns-clause-reported
returns-clause-reported c =
    IfOk-weaker c.judge.result _ _ (λ verdict is done. reported_end (facts_on c.args.system.now) c.args.system.now.tree c.args.system.now.users c.args.caller.now (write_op c.args.write.now) verdict is done) (c.judge.ensures.verdict (facts_on c.args.system.now) refl)

pub returns-clause-free : goal.returns-clause-free
returns-clause-free c =
    IfOk-weaker c.judge.result _ _ (λ verdict is done. free_of (facts_on c.args.system.now) c.args.system.now.tree c.args.system.now.users c.args.caller.now (write_op c.args.write.now) verdict is done) (c.judge.ensures.verdict (facts_on c.args.system.now) refl)

pub returns-clause-verdict : goal.returns-clause-verdict
returns-clause-verdict c = λ last now. c.judge.ensures.verdict (facts_in last now c.args.system.now) refl

use Rattle.std.proofs.Common.{◌∙◌, refl}
use Rattle.std.proofs.lemmas.Result.{IfOk-weaker}
use Rattle.hdfs_types.specs.declared.op.Op.TheVariants as op
use Rattle.write_rules.proofs.Writing.{as_judged}
use Rattle.write_rules.proofs.appends.judge_append.Goals as goal

pub returns-clause-verdict : goal.returns-clause-verdict
returns-clause-verdict c = λ facts.
    let what = op.Append c.args.path.now in
    IfOk-weaker c.append_judged.result _ _
    (λ judged is. is ∙ as_judged facts c.args.tree.now c.args.users.now c.args.caller.now c.caller_for_rights.result c.args.needs.now what what c.caller_for_rights.ensures c.requires refl)
    (c.append_judged.ensures.verdict facts c.args.users.now)

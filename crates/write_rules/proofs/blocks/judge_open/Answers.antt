use Rattle.std.proofs.Common.{◌∙◌, refl, sym, ap}
use Rattle.std.proofs.lemmas.Result.{IfOk-weaker}
use Rattle.hdfs_types.specs.declared.op.Op.TheVariants as op
use Rattle.principals.specs.Users.{Caller}
use Rattle.write_rules.specs.JudgedBlocks.{verdict_of_open}
use Rattle.write_rules.proofs.Writing.{as_judged}
use Rattle.write_rules.proofs.blocks.judge_open.Goals as goal

pub returns-clause-verdict : goal.returns-clause-verdict
returns-clause-verdict c = λ facts.
    let what = op.Open c.args.path.now in
    IfOk-weaker c.open_judged.result _ _
    (λ judged is. ap (λ who. verdict_of_open facts.token who facts.blocks judged) (sym (ap (λ (u : Caller). u.name) c.caller_for_rights.ensures)) ∙ is ∙ as_judged facts c.args.tree.now c.args.users.now c.args.caller.now c.caller_for_rights.result c.args.needs.now what what c.caller_for_rights.ensures c.requires refl)
    (c.open_judged.ensures.verdict facts c.args.users.now)

use Rattle.std.proofs.Common.{◌∙◌, Some, sym, ap, subst}
use Rattle.std.proofs.lemmas.Result.{IfOk-weaker}
use Rattle.hdfs_types.specs.declared.reply.Reply.TheVariants as reply
use Rattle.flat_rows.specs.BlockOutcome.{refused_end, bytes_behind}
use Rattle.perm_walk.specs.Target.{IsTargetFile}
use Rattle.write_rules.specs.Judged.{refused_or}
use Rattle.write_rules.proofs.Writing.{against, complete_verdict}
use Rattle.write_rules.proofs.write.judge_complete.Goals as goal

pub returns : goal.returns
returns c = λ facts users same.
    let at = subst (IsTargetFile c.args.path.now c.args.tree.now c.args.caller.now c.args.needs.now) c.in-There.is c.in_ok-denial.ensures in
    let told = reply.Closed (bytes_behind c.args.last (Some c.in-There.file.now)) in
    IfOk-weaker c.completed.result _ _
    (λ verdict is. is
    ∙ (ap (λ client. refused_or told (against client c.args.last c.in-There.file.now (refused_end c.args.blocks.now c.args.last))) c.name.ensures
    ∙ (ap (λ blocks. refused_or told (against c.args.caller.now.name c.args.last c.in-There.file.now (refused_end blocks c.args.last))) (sym same)
    ∙ complete_verdict facts c.args.path.now c.args.tree.now users c.args.caller.now c.args.needs.now c.in-There.file.now at.there at.granted c.args.last)))
    c.completed.ensures

use Rattle.std.proofs.Common.{◌∙◌, ap, subst}
use Rattle.flat_rows.specs.Takeover.{appended_reply, refused_append}
use Rattle.file_blocks.specs.Blocks.{unfinished_block}
use Rattle.namespace_rows.specs.Files.{holder_of}
use Rattle.perm_walk.specs.Target.{IsTargetFile}
use Rattle.write_rules.specs.Judged.{refused_or}
use Rattle.std.proofs.lemmas.Result.{IfOk-weaker}
use Rattle.write_rules.proofs.Writing.{append_verdict, judged_at}
use Rattle.write_rules.proofs.appends.append_judged.Goals as goal

pub returns-in-There-clause-verdict : goal.returns-in-There-clause-verdict
returns-in-There-clause-verdict c = λ facts users.
    let at = subst (IsTargetFile c.args.path.now c.args.tree.now c.args.caller.now c.args.needs.now) c.in-There.is c.in_ok-denial.ensures in
    let file = c.in-There.file.now in
    IfOk-weaker c.appended.result _ _
    (λ judged is. is
    ∙ (ap (λ client. refused_or (appended_reply facts.blocks (holder_of file.state) (unfinished_block file.blocks)) (refused_append facts client file)) c.name.ensures
    ∙ append_verdict facts c.args.path.now c.args.tree.now users c.args.caller.now c.args.needs.now file at.there at.granted))
    (c.appended.ensures.verdict facts)

pub returns-in-There-clause-found : goal.returns-in-There-clause-found
returns-in-There-clause-found c =
    let at = subst (IsTargetFile c.args.path.now c.args.tree.now c.args.caller.now c.args.needs.now) c.in-There.is c.in_ok-denial.ensures in
    IfOk-weaker c.appended.result _ _ (judged_at c.args.path.now c.args.tree.now c.in-There.file.now at.there.at) c.appended.ensures.found

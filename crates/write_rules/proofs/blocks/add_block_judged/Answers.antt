use Rattle.std.proofs.Common.{◌∙◌, ◌≡◌, None, sym, ap, subst}
use Rattle.std.proofs.lemmas.Result.{IfOk-weaker}
use Rattle.std.specs.Option.{option_or}
use Rattle.block_map.specs.BlockEffects.{given_behind}
use Rattle.flat_rows.specs.FileOutcome.{refused_write}
use Rattle.flat_rows.specs.BlockOutcome.{refused_unless_last, refused_new, added_reply}
use Rattle.perm_walk.specs.Target.{IsTargetFile}
use Rattle.write_rules.specs.Judged.{refused_or}
use Rattle.write_rules.proofs.Writing.{against_none, add_block_verdict}
use Rattle.write_rules.proofs.blocks.add_block_judged.Goals as goal

pub returns-clause-verdict : goal.returns-clause-verdict
returns-clause-verdict c = λ facts users blocks now.
    let at = subst (IsTargetFile c.args.path.now c.args.tree.now c.args.caller.now c.args.needs.now) c.in-There.is c.in_ok-denial.ensures in
    let file = c.in-There.file.now in
    let client = c.args.caller.now.name in
    let free : option_or (refused_write client file) (refused_unless_last c.args.last file) ≡ None =
    ap (λ who. option_or (refused_write who file) (refused_unless_last c.args.last file)) (sym c.name.ensures) ∙ (sym c.refusal_of_write.ensures ∙ c.in_default.is) in
    IfOk-weaker c.planned.result _ _
    (λ judged is. is
    ∙ (ap (λ b. refused_or (added_reply facts.token client (given_behind b c.args.last c.args.now file.replication)) (refused_new b c.args.last c.args.now)) (sym blocks)
    ∙ (ap (λ n. refused_or (added_reply facts.token client (given_behind facts.blocks c.args.last n file.replication)) (refused_new facts.blocks c.args.last n)) (sym now)
    ∙ (ap (refused_or (added_reply facts.token client (given_behind facts.blocks c.args.last facts.now file.replication))) (sym (against_none client c.args.last file (refused_new facts.blocks c.args.last facts.now) free))
    ∙ add_block_verdict facts c.args.path.now c.args.tree.now users c.args.caller.now c.args.needs.now file at.there at.granted c.args.last))))
    (c.planned.ensures.verdict facts.token client)

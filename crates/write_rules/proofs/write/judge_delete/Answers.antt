use Rattle.std.proofs.Common.{◌∙◌, sym, ap, subst}
use Rattle.hdfs_types.specs.declared.op.Op.TheVariants.{Delete}
use Rattle.flat_rows.specs.Outcome.{Step, denied_or_outcome, refused_or_done}
use Rattle.perm_walk.specs.Walked.{IsWalked}
use Rattle.perm_walk.specs.Found.{IsFound}
use Rattle.write_rules.proofs.Deleting.{below_root, missing_refused}
use Rattle.write_rules.proofs.write.judge_delete.Goals as goal

pub returns-in-Refused-clause-verdict : goal.returns-in-Refused-clause-verdict
returns-in-Refused-clause-verdict c = λ facts users.
    let granted = subst (IsWalked c.args.path.now c.args.tree.now c.args.caller.now c.args.needs.now) c.in-Reached.is c.in_ok-denial.ensures in
    let missing = subst (IsFound c.args.path.now c.args.tree.now) c.in-Refused.is (c.in_ok-refusal.ensures c.args.path.now c.args.tree.now granted.leads) in
    ap (λ (s : Step). s.verdict) (ap (refused_or_done facts c.args.tree.now users c.args.caller.now.name (Delete c.args.path.now c.args.recursive))
    (sym (missing_refused facts c.args.caller.now.name c.args.path.now c.args.recursive c.args.tree.now users c.in-Refused.refusal (below_root c.args.path.now (λ none. c.if-depth-eq0.false (c.depth.ensures ∙ none))) missing))
    ∙ ap (denied_or_outcome facts c.args.tree.now users c.args.caller.now.name (Delete c.args.path.now c.args.recursive)) (sym granted.granted))

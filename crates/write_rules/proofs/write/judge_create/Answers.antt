use Rattle.std.proofs.Common.{◌∙◌, sym, ap, subst}
use Rattle.hdfs_types.specs.declared.op.Op.TheVariants.{Create}
use Rattle.flat_rows.specs.Outcome.{Step, denied_or_outcome, refused_or_done}
use Rattle.perm_walk.specs.Walked.{IsWalked}
use Rattle.write_rules.proofs.write.judge_create.Goals as goal

pub returns-in-Some : goal.returns-in-Some
returns-in-Some c = λ facts users mode replication.
    let granted = subst (IsWalked c.args.path.now c.args.tree.now c.args.caller.now c.args.needs.now) c.in-Reached.is c.in_ok-denial.ensures in
    ap (λ (s : Step). s.verdict) (ap (refused_or_done facts c.args.tree.now users c.args.caller.now.name (Create c.args.path.now mode replication c.args.over))
    (sym c.in-Some.is ∙ c.in_ok-refusal.ensures facts c.args.caller.now.name c.args.path.now mode replication c.args.tree.now users granted.leads)
    ∙ ap (denied_or_outcome facts c.args.tree.now users c.args.caller.now.name (Create c.args.path.now mode replication c.args.over)) (sym granted.granted))

pub returns-in-None : goal.returns-in-None
returns-in-None c = λ facts users mode replication.
    let granted = subst (IsWalked c.args.path.now c.args.tree.now c.args.caller.now c.args.needs.now) c.in-Reached.is c.in_ok-denial.ensures in
    ap (λ (s : Step). s.verdict) (ap (refused_or_done facts c.args.tree.now users c.args.caller.now.name (Create c.args.path.now mode replication c.args.over))
    (sym c.in-None.is ∙ c.in_ok-refusal.ensures facts c.args.caller.now.name c.args.path.now mode replication c.args.tree.now users granted.leads)
    ∙ ap (denied_or_outcome facts c.args.tree.now users c.args.caller.now.name (Create c.args.path.now mode replication c.args.over)) (sym granted.granted))

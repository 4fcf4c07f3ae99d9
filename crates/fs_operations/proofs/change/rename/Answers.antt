use Rattle.std.proofs.Common.{◌∙◌, true, [], None, sym, ap, subst}
use Rattle.hdfs_types.specs.declared.op.Op.TheVariants.{Rename}
use Rattle.hdfs_types.specs.declared.reply.Reply.TheVariants.{Empty}
use Rattle.principals.specs.Users.{Users}
use Rattle.flat_rows.specs.Outcome.{denied_or_outcome, refused_or_done}
use Rattle.perm_walk.specs.Walked.{IsWalkedBoth}
use Rattle.flat_rows.specs.declared.verdict.Verdict.TheVariants.{Done}
use Rattle.flat_rows.proofs.AnyFacts.{no_facts}
use Rattle.fs_operations.proofs.Renaming.{unrefused_rename, parent_there}
use Rattle.fs_operations.proofs.change.rename.Goals as goal

nobody : Users
nobody = record { known = []; superuser = []; supergroup = []; checking = true }

pub returns-in-Some-clause-ok : goal.returns-in-Some-clause-ok
returns-in-Some-clause-ok c = λ facts users.
    let granted = subst (IsWalkedBoth c.args.from.now c.args.to.now c.args.tree.now c.args.caller.now c.args.needs.now) c.in-Reached.is c.in_ok-denial.ensures in
    ap (refused_or_done facts c.args.tree.now users c.args.caller.now.name (Rename c.args.from.now c.args.to.now)) (sym c.in-Some.is ∙ c.in_ok-refusal.ensures facts c.args.caller.now.name users)
    ∙ ap (denied_or_outcome facts c.args.tree.now users c.args.caller.now.name (Rename c.args.from.now c.args.to.now)) (sym granted.granted)

pub move_to-requires-clause-there : goal.move_to-requires-clause-there
move_to-requires-clause-there c = (unrefused_rename no_facts [] c.args.from.now c.args.to.now c.args.tree.now nobody (sym (c.in_ok-refusal.ensures no_facts [] nobody) ∙ c.in_default.is)).there

pub move_to-requires-clause-free : goal.move_to-requires-clause-free
move_to-requires-clause-free c = (unrefused_rename no_facts [] c.args.from.now c.args.to.now c.args.tree.now nobody (sym (c.in_ok-refusal.ensures no_facts [] nobody) ∙ c.in_default.is)).free

pub move_to-requires-clause-parent : goal.move_to-requires-clause-parent
move_to-requires-clause-parent c = parent_there c.args.to.now c.args.tree.now (unrefused_rename no_facts [] c.args.from.now c.args.to.now c.args.tree.now nobody (sym (c.in_ok-refusal.ensures no_facts [] nobody) ∙ c.in_default.is)).parent

pub move_to-requires-clause-beside : goal.move_to-requires-clause-beside
move_to-requires-clause-beside c = (unrefused_rename no_facts [] c.args.from.now c.args.to.now c.args.tree.now nobody (sym (c.in_ok-refusal.ensures no_facts [] nobody) ∙ c.in_default.is)).beside

pub move_to-requires-clause-within : goal.move_to-requires-clause-within
move_to-requires-clause-within c = (unrefused_rename no_facts [] c.args.from.now c.args.to.now c.args.tree.now nobody (sym (c.in_ok-refusal.ensures no_facts [] nobody) ∙ c.in_default.is)).within

pub returns-clause-ok : goal.returns-clause-ok
returns-clause-ok c = λ facts users.
    let granted = subst (IsWalkedBoth c.args.from.now c.args.to.now c.args.tree.now c.args.caller.now c.args.needs.now) c.in-Reached.is c.in_ok-denial.ensures in
    ap (λ rows. record { verdict = Done Empty; rows = rows; users = users }) c.in_ok-move_to.ensures.ok
    ∙ ap (refused_or_done facts c.args.tree.now users c.args.caller.now.name (Rename c.args.from.now c.args.to.now)) (sym c.in_default.is ∙ c.in_ok-refusal.ensures facts c.args.caller.now.name users)
    ∙ ap (denied_or_outcome facts c.args.tree.now users c.args.caller.now.name (Rename c.args.from.now c.args.to.now)) (sym granted.granted)

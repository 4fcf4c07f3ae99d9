use Rattle.std.proofs.Common.{◌∙◌, true, [], None, sym, ap, subst}
use Rattle.std.specs.Prelude.{is_some}
use Rattle.hdfs_types.specs.declared.op.Op.TheVariants.{Mkdirs}
use Rattle.hdfs_types.specs.declared.reply.Reply.TheVariants.{Empty}
use Rattle.principals.specs.Users.{Users}
use Rattle.namespace_rows.specs.Rows.{ancestor}
use Rattle.flat_rows.specs.declared.verdict.Verdict.TheVariants.{Done}
use Rattle.flat_rows.specs.Outcome.{denied_or_outcome, refused_or_done, with_new}
use Rattle.flat_rows.proofs.AnyFacts.{no_facts}
use Rattle.perm_walk.specs.Walked.{IsWalked}
use Rattle.fs_operations.proofs.Making.{made_missing, made_there, unrefused_mkdirs}
use Rattle.fs_operations.proofs.change.mkdirs.Goals as goal

nobody : Users
nobody = record { known = []; superuser = []; supergroup = []; checking = true }

pub returns-in-Some-clause-ok : goal.returns-in-Some-clause-ok
returns-in-Some-clause-ok c = λ facts users.
    let granted = subst (IsWalked c.args.path.now c.args.tree.now c.args.caller.now c.args.needs.now) c.in-Reached.is c.in_ok-denial.ensures in
    ap (refused_or_done facts c.args.tree.now users c.args.caller.now.name (Mkdirs c.args.path.now c.args.mode)) (sym c.in-Some.is ∙ c.in_ok-refusal.ensures facts c.args.caller.now.name c.args.path.now c.args.mode c.args.tree.now users granted.leads)
    ∙ ap (denied_or_outcome facts c.args.tree.now users c.args.caller.now.name (Mkdirs c.args.path.now c.args.mode)) (sym granted.granted)

pub returns-then-is_there-clause-ok : goal.returns-then-is_there-clause-ok
returns-then-is_there-clause-ok c = λ facts users.
    let granted = subst (IsWalked c.args.path.now c.args.tree.now c.args.caller.now c.args.needs.now) c.in-Reached.is c.in_ok-denial.ensures in
    let there = ap is_some (sym granted.leads.at) ∙ sym c.is_some-is_there.ensures ∙ c.if-is_there.true in
    ap (λ rows. record { verdict = Done Empty; rows = rows; users = users }) (sym (made_there c.args.path.now c.args.mode c.args.caller.now.name _ c.args.tree.now there))
    ∙ ap (refused_or_done facts c.args.tree.now users c.args.caller.now.name (Mkdirs c.args.path.now c.args.mode)) (sym c.in_default.is ∙ c.in_ok-refusal.ensures facts c.args.caller.now.name c.args.path.now c.args.mode c.args.tree.now users granted.leads)
    ∙ ap (denied_or_outcome facts c.args.tree.now users c.args.caller.now.name (Mkdirs c.args.path.now c.args.mode)) (sym granted.granted)

pub make-requires-clause-clear : goal.make-requires-clause-clear
make-requires-clause-clear c =
    let granted = subst (IsWalked c.args.path.now c.args.tree.now c.args.caller.now c.args.needs.now) c.in-Reached.is c.in_ok-denial.ensures in
    unrefused_mkdirs no_facts [] c.args.path.now c.args.mode c.args.tree.now nobody (sym (c.in_ok-refusal.ensures no_facts [] c.args.path.now c.args.mode c.args.tree.now nobody granted.leads) ∙ c.in_default.is)

pub returns-clause-ok : goal.returns-clause-ok
returns-clause-ok c = λ facts users.
    let granted = subst (IsWalked c.args.path.now c.args.tree.now c.args.caller.now c.args.needs.now) c.in-Reached.is c.in_ok-denial.ensures in
    let missing = ap is_some (sym granted.leads.at) ∙ sym c.is_some-is_there.ensures ∙ c.if-is_there.false in
    ap (λ rows. record { verdict = Done Empty; rows = rows; users = users })
    (c.in_ok-_place.ensures.ok ∙ ap (λ who. with_new c.args.path.now c.args.mode None who (ancestor c.args.path.now c.args.tree.now) c.args.tree.now) c.name.ensures
    ∙ sym (made_missing c.args.path.now c.args.mode c.args.caller.now.name _ c.args.tree.now missing))
    ∙ ap (refused_or_done facts c.args.tree.now users c.args.caller.now.name (Mkdirs c.args.path.now c.args.mode)) (sym c.in_default.is ∙ c.in_ok-refusal.ensures facts c.args.caller.now.name c.args.path.now c.args.mode c.args.tree.now users granted.leads)
    ∙ ap (denied_or_outcome facts c.args.tree.now users c.args.caller.now.name (Mkdirs c.args.path.now c.args.mode)) (sym granted.granted)

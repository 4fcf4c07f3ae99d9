use Rattle.std.proofs.Common.{◌≡◌, false, ◌∙◌, ap, subst, sym}
use Rattle.std.proofs.lemmas.Result.{IfOk-weaker}
use Rattle.hdfs_types.specs.Verb.{write_op}
use Rattle.hdfs_types.specs.declared.op.Op.TheVariants as op
use Rattle.inode_tree.specs.Tree.{has_files, rows_deleted}
use Rattle.write_rules.proofs.Writing.{as_judged}
use Rattle.write_rules.proofs.write.judge.Goals as goal

pub returns-in-Create-clause-verdict : goal.returns-in-Create-clause-verdict
returns-in-Create-clause-verdict c = λ facts same.
    IfOk-weaker c.judge_create.result _ _
    (λ verdict is. is ∙ as_judged facts c.args.tree.now c.args.users.now c.args.caller.now c.caller_for_rights-asking.result c.args.needs.now (write_op c.args.write.now) (op.Create c.in-Create.path.now c.in-Create.field-1 c.in-Create.field-2 c.in-Create.over) c.caller_for_rights-asking.ensures c.requires.needs (ap write_op c.in-Create.is))
    (c.judge_create.ensures facts c.args.users.now c.in-Create.field-1 c.in-Create.field-2)

pub returns-in-Complete-clause-verdict : goal.returns-in-Complete-clause-verdict
returns-in-Complete-clause-verdict c = λ facts same.
    IfOk-weaker c.judge_complete.result _ _
    (λ verdict is. is ∙ as_judged facts c.args.tree.now c.args.users.now c.args.caller.now c.caller_for_rights-asking.result c.args.needs.now (write_op c.args.write.now) (op.Complete c.in-Complete.path.now c.in-Complete.last) c.caller_for_rights-asking.ensures c.requires.needs (ap write_op c.in-Complete.is))
    (c.judge_complete.ensures facts c.args.users.now same)

pub returns-in-Delete-clause-verdict : goal.returns-in-Delete-clause-verdict
returns-in-Delete-clause-verdict c = λ facts same.
    IfOk-weaker c.judge_delete.result _ _
    (λ verdict is. is ∙ as_judged facts c.args.tree.now c.args.users.now c.args.caller.now c.caller_for_rights-asking.result c.args.needs.now (write_op c.args.write.now) (op.Delete c.in-Delete.path.now c.in-Delete.recursive) c.caller_for_rights-asking.ensures c.requires.needs (ap write_op c.in-Delete.is))
    (c.judge_delete.ensures.verdict facts c.args.users.now)

pub returns-in-Delete-clause-files : goal.returns-in-Delete-clause-files
returns-in-Delete-clause-files c = λ none. subst (λ verb. has_files (rows_deleted (write_op verb) c.args.tree.now) ≡ false) (sym c.in-Delete.is) (c.judge_delete.ensures.files none)

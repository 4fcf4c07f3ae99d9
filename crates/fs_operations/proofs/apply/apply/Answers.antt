use Rattle.std.proofs.Common.{◌∙◌, sym, ap}
use Rattle.std.proofs.lemmas.Result.{IfOk-weaker}
use Rattle.hdfs_types.specs.Verb.{op_of}
use Rattle.flat_rows.specs.Outcome.{step}
use Rattle.fs_operations.proofs.apply.apply.Goals as goal

pub returns-in-Read-clause-ok : goal.returns-in-Read-clause-ok
returns-in-Read-clause-ok c = λ facts.
    let op_is = sym (ap op_of c.in-Read.is) ∙ c.verb.ensures in
    IfOk-weaker c.answer.result _ _ (λ verdict is. is ∙ ap (step facts c.args.tree.now c.args.users.now c.args.request.now.caller) op_is) (c.answer.ensures facts)

pub returns-in-Update-clause-ok : goal.returns-in-Update-clause-ok
returns-in-Update-clause-ok c = λ facts.
    let op_is = sym (ap op_of c.in-Update.is) ∙ c.verb.ensures in
    IfOk-weaker c.apply_update.result _ _ (λ verdict is. is ∙ ap (step facts c.args.tree.now c.args.users.now c.args.request.now.caller) op_is) (c.apply_update.ensures.ok facts)

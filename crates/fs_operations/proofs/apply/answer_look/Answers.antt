use Rattle.std.proofs.Common.{◌∙◌, sym, ap}
use Rattle.std.proofs.lemmas.Result.{IfOk-weaker}
use Rattle.hdfs_types.specs.Verb.{op_of}
use Rattle.flat_rows.specs.Outcome.{Step, step}
use Rattle.fs_operations.proofs.apply.answer_look.Goals as goal

pub returns : goal.returns
returns c = λ facts.
    let op_is = sym (ap op_of c.in-Read.is) ∙ c.verb.ensures in
    IfOk-weaker c.answer.result _ _ (λ verdict is. ap (λ (s : Step). s.verdict) (is ∙ ap (step facts c.args.tree.now c.args.users.now c.args.caller.now) op_is)) (c.answer.ensures facts)

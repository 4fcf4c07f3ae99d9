use Rattle.std.proofs.Common.{◌∙◌}
use Rattle.std.proofs.lemmas.Result.{IfOk-weaker}
use Rattle.write_rules.proofs.Writing.{rights_decided}
use Rattle.write_rules.proofs.write.judge_rights.Goals as goal

pub returns : goal.returns
returns c = λ what strict users_alone all.
    IfOk-weaker c.walk.result _ _ (λ denial is. is ∙ rights_decided c.args.tree.now c.args.users.now c.args.caller.now c.caller.result c.args.needs.now c.caller.ensures what strict users_alone all) c.walk.ensures

use Rattle.std.proofs.Common.{sym}
use Rattle.std.proofs.lemmas.Result.{IfOk-weaker}
use Rattle.file_takeovers.proofs.SoughtFiles.{found_there}
use Rattle.file_takeovers.proofs.sought.held_at.Goals as goal

pub returns-in-Some-clause-sought : goal.returns-in-Some-clause-sought
returns-in-Some-clause-sought c = λ expiry among.
    IfOk-weaker c.held_by.result _ _ (λ found is. found_there expiry c.args.path.now c.args.tree.now c.in-Some.file.now found (sym c.in-Some.ensures) is) (c.held_by.ensures.sought expiry among)

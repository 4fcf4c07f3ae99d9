-- What is judged with its needs is a step.
use Rattle.std.proofs.Common.{◌≡◌, ℕ, List, Result, ◌∙◌}
use Rattle.std.proofs.lemmas.Result.{IfOk-weaker}
use Rattle.std.specs.Prelude.{IfOk}
use Rattle.hdfs_types.specs.declared.op.Op.{Op}
use Rattle.principals.specs.Users.{Users, Caller}
use Rattle.namespace_rows.specs.declared.row.Row.{Row}
use Rattle.required_rights.specs.RequiredRights.{Demand, required_rights}
use Rattle.flat_rows.specs.declared.verdict.Verdict.{Verdict}
use Rattle.flat_rows.specs.Judging.{judged_caller}
use Rattle.flat_rows.specs.Facts.{Facts}
use Rattle.flat_rows.specs.Outcome.{step}
use Rattle.perm_walk.specs.JudgedStep.{judged_step}
use Rattle.perm_walk.proofs.Steps.{as_step}

pub as_stepped : {E : Type 0} (facts : Facts) (rows left : List Row) (users known : Users) (caller : List ℕ) (who : Caller) (needs : List Demand) (what taken : Op) (result : Result Verdict E)
    → who ≡ judged_caller users caller taken → needs ≡ required_rights what → what ≡ taken
    → IfOk result (λ v. record { verdict = v; rows = left; users = known } ≡ judged_step facts rows users who needs taken)
    → IfOk result (λ v. record { verdict = v; rows = left; users = known } ≡ step facts rows users caller what)
as_stepped facts rows left users known caller who needs what taken result him all is told =
    IfOk-weaker result _ _ (λ v e. e ∙ as_step facts rows users caller who needs what taken him all is) told

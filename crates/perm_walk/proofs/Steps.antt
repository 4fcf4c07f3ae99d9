-- A judged operation is a step.
use Rattle.std.proofs.Common.{◌≡◌, ◌∙◌, ℕ, Bool, true, false, List, refl, ap, cond}
use Rattle.hdfs_types.specs.Request.{is_for_nodes}
use Rattle.hdfs_types.specs.declared.op.Op.{Op}
use Rattle.principals.specs.Users.{Users, Caller, caller_of, caller_for_rights}
use Rattle.namespace_rows.specs.declared.row.Row.{Row}
use Rattle.required_rights.specs.RequiredRights.{Demand, required_rights}
use Rattle.flat_rows.specs.Decision.{without_rank_where, denial_among}
use Rattle.flat_rows.specs.Judging.{is_strict, judged_caller}
use Rattle.flat_rows.specs.Facts.{Facts}
use Rattle.flat_rows.specs.Outcome.{step, denied_or_outcome}
use Rattle.flat_rows.proofs.Judging.{judged_as_decided}
use Rattle.perm_walk.specs.JudgedStep.{judged_step}

-- whatever the rank, the name is the caller's
name_stays : (strict nodes : Bool) (users : Users) (caller : List ℕ) → (cond strict (without_rank_where nodes (caller_of users caller)) (caller_for_rights users caller)).name ≡ caller
name_stays true true users caller = refl
name_stays true false users caller = refl
name_stays false nodes users caller = refl

pub as_step : (facts : Facts) (rows : List Row) (users : Users) (caller : List ℕ) (who : Caller) (needs : List Demand) (op taken : Op) → who ≡ judged_caller users caller taken → needs ≡ required_rights op → op ≡ taken
    → judged_step facts rows users who needs taken ≡ step facts rows users caller op
as_step facts rows users caller who needs op taken him all is =
    rw (him, all, is)
    (ap (λ name. denied_or_outcome facts rows users name taken (denial_among rows (judged_caller users caller taken) (required_rights taken))) (name_stays (is_strict taken) (is_for_nodes taken) users caller)
    ∙ ap (denied_or_outcome facts rows users caller taken) (judged_as_decided rows users caller taken))

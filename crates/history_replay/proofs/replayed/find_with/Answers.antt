use Rattle.std.proofs.Common.{subst}
use Rattle.std.specs.Result.{IfOk}
use Rattle.history.specs.Config.{Opening}
use Rattle.history_replay.specs.Agreement.{Finds}
use Rattle.history_replay.specs.Looking.{Replayed}
use Rattle.history_replay.proofs.Replaying.{opened_with}
use Rattle.history_replay.proofs.replayed.find_with.Goals as goal

pub returns : goal.returns
returns c =
    subst (λ (opening : Opening). IfOk c.find_on-found.result (Finds (Replayed opening c.args.begun c.args.history.now c.args.passes.now)))
    (opened_with c.in_ok-core.core (record { config = c.args.config; key = c.args.first_key }) c.in_ok-core.ensures) c.find_on-found.ensures

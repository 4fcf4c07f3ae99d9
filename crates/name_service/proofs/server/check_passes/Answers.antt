use Rattle.std.proofs.Common.{◌∙◌, OnOk, subst}
use Rattle.history_replay.specs.Agreement.{Claims}
use Rattle.audit_check.specs.Laws.{AllAgree}
use Rattle.name_service.proofs.Closing.{same_claims}
use Rattle.name_service.proofs.server.check_passes.Goals as goal

pub returns-clause-agrees : goal.returns-clause-agrees
returns-clause-agrees c =
    subst (λ (claims : Claims). OnOk c.check-found.result (AllAgree claims))
    (same_claims c.args.opening.now c.args.core.now c.args.passes.items c.history.result.now c.as_slice.result.now c.history.ensures.entries (c.as_slice.ensures.value ∙ c.in_ok-kept.ensures)) c.check-found.ensures.agrees

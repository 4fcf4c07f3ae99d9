use Rattle.std.proofs.Common.{◌∙◌, ap, map}
use Rattle.cluster_core.specs.Past.{World}
use Rattle.cluster_core.specs.World.{state_after}
use Rattle.flat_rows.specs.DenialText.{trail_text}
use Rattle.explanations.specs.Explanation.{trail_on}
use Rattle.explanations.proofs.explain.explain_request.Goals as goal

pub returns-clause-text : goal.returns-clause-text
returns-clause-text c =
    c.in_ok-needs_text.ensures
    ∙ ap (λ (past : World). trail_text (trail_on past.opening.name (state_after past).entries c.args.request.now)) c.in_ok-run_lines.ensures.ok.world

use Rattle.std.proofs.Common.{◌≡◌, ◌∙◌, subst, IfOk}
use Rattle.history.specs.State.{rows_of, users_of}
use Rattle.flat_rows.specs.Decision.{trail}
use Rattle.name_core.specs.NameCore.{NameCore}
use Rattle.cluster_core.specs.Past.{World}
use Rattle.cluster_core.specs.World.{state_after}
use Rattle.explanations.specs.Explanation.{trail_on}
use Rattle.explanations.proofs.explain.trail_on.Goals as goal

-- on the core that the session's cluster lends
pub returns : goal.returns
returns c =
    let caller = c.args.request.now.caller in
    let op = c.args.request.now.op in
    let core = c.core-core.ensures in
    subst (λ (past : World). IfOk c.trail-needs.result (λ needs. needs.items ≡ trail_on past.opening.name (state_after past).entries c.args.request.now)) c.world.ensures
    (subst (λ (own : NameCore). IfOk c.trail-needs.result (λ needs. needs.items ≡ trail (rows_of own.opening own.entries) (users_of own.entries) caller op)) core
    (subst (λ rows. IfOk c.trail-needs.result (λ needs. needs.items ≡ trail rows (users_of c.core-core.result.now.entries) caller op)) (c.in_ok-rows.ensures ∙ c.tree.ensures)
    (subst (λ users. IfOk c.trail-needs.result (λ needs. needs.items ≡ trail c.in_ok-rows.rows users caller op)) c.users-users.ensures c.trail-needs.ensures)))

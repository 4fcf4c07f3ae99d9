use Rattle.std.proofs.Common.{subst}
use Rattle.cluster_trace.specs.Provenance.{AllRight}
use Rattle.cluster_trace.specs.Typed.{AreTyped}
use Rattle.cluster_laws.specs.Laws.{RecordsOf}
use Rattle.cluster_core.proofs.Reaching.{reached_right, reached_rest}
use Rattle.cluster_core.specs.Past.{World}
use Rattle.cluster_core.proofs.world.World.is_right.Goals as goal

pub returns-clause-right : goal.returns-clause-right
returns-clause-right c = subst (λ (past : World). AllRight past.opening past.events) c.self.view_is (reached_right c.self.inside c.self.invariant)

pub returns-clause-typed : goal.returns-clause-typed
returns-clause-typed c = subst (λ (past : World). AreTyped past.opening past.events) c.self.view_is c.self.invariant.typed

pub returns-clause-rest : goal.returns-clause-rest
returns-clause-rest c = subst (λ (past : World). RecordsOf past.opening past.events) c.self.view_is (reached_rest c.self.inside c.self.invariant)

use Rattle.cluster_parts.proofs.Tables.{unchanged}
use Rattle.cluster_parts.proofs.leaders.Leaders.begin.Goals as goal

pub returns-in_err-answered-clause-err : goal.returns-in_err-answered-clause-err
returns-in_err-answered-clause-err c =
    unchanged c.from_residual.result c.args.id c.self.inside.by_id.entries (c.get_mut.follows.lender c.begin.new.plans).entries c.args.self.now c.in-Some.plans.now c.begin.new.plans
    (c.get_mut.follows.holds c.begin.new.plans).0 c.in-Some.ensures.value c.self.view_is c.in_err-answered.ensures.err

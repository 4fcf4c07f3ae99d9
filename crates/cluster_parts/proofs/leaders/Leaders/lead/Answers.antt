use Rattle.cluster_parts.proofs.Tables.{unchanged}
use Rattle.cluster_parts.proofs.leaders.Leaders.lead.Goals as goal

pub returns-in_err-answered-clause-err : goal.returns-in_err-answered-clause-err
returns-in_err-answered-clause-err c =
    unchanged c.from_residual.result c.args.id c.self.inside.by_id.entries (c.get_mut.follows.lender c.lead.new.plans).entries c.args.self.now c.in-Some.plans.now c.lead.new.plans
    (c.get_mut.follows.holds c.lead.new.plans).0 c.in-Some.ensures.value c.self.view_is c.in_err-answered.ensures.err

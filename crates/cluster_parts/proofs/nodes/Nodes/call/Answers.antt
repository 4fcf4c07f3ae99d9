use Rattle.cluster_parts.proofs.Tables.{unchanged}
use Rattle.cluster_parts.proofs.nodes.Nodes.call.Goals as goal

pub returns-in_err-answered-clause-err : goal.returns-in_err-answered-clause-err
returns-in_err-answered-clause-err c =
    unchanged c.from_residual.result c.args.id c.self.inside.by_id.entries (c.get_mut.follows.lender c.call.new.self).entries c.args.self.now c.in-Some.node.now c.call.new.self
    (c.get_mut.follows.holds c.call.new.self).0 c.in-Some.ensures.value c.self.view_is c.in_err-answered.ensures.err

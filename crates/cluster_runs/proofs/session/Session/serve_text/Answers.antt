use Rattle.std.proofs.Common.{rules}
use Rattle.cluster_runs.proofs.Served.{one_more}
use Rattle.cluster_runs.proofs.session.Session.serve_text.Goals as goal

pub loop-line-preserved : goal.loop-line-preserved
loop-line-preserved c =
    (search rules, one_more c.args.text.now c.loop-line.rest.now c.in-Some.line.now c.in-Some.behind.now c.args.self.now c.loop-line.self c.serve.new.self c.loop-line.invariant.1 c.in-Some.ensures.pieces c.in_ok-serve.ensures.number c.in_ok-serve.ensures.ok)

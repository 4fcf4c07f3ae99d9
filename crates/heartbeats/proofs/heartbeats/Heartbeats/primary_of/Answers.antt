use Rattle.std.proofs.Common.{◌∙◌, arith}
use Rattle.heartbeats.proofs.Best.{led_at_end}
use Rattle.heartbeats.proofs.heartbeats.Heartbeats.primary_of.Goals as goal

pub returns : goal.returns
returns c = c.node_of.ensures ∙ led_at_end c.args.self.now c.args.now c.args.nodes.now c.loop-node.node-index c.loop-node.best (omega (arith, c.loop-node-test.false)) c.loop-node.invariant

use Rattle.std.proofs.Common.{None}
use Rattle.permission_laws.proofs.Checked.{if_strict, nodes_strict}
use Rattle.permission_laws.proofs.Endings.{done}
use Rattle.permission_laws.proofs.Held.{node_held}
use Rattle.permission_laws.proofs.laws.nodes_act_for_themselves.Goals as goal

pub returns : goal.returns
returns c = λ a namespace is_done for_nodes. node_held a.rows a.users a.caller namespace a.op (if_strict a.rows a.users a.caller a.op None (nodes_strict a.op for_nodes) (done a.facts a.rows a.users a.caller a.op is_done).allowed) for_nodes

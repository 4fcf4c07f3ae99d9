use Rattle.node_ids.proofs.Nodes.{principal_read, principal_spelled}
use Rattle.node_ids.proofs.node_id.principals_name_nodes.Goals as goal

pub returns-clause-read : goal.returns-clause-read
returns-clause-read c = principal_read

pub returns-clause-spelled : goal.returns-clause-spelled
returns-clause-spelled c = principal_spelled

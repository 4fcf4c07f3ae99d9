use Rattle.datanode.proofs.Nodes.{after}
use Rattle.datanode.proofs.laws.promises_and_bytes_stay.Goals as goal

pub returns-clause-promises : goal.returns-clause-promises
returns-clause-promises c = λ node now asked block. (after node now asked block).promise

pub returns-clause-below : goal.returns-clause-below
returns-clause-below c = λ node now asked below block. (after node now asked block).below (below block)

pub returns-clause-bytes : goal.returns-clause-bytes
returns-clause-bytes c = λ node now asked block below. (after node now asked block).kept (below block)

use denote.Param.Send.{sendable}
use Rattle.name_service.specs.contracts.gate.Free as free
use Rattle.name_service.proofs.Threads.{server_sync}
use Rattle.name_service.proofs.laws.servers_may_be_shared.Goals as goal

pub returns : goal.returns
returns c = server_sync free.the_row (search sendable depth 20)

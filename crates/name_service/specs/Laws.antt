-- Laws about servers.
use denote.Param.Send.{IsSync}
use Rattle.name_service.specs.contracts.gate.Free as free
use Rattle.name_service.specs.contracts.server.NameServer as server

-- threads may share a server
abbrev pub MayBeShared : Type 0
MayBeShared = IsSync (server.the_row free.the_row)

use Rattle.name_service.proofs.Threads.{server_sync}
use Rattle.service_tests.proofs.gates.Counting.TheSendSync as gate_laws
use Rattle.service_tests.specs.contracts.gates.Counting as gate
use Rattle.service_tests.proofs.calls.seen_of.Goals as goal

pub run_beside-requires-sync-S : goal.run_beside-requires-sync-S
run_beside-requires-sync-S g c κs within = record { shared = (server_sync gate.the_row gate_laws.the_sync).shared }

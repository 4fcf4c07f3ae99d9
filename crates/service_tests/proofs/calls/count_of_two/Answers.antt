use Rattle.name_service.proofs.Threads.{server_sync}
use Rattle.service_tests.proofs.gates.Meeting.TheSendSync as gate_laws
use Rattle.service_tests.specs.contracts.gates.Meeting as gate
use Rattle.service_tests.proofs.calls.count_of_two.Goals as goal

pub run_beside-requires-sync-S : goal.run_beside-requires-sync-S
run_beside-requires-sync-S g c κs within = record { shared = (server_sync gate.the_row gate_laws.the_sync).shared }

use Rattle.std.proofs.Common.{ap}
use Rattle.std.specs.Option.{is_some}
use Rattle.lease_manager.proofs.Counts.{made_anew}
use Rattle.lease_manager.proofs.open_files.OpenFiles.make_room.Goals as goal

pub returns-clause-counts : goal.returns-clause-counts
returns-clause-counts c = λ other. made_anew _ _ _ c.args.client.now _ other c.self.view_is c.in_ok-clone.ensures.cases (ap is_some c.in_default.ensures.value) (c.in_ok-insert.ensures.updates.0 other)

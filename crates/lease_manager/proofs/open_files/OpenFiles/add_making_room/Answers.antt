use Rattle.lease_manager.proofs.Counts.{refused_known}
use Rattle.lease_manager.proofs.open_files.OpenFiles.add_making_room.Goals as goal

pub returns-in_err-count-clause-err : goal.returns-in_err-count-clause-err
returns-in_err-count-clause-err c =
    refused_known c.from_residual.result c.args.self.now c.self.inside.counts.entries _ c.args.client.now c.in-Some.count.now c.self.view_is c.in-Some.ensures.value (c.get_mut.follows.holds c.in-Some.count.now).0

use Rattle.file_takeovers.proofs.ClosedFiles.{exact_finished}
use Rattle.file_takeovers.proofs.expiry.close_finished.Goals as goal

pub returns-clause-exact : goal.returns-clause-exact
returns-clause-exact c = λ last few exact.
    exact_finished c.args.client.now c.args.tree.now c.close_finished-closed.new.self c.args.writers.now c.close_some.new.self c.close_finished-closed.result (c.close_finished-closed.ensures.count few) (c.close_finished-closed.ensures.all few)
    c.close_some.ensures.files c.close_some.ensures.leased last exact

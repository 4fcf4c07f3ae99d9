use Rattle.file_effects.proofs.Effected.{exact_close}
use Rattle.file_effects.proofs.effect.end_writing.Goals as goal

pub returns-clause-exact : goal.returns-clause-exact
returns-clause-exact c =
    exact_close c.args.path.now c.args.state c.args.client.now c.args.tree.now c.set_state.new.self c.args.writers.now c.close.new.self c.requires.namespace c.requires.held c.requires.unheld c.set_state.ensures c.close.ensures.files c.close.ensures.leased

use Rattle.std.proofs.Common.{◌∙◌}
use Rattle.file_takeovers.proofs.TakenFiles.{exact_unheld}
use Rattle.file_takeovers.proofs.expiry.take.Goals as goal

pub returns-in_default-clause-exact : goal.returns-in_default-clause-exact
returns-in_default-clause-exact c = exact_unheld c.args.path.now c.args.state c.args.tree.now c.set_state-place.new.self c.args.writers.now c.requires.namespace (c.requires.held ∙ c.in_default.is) c.requires.unheld c.set_state-place.ensures

pub end_writing-place-requires-clause-held : goal.end_writing-place-requires-clause-held
end_writing-place-requires-clause-held c = c.requires.held ∙ c.in-Some.is

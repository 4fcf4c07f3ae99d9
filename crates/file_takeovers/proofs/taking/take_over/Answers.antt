use Rattle.file_takeovers.proofs.TakenFiles.{taken_closed, taken_recovering}
use Rattle.file_takeovers.proofs.taking.take_over.Goals as goal

pub returns-in_default-clause-taken : goal.returns-in_default-clause-taken
returns-in_default-clause-taken c = λ done.
    taken_closed c.args.path.now c.args.now c.args.unfinished c.args.tree.now c.end_writing-place.new.tree c.args.blocks.now c.args.writers.now c.end_writing-place.new.writers c.in_default.is c.end_writing-place.ensures.tree c.end_writing-place.ensures.exact

pub returns-in-Ok-clause-taken : goal.returns-in-Ok-clause-taken
returns-in-Ok-clause-taken c = λ done.
    taken_recovering c.args.path.now c.args.now c.args.unfinished c.in-Some.block c.in-Ok.stamp c.args.tree.now c.end_writing-place-in-Ok.new.tree c.args.blocks.now c.begin_recovery.new.self c.args.writers.now c.end_writing-place-in-Ok.new.writers
    c.in-Some.is c.in-Ok.ensures.given c.end_writing-place-in-Ok.ensures.tree c.in-Ok.ensures.begun c.end_writing-place-in-Ok.ensures.exact

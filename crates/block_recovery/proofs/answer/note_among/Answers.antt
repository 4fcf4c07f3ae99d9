use Rattle.std.proofs.Common.{◌∙◌}
use Rattle.block_records.proofs.Standing.{set_there, inserted_in_gap}
use Rattle.block_recovery.proofs.answer.note_among.Goals as goal

pub returns-in-Ok-clause-ok : goal.returns-in-Ok-clause-ok
returns-in-Ok-clause-ok c = set_there c.args.node c.args.answer c.args.answers.now.items c.in-Ok.at (rw (← c.deref.ensures.value) c.in-Ok.ensures.there)

pub returns-in_ok-insert-in-Err-clause-ok : goal.returns-in_ok-insert-in-Err-clause-ok
returns-in_ok-insert-in-Err-clause-ok c =
    c.in_ok-insert-in-Err.ensures.items ∙ inserted_in_gap c.args.node c.args.answer c.args.answers.now.items c.in-Err.at (rw (← c.deref.ensures.value) c.in-Err.ensures.absent)

use Rattle.std.proofs.Common.{◌++◌, map, ap, ◌∙◌}
use Rattle.block_answers.specs.Commands.{Commands}
use Rattle.node_commands.specs.Granted.{recovery_row, copy_row}
use Rattle.node_commands.proofs.Rows.{rows_are}
use Rattle.node_commands.proofs.commands.granted_commands.Goals as goal

pub returns-clause-rows : goal.returns-clause-rows
returns-clause-rows c =
    c.in_ok-copies.ensures.rows
    ∙ (ap (λ rows. rows ++ map (copy_row c.args.place c.args.ring.now c.args.now c.args.principal.now) c.deref-3.result.now)
    (c.in_ok-recoveries.ensures.rows ∙ ap (λ rows. rows ++ map (recovery_row c.args.place c.args.ring.now c.args.now c.args.principal.now) c.deref.result.now) c.new-rows.ensures.items)
    ∙ rows_are c.args.place c.args.ring.now c.args.now c.args.principal.now c.deref.result.now c.deref-3.result.now c.in_ok-commands.commands
    (ap (λ (l : Commands). l.recoveries) c.in_ok-commands.ensures ∙ c.in_ok-recoveries.ensures.commands) (ap (λ (l : Commands). l.copies) c.in_ok-commands.ensures ∙ c.in_ok-copies.ensures.commands))

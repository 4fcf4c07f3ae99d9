use Rattle.std.proofs.Common.{◌∙◌, ap}
use Rattle.std.specs.Map.{remove_entry}
use Rattle.block_records.specs.Numbers.{is_number}
use Rattle.block_tables.proofs.Restored.{taken_out}
use Rattle.block_tables.proofs.block_table.BlockTable.insert_with.Goals as goal

pub returns-in_default-clause-err : goal.returns-in_default-clause-err
returns-in_default-clause-err c = (
  c.remove.ensures.left ∙ (ap (remove_entry (is_number c.args.block)) c.in_ok-insert.ensures.ok ∙ taken_out c.args.block c.args.own c.args.self.now c.requires.unknown),
  c.in_default.ensures.err,
)

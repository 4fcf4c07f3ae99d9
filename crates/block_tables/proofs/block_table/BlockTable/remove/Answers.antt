use Rattle.std.proofs.Common.{◌∙◌, ap, cond, None}
use Rattle.block_records.specs.Numbers.{is_number, entry_at}
use Rattle.block_tables.proofs.block_table.BlockTable.remove.Goals as goal

pub returns-clause-others : goal.returns-clause-others
returns-clause-others c = λ q. c.remove.ensures.updates.0 q ∙ ap (λ table. cond (is_number c.args.block q) None (entry_at q table)) c.self.view_is

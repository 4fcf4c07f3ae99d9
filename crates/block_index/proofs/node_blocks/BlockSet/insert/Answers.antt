use Rattle.std.proofs.Common.{◌∙◌, ap, cond, true}
use Rattle.std.specs.List.{list_any}
use Rattle.block_records.specs.Numbers.{is_number}
use Rattle.block_index.proofs.node_blocks.BlockSet.insert.Goals as goal

pub returns-clause-ok : goal.returns-clause-ok
returns-clause-ok c = λ q. c.in_ok-insert.ensures.updates.0 q ∙ ap (λ blocks. cond (is_number c.args.block q) true (list_any (is_number q) blocks)) c.self.view_is

use Rattle.std.proofs.Common.{◌∙◌, ap, cond, false}
use Rattle.std.specs.List.{list_any}
use Rattle.block_records.specs.Numbers.{is_number}
use Rattle.block_index.proofs.node_blocks.BlockSet.remove.Goals as goal

pub returns : goal.returns
returns c = λ q. c.remove.ensures.updates.0 q ∙ ap (λ blocks. cond (is_number c.args.block q) false (list_any (is_number q) blocks)) c.self.view_is

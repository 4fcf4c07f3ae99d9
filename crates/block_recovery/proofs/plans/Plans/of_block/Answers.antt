use Rattle.std.proofs.Common.{◌∙◌, ap}
use Rattle.block_records.specs.Numbers.{entry_at}
use Rattle.block_recovery.proofs.Newest.{found_newest}
use Rattle.block_recovery.proofs.plans.Plans.of_block.Goals as goal

pub returns : goal.returns
returns c = c.get.ensures.value ∙ (found_newest c.args.block c.self.inside.by_block.entries c.len-count.ensures.ordered ∙ ap (entry_at c.args.block) c.self.view_is)

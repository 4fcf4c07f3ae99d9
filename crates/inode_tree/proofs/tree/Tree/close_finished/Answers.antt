use Rattle.std.proofs.Common.{ap, ◌∙◌}
use Rattle.file_table.specs.Finished.{with_finished_closed}
use Rattle.inode_tree.proofs.FileBlocks.{closing_tree}
use Rattle.inode_tree.proofs.tree.Tree.close_finished.Goals as goal

pub invariant_of-self : goal.invariant_of-self
invariant_of-self c = closing_tree c.args.client.now c.self.inside.nodes c.close_finished.new.self c.close_finished.ensures.no_other c.self.invariant

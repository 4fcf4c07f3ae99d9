use Rattle.namespace_rows.specs.Files.{with_block}
use Rattle.inode_tree.proofs.FileBlocks.{push_keeps}
use Rattle.inode_tree.proofs.tree.Tree.push_block.Goals as goal

pub invariant_of-self : goal.invariant_of-self
invariant_of-self c = push_keeps (with_block c.args.block) c.names.result.now c.self.inside.nodes c.push_block.new.self c.self.invariant c.push_block.result c.push_block.ensures.ok c.push_block.ensures.err

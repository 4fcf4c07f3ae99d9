use Rattle.namespace_rows.specs.Files.{with_block}
use Rattle.inode_nodes.specs.Node.{rows}
use Rattle.inode_nodes.proofs.Through.{on_ok}
use Rattle.inode_files.proofs.SeenParts.{edited_there, edited_nowhere}
use Rattle.inode_files.proofs.nodes.Nodes.push_block.Goals as goal

pub returns-in-Some-clause-ok : goal.returns-in-Some-clause-ok
returns-in-Some-clause-ok c =
    on_ok c.push_block.result
    (λ updates. edited_there c.self.inside.files c.push_block.new.self (rows c.self.inside.root) c.args.self.now c.args.path.now (with_block c.args.block) c.self.view_is c.requires c.in-Some.place c.place_at.result c.in-Some.is c.place_at.ensures updates c.self.invariant)
    c.push_block.ensures.ok

pub returns-in-None-clause-ok : goal.returns-in-None-clause-ok
returns-in-None-clause-ok c =
    edited_nowhere c.self.inside.files c.self.inside.files (rows c.self.inside.root) c.args.self.now c.args.path.now (with_block c.args.block) c.self.view_is c.requires c.place_at.result c.in-None.is c.place_at.ensures

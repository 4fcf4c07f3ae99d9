use Rattle.std.proofs.Common.{◌≤◌, length, subst}
use Rattle.std.specs.Prelude.{IfSome}
use Rattle.file_table.specs.Finished.{finished_files}
use Rattle.inode_nodes.specs.Node.{rows}
use Rattle.inode_files.proofs.nodes.Nodes.count_finished.Goals as goal

pub returns : goal.returns
returns c =
    subst (λ all. IfSome c.count_finished.result (λ count. count ≤ length (finished_files c.args.client.now all))) c.self.view_is (c.count_finished.ensures (rows c.self.inside.root) c.self.invariant)

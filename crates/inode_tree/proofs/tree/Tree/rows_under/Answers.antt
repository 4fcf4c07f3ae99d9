use Rattle.std.proofs.Common.{ap, subst, sym}
use Rattle.std.specs.Option.{option_map}
use Rattle.std.specs.Prelude.{map, IsTrue}
use Rattle.namespace_rows.specs.Changes.{are_paths}
use Rattle.inode_nodes.specs.Node.{rows, row_placed}
use Rattle.inode_tree.specs.Tree.{branch_at}
use Rattle.inode_tree.proofs.Asked.{rows_there}
use Rattle.inode_tree.proofs.tree.Tree.rows_under.Goals as goal

pub push_rows-requires : goal.push_rows-requires
push_rows-requires c =
    subst (λ p. IsTrue (are_paths (map (row_placed p) (rows (branch_at c.in-Some.inode))))) (sym c.in_ok-clone.ensures.cases)
    (rows_there c.names.result.now c.args.path.now c.names.ensures.names c.self.inside.nodes c.args.self.now c.self.view_is c.self.invariant (option_map branch_at c.find.result) c.find.ensures (branch_at c.in-Some.inode) (ap (option_map branch_at) c.in-Some.is))

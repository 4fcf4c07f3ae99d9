use Rattle.std.proofs.Common.{ℕ, List, Option, Some, None, refl, ◌≡◌, ◌∙◌}
use Rattle.std.specs.Option.{option_map}
use Rattle.inode_nodes.specs.Node.{row_of}
use Rattle.inode_nodes.proofs.Wholes.{row_found}
use Rattle.inode_files.specs.declared.inode.Inode.{Inode}
use Rattle.inode_tree.specs.Tree.{branch_at}
use Rattle.inode_tree.proofs.tree.Tree.get.Goals as goal

by_branch : (path : List (List ℕ)) (found : Option Inode) → option_map (λ inode. row_of path (branch_at inode).top) found ≡ option_map (λ branch. row_of path branch.top) (option_map branch_at found)
by_branch path None = refl
by_branch path (Some inode) = refl

pub returns-clause-row : goal.returns-clause-row
returns-clause-row c =
    by_branch c.args.path.now c.find.result
    ∙ row_found c.names.result.now c.args.path.now c.self.inside.nodes c.args.self.now (option_map branch_at c.find.result) (option_map branch_at c.find.result) c.names.ensures.names c.self.view_is refl c.find.ensures

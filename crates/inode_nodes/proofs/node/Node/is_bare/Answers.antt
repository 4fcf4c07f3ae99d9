use Rattle.std.proofs.Common.{◌≡◌, [], ◌∷◌, sym, subst}
use Rattle.flat_rows.specs.Outcome.{is_alone}
use Rattle.inode_nodes.specs.Node.{rows, row_of}
use Rattle.inode_nodes.specs.Kept.{branch_of, rows_in}
use Rattle.inode_nodes.proofs.Alone.{by_entries}
use Rattle.inode_nodes.proofs.node.Node.is_bare.Goals as goal

pub returns-in-Directory-clause-told : goal.returns-in-Directory-clause-told
returns-in-Directory-clause-told c = λ kind.
    subst (λ b. c.is_empty.result ≡ is_alone (rows b)) c.self.view_is
    (subst (λ h. c.is_empty.result ≡ is_alone (row_of [] (branch_of c.self.inside).top ∷ rows_in h)) (sym c.in-Directory.is)
    (by_entries (row_of [] (branch_of c.self.inside).top) c.in-Directory.map.entries c.is_empty.result c.is_empty.ensures.0 c.is_empty.ensures.1))

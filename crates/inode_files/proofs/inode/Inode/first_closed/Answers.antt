use Rattle.std.proofs.Common.{refl}
use Rattle.inode_nodes.specs.Node.{rows}
use Rattle.inode_nodes.proofs.Through.{if_ok}
use Rattle.inode_visits.specs.Visits.{is_closed}
use Rattle.inode_files.proofs.SeenParts.{first_seen}
use Rattle.inode_files.proofs.inode.Inode.first_closed.Goals as goal

pub returns : goal.returns
returns c = if_ok c.first_closed.result (λ found is. first_seen c.args.self.now.files.now (is_closed c.args.caller.now c.args.groups.now c.args.need) (λ row. refl) found (rows c.args.self.now.node.now) is) c.first_closed.ensures

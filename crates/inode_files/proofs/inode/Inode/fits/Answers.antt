use Rattle.std.proofs.Common.{◌∙◌, refl, sym}
use Rattle.file_table.specs.Seen.{file_held}
use Rattle.inode_nodes.specs.Node.{rows}
use Rattle.inode_visits.specs.Limits.{fits_behind}
use Rattle.inode_files.proofs.SeenRows.{shown_all}
use Rattle.inode_files.proofs.inode.Inode.fits.Goals as goal

pub returns : goal.returns
returns c = c.fits.ensures ∙ sym (shown_all (file_held c.args.self.now.files.now) (fits_behind c.args.depth c.args.bytes) (fits_behind c.args.depth c.args.bytes) (λ row. refl) (rows c.args.self.now.node.now))

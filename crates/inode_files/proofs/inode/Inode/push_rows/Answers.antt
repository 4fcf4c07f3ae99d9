use Rattle.std.proofs.Common.{◌∙◌, ap, sym, map}
use Rattle.namespace_rows.specs.Changes.{are_paths}
use Rattle.file_table.specs.Seen.{file_held}
use Rattle.inode_nodes.specs.Node.{rows, row_placed}
use Rattle.inode_visits.proofs.Visits.{seen_placed}
use Rattle.inode_files.proofs.SeenRows.{shown_paths}
use Rattle.inode_files.proofs.inode.Inode.push_rows.Goals as goal

pub push_rows-requires : goal.push_rows-requires
push_rows-requires c =
    sym (shown_paths (file_held c.args.self.now.files.now) (map (row_placed c.args.path) (rows c.args.self.now.node.now))) ∙ ap are_paths (sym (seen_placed c.args.self.now.files.now c.args.path (rows c.args.self.now.node.now))) ∙ c.requires

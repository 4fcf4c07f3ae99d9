use Rattle.std.proofs.Common.{Some, ap, arith, subst, sym, ◌∙◌, length}
use Rattle.std.specs.List.{list_all}
use Rattle.std.specs.Option.{option_map}
use Rattle.inode_nodes.specs.Node.{rows}
use Rattle.inode_visits.specs.Limits.{fits_behind}
use Rattle.inode_nodes.specs.Part.{IsWhole}
use Rattle.inode_tree.specs.Tree.{branch_at}
use Rattle.inode_visits.proofs.Limits.{fits_moved, fits_short}
use Rattle.inode_tree.proofs.tree.Tree.can_move.Goals as goal

pub returns-then-bytes-text_bytes : goal.returns-then-bytes-text_bytes
returns-then-bytes-text_bytes c =
    sym (fits_short c.names.result.now c.args.from.now c.args.to.now c.names.ensures.names c.self.inside.nodes c.args.self.now c.self.view_is c.self.invariant.paths c.names.ensures.path c.text_bytes-bytes.ensures.path (option_map branch_at c.find.result) c.find.ensures
    (omega (arith, c.if-depth.true, c.depth-depth.ensures, c.depth.ensures)) (omega (arith, c.if-bytes-text_bytes.true, c.text_bytes-bytes.ensures.bytes, c.text_bytes.ensures.bytes)))

pub returns : goal.returns
returns c =
    c.fits.ensures ∙ ap (λ d. list_all (fits_behind d c.text_bytes-bytes.result) (rows (branch_at c.in-Some.inode))) c.depth-depth.ensures
    ∙ ap (λ b. list_all (fits_behind (length c.args.to.now) b) (rows (branch_at c.in-Some.inode))) c.text_bytes-bytes.ensures.bytes
    ∙ fits_moved c.names.result.now c.args.from.now c.args.to.now c.names.ensures.names c.self.inside.nodes c.args.self.now c.self.view_is c.self.invariant.paths c.names.ensures.path c.text_bytes-bytes.ensures.path (Some (branch_at c.in-Some.inode)) (subst (IsWhole c.names.result.now c.self.inside.nodes) (ap (option_map branch_at) c.in-Some.is) c.find.ensures)

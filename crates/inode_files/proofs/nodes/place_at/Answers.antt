use Rattle.std.proofs.Common.{None, Some, ◌∙◌, ap, refl, subst}
use Rattle.std.specs.Option.{option_map, option_copied}
use Rattle.file_table.specs.Place.{placed}
use Rattle.inode_nodes.specs.Node.{rows}
use Rattle.inode_nodes.specs.Part.{IsWhole}
use Rattle.inode_files.proofs.SeenParts.{place_found}
use Rattle.inode_files.proofs.nodes.place_at.Goals as goal

pub returns-in_err-find : goal.returns-in_err-find
returns-in_err-find c =
    ap (option_map placed) c.from_residual.ensures ∙ place_found c.args.path.now (rows c.args.root.now) None None (subst (IsWhole c.args.path.now (rows c.args.root.now)) (ap option_copied c.in_err-find.was) c.find.ensures) refl

pub returns : goal.returns
returns c =
    c.place.ensures ∙ place_found c.args.path.now (rows c.args.root.now) (Some c.in_ok-find.field-0.now) c.in_ok-find.field-0.now.top.file (subst (IsWhole c.args.path.now (rows c.args.root.now)) (ap option_copied c.in_ok-find.was) c.find.ensures) refl

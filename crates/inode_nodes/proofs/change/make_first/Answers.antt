use Rattle.std.proofs.Common.{◌∙◌, ap, sym}
use Rattle.std.specs.BTreeMap.{insert_entry}
use Rattle.std.specs.Option.{option_map}
use Rattle.file_table.specs.Place.{placed}
use Rattle.inode_nodes.specs.Change.{chain}
use Rattle.inode_nodes.proofs.Split.{R}
use Rattle.inode_nodes.proofs.Makes.{absent_first, make_here}
use Rattle.inode_nodes.proofs.change.make_first.Goals as goal

pub returns-clause-ok : goal.returns-clause-ok
returns-clause-ok c =
    let absent = absent_first c.args.first.now c.args.map.now.entries c.requires.sorted c.requires.missing in
    λ top group list. make_here c.args.owner.now c.args.mode (option_map placed c.args.file) c.args.first.now c.args.rest.now top c.in_ok-chain.chain c.args.map.now.entries _ c.requires.sorted absent
    (c.in_ok-chain.ensures ∙ ap (λ g. chain c.args.above.now g c.args.owner.now c.args.mode (option_map placed c.args.file) c.args.rest.now) (sym group) ∙ ap (λ l. chain l top.group c.args.owner.now c.args.mode (option_map placed c.args.file) c.args.rest.now) (sym list))
    (c.in_ok-insert.ensures.entries ∙ ap (λ k. insert_entry R c.args.map.now.entries k c.in_ok-chain.chain) c.in_ok-clone.ensures.cases)

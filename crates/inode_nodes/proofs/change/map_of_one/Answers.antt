use Rattle.std.proofs.Common.{◌∙◌, ap, [], ◌∷◌}
use Rattle.std.specs.BTreeMap.{insert_entry}
use Rattle.inode_nodes.proofs.Split.{R}
use Rattle.inode_nodes.proofs.change.map_of_one.Goals as goal

pub returns-clause-one : goal.returns-clause-one
returns-clause-one c =
    let key = c.in-Ok.name in
    c.in-Ok-insert.ensures.entries ∙ ap (λ es. insert_entry R es key c.args.inner) c.new-nodes.ensures.empty ∙ ap (λ k. (k, c.args.inner) ∷ []) c.in-Ok.ensures.cases

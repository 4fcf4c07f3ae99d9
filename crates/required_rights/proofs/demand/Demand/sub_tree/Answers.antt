use Rattle.std.proofs.Common.{rules}
use Rattle.required_rights.proofs.demand.Demand.sub_tree.Goals as goal

pub returns : goal.returns
returns c = search rules

use Rattle.std.proofs.Common.{rules}
use Rattle.required_rights.proofs.demand.needs_of_file.Goals as goal

pub returns : goal.returns
returns c = search rules

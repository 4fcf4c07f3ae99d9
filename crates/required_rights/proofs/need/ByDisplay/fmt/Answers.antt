use Rattle.std.proofs.Common.{rules}
use Rattle.required_rights.proofs.need.ByDisplay.fmt.Goals as goal

pub returns-in-Entry-default-Some-clause-writes : goal.returns-in-Entry-default-Some-clause-writes
returns-in-Entry-default-Some-clause-writes g c = search rules

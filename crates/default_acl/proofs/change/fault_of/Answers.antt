use Rattle.std.proofs.Common.{rules}
use Rattle.default_acl.proofs.change.fault_of.Goals as goal

pub returns-then-touches : goal.returns-then-touches
returns-then-touches c = search rules

pub returns-in-Set : goal.returns-in-Set
returns-in-Set c = search rules

pub returns-in-Remove : goal.returns-in-Remove
returns-in-Remove c = search rules

pub returns-in-Remove-2 : goal.returns-in-Remove-2
returns-in-Remove-2 c = search rules

pub returns-in_default : goal.returns-in_default
returns-in_default c = search rules

pub returns-in_default-2 : goal.returns-in_default-2
returns-in_default-2 c = search rules

pub returns-in_default-3 : goal.returns-in_default-3
returns-in_default-3 c = search rules

pub returns-in_default-4 : goal.returns-in_default-4
returns-in_default-4 c = search rules

pub returns-in_default-5 : goal.returns-in_default-5
returns-in_default-5 c = search rules

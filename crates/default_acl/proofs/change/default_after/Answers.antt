use Rattle.std.proofs.Common.{rules}
use Rattle.default_acl.proofs.change.default_after.Goals as goal

pub returns-then-not-touches : goal.returns-then-not-touches
returns-then-not-touches c = search rules

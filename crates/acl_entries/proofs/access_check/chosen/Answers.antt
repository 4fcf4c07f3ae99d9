use Rattle.std.proofs.Common.{rules}
use Rattle.acl_entries.proofs.access_check.chosen.Goals as goal

pub returns : goal.returns
returns c = search rules

use Rattle.std.proofs.Common.{rules}
use Rattle.acl_entries.proofs.acl.Acl.mode.Goals as goal

pub returns : goal.returns
returns c = search rules

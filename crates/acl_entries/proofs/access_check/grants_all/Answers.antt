use Rattle.std.proofs.Common.{rules}
use Rattle.acl_entries.proofs.access_check.grants_all.Goals as goal

pub returns-then-grants : goal.returns-then-grants
returns-then-grants c = search rules

use Rattle.default_acl.proofs.Judging.{strangers}
use Rattle.default_acl.proofs.laws.strangers_are_others.Goals as goal

pub returns : goal.returns
returns c = strangers

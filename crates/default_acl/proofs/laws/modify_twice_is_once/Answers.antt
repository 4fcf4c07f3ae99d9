use Rattle.default_acl.proofs.Repeating.{modified_again}
use Rattle.default_acl.proofs.laws.modify_twice_is_once.Goals as goal

pub returns : goal.returns
returns c = modified_again

use Rattle.default_acl.proofs.Setting.{printed_and_set}
use Rattle.default_acl.proofs.laws.what_is_printed_is_set_again.Goals as goal

pub returns : goal.returns
returns c = printed_and_set c.specs_have_one_spelling.ensures.read

use Rattle.default_acl.proofs.Setting.{copied}
use Rattle.default_acl.proofs.laws.setting_to_entries_copies.Goals as goal

pub returns : goal.returns
returns c = copied

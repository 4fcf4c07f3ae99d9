use Rattle.default_acl.proofs.Judging.{masks_bound}
use Rattle.default_acl.proofs.laws.masks_bound_what_is_granted.Goals as goal

pub returns : goal.returns
returns c = masks_bound

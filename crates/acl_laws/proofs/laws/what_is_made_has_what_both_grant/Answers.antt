use Rattle.acl_laws.proofs.Inherited.{both_granted, made_keeps_to_list, made_keeps_to_mode, sticky_of_mode}
use Rattle.acl_laws.proofs.laws.what_is_made_has_what_both_grant.Goals as goal

pub returns-clause-mode : goal.returns-clause-mode
returns-clause-mode c = made_keeps_to_mode

pub returns-clause-list : goal.returns-clause-list
returns-clause-list c = made_keeps_to_list

pub returns-clause-both : goal.returns-clause-both
returns-clause-both c = both_granted

pub returns-clause-sticky : goal.returns-clause-sticky
returns-clause-sticky c = sticky_of_mode

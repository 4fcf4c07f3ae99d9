use Rattle.acl_laws.proofs.Changed.{bases_kept, emptied_alone, lists_stay, modes_leave, sticky_stays}
use Rattle.acl_laws.proofs.Given.{others_keep}
use Rattle.acl_laws.proofs.laws.changes_leave_what_they_do_not_name.Goals as goal

pub returns-clause-sticky : goal.returns-clause-sticky
returns-clause-sticky c = sticky_stays

pub returns-clause-modes : goal.returns-clause-modes
returns-clause-modes c = modes_leave

pub returns-clause-lists : goal.returns-clause-lists
returns-clause-lists c = lists_stay

pub returns-clause-emptied : goal.returns-clause-emptied
returns-clause-emptied c = emptied_alone

pub returns-clause-cleared : goal.returns-clause-cleared
returns-clause-cleared c = bases_kept

pub returns-clause-others : goal.returns-clause-others
returns-clause-others c = others_keep

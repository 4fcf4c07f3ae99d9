use Rattle.permission_laws.proofs.Judging.{owners_unmasked, named_before_groups, members_are_not_others, first_grants, first_denies, others_unmasked, nothing_else}
use Rattle.permission_laws.proofs.laws.the_entry_that_decides.Goals as goal

pub returns-clause-owners : goal.returns-clause-owners
returns-clause-owners c = owners_unmasked

pub returns-clause-named : goal.returns-clause-named
returns-clause-named c = named_before_groups

pub returns-clause-members : goal.returns-clause-members
returns-clause-members c = members_are_not_others

pub returns-clause-granting : goal.returns-clause-granting
returns-clause-granting c = λ asked entry none masked first. first_grants asked none entry masked first

pub returns-clause-denying : goal.returns-clause-denying
returns-clause-denying c = λ asked entry none denied first. first_denies asked none entry denied first

pub returns-clause-others : goal.returns-clause-others
returns-clause-others c = others_unmasked

pub returns-clause-nobody : goal.returns-clause-nobody
returns-clause-nobody c = nothing_else

use Rattle.acl_laws.proofs.Given.{bases_given, masks_are_unions, masks_given, missing_bases, named_are_given, removed_have_none}
use Rattle.acl_laws.proofs.laws.changes_give_and_take_what_they_name.Goals as goal

pub returns-clause-given : goal.returns-clause-given
returns-clause-given c = named_are_given

pub returns-clause-bases : goal.returns-clause-bases
returns-clause-bases c = bases_given

pub returns-clause-masks : goal.returns-clause-masks
returns-clause-masks c = masks_given

pub returns-clause-missing : goal.returns-clause-missing
returns-clause-missing c = missing_bases

pub returns-clause-taken : goal.returns-clause-taken
returns-clause-taken c = removed_have_none

pub returns-clause-unions : goal.returns-clause-unions
returns-clause-unions c = masks_are_unions

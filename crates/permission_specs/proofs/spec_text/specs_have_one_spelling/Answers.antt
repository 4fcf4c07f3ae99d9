use Rattle.permission_specs.proofs.SpecTexts.{spec_read}
use Rattle.permission_specs.proofs.SpecSpellings.{spec_spelled}
use Rattle.permission_specs.proofs.spec_text.specs_have_one_spelling.Goals as goal

pub returns-clause-read : goal.returns-clause-read
returns-clause-read c = spec_read

pub returns-clause-spelled : goal.returns-clause-spelled
returns-clause-spelled c = spec_spelled c.rights_have_one_spelling.ensures.spelled

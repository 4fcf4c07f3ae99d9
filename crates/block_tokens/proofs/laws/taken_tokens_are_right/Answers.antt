use Rattle.block_tokens.proofs.Taking.{taken, test_tells}
use Rattle.block_tokens.proofs.laws.taken_tokens_are_right.Goals as goal

pub returns-clause-taken : goal.returns-clause-taken
returns-clause-taken c = taken

pub returns-clause-right : goal.returns-clause-right
returns-clause-right c = test_tells

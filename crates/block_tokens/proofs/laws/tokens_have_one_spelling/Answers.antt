use Rattle.block_tokens.proofs.Taking.{parts_told, no_extension}
use Rattle.block_tokens.proofs.laws.tokens_have_one_spelling.Goals as goal

pub returns-clause-told : goal.returns-clause-told
returns-clause-told c = parts_told

pub returns-clause-ended : goal.returns-clause-ended
returns-clause-ended c = no_extension

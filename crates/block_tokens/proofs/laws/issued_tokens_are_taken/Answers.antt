use Rattle.block_tokens.proofs.Taking.{issued_taken}
use Rattle.block_tokens.proofs.Bringing.{key_brought}
use Rattle.block_tokens.proofs.laws.issued_tokens_are_taken.Goals as goal

pub returns-clause-taken : goal.returns-clause-taken
returns-clause-taken c = issued_taken

pub returns-clause-brought : goal.returns-clause-brought
returns-clause-brought c = key_brought

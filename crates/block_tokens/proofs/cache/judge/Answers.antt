use Rattle.std.proofs.Common.{rules}
use Rattle.block_tokens.proofs.cache.judge.Goals as goal

pub returns-then-not-is_user : goal.returns-then-not-is_user
returns-then-not-is_user c = search rules

pub returns-then-ne : goal.returns-then-ne
returns-then-ne c = search rules

pub returns-then-not-covers : goal.returns-then-not-covers
returns-then-not-covers c = search rules

pub returns : goal.returns
returns c = search rules

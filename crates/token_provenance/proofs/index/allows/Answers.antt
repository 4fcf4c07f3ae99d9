use Rattle.std.proofs.Common.{rules}
use Rattle.token_provenance.proofs.index.allows.Goals as goal

pub returns-then-covers : goal.returns-then-covers
returns-then-covers c = search rules

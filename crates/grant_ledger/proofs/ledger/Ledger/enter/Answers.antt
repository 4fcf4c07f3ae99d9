use Rattle.std.proofs.Common.{rules}
use Rattle.grant_ledger.proofs.ledger.Ledger.enter.Goals as goal

pub returns-clause-ok : goal.returns-clause-ok
returns-clause-ok c = search rules

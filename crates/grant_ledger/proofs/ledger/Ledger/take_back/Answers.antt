use Rattle.std.proofs.Common.{rules}
use Rattle.grant_ledger.proofs.ledger.Ledger.take_back.Goals as goal

pub returns : goal.returns
returns c = search rules

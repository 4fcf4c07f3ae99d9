-- A ledger: the tokens that a NameNode ever granted, each with the place of the entry of its history that granted it.
-- (This project's own rule: what was granted is kept, so that it can be looked up afterwards.)
use Rattle.std.specs.Prelude.{List}
use Rattle.grant_ledger.specs.declared.ledger.LedgerRow.{LedgerRow}

-- the rows in the order in which they were granted
pub record Ledger : Type 0 where
  pub rows : List LedgerRow

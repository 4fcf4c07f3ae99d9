-- The tokens of a heartbeat's commands.
use Rattle.std.specs.Prelude.{ℕ, List}
use Rattle.permission_bits.specs.Modes.{modes}
use Rattle.block_tokens.specs.Ring.{KeyRing, grant_of}
use Rattle.block_changes.specs.declared.transfer.Transfer.{Transfer}
use Rattle.flat_rows.specs.NodeOutcome.{Tokens}
use Rattle.block_changes.specs.declared.recovery.Recovery.{Recovery}
use Rattle.grant_ledger.specs.declared.ledger.LedgerRow.{LedgerRow}
use Rattle.history.specs.Grants.{BlockModes, ledger_row}

-- the bytes of what is granted now under the current key
abbrev pub tokens_of : KeyRing → ℕ → Tokens
tokens_of ring now = λ user block granted. (grant_of ring now user block granted).token

abbrev pub recovery_access : Recovery → BlockModes
recovery_access recovery = record { block = recovery.block; modes = modes 2 }

abbrev pub copy_access : Transfer → BlockModes
copy_access copy = record { block = copy.block; modes = modes 3 }

-- the rows of their tokens
abbrev pub recovery_row : ℕ → KeyRing → ℕ → List ℕ → Recovery → LedgerRow
recovery_row place ring now principal recovery = ledger_row place ring now principal (recovery_access recovery)

abbrev pub copy_row : ℕ → KeyRing → ℕ → List ℕ → Transfer → LedgerRow
copy_row place ring now principal copy = ledger_row place ring now principal (copy_access copy)

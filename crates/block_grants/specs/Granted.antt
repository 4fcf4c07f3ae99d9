-- The ledger's rows of what writers and readers are granted.
use Rattle.std.specs.Prelude.{ℕ, List}
use Rattle.permission_bits.specs.Modes.{modes}
use Rattle.block_answers.specs.declared.located.LocatedBlock.{LocatedBlock}
use Rattle.block_tokens.specs.Ring.{KeyRing}
use Rattle.grant_ledger.specs.declared.ledger.LedgerRow.{LedgerRow}
use Rattle.history.specs.Grants.{ledger_row}

-- of a new block, to write it
abbrev pub writer_row : ℕ → KeyRing → ℕ → List ℕ → ℕ → LedgerRow
writer_row place ring now caller block = ledger_row place ring now caller (record { block = block; modes = modes 2 })

-- of a block of a file, to read it
abbrev pub reader_row : ℕ → KeyRing → ℕ → List ℕ → LocatedBlock → LedgerRow
reader_row place ring now caller located = ledger_row place ring now caller (record { block = located.block; modes = modes 1 })

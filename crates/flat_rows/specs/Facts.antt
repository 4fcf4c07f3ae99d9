-- What an outcome asks beside the namespace and the users: the moment, how leases stand, what is known of blocks and DataNodes, and the
-- keys under which tokens are issued.
use Rattle.std.specs.Prelude.{ℕ, List, Option}
use Rattle.permission_bits.specs.declared.modes.Modes.{Modes}
use Rattle.block_answers.specs.KeyList.{KeyList}
use Rattle.block_map.specs.BlockFacts.{Blocks}
use Rattle.flat_rows.specs.FileOutcome.{LeaseFacts}

pub record Facts : Type 0 where
  -- in milliseconds
  pub now : ℕ
  pub leases : LeaseFacts
  pub blocks : Blocks
  -- the keys that serve now
  pub keys : KeyList
  -- the serial of the next key; none where all serials are given away
  pub next_serial : Option ℕ
  -- the bytes of the token that a user is granted now for some modes of a block
  pub token : List ℕ → ℕ → Modes → List ℕ

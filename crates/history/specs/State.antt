-- The users, the namespace and the blocks that a history gives. A history is a list of entries, the newest first.
use Rattle.std.specs.Prelude.{ℕ, Bool, true, List, [], ◌∷◌, codes, Option}
use Rattle.hdfs_types.specs.declared.op.Op.{Op}
use Rattle.principals.specs.Users.{Users}
use Rattle.namespace_rows.specs.declared.row.Row.{Row}
use Rattle.flat_rows.specs.declared.verdict.Verdict.{Verdict}
use Rattle.flat_rows.specs.declared.verdict.Verdict.TheVariants.{Done, Denied, Refused}
use Rattle.namespace_rows.specs.Opening.{root_row}
use Rattle.namespace_rows.specs.Files.{has_open_file}
use Rattle.block_tokens.specs.Ring.{KeyRing, next_serial, update_of, grant_of}
use Rattle.block_map.specs.BlockFacts.{Blocks}
use Rattle.flat_rows.specs.Facts.{Facts}
use Rattle.flat_rows.specs.Outcome.{rows_after, users_after}
use Rattle.history.specs.declared.entry.HistoryEntry.{HistoryEntry}
use Rattle.history.specs.Config.{Opening, limits_of}
use Rattle.history.specs.ClockAndLease.{clock_of, last_renewal, lease_in, facts_at}
use Rattle.history.specs.Keys.{ring_of}
use Rattle.history.specs.Blocks.{first_blocks, blocks_by}
use Rattle.lease_manager.specs.Leases.{Limits}

-- ---- users

abbrev pub superuser : List ℕ
superuser = codes "hdfs"

abbrev pub supergroup : List ℕ
supergroup = codes "supergroup"

-- what is denied or refused changes nothing
abbrev pub users_by : Op → Verdict → Users → Users
users_by op (Done told) users = users_after op users
users_by op (Denied denial) users = users
users_by op (Refused refusal) users = users

abbrev pub users_of : List HistoryEntry → Users
users_of [] = record { known = []; superuser = superuser; supergroup = supergroup; checking = true }
users_of (entry ∷ earlier) = users_by entry.request.op entry.verdict (users_of earlier)

-- ---- the namespace

-- what an outcome asks at a moment: of leases, each given by its last renewal, of the keys, and of blocks and nodes
abbrev pub facts_with : Limits → ℕ → (List ℕ → Option ℕ) → KeyRing → Blocks → Facts
facts_with limits now lease ring blocks = record {
  now = now;
  leases = facts_at limits now lease;
  blocks = blocks;
  keys = update_of ring now;
  next_serial = next_serial ring.serial;
  token = λ user block granted. (grant_of ring now user block granted).token;
}

abbrev pub rows_by : Facts → Op → List ℕ → Verdict → List Row → List Row
rows_by facts op caller (Done told) rows = rows_after facts op caller rows
rows_by facts op caller (Denied denial) rows = rows
rows_by facts op caller (Refused refusal) rows = rows

-- the namespace, and what is known of blocks and DataNodes: each is asked for what becomes of the other
pub record Spaces : Type 0 where
  pub rows : List Row
  pub blocks : Blocks

abbrev pub spaces_by : Facts → Op → List ℕ → Verdict → Spaces → Spaces
spaces_by facts op caller verdict before =
    record { rows = rows_by facts op caller verdict before.rows; blocks = blocks_by facts op caller verdict before.rows before.blocks }

abbrev pub spaces_of : Opening → List HistoryEntry → Spaces
spaces_of opening [] = record { rows = root_row superuser supergroup ∷ []; blocks = first_blocks opening }
spaces_of opening (entry ∷ earlier) =
    let before = spaces_of opening earlier in
    spaces_by (facts_with (limits_of opening.config) (clock_of (entry ∷ earlier)) (lease_in (last_renewal earlier) before.rows) (ring_of opening earlier) before.blocks) entry.request.op entry.request.caller entry.verdict before

abbrev pub rows_of : Opening → List HistoryEntry → List Row
rows_of opening entries = (spaces_of opening entries).rows

abbrev pub blocks_of : Opening → List HistoryEntry → Blocks
blocks_of opening entries = (spaces_of opening entries).blocks

-- ---- leases

abbrev pub has_lease : Opening → List HistoryEntry → List ℕ → Bool
has_lease opening entries client = has_open_file client (rows_of opening entries)

-- the last renewal of a client that has a lease
abbrev pub lease_of : Opening → List HistoryEntry → List ℕ → Option ℕ
lease_of opening entries client = lease_in (last_renewal entries) (rows_of opening entries) client

-- how leases, keys, blocks and nodes stand at a moment
abbrev pub facts_of : Opening → List HistoryEntry → ℕ → Facts
facts_of opening entries now = facts_with (limits_of opening.config) now (lease_of opening entries) (ring_of opening entries) (blocks_of opening entries)

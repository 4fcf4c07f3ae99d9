-- What the index of a ledger keeps.
use Rattle.std.specs.Prelude.{◌≡◌, ℕ, Bool, false, ◌&&◌, ◌==◌, nat_le, if◌then◌else◌, List, [], ◌∷◌, ◌++◌, unwrap_or}
use denote.Ref.{Bor}
use Rattle.call_parts.specs.declared.access_log.AccessRecord.{AccessRecord}
use Rattle.grant_ledger.specs.declared.ledger.LedgerRow.{LedgerRow}
use Rattle.block_tokens.specs.declared.grant.Grant.{Grant}
use Rattle.token_provenance.specs.Provenance.{least_place, lesser, place_of}
use Rattle.std.specs.BTreeMap.{is_at}
use Rattle.std.specs.Map.{lookup}
use Rattle.hdfs_values.specs.Text.{same, text_cmp}

-- for each token, borrowed, the rows that are listed under it
abbrev pub TokenIndex : Type 0
TokenIndex = List (Bor (List ℕ) × List LedgerRow)

-- the rows that are listed under these bytes
abbrev pub rows_at : List ℕ → TokenIndex → List LedgerRow
rows_at bytes table = unwrap_or (lookup (is_at (λ key. text_cmp bytes key.now)) table) []

-- whatever record is asked for, the rows that are listed under its token tell as much as all
abbrev pub IsIndex : TokenIndex → List LedgerRow → Type 0
IsIndex table rows = (entry : AccessRecord) → least_place (rows_at entry.token table) entry ≡ least_place rows entry

-- the second list tells of each record what the first one and the row tell
abbrev pub TellsAlso : List LedgerRow → LedgerRow → List LedgerRow → Type 0
TellsAlso rows row more = (entry : AccessRecord) → least_place more entry ≡ lesser (least_place rows entry) (place_of row entry)

-- what two grants let in is the same, if their tokens are
abbrev pub grants_the_same : Grant → Grant → Bool
grants_the_same first other = same first.user other.user && first.block == other.block && first.modes.0 == other.modes.0 && first.expiry == other.expiry

-- a row says what the first one says, at no lesser place
abbrev pub repeats : LedgerRow → LedgerRow → Bool
repeats first row = nat_le first.place row.place && same first.grant.token row.grant.token && grants_the_same first.grant row.grant

-- it repeats the first one of these
abbrev pub repeats_first : List LedgerRow → LedgerRow → Bool
repeats_first [] row = false
repeats_first (first ∷ rows) row = repeats first row

-- these rows and one more, which isn't listed where it repeats the first one
abbrev pub listed_with : List LedgerRow → LedgerRow → List LedgerRow
listed_with rows row = if repeats_first rows row then rows else rows ++ row ∷ []

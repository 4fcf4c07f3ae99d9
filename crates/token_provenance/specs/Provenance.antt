-- Which granted token a record of an access log rests on: of the rows of the ledger that have its bytes, its caller and its block, whose
-- modes allow what was done, and which hadn't expired by the node's clock, the one with the least place; else the token is forged.
-- (HADOOP-4359: a block access token is issued by the NameNode alone, and says for whom, for which block, for what and how long. That a
-- record is judged by all that was ever granted is this project's own rule.)
use Rattle.std.specs.Prelude.{ℕ, Bool, ◌&&◌, ◌==◌, nat_lt, if◌then◌else◌, List, fold, flat_map, min, Option, Some, None}
use Rattle.hdfs_values.specs.Text.{same}
use Rattle.permission_bits.specs.Rights.{covers}
use Rattle.call_parts.specs.declared.access_log.AccessRecord.{AccessRecord}
use Rattle.grant_ledger.specs.declared.ledger.LedgerRow.{LedgerRow}
use Rattle.token_provenance.specs.declared.source.Source.{Source}
use Rattle.token_provenance.specs.declared.source.Source.TheVariants.{Grant, Forged}

-- the grant lets the caller at the block, for this, at this moment
abbrev pub allows : LedgerRow → AccessRecord → Bool
allows row entry =
    same row.grant.user entry.caller && row.grant.block == entry.block && covers row.grant.modes.0 entry.mode.0 && nat_lt entry.moment row.grant.expiry

-- the record rests on the row
abbrev pub supports : LedgerRow → AccessRecord → Bool
supports row entry = same row.grant.token entry.token && allows row entry

-- the lesser of two places, where there are both
abbrev pub lesser : Option ℕ → Option ℕ → Option ℕ
lesser None place = place
lesser (Some place) None = Some place
lesser (Some place) (Some other) = Some (min place other)

abbrev pub place_of : LedgerRow → AccessRecord → Option ℕ
place_of row entry = if supports row entry then Some row.place else None

-- the least place of the rows that fit
abbrev pub least_place : List LedgerRow → AccessRecord → Option ℕ
least_place rows entry = fold (λ least row. lesser least (place_of row entry)) None rows

abbrev pub source_at : Option ℕ → Source
source_at None = Forged
source_at (Some place) = Grant place

abbrev pub source_of : List LedgerRow → AccessRecord → Source
source_of rows entry = source_at (least_place rows entry)

-- the records of these logs, in their order
abbrev pub records_of : List (List AccessRecord) → List AccessRecord
records_of logs = flat_map (λ log. log) logs

-- The nodes that have to do with a block, by the entries.
use Rattle.std.proofs.Common.{◌≡◌, ℕ, Bool, nat_lt, List, [], length, filter, unwrap_or, sym, ap}
use Rattle.std.specs.List.Sorted.{IsStrictlySortedBy}
use Rattle.std.specs.Map.{keys_of}
use Rattle.std.specs.Ordering.{nat_cmp}
use Rattle.block_index.specs.Relation.{blocks_at}
use Rattle.block_records.proofs.Entries.{found_keys}

abbrev pub is_busy_entry : ℕ × List ℕ → Bool
is_busy_entry entry = nat_lt 0 (length entry.1)

pub busy_by_entries : (table : List (ℕ × List ℕ)) → IsStrictlySortedBy nat_cmp (keys_of table) → keys_of (filter is_busy_entry table) ≡ filter (λ node. nat_lt 0 (length (blocks_at table node))) (keys_of table)
busy_by_entries table up = found_keys is_busy_entry (λ node. nat_lt 0 (length (blocks_at table node))) table up (λ entry is. ap (λ found. nat_lt 0 (length (unwrap_or found []))) (sym is))

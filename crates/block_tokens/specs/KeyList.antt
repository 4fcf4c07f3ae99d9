-- Keys by their serials, as a NameNode sends them and a DataNode holds them. (HADOOP-4359: keys roll, and DataNodes learn
-- them with heartbeats.)
use Rattle.std.specs.Prelude.{ℕ, List, Option, Some, None, filter, fold, if◌then◌else◌}
use Rattle.std.specs.BTreeMap.{insert_entry, is_at}
use Rattle.std.specs.List.Sorted.{IsStrictlySortedBy}
use Rattle.std.specs.Map.{keys_of, lookup}
use Rattle.std.specs.Option.{option_or}
use Rattle.std.specs.Ordering.{nat_cmp}
use Rattle.block_answers.specs.declared.key_list.HeldKey.{HeldKey}
pub use Rattle.block_answers.specs.KeyList.{KeyList, expires_after}

-- serials ascend
abbrev pub AreKeys : KeyList → Type 0
AreKeys keys = IsStrictlySortedBy nat_cmp (keys_of keys)

-- the key with a serial
abbrev pub key_with : ℕ → KeyList → Option HeldKey
key_with serial keys = lookup (is_at (nat_cmp serial)) keys

abbrev pub usable_keys : ℕ → KeyList → KeyList
usable_keys now keys = filter (λ entry. expires_after now entry.1.expiry) keys

-- a key, unless its known expiry has come
abbrev pub unless_expired : ℕ → Option HeldKey → Option HeldKey
unless_expired now None = None
unless_expired now (Some held) = if expires_after now held.expiry then Some held else None

-- what is held of a key once it comes with an update: the key that is known stays, and so does a known expiry; one that was
-- lacking is learned
abbrev pub learned_key : Option HeldKey → HeldKey → HeldKey
learned_key None new = new
learned_key (Some held) new = record held { expiry = option_or held.expiry new.expiry }

abbrev pub with_merged_key : KeyList → ℕ × HeldKey → KeyList
with_merged_key keys entry = insert_entry nat_cmp keys entry.0 (learned_key (key_with entry.0 keys) entry.1)

-- one after another
unfoldable pub merged_keys : KeyList → KeyList → KeyList
merged_keys keys update = fold with_merged_key keys update

-- Keys by their serials, as a NameNode sends them and a DataNode holds them. (HADOOP-4359: keys roll, and DataNodes learn
-- them with heartbeats.)
use Rattle.std.specs.Prelude.{ℕ, Bool, true, List, [], ◌∷◌, Option, Some, None, nat_lt}
use Rattle.block_answers.specs.declared.key_list.HeldKey.{HeldKey}
use Rattle.block_answers.specs.declared.key_list.Listed.{Listed}
use Rattle.block_answers.specs.declared.key_list.Listed.TheVariants.{Nothing, One, Several}

-- each key with its serial before it
abbrev pub KeyList : Type 0
KeyList = List (ℕ × HeldKey)

-- no known expiry has come
abbrev pub expires_after : ℕ → Option ℕ → Bool
expires_after now None = true
expires_after now (Some expiry) = nat_lt now expiry

-- the keys that a value lists
abbrev pub listed_keys : Listed → KeyList
listed_keys Nothing = []
listed_keys (One key) = key ∷ []
listed_keys (Several keys) = keys.items

-- The id of a DataNode, and the principal in whose name it acts: `dn-` and the id in decimal without leading zeros.
-- (The name is this project's choice; HDFS Architecture, "NameNode and DataNodes".)
use Rattle.std.specs.Prelude.{ℕ, ◌^◌, Bool, List, ◌++◌, drop, nat_le, nat_lt, ◌&&◌, if◌then◌else◌, Option, Some, None, codes}
use Rattle.std.specs.Fmt.{decimal}
use Rattle.std.specs.Str.Parse.{digits_value}
use Rattle.hdfs_values.specs.Text.{same}

abbrev pub is_node_id : ℕ → Bool
is_node_id id = nat_le 1 id && nat_lt id (2 ^ 32)

abbrev pub node_principal : ℕ → List ℕ
node_principal id = codes "dn-" ++ decimal id

-- the number that would stand behind the prefix
abbrev pub number_behind : List ℕ → ℕ
number_behind name = digits_value 10 (drop 3 name)

-- the node whose principal this is
abbrev pub node_of : List ℕ → Option ℕ
node_of name = if is_node_id (number_behind name) && same name (node_principal (number_behind name)) then Some (number_behind name) else None

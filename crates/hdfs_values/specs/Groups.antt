-- The groups of a user. (HDFS Permissions Guide, "Group Mapping".)
use Rattle.std.specs.Prelude.{ℕ, Bool, List}
use Rattle.std.specs.List.{list_any}
use Rattle.hdfs_values.specs.Text.{same}

-- whether a group is among them
abbrev pub has_group : List (List ℕ) → List ℕ → Bool
has_group groups group = list_any (λ own. same own group) groups

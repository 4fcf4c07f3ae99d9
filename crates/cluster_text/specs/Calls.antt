-- Which calls of a DataNode there are.
use Rattle.std.specs.Prelude.{ℕ, Bool, ◌==◌, ◌&&◌, ◌||◌, List, codes}
use Rattle.hdfs_values.specs.Text.{same}

-- the verbs, each with the number of words behind it
abbrev pub is_call : List ℕ → ℕ → Bool
is_call verb count =
    (same verb (codes "begin") && (count == 4))
    || ((same verb (codes "packet") && (count == 6))
    || (((same verb (codes "finalize") || same verb (codes "read")) && (count == 5))
    || ((same verb (codes "decide") || same verb (codes "commit")) && (count == 2))))

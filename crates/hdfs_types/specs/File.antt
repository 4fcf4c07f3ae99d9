-- What `stat` tells of a file alone.
use Rattle.std.specs.Prelude.{ℕ, List, ◌∷◌, ◌++◌}
use Rattle.std.specs.Fmt.{decimal}
use Rattle.file_states.specs.State.{state_text}
use Rattle.hdfs_types.specs.declared.file.FileDetail.{FileDetail}

-- replication, length and state, each behind a blank
abbrev pub detail_text : FileDetail → List ℕ
detail_text detail = 32 ∷ (decimal detail.replication ++ (32 ∷ (decimal detail.length ++ (32 ∷ state_text detail.state))))

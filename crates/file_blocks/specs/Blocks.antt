-- The blocks of a file: their bytes, the last of them, and what a commit of a length leaves.
-- (HDFS Architecture, "Data Replication".)
use Rattle.std.specs.Prelude.{◌≡◌, ℕ, ◌+◌, ◌-◌, ◌<◌, ◌^◌, ◌==◌, Bool, true, false, ◌&&◌, nat_lt, not, if◌then◌else◌, List, [], ◌∷◌, length, take, drop, is_some, Option, Some, None, unwrap_or}
use Rattle.std.specs.List.{list_any, slice_get}
use Rattle.std.specs.Option.{option_and_then}
use Rattle.file_blocks.specs.declared.blocks.FileBlock.{FileBlock}

-- the bytes of the blocks whose length is committed
abbrev pub length_of : List FileBlock → ℕ
length_of [] = 0
length_of (block ∷ blocks) = unwrap_or block.committed 0 + length_of blocks

-- a length, if it fits in 64 bits; otherwise the call fails as if out of memory
abbrev pub told_length : ℕ → Option ℕ
told_length length = if nat_lt length (2 ^ 64) then Some length else None

abbrev pub last_of : List FileBlock → Option FileBlock
last_of blocks = slice_get blocks (length blocks - 1)

abbrev pub if_uncommitted : FileBlock → Option ℕ
if_uncommitted block = if is_some block.committed then None else Some block.id

-- the last block, where its length isn't committed
abbrev pub unfinished_block : List FileBlock → Option ℕ
unfinished_block blocks = option_and_then if_uncommitted (last_of blocks)

-- a block that is begun: what it holds isn't committed
abbrev pub new_block : ℕ → FileBlock
new_block id = record { id = id; committed = None }

abbrev pub but_last : List FileBlock → List FileBlock
but_last blocks = take (length blocks - 1) blocks

abbrev pub has_id : ℕ → FileBlock → Bool
has_id id block = block.id == id

-- no block has the id of another
abbrev pub are_distinct : List FileBlock → Bool
are_distinct [] = true
are_distinct (block ∷ blocks) = not (list_any (has_id block.id) blocks) && are_distinct blocks

-- the block at this place has this id, and none behind it
pub record IsLastPlace (id : ℕ) (blocks : List FileBlock) (place : ℕ) : Type 0 where
  pub within : place < length blocks
  pub here : (block : FileBlock) → slice_get blocks place ≡ Some block → block.id ≡ id
  pub behind : list_any (has_id id) (drop (place + 1) blocks) ≡ false

abbrev pub with_length_where : Bool → ℕ → FileBlock → FileBlock
with_length_where here bytes block = if here then record block { committed = Some bytes } else block

-- the block with this id has this length committed; if several had that id, it would be the last of them
abbrev pub committed_in : ℕ → ℕ → List FileBlock → List FileBlock
committed_in id bytes [] = []
committed_in id bytes (block ∷ blocks) = with_length_where (has_id id block && not (list_any (has_id id) blocks)) bytes block ∷ committed_in id bytes blocks

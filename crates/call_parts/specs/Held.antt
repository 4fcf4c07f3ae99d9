-- The nodes of a list and the bytes of a block, as their values hold them.
use Rattle.std.specs.Global.{Box, Vec}
use Rattle.std.specs.Prelude.{ℕ, List, [], Option, Some, None, replicate}
use Rattle.call_parts.specs.declared.block_bytes.HeldBytes.{HeldBytes}
use Rattle.call_parts.specs.declared.block_bytes.HeldBytes.TheVariants.{Listed, Pieces, Repeated}

abbrev pub listed_nodes : Option (Box (Vec ℕ)) → List ℕ
listed_nodes None = []
listed_nodes (Some nodes) = nodes.value.items

abbrev pub held_bytes : HeldBytes → List ℕ
held_bytes (Listed bytes) = bytes.value
held_bytes (Pieces pieces) = pieces.value
held_bytes (Repeated byte times) = replicate times byte

use Rattle.std.proofs.Common.{◌≡◌, ◌++◌, map, take}
use Rattle.inode_visits.proofs.blocks.push_ids.Given as goal

abbrev pub invariant-loop-block : goal.invariant-loop-block
invariant-loop-block l = l.found.items ≡ l.initial.found.items ++ map (λ block. block.id) (take l.block-index l.blocks)

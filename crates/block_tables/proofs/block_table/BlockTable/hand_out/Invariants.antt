use Rattle.std.proofs.Common.{◌≡◌, drop}
use Rattle.block_tables.specs.Changes.{with_hand_outs}
use Rattle.block_tables.proofs.block_table.BlockTable.hand_out.Given as goal

abbrev pub invariant-loop-block : goal.invariant-loop-block
invariant-loop-block l = with_hand_outs l.now l.self (drop l.block-index l.blocks) ≡ with_hand_outs l.now l.initial.self l.blocks

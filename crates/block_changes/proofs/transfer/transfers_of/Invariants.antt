use Rattle.std.proofs.Common.{◌≡◌, ◌++◌, drop}
use Rattle.std.specs.List.{filter_map}
use Rattle.block_records.specs.Numbers.{entry_at}
use Rattle.block_tables.specs.Kept.{load}
use Rattle.block_changes.specs.Copies.{transfer_by}
use Rattle.block_changes.proofs.transfer.transfers_of.Given as goal

abbrev pub invariant-loop-block : goal.invariant-loop-block
invariant-loop-block l =
    l.transfers.items ++ filter_map (λ block. transfer_by (load l.known.blocks) l.at l.node block (entry_at block l.known.blocks)) (drop l.block-index l.blocks)
    ≡ filter_map (λ block. transfer_by (load l.known.blocks) l.at l.node block (entry_at block l.known.blocks)) l.blocks

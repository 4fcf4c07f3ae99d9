use Rattle.std.proofs.Common.{◌≡◌, ◌≤◌, ℕ, true, length, filter, take}
use Rattle.std.specs.List.{list_any}
use Rattle.std.specs.Map.{keys_of}
use Rattle.block_records.specs.Numbers.{is_number}
use Rattle.block_index.proofs.Busy.{is_busy_entry}
use Rattle.block_index.proofs.node_blocks.NodeBlocks.are_busy_among.Given as goal

abbrev pub invariant-loop-entry : goal.invariant-loop-entry
invariant-loop-entry l = record {
  within : l.at ≤ length l.nodes;
  among : (n : ℕ) → list_any (is_number n) (keys_of (filter is_busy_entry (take l.entry-index l.self))) ≡ true → list_any (is_number n) l.nodes ≡ true;
}

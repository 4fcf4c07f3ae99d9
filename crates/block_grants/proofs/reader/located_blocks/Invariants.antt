use Rattle.std.proofs.Common.{◌≡◌, ◌++◌, map, drop}
use Rattle.std.specs.List.{filter_map}
use Rattle.flat_rows.specs.BlockOutcome.{located_block}
use Rattle.node_commands.specs.Granted.{tokens_of}
use Rattle.block_grants.specs.Granted.{reader_row}
use Rattle.block_grants.proofs.reader.located_blocks.Given as goal

abbrev pub invariant-loop-block : goal.invariant-loop-block
invariant-loop-block l =
    (l.found.items ++ filter_map (located_block (tokens_of l.ring l.now) l.caller l.blocks) (drop l.block-index l.own) ≡ filter_map (located_block (tokens_of l.ring l.now) l.caller l.blocks) l.own)
    × (l.rows.items ++ map (reader_row l.place l.ring l.now l.caller) (filter_map (located_block (tokens_of l.ring l.now) l.caller l.blocks) (drop l.block-index l.own))
    ≡ l.initial.rows.items ++ map (reader_row l.place l.ring l.now l.caller) (filter_map (located_block (tokens_of l.ring l.now) l.caller l.blocks) l.own))

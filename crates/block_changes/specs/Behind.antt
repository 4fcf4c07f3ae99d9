-- A new block, before which the length of a file's last block is committed.
-- (HDFS Architecture, "Data Replication" and "Replication Pipelining"; in the client's protocol the request for a block names the one
-- before it with its length. That a DataNode has to have reported this length, and which nodes are chosen, are this project's own rules.)
use Rattle.std.specs.Prelude.{◌≡◌, ℕ, List, [], ◌∷◌, map, if◌then◌else◌, Option, Some, None}
use Rattle.std.specs.Option.{option_or}
use Rattle.block_records.specs.Reports.{is_reported, others_of}
use Rattle.block_records.specs.declared.block_record.BlockRecord.{BlockRecord}
use Rattle.block_records.specs.declared.fault.BlockFault.{BlockFault}
use Rattle.block_records.specs.declared.fault.BlockFault.TheVariants.{Refused, OutOfMemory}
use Rattle.block_records.specs.declared.fault.BlockRefusal.{BlockRefusal}
use Rattle.block_records.specs.declared.fault.BlockRefusal.TheVariants.{NotYetReplicated, TooFewNodes}
use Rattle.block_records.specs.declared.mark.Mark.{Mark}
use Rattle.block_placement.specs.Placement.{targets}
use Rattle.block_tables.specs.Changes.{with_length}
use Rattle.block_tables.specs.Kept.{load}
use Rattle.known_blocks.specs.Known.{KnownBlocks, block_of, with_block_changed, refused_new_block}
use Rattle.block_records.specs.declared.last_block.LastBlock.{LastBlock}
use Rattle.block_changes.specs.declared.behind.NewBlock.{NewBlock}

-- ---- marks

abbrev pub marks_of : List ℕ → ℕ → ℕ → List Mark
marks_of nodes block stamp = map (λ node. record { node = node; block = block; stamp = stamp }) nodes

-- of the nodes that reported a block with another length
abbrev pub marks_of_others : ℕ → ℕ → Option BlockRecord → List Mark
marks_of_others block length None = []
marks_of_others block length (Some own) = marks_of (others_of length own.reports) block own.stamp

-- ---- the last block, if one is named

abbrev pub with_last_length : Option LastBlock → KnownBlocks → KnownBlocks
with_last_length None known = known
with_last_length (Some last) known = with_block_changed (with_length last.length) last.block known

-- the nodes that reported another length of it are to remove their replicas
abbrev pub marks_behind : Option LastBlock → KnownBlocks → List Mark
marks_behind None known = []
marks_behind (Some last) known = marks_of_others last.block last.length (block_of known last.block)

-- ---- the new block

-- of these nodes so many that have the fewest blocks then
abbrev pub targets_behind : Option LastBlock → KnownBlocks → ℕ → List ℕ → List ℕ
targets_behind last known count live = targets (load (with_last_length last known).blocks) count live

abbrev pub new_block_behind : Option LastBlock → KnownBlocks → ℕ → List ℕ → NewBlock
new_block_behind last known count live = record { block = known.next_block; stamp = known.next_stamp; targets = targets_behind last known count live }

-- ---- refusals

abbrev pub reports_by : Option BlockRecord → List (ℕ × ℕ)
reports_by None = []
reports_by (Some own) = own.reports

-- a node has to have reported the block at its newest stamp with this length
abbrev pub refused_length : Option BlockRecord → ℕ → Option BlockRefusal
refused_length found length = if is_reported (reports_by found) length then None else Some NotYetReplicated

abbrev pub refused_last_length : Option LastBlock → KnownBlocks → Option BlockRefusal
refused_last_length None known = None
refused_last_length (Some last) known = refused_length (block_of known last.block) last.length

-- a node has to be live
abbrev pub refused_without_nodes : List ℕ → Option BlockRefusal
refused_without_nodes [] = Some TooFewNodes
refused_without_nodes (node ∷ nodes) = None

-- in this order
abbrev pub refused_block_behind : Option LastBlock → KnownBlocks → List ℕ → Option BlockRefusal
refused_block_behind last known live = option_or (refused_last_length last known) (option_or (refused_without_nodes live) (refused_new_block known))

-- a call that is refused says why; out of memory may come in the place of any other answer
abbrev pub IsFaultOf : Option BlockRefusal → BlockFault → Type 0
IsFaultOf refusal (Refused own) = refusal ≡ Some own
IsFaultOf refusal OutOfMemory = Unit {0}

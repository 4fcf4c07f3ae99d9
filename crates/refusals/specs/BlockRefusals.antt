-- What the NameNode answers where the map of blocks refuses.
use Rattle.block_records.specs.declared.fault.BlockRefusal.{BlockRefusal}
use Rattle.block_records.specs.declared.fault.BlockRefusal.TheVariants as block
use Rattle.block_records.specs.declared.fault.Counter as numbered
use Rattle.block_records.specs.declared.fault.Counter.TheVariants as number
use Rattle.refusals.specs.declared.refusal.Counter.{Counter}
use Rattle.refusals.specs.declared.refusal.Counter.TheVariants.{BlockId, Stamp}
use Rattle.refusals.specs.declared.refusal.Refusal.{Refusal}
use Rattle.refusals.specs.declared.refusal.Refusal.TheVariants.{NotFound, NotOpen, NotYetReplicated, TooFewNodes, StaleStamp, Spent}

abbrev pub counter_of : numbered.Counter → Counter
counter_of number.BlockId = BlockId
counter_of number.Stamp = Stamp

abbrev pub refusal_of : BlockRefusal → Refusal
refusal_of block.NotFound = NotFound
refusal_of block.NotOpen = NotOpen
refusal_of block.NotYetReplicated = NotYetReplicated
refusal_of block.TooFewNodes = TooFewNodes
refusal_of (block.StaleStamp newest) = StaleStamp newest
refusal_of (block.Spent counter) = Spent (counter_of counter)

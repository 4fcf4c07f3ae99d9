use Rattle.block_laws.proofs.Histories.{stand_once, are_below, files_tell, namespaces}
use Rattle.block_laws.proofs.laws.blocks_stand_once.Goals as goal

pub returns-clause-once : goal.returns-clause-once
returns-clause-once c = stand_once

pub returns-clause-below : goal.returns-clause-below
returns-clause-below c = are_below

pub returns-clause-lengths : goal.returns-clause-lengths
returns-clause-lengths c = files_tell

pub returns-clause-namespace : goal.returns-clause-namespace
returns-clause-namespace c = namespaces

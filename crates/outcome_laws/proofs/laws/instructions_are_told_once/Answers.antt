use Rattle.outcome_laws.proofs.Instructing.{told_once, others_stay}
use Rattle.block_map.specs.BlockEffects.{instructions_for}
use Rattle.outcome_laws.proofs.Copying.{needed, is_noted}
use Rattle.outcome_laws.proofs.laws.instructions_are_told_once.Goals as goal

pub returns-clause-once : goal.returns-clause-once
returns-clause-once c = told_once

pub returns-clause-others : goal.returns-clause-others
returns-clause-others c = others_stay

pub returns-clause-copies : goal.returns-clause-copies
returns-clause-copies c = needed

pub returns-clause-noted : goal.returns-clause-noted
returns-clause-noted c = λ facts node now block later told there.
    is_noted now block (instructions_for facts now node).copies facts.known.blocks told later there

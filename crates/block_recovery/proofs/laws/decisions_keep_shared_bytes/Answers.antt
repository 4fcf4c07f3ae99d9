use Rattle.std.proofs.Common.{refl}
use Rattle.std.specs.Map.{values_of}
use Rattle.block_recovery.specs.Decision.{least_of, finalized_of}
use Rattle.block_recovery.proofs.Deciding.{holds, finalized_take_part, none_lost, lost_by_none}
use Rattle.block_recovery.proofs.laws.decisions_keep_shared_bytes.Goals as goal

pub returns-clause-least : goal.returns-clause-least
returns-clause-least c = λ answers decision bytes up is h.
    none_lost answers bytes (lost_by_none answers bytes up h) (least_of (finalized_of (values_of answers))) (least_of (values_of answers)) refl refl decision is

pub returns-clause-held : goal.returns-clause-held
returns-clause-held c = λ answers decision node up is has.
    holds answers node up (least_of (finalized_of (values_of answers))) (least_of (values_of answers)) refl refl decision is has

pub returns-clause-finalized : goal.returns-clause-finalized
returns-clause-finalized c = λ answers decision node own up is found finalized.
    finalized_take_part answers node up (least_of (finalized_of (values_of answers))) (least_of (values_of answers)) decision is own found finalized

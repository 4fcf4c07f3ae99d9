use Rattle.std.proofs.Common.{sym, subst, List, ℕ}
use Rattle.block_records.proofs.Standing.{IsOrdered, none_ordered}
use Rattle.block_recovery.specs.declared.answer.Answer.{Answer}
use Rattle.block_recovery.proofs.answer.Answers.new.Goals as goal

pub invariant_of-result : goal.invariant_of-result
invariant_of-result c = subst (λ (answers : List (ℕ × Answer)). IsOrdered answers) (sym c.new.ensures.items) (none_ordered Answer)

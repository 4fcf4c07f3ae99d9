use Rattle.std.proofs.Common.{not, rules}
use Rattle.std.proofs.lemmas.Fn.{filter_same}
use Rattle.block_records.specs.Marks.{is_for}
use Rattle.block_records.specs.declared.mark.Mark.{Mark}
use Rattle.block_records.proofs.mark.keep_others.Goals as goal

pub returns-clause-ordered : goal.returns-clause-ordered
returns-clause-ordered c = filter_same _ (λ (mark : Mark). not (is_for c.args.node mark)) _ (λ mark b f t. search rules) _ _ c.retain.ensures.filtered

pub returns-clause-latest : goal.returns-clause-latest
returns-clause-latest c = filter_same _ (λ (mark : Mark). not (is_for c.args.node mark)) _ (λ mark b f t. search rules) _ _ c.retain-2.ensures.filtered

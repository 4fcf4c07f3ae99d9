use Rattle.std.proofs.Common.{◌∙◌, ℕ, List, None, cond, sym, ap, subst}
use Rattle.block_records.specs.Held.{held_reports}
use Rattle.block_records.specs.Numbers.{is_number, entry_at}
use Rattle.block_records.proofs.Standing.{IsOrdered, none_ordered, removed_ordered, entry_left}
use Rattle.block_records.proofs.reports.Reports.remove.Goals as goal

pub invariant_of-self-in-Several : goal.invariant_of-self-in-Several
invariant_of-self-in-Several c =
    subst (λ (reports : List (ℕ × ℕ)). IsOrdered reports) (sym c.remove_among.ensures)
    (removed_ordered c.args.node c.in-Several.reports.items (subst (λ held. IsOrdered (held_reports held)) c.in-Several.is c.self.invariant))

pub returns-in-Several-clause-others : goal.returns-in-Several-clause-others
returns-in-Several-clause-others c = λ other.
    ap (entry_at other) c.remove_among.ensures
    ∙ (entry_left c.args.node other c.in-Several.reports.items (subst (λ held. IsOrdered (held_reports held)) c.in-Several.is c.self.invariant)
    ∙ ap (λ reports. cond (is_number c.args.node other) None (entry_at other reports)) (sym (ap held_reports c.in-Several.is) ∙ c.self.view_is))

pub invariant_of-self-2 : goal.invariant_of-self-2
invariant_of-self-2 c = none_ordered ℕ

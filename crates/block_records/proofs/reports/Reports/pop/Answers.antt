use Rattle.std.proofs.Common.{◌∙◌, ℕ, List, is_some, sym, ap, subst}
use Rattle.block_records.specs.Held.{held_reports}
use Rattle.block_records.specs.Numbers.{entry_at}
use Rattle.block_records.proofs.Standing.{IsOrdered, none_ordered, front_ordered, entry_before_last}
use Rattle.block_records.proofs.reports.Reports.pop.Goals as goal

pub invariant_of-self-in-Several : goal.invariant_of-self-in-Several
invariant_of-self-in-Several c =
    front_ordered (c.in_ok-node-in-Several.node, c.in_ok-node-in-Several.field-0-1) c.pop.new.self.items
    (subst (λ (reports : List (ℕ × ℕ)). IsOrdered reports) c.in_ok-node-in-Several.ensures.items (subst (λ held. IsOrdered (held_reports held)) c.in-Several.is c.self.invariant))

pub returns-in-Several-clause-node : goal.returns-in-Several-clause-node
returns-in-Several-clause-node c = λ other.
    ap (λ reports. is_some (entry_at other reports)) (sym c.self.view_is ∙ (ap held_reports c.in-Several.is ∙ c.in_ok-node-in-Several.ensures.items))
    ∙ entry_before_last other (c.in_ok-node-in-Several.node, c.in_ok-node-in-Several.field-0-1) c.pop.new.self.items

pub invariant_of-self-2 : goal.invariant_of-self-2
invariant_of-self-2 c = none_ordered ℕ

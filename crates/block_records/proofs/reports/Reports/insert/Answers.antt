use Rattle.std.proofs.Common.{◌≡◌, ◌∙◌, ◌∷◌, [], ℕ, List, OnOk, Some, cond, sym, ap, subst}
use Rattle.block_records.specs.Held.{held_reports}
use Rattle.block_records.specs.Numbers.{is_number, entry_at}
use Rattle.block_records.proofs.Standing.{IsOrdered, single_ordered, inserted_ordered, ordered_either_way, entries_behind}
use Rattle.block_records.proofs.reports.Reports.insert.Goals as goal
use Rattle.block_records.proofs.reports.Reports.insert.Goals.{in-Nothing, in-One+in_ok-held-in-One}

pub invariant_of-self-in-Several : goal.invariant_of-self-in-Several
invariant_of-self-in-Several c =
    ordered_either_way c.insert_among.result c.args.node c.args.bytes c.in-Several.reports.items c.insert_among.new.reports.items
    (subst (λ held. IsOrdered (held_reports held)) c.in-Several.is c.self.invariant) c.insert_among.ensures.ok c.insert_among.ensures.err

pub returns-in-Several-clause-others : goal.returns-in-Several-clause-others
returns-in-Several-clause-others c =
    subst (λ (reports : List (ℕ × ℕ)). OnOk c.insert_among.result ((other : ℕ) → entry_at other c.insert_among.new.reports.items ≡ cond (is_number c.args.node other) (Some c.args.bytes) (entry_at other reports)))
    (sym (ap held_reports c.in-Several.is) ∙ c.self.view_is)
    (entries_behind c.insert_among.result c.args.node c.args.bytes c.in-Several.reports.items c.insert_among.new.reports.items c.insert_among.ensures.ok)

pub invariant_of-self-2 : goal.invariant_of-self-2
invariant_of-self-2 c = elim c.match-self.branch [
  | in-Nothing w ↦ subst (λ held. IsOrdered (held_reports held)) (sym w.held-is) (single_ordered (c.args.node, c.args.bytes))
  | in-One+in_ok-held-in-One w ↦
      subst (λ (reports : List (ℕ × ℕ)). IsOrdered reports) (sym (ap held_reports w.held-is ∙ w.in_ok-held-in-One.ensures.ok))
      (inserted_ordered c.args.node c.args.bytes (w.in-One.report ∷ []) (single_ordered w.in-One.report))
]

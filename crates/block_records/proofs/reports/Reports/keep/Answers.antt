use Rattle.std.proofs.Common.{◌≡◌, ◌==◌, ◌∙◌, ◌&&◌, ℕ, List, not, ap, sym, subst, rules}
use Rattle.std.proofs.lemmas.Fn.{filter_same}
use Rattle.std.specs.Option.{is_some}
use Rattle.block_records.specs.Held.{held_reports}
use Rattle.block_records.specs.Numbers.{has_number, entry_at}
use Rattle.block_records.specs.Reports.{agreeing_reports, others_of}
use Rattle.block_records.proofs.Ascending.{kept_ascending}
use Rattle.block_records.proofs.Reporting.{kept_reports}
use Rattle.block_records.proofs.Standing.{IsOrdered, none_ordered}
use Rattle.block_records.proofs.reports.Reports.keep.Goals as goal

pub invariant_of-self-in-Several : goal.invariant_of-self-in-Several
invariant_of-self-in-Several c =
    let kept = filter_same _ (λ (report : ℕ × ℕ). report.1 == c.args.bytes) _ (λ report b f t. search rules) _ _ c.retain.ensures.filtered in
    subst (λ (reports : List (ℕ × ℕ)). IsOrdered reports) (sym kept)
    (kept_ascending (λ report. report.1 == c.args.bytes) c.in-Several.reports.items (subst (λ held. IsOrdered (held_reports held)) c.in-Several.is c.self.invariant))

pub returns-in-Several-clause-reports : goal.returns-in-Several-clause-reports
returns-in-Several-clause-reports c =
    filter_same _ (λ (report : ℕ × ℕ). report.1 == c.args.bytes) _ (λ report b f t. search rules) _ _ c.retain.ensures.filtered
    ∙ ap (agreeing_reports c.args.bytes) (sym (ap held_reports c.in-Several.is) ∙ c.self.view_is)

pub returns-in-Several-clause-left : goal.returns-in-Several-clause-left
returns-in-Several-clause-left c = λ n.
    let kept : c.retain.new.self.items ≡ agreeing_reports c.args.bytes c.in-Several.reports.items =
    filter_same _ (λ (report : ℕ × ℕ). report.1 == c.args.bytes) _ (λ report b f t. search rules) _ _ c.retain.ensures.filtered in
    ap (λ reports. is_some (entry_at n reports)) kept
    ∙ (kept_reports c.args.bytes n c.in-Several.reports.items (subst (λ held. IsOrdered (held_reports held)) c.in-Several.is c.self.invariant)
    ∙ ap (λ reports. is_some (entry_at n reports) && not (has_number n (others_of c.args.bytes reports))) (sym (ap held_reports c.in-Several.is) ∙ c.self.view_is))

pub invariant_of-self-2 : goal.invariant_of-self-2
invariant_of-self-2 c = none_ordered ℕ

use Rattle.std.proofs.Common.{◌∙◌, ◌&&◌, not, false, cond, ap, refl, sym, rules, Some}
use Rattle.std.specs.Option.{is_some}
use Rattle.block_records.specs.Numbers.{has_number, entry_at}
use Rattle.block_records.specs.Verdicts.{holds_by}
use Rattle.block_tables.proofs.Indexes.{indexed_by, holds_expected}
use Rattle.block_tables.proofs.block_table.BlockTable.begin_recovery.Goals as goal

pub invariant_of-self-2 : goal.invariant_of-self-2
invariant_of-self-2 c =
    let old = c.in-Some.own.now in
    let own = record (c.in-Some.own.now) { stamp = c.args.stamp; reports = c.end_reports.new.reports; recovering = Some c.args.now } in
    indexed_by false c.self.inside.records.entries (c.get_mut.follows.lender own).entries c.self.inside.held c.end_reports.new.self c.args.block (Some own)
    (λ n. is_some (entry_at n old.reports) && not (has_number n old.expected)) c.self.invariant
    (λ q. ((c.get_mut.follows.holds own).3 (search rules)).0 q)
    c.end_reports.ensures.left
    (λ n. ap (λ found. cond (is_some (entry_at n old.reports) && not (has_number n old.expected)) false (holds_by n found)) (sym c.in-Some.ensures.value)
    ∙ holds_expected old own refl c.end_reports.ensures.none n)

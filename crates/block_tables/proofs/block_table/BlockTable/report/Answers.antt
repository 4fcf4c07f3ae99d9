use Rattle.std.proofs.Common.{◌≡◌, ◌∙◌, ℕ, List, ap, sym, refl, rules, Some}
use Rattle.std.specs.Map.{set_value}
use Rattle.block_records.specs.Numbers.{is_number}
use Rattle.block_records.specs.Verdicts.{holds_by}
use Rattle.block_index.specs.Relation.{relates}
use Rattle.block_records.specs.declared.block_record.BlockRecord.{BlockRecord}
use Rattle.block_tables.specs.Changes.{with_report}
use Rattle.block_tables.specs.Kept.{holds}
use Rattle.block_index.proofs.Relations.{written_back}
use Rattle.block_records.specs.Numbers.{entry_at}
use Rattle.block_records.specs.Verdicts.{verdict_by}
use Rattle.block_tables.proofs.Reported.{unreported, reported}
use Rattle.block_tables.proofs.Indexes.{indexed_alike, holds_again}
use Rattle.block_tables.proofs.block_table.BlockTable.report.Goals as goal

pub invariant_of-self-in_err-insert : goal.invariant_of-self-in_err-insert
invariant_of-self-in_err-insert c =
    let own = record c.in-Some.own.now { reports = c.insert.new.self } in
    let kept : (c.get_mut.follows.lender own).entries ≡ c.self.inside.records.entries =
    written_back (is_number c.args.block) c.self.inside.records.entries (c.get_mut.follows.lender own).entries c.in-Some.own.now (sym c.in-Some.ensures.value)
    ((c.get_mut.follows.holds own).0
    ∙ ap (λ reports. set_value (is_number c.args.block) c.self.inside.records.entries (record c.in-Some.own.now { reports = reports })) c.in_err-insert.ensures.err) in
    λ n b. c.self.invariant n b ∙ ap (λ table. holds table n b) (sym kept)

pub returns-in_err-insert-clause-err : goal.returns-in_err-insert-clause-err
returns-in_err-insert-clause-err c =
    let own = record c.in-Some.own.now { reports = c.insert.new.self } in
    let kept : (c.get_mut.follows.lender own).entries ≡ c.args.self.now =
    written_back (is_number c.args.block) c.self.inside.records.entries (c.get_mut.follows.lender own).entries c.in-Some.own.now (sym c.in-Some.ensures.value)
    ((c.get_mut.follows.holds own).0
    ∙ ap (λ reports. set_value (is_number c.args.block) c.self.inside.records.entries (record c.in-Some.own.now { reports = reports })) c.in_err-insert.ensures.err)
    ∙ c.self.view_is in
    search (rules, kept)

pub invariant_of-self-then-holds : goal.invariant_of-self-then-holds
invariant_of-self-then-holds c =
    let own = record c.in-Some.own.now { reports = c.insert.new.self } in
    indexed_alike c.self.inside.records.entries (c.get_mut.follows.lender own).entries c.self.inside.held c.args.block (Some own) c.self.invariant
    (λ q. ((c.get_mut.follows.holds own).3 (search rules)).0 q)
    (λ n. ap (holds_by n) (sym c.in-Some.ensures.value) ∙ holds_again c.in-Some.own.now own c.args.node c.args.bytes refl c.in_ok-insert.ensures.others (sym c.if-holds.ensures) n)

pub invariant_of-self-in_err-insert-2 : goal.invariant_of-self-in_err-insert-2
invariant_of-self-in_err-insert-2 c =
    let kept : (c.get_mut.follows.lender c.in-Some.own.now).entries ≡ c.self.inside.records.entries =
    written_back (is_number c.args.block) c.self.inside.records.entries (c.get_mut.follows.lender c.in-Some.own.now).entries c.in-Some.own.now (sym c.in-Some.ensures.value)
    (c.get_mut.follows.holds c.in-Some.own.now).0 in
    λ n b. ap (λ table. relates table n b) c.in_err-insert-2.ensures.err ∙ (c.self.invariant n b ∙ ap (λ table. holds table n b) (sym kept))

pub returns-in_err-insert-2-clause-err : goal.returns-in_err-insert-2-clause-err
returns-in_err-insert-2-clause-err c =
    let kept : (c.get_mut.follows.lender c.in-Some.own.now).entries ≡ c.args.self.now =
    written_back (is_number c.args.block) c.self.inside.records.entries (c.get_mut.follows.lender c.in-Some.own.now).entries c.in-Some.own.now (sym c.in-Some.ensures.value)
    (c.get_mut.follows.holds c.in-Some.own.now).0
    ∙ c.self.view_is in
    search (rules, kept)

pub returns-in-Err-clause-err : goal.returns-in-Err-clause-err
returns-in-Err-clause-err c =
    let own = record c.in-Some.own.now { reports = c.insert-3.new.self } in
    written_back (is_number c.args.block) c.self.inside.records.entries (c.get_mut.follows.lender own).entries c.in-Some.own.now (sym c.in-Some.ensures.value)
    ((c.get_mut.follows.holds own).0
    ∙ ap (λ reports. set_value (is_number c.args.block) c.self.inside.records.entries (record c.in-Some.own.now { reports = reports })) c.in-Err.ensures.err)
    ∙ c.self.view_is

pub invariant_of-self-in_default-verdict : goal.invariant_of-self-in_default-verdict
invariant_of-self-in_default-verdict c =
    let kept : (c.get_mut.follows.lender c.in-Some.own.now).entries ≡ c.self.inside.records.entries =
    written_back (is_number c.args.block) c.self.inside.records.entries (c.get_mut.follows.lender c.in-Some.own.now).entries c.in-Some.own.now (sym c.in-Some.ensures.value)
    (c.get_mut.follows.holds c.in-Some.own.now).0 in
    λ n b. c.self.invariant n b ∙ ap (λ table. holds table n b) (sym kept)

pub returns-in_default-verdict-clause-verdict : goal.returns-in_default-verdict-clause-verdict
returns-in_default-verdict-clause-verdict c =
    c.verdict-verdict.ensures ∙ ap (λ found. verdict_by found c.args.stamp c.args.bytes) (c.in-Some.ensures.value ∙ ap (entry_at c.args.block) c.self.view_is)

pub returns-in_default-verdict-clause-ok : goal.returns-in_default-verdict-clause-ok
returns-in_default-verdict-clause-ok c =
    written_back (is_number c.args.block) c.self.inside.records.entries (c.get_mut.follows.lender c.in-Some.own.now).entries c.in-Some.own.now (sym c.in-Some.ensures.value)
    (c.get_mut.follows.holds c.in-Some.own.now).0
    ∙ (c.self.view_is
    ∙ sym (unreported c.args.node c.args.stamp c.args.bytes c.args.block c.in-Some.own.now c.args.self.now (sym (c.in-Some.ensures.value ∙ ap (entry_at c.args.block) c.self.view_is))
    (λ valid. c.in_default-verdict.not-Valid (c.verdict-verdict.ensures ∙ valid))))

pub returns-then-holds-clause-ok : goal.returns-then-holds-clause-ok
returns-then-holds-clause-ok c =
    let own = record c.in-Some.own.now { reports = c.insert.new.self } in
    (c.get_mut.follows.holds own).0
    ∙ (ap (λ reports. set_value (is_number c.args.block) c.self.inside.records.entries (record c.in-Some.own.now { reports = reports })) c.in_ok-insert.ensures.ok
    ∙ (ap (λ (table : List (ℕ × BlockRecord)). set_value (is_number c.args.block) table (with_report c.args.node c.args.bytes c.in-Some.own.now)) c.self.view_is
    ∙ reported c.args.node c.args.stamp c.args.bytes c.args.block c.in-Some.own.now c.args.self.now (sym (c.in-Some.ensures.value ∙ ap (entry_at c.args.block) c.self.view_is)) (sym c.verdict-verdict.ensures ∙ c.in-Valid.is)))

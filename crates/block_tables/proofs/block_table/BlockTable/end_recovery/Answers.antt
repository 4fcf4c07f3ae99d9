use Rattle.std.proofs.Common.{◌≡◌, ◌∙◌, ℕ, List, not, cond, filter, ap, sym, subst, rules, Some}
use Rattle.block_index.proofs.Relations.{written_back}
use Rattle.block_records.specs.Numbers.{is_number, has_number, entry_at}
use Rattle.block_records.specs.Reports.{agreeing_reports, with_reports_of}
use Rattle.block_records.specs.Verdicts.{holds_by}
use Rattle.block_tables.specs.Kept.{holds}
use Rattle.block_tables.specs.Recovered.{AreRecovered, AreFresh, AreGone}
use Rattle.block_tables.proofs.Indexes.{apart, indexed_recovered}
use Rattle.block_tables.proofs.block_table.BlockTable.end_recovery.Goals as goal

pub reassign-requires : goal.reassign-requires
reassign-requires c =
    let own = c.in-Some.own.now in
    let left = c.in_ok-left.left in
    let told : AreRecovered own c.args.bytes c.as_slice.result.now left.reports = c.in_ok-left.ensures.reporting in
    let fresh : AreFresh own c.as_slice.result.now c.deref.result.now = c.deref.ensures.value ∙ c.in_ok-left.ensures.fresh in
    let gone : AreGone own left.reports left.gone.items = c.in_ok-left.ensures.gone in
    apart own c.args.bytes c.as_slice.result.now c.deref.result.now left.gone.items left.reports told fresh gone
    c.self.inside.records.entries c.self.inside.held c.args.block c.self.invariant (search rules)

pub invariant_of-self-in_err-left : goal.invariant_of-self-in_err-left
invariant_of-self-in_err-left c =
    let kept : (c.get_mut.follows.lender c.in-Some.own.now).entries ≡ c.self.inside.records.entries =
    written_back (is_number c.args.block) c.self.inside.records.entries (c.get_mut.follows.lender c.in-Some.own.now).entries c.in-Some.own.now (sym c.in-Some.ensures.value)
    (c.get_mut.follows.holds c.in-Some.own.now).0 in
    λ n b. c.self.invariant n b ∙ ap (λ table. holds table n b) (sym kept)

pub returns-in_err-left-clause-err : goal.returns-in_err-left-clause-err
returns-in_err-left-clause-err c =
    let kept : (c.get_mut.follows.lender c.in-Some.own.now).entries ≡ c.args.self.now =
    written_back (is_number c.args.block) c.self.inside.records.entries (c.get_mut.follows.lender c.in-Some.own.now).entries c.in-Some.own.now (sym c.in-Some.ensures.value)
    (c.get_mut.follows.holds c.in-Some.own.now).0
    ∙ c.self.view_is in
    search (rules, kept)

pub invariant_of-self-in_err-reassign : goal.invariant_of-self-in_err-reassign
invariant_of-self-in_err-reassign c =
    let kept : (c.get_mut.follows.lender c.in-Some.own.now).entries ≡ c.self.inside.records.entries =
    written_back (is_number c.args.block) c.self.inside.records.entries (c.get_mut.follows.lender c.in-Some.own.now).entries c.in-Some.own.now (sym c.in-Some.ensures.value)
    (c.get_mut.follows.holds c.in-Some.own.now).0 in
    λ n b. c.in_err-reassign.ensures.err n b ∙ (c.self.invariant n b ∙ ap (λ table. holds table n b) (sym kept))

pub returns-in_err-reassign-clause-err : goal.returns-in_err-reassign-clause-err
returns-in_err-reassign-clause-err c =
    let kept : (c.get_mut.follows.lender c.in-Some.own.now).entries ≡ c.args.self.now =
    written_back (is_number c.args.block) c.self.inside.records.entries (c.get_mut.follows.lender c.in-Some.own.now).entries c.in-Some.own.now (sym c.in-Some.ensures.value)
    (c.get_mut.follows.holds c.in-Some.own.now).0
    ∙ c.self.view_is in
    search (rules, kept, c.in_err-reassign.ensures.same)

pub invariant_of-self-2 : goal.invariant_of-self-2
invariant_of-self-2 c =
    let table = c.self.inside.records.entries in
    let own = c.in-Some.own.now in
    let left = c.in_ok-left.left in
    let found : Some own ≡ entry_at c.args.block table = search rules in
    let nodes : c.as_slice.result.now ≡ c.args.nodes = c.as_slice.ensures.nodes in
    let told : AreRecovered own c.args.bytes c.args.nodes left.reports = subst (λ (some : List ℕ). AreRecovered own c.args.bytes some left.reports) nodes c.in_ok-left.ensures.reporting in
    let fresh : AreFresh own c.args.nodes c.deref.result.now =
    c.deref.ensures.value ∙ (c.in_ok-left.ensures.fresh ∙ ap (filter (λ node. not (holds_by node (Some own)))) nodes)
    in
    let gone : AreGone own left.reports c.deref-2.result.now = λ q. ap (has_number q) c.deref-2.ensures.value ∙ c.in_ok-left.ensures.gone q in
    indexed_recovered own c.args.bytes c.args.nodes c.deref.result.now c.deref-2.result.now left.reports told fresh gone
    table (c.get_mut.follows.lender c.set_recovered.new.own).entries c.self.inside.held c.reassign.new.held c.args.block c.self.invariant found
    (c.in_ok-left.ensures.reports ∙ ap (λ some. with_reports_of some c.args.bytes (agreeing_reports c.args.bytes own.reports)) nodes)
    c.in_ok-reassign.ensures.ok
    (λ q. ((c.get_mut.follows.holds c.set_recovered.new.own).3 (search rules)).0 q ∙ ap (λ behind. cond (is_number c.args.block q) (Some behind) (entry_at q table)) c.set_recovered.ensures)

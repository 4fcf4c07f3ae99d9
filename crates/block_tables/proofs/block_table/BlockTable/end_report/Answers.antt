use Rattle.std.proofs.Common.{◌∙◌, ap, sym, refl, rules, Some}
use Rattle.block_records.specs.Verdicts.{holds_by}
use Rattle.block_tables.proofs.Indexes.{indexed_alike, holds_still}
use Rattle.block_tables.proofs.block_table.BlockTable.end_report.Goals as goal

pub invariant_of-self-else-not-contains : goal.invariant_of-self-else-not-contains
invariant_of-self-else-not-contains c =
    let own = record c.in-Some.own.now { reports = c.remove.new.self } in
    indexed_alike c.self.inside.records.entries (c.get_mut.follows.lender own).entries c.self.inside.held c.args.block (Some own) c.self.invariant
    (λ q. ((c.get_mut.follows.holds own).3 (search rules)).0 q)
    (λ n. ap (holds_by n) (sym c.in-Some.ensures.value) ∙ holds_still c.in-Some.own.now own c.args.node refl c.remove.ensures.others (sym c.if-not-contains.ensures) n)

use Rattle.std.proofs.Common.{ap, sym, rules, Some}
use Rattle.block_records.specs.Verdicts.{holds_by}
use Rattle.block_tables.proofs.Indexes.{indexed_alike}
use Rattle.block_tables.proofs.block_table.BlockTable.hand_out_one.Goals as goal

pub invariant_of-self-2 : goal.invariant_of-self-2
invariant_of-self-2 c =
    let own = record c.in-Some.own.now { handed_out = Some c.args.now } in
    indexed_alike c.self.inside.records.entries (c.get_mut.follows.lender own).entries c.self.inside.held c.args.block (Some own) c.self.invariant
    (λ q. ((c.get_mut.follows.holds own).3 (search rules)).0 q)
    (λ n. ap (holds_by n) (sym c.in-Some.ensures.value))

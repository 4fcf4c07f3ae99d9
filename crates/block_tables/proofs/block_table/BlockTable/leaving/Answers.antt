use Rattle.std.proofs.Common.{◌≡◌, not, filter, Some, None, rules}
use Rattle.block_records.specs.Numbers.{has_number, entry_at}
use Rattle.block_records.specs.Reports.{others_of}
use Rattle.block_tables.proofs.Loads.{less_behind, none_less}
use Rattle.block_tables.proofs.block_table.BlockTable.leaving.Goals as goal

pub returns : goal.returns
returns c =
    let found : entry_at c.args.block c.args.self.now ≡ Some c.in-Some.own.now = search rules in
    let listed : c.in_ok-leaving.leaving.items ≡ filter (λ node. not (has_number node c.in-Some.own.now.expected)) (others_of c.args.bytes c.in-Some.own.now.reports) = search rules in
    λ node. less_behind c.args.bytes node c.args.block c.in-Some.own.now c.args.self.now c.in_ok-leaving.leaving.items c.len-count.ensures.ascending found listed

pub returns-in_default : goal.returns-in_default
returns-in_default c =
    let unknown : entry_at c.args.block c.args.self.now ≡ None = search rules in
    λ node. none_less c.args.bytes node c.args.block c.args.self.now _ unknown c.new.ensures.items

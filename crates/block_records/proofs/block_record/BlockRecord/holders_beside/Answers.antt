use Rattle.std.proofs.Common.{◌||◌, ◌&&◌, not, ap, ◌∙◌, rules}
use Rattle.std.specs.Map.{keys_of}
use Rattle.std.specs.Option.{is_some}
use Rattle.block_records.specs.Numbers.{has_number, entry_at}
use Rattle.block_records.proofs.Reporting.{has_either, has_key}
use Rattle.block_records.proofs.block_record.BlockRecord.holders_beside.Goals as goal

pub returns : goal.returns
returns c = λ n.
    let own = c.args.self.now in
    let reports = c.args.reports.now in
    has_either n (λ node. not (is_some (entry_at node reports))) own.expected (keys_of own.reports) c.extend_from_slice.new.self.items (search rules)
    ∙ ap (λ x. (has_number n own.expected || x) && not (is_some (entry_at n reports))) (has_key n own.reports)

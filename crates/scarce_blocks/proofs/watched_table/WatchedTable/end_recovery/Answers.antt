use Rattle.std.proofs.Common.{◌∙◌, sym}
use Rattle.block_records.specs.Numbers.{entry_at}
use Rattle.block_tables.specs.Changes.{with_recovered}
use Rattle.scarce_blocks.proofs.Ample.{others_changed, told_ample}
use Rattle.scarce_blocks.proofs.watched_table.WatchedTable.end_recovery.Goals as goal

pub invariant_of-self-2 : goal.invariant_of-self-2
invariant_of-self-2 c =
    let table = c.end_recovery.new.self in
    c.watch_as.ensures table (λ told. told_ample (entry_at c.args.block table) c.in_ok-ample.ensures.ascending (sym c.in_ok-ample.ensures.ample ∙ told))
    (λ complete. others_changed (with_recovered c.args.bytes c.args.nodes) c.args.block c.self.inside.table table c.self.inside.scarce c.in_ok-ample.ensures.ok (c.self.invariant complete))

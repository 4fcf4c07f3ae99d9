use Rattle.std.proofs.Common.{◌∙◌, sym}
use Rattle.block_records.specs.Numbers.{entry_at}
use Rattle.block_tables.specs.Changes.{with_recovery}
use Rattle.scarce_blocks.proofs.Ample.{others_changed, told_ample}
use Rattle.scarce_blocks.proofs.watched_table.WatchedTable.begin_recovery.Goals as goal

pub invariant_of-self : goal.invariant_of-self
invariant_of-self c =
    let table = c.begin_recovery-ample.new.self in
    c.watch_as.ensures table (λ told. told_ample (entry_at c.args.block table) c.begin_recovery-ample.ensures.ascending (sym c.begin_recovery-ample.ensures.ample ∙ told))
    (λ complete. others_changed (with_recovery c.args.stamp c.args.now) c.args.block c.self.inside.table table c.self.inside.scarce c.begin_recovery-ample.ensures.begun (c.self.invariant complete))

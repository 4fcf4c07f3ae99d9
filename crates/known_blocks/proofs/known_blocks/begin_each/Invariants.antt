use Rattle.std.proofs.Common.{◌≡◌, fold, take}
use Rattle.block_tables.specs.Changes.{with_record_changed, with_recovery}
use Rattle.known_blocks.proofs.known_blocks.begin_each.Given as goal

abbrev pub invariant-loop-own : goal.invariant-loop-own
invariant-loop-own l = l.table ≡ fold (λ left own. with_record_changed (with_recovery own.stamp l.now) own.block left) l.initial.table (take l.own-index l.begun)

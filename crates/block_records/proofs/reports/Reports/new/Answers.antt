use Rattle.std.proofs.Common.{ℕ}
use Rattle.block_records.proofs.Standing.{none_ordered}
use Rattle.block_records.proofs.reports.Reports.new.Goals as goal

pub invariant_of-result : goal.invariant_of-result
invariant_of-result c = none_ordered ℕ

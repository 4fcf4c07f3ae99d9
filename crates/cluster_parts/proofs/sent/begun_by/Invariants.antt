use Rattle.std.proofs.Common.{◌≡◌, ℕ, ◌+◌, ◌-◌, ◌<◌, ◌≤◌, length, Some}
use Rattle.std.specs.Prelude.{slice_get}
use Rattle.cluster_parts.specs.declared.sent.Batch.{Batch}
use Rattle.cluster_parts.proofs.sent.begun_by.Given as goal

abbrev pub invariant-loop-low : goal.invariant-loop-low
invariant-loop-low l = record {
  order : l.low ≤ l.high;
  within : l.high ≤ length l.batches;
  below : (index : ℕ) (batch : Batch) → l.low ≡ index + 1 → slice_get l.batches index ≡ Some batch → batch.first ≤ l.number;
  above : (batch : Batch) → slice_get l.batches l.high ≡ Some batch → l.number < batch.first;
}

abbrev pub decreases-loop-low : goal.decreases-loop-low
decreases-loop-low l = l.high - l.low

use Rattle.std.proofs.Common.{◌≡◌, ℕ, take}
use Rattle.std.specs.BTreeMap.{get}
use Rattle.std.specs.Ordering.{nat_cmp}
use Rattle.flat_rows.specs.Takeover.{stamp_in}
use Rattle.file_takeovers.proofs.expiry.stamps_of.Given as goal

abbrev pub invariant-loop-recovery : goal.invariant-loop-recovery
invariant-loop-recovery l = (block : ℕ) → get nat_cmp l.stamps block ≡ stamp_in (take l.recovery-index l.begun) block

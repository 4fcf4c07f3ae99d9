-- No blank between the first place and this one.
use Rattle.std.proofs.Common.{◌≡◌, ℕ, ◌-◌, ◌<◌, ◌≤◌, false, length, get_or}
use Rattle.script_words.specs.Words.{is_blank}
use Rattle.script_words.proofs.next_blank.next_by.Given as goal

abbrev pub invariant-loop-at : goal.invariant-loop-at
invariant-loop-at o l = (l.from ≤ l.at) × (l.at ≤ length l.line) × ((k : ℕ) → l.from ≤ k → k < l.at → is_blank (get_or l.line k 0) ≡ false)

abbrev pub decreases-loop-at : goal.decreases-loop-at
decreases-loop-at o l = length l.line - l.at

use Rattle.std.proofs.Common.{◌≡◌, ℕ, true, cond, take}
use Rattle.std.specs.List.{list_any}
use Rattle.block_records.specs.Numbers.{is_number}
use Rattle.known_blocks.specs.Kept.{is_begun}
use Rattle.known_blocks.proofs.known_blocks.list_each.Given as goal

abbrev pub invariant-loop-own : goal.invariant-loop-own
invariant-loop-own l = (q : ℕ) → list_any (is_number q) l.running ≡ cond (is_begun q (take l.own-index l.begun)) true (list_any (is_number q) l.initial.running)

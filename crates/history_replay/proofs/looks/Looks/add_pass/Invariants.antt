use Rattle.std.proofs.Common.{◌≡◌, ℕ, ◌<◌, length}
use Rattle.history_replay.specs.Looking.{KeepsLooks, HasLook}
use Rattle.history_replay.proofs.looks.Looks.add_pass.Given as goal

abbrev pub invariant-loop-i : goal.invariant-loop-i
invariant-loop-i l = (length l.self ≡ length l.initial.self) × (((index : ℕ) → index < l.i → HasLook l.self l.pass l.answers index) × KeepsLooks l.initial.self l.self)

-- A text that stands within its value where it has at most 14 bytes, before zeros, and else in memory of its own.
use Rattle.std.specs.Prelude.{◌≡◌, ℕ, ◌-◌, ◌<◌, ◌≤◌, List, length, take, drop, replicate, IsUtf8}
use Rattle.std.specs.String.{string_bytes}
use Rattle.hdfs_values.specs.declared.short_text.Held.{Held}
use Rattle.hdfs_values.specs.declared.short_text.Held.TheVariants.{Inline, Boxed}

abbrev pub held_bytes : Held → List ℕ
held_bytes (Inline n bytes) = take n bytes
held_bytes (Boxed text) = string_bytes text.value

abbrev pub IsHeld : Held → Type 0
IsHeld (Inline n bytes) = (n ≤ 14) × (drop n bytes ≡ replicate (14 - n) 0) × ∥ IsUtf8 (take n bytes) ∥₁
IsHeld (Boxed text) = 14 < length (string_bytes text.value)

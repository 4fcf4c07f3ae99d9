-- Moments: milliseconds, at most 2^62.
use Rattle.std.specs.Prelude.{ℕ, ◌^◌, nat_le, if◌then◌else◌, Option, Some, None}

abbrev pub moment_of : ℕ → Option ℕ
moment_of milliseconds = if nat_le milliseconds (2 ^ 62) then Some milliseconds else None

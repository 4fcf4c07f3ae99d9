-- Where the next blank of a line stands.
use Rattle.std.specs.Prelude.{◌≡◌, ℕ, ◌<◌, ◌≤◌, true, false, List, length, slice_index}
use Rattle.script_words.specs.Words.{is_blank}

-- from a place of a line on this is where the first blank stands; the line's end where there is none
pub record IsNextBlank (line : List ℕ) (from at : ℕ) : Type 0 where
  pub low : from ≤ at
  pub high : at ≤ length line
  pub passed : (k : ℕ) → from ≤ k → k < at → is_blank (slice_index line k) ≡ false
  pub there : at < length line → is_blank (slice_index line at) ≡ true

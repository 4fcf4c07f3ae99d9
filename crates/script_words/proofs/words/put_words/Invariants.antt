use denote.Text.{Utf8}
use denote.Shadow.{shadow}
use Rattle.std.proofs.Common.{◌≡◌, ◌++◌, ◌-◌, ◌≤◌, map, length, drop}
use Rattle.std.specs.Prelude.{filter}
use Rattle.script_words.specs.Words.{is_filled, blank_pieces}
use Rattle.script_words.proofs.words.put_words.Given as goal

abbrev pub invariant-loop-piece : goal.invariant-loop-piece
invariant-loop-piece l =
    shadow (Utf8 l.rest) × (map (λ x. x.now) l.words.items ++ filter is_filled (blank_pieces l.rest) ≡ filter is_filled (blank_pieces l.line))
    × (length l.rest ≤ length l.line) × (l.rest ≡ drop (length l.line - length l.rest) l.line)

abbrev pub decreases-loop-piece : goal.decreases-loop-piece
decreases-loop-piece l = length l.rest

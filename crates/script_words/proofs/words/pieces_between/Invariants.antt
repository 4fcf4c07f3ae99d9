use denote.Text.{Utf8}
use denote.Shadow.{shadow}
use Rattle.std.proofs.Common.{◌≡◌, ◌++◌, map, length}
use Rattle.script_words.specs.Words.{pieces_at}
use Rattle.script_words.proofs.words.pieces_between.Given as goal

abbrev pub invariant-loop-piece : goal.invariant-loop-piece
invariant-loop-piece l = shadow (Utf8 l.rest) × (map (λ x. x.now) l.pieces.items ++ pieces_at l.separator l.rest ≡ pieces_at l.separator l.text)

abbrev pub decreases-loop-piece : goal.decreases-loop-piece
decreases-loop-piece l = length l.rest

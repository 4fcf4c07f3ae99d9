-- Bytes in pieces that stand one behind another.
use Rattle.std.specs.Prelude.{◌≡◌, ℕ, ◌+◌, ◌-◌, ◌<◌, List, [], ◌∷◌, length, IfSome, slice_get}
use Rattle.std.specs.Bool.{⊤}
use Rattle.std.specs.List.{flat_map}
use Rattle.call_parts.specs.declared.chunks.Piece.{Piece}

abbrev pub bytes_of : List Piece → List ℕ
bytes_of pieces = flat_map (λ piece. piece.bytes) pieces

-- each begins where those before it end, and none is empty
abbrev pub StandBehind : ℕ → List Piece → Type 0
StandBehind start [] = ⊤
StandBehind start (piece ∷ pieces) = (piece.start ≡ start) × (0 < length piece.bytes) × StandBehind (start + length piece.bytes) pieces

-- the last one begins before so many bytes are there
abbrev pub BeginBefore : ℕ → List Piece → Type 0
BeginBefore limit pieces = IfSome (slice_get pieces (length pieces - 1)) (λ last. last.start < limit)

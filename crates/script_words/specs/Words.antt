-- The lines of a script, and the words of a line.
use Rattle.std.specs.Prelude.{ℕ, Bool, true, not, ◌||◌, List, [], ◌∷◌, length, ◌==◌, filter, if◌then◌else◌}
use Rattle.std.specs.List.{slice_split, flat_map}

abbrev pub pieces_at : ℕ → List ℕ → List (List ℕ)
pieces_at byte text = slice_split (λ b. b == byte) text

-- a line feed ends a line; the empty piece behind the last one is skipped like any empty line
abbrev pub lines_of : List ℕ → List (List ℕ)
lines_of script = pieces_at 10 script

-- a line without one carriage return at its end
abbrev pub without_return : List ℕ → List ℕ
without_return [] = []
without_return (byte ∷ []) = if byte == 13 then [] else byte ∷ []
without_return (byte ∷ next ∷ line) = byte ∷ without_return (next ∷ line)

-- an empty line, or a comment: its first byte is `#`
abbrev pub is_skipped : List ℕ → Bool
is_skipped [] = true
is_skipped (byte ∷ line) = byte == 35

abbrev pub is_filled : List ℕ → Bool
is_filled word = not (length word == 0)

-- a space or a tab
abbrev pub is_blank : ℕ → Bool
is_blank byte = byte == 32 || byte == 9

-- what stands between each two blanks, which may be nothing
abbrev pub blank_pieces : List ℕ → List (List ℕ)
blank_pieces text = slice_split is_blank text

-- words are separated by spaces and tabs
abbrev pub words_of : List ℕ → List (List ℕ)
words_of line = filter is_filled (flat_map (pieces_at 9) (pieces_at 32 line))

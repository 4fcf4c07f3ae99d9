-- The digits of bytes that stand in pieces.
use Rattle.std.proofs.Common.{◌≡◌, ℕ, ◌+◌, ◌/◌, ◌%◌, ◌<◌, true, List, [], ◌∷◌, ◌++◌, take, get_or, length, refl, sym, ap, ◌∙◌, append_assoc, ltb, arith}
use Rattle.std.specs.Prelude.{codes, slice_index}
use Rattle.std.specs.Str.{IsAscii, IsUtf8}
use Rattle.std.proofs.lemmas.Bool.{ltb-true}
use Rattle.std.proofs.lemmas.List.{take_more}
use Rattle.std.proofs.lemmas.List.Elements.{All-weaker}
use Rattle.std.proofs.lemmas.List.Sums.{AllPass-from_list_all}
use Rattle.std.proofs.lemmas.Str.{IsUtf8-from_ascii}
use Rattle.std.proofs.lemmas.Str.Ascii.{IsAscii-from_all}
use Rattle.hex.specs.Hex.{encode_with, encode_lower, lower_digits}
use Rattle.hex.proofs.HexLemmas.{IsAscii-encode_with}
use Rattle.call_parts.specs.Chunks.{bytes_of}
use Rattle.call_parts.specs.declared.chunks.Piece.{Piece}
use Rattle.call_parts.proofs.Pieces.{bytes_of_more}
use Rattle.cluster_text.specs.ReplyText.{word_behind}

encode-append : (table a b : List ℕ) → encode_with table (a ++ b) ≡ encode_with table a ++ encode_with table b
unfolding encode_with
encode-append table [] b = refl
encode-append table (byte ∷ a) b = ap (λ rest. slice_index table (byte / 16) ∷ slice_index table (byte % 16) ∷ rest) (encode-append table a b)

-- ---- one piece

-- digits are ASCII
pub digits_are_text : (bytes : List ℕ) → IsUtf8 (encode_lower bytes)
digits_are_text bytes = IsUtf8-from_ascii (encode_lower bytes) (IsAscii-encode_with lower_digits bytes low)
  where
    low : IsAscii lower_digits
    low = IsAscii-from_all lower_digits (All-weaker (λ b. ltb b 128 ≡ true) (λ b. b < 128) (λ b h. ltb-true b 128 h) lower_digits (AllPass-from_list_all (λ b. ltb b 128) lower_digits refl))

-- a front is spelled, and what stands behind it is left
pub front_spelled : (bytes front behind done new all : List ℕ) → bytes ≡ front ++ behind → done ++ encode_lower bytes ≡ all → new ≡ done ++ encode_lower front → new ++ encode_lower behind ≡ all
front_spelled bytes front behind done new all cut before after =
    ap (λ text. text ++ encode_lower behind) after
    ∙ append_assoc done (encode_lower front) (encode_lower behind)
    ∙ ap (λ digits. done ++ digits) (sym (encode-append lower_digits front behind) ∙ ap encode_lower (sym cut))
    ∙ before

-- ---- all pieces

pub no_digits : encode_lower [] ≡ []
unfolding encode_with
no_digits = refl

bytes_more : (pieces : List Piece) (i : ℕ) (d : Piece) → i < length pieces → bytes_of (take (i + 1) pieces) ≡ bytes_of (take i pieces) ++ (get_or pieces i d).bytes
bytes_more pieces i d lt = ap bytes_of (take_more pieces i d lt) ∙ bytes_of_more (take i pieces) (get_or pieces i d)

-- the digits of one piece more, behind a front
pub piece_more : (pieces : List Piece) (i : ℕ) (piece : Piece) (front old new : List ℕ) → i < length pieces → piece ≡ get_or pieces i piece → old ≡ front ++ encode_lower (bytes_of (take i pieces))
    → new ≡ old ++ encode_lower piece.bytes → new ≡ front ++ encode_lower (bytes_of (take (i + 1) pieces))
piece_more pieces i piece front old new lt at before after =
    after
    ∙ ap (λ digits. digits ++ encode_lower piece.bytes) before
    ∙ append_assoc front (encode_lower (bytes_of (take i pieces))) (encode_lower piece.bytes)
    ∙ ap (λ digits. front ++ digits) more
  where
    more : encode_lower (bytes_of (take i pieces)) ++ encode_lower piece.bytes ≡ encode_lower (bytes_of (take (i + 1) pieces))
    more =
        sym (encode-append lower_digits (bytes_of (take i pieces)) piece.bytes)
        ∙ ap (λ (last : Piece). encode_lower (bytes_of (take i pieces) ++ last.bytes)) at
        ∙ ap encode_lower (sym (bytes_more pieces i piece lt))

-- ---- behind a blank

pub nothing_behind : (bytes : List ℕ) → length bytes ≡ 0 → word_behind (encode_lower bytes) ≡ []
unfolding encode_with
nothing_behind [] none = refl
nothing_behind (byte ∷ bytes) none = absurd (omega (arith, none))

digits_behind : (bytes : List ℕ) → 0 < length bytes → word_behind (encode_lower bytes) ≡ 32 ∷ encode_lower bytes
unfolding encode_with
digits_behind [] some = absurd (omega (arith, some))
digits_behind (byte ∷ bytes) some = refl

pub read_text : (bytes spelled old first second : List ℕ) → spelled ≡ bytes → 0 < length bytes → first ≡ old ++ codes "ok read" → second ≡ first ++ (32 ∷ [])
    → second ++ encode_lower spelled ≡ old ++ (codes "ok read" ++ word_behind (encode_lower bytes))
read_text bytes spelled old first second same some begins blank =
    ap (λ digits. second ++ encode_lower digits) same
    ∙ ap (λ text. text ++ encode_lower bytes) (blank ∙ ap (λ text. text ++ (32 ∷ [])) begins)
    ∙ append_assoc (old ++ codes "ok read") (32 ∷ []) (encode_lower bytes)
    ∙ append_assoc old (codes "ok read") (32 ∷ encode_lower bytes)
    ∙ ap (λ word. old ++ (codes "ok read" ++ word)) (sym (digits_behind bytes some))

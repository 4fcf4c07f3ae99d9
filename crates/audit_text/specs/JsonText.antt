-- The text of an object of JSON whose members are texts and numbers, without a blank (RFC 8259; which bytes of a text are escaped,
-- and how, is as `serde_json` prints them).
use Rattle.std.specs.Prelude.{ℕ, ◌/◌, ◌%◌, List, [], ◌∷◌, ◌++◌, flat_map, nat_lt, ◌==◌, if◌then◌else◌, codes, decimal}
use Rattle.std.specs.Char.{digit_char}
use Rattle.std.specs.List.{join_by}

-- the value of a byte in two hexadecimal digits, with letters in lower case
abbrev pub hexadecimal : ℕ → List ℕ
hexadecimal byte = digit_char (byte / 16) ∷ digit_char (byte % 16) ∷ []

-- what stands in a text for a byte: those of a quote, a backslash and a control character are escaped, all others stand as they are
abbrev pub escaped_byte : ℕ → List ℕ
escaped_byte byte =
    if byte == 34 then codes "\\\"" else
    if byte == 92 then codes "\\\\" else
    if byte == 8 then codes "\\b" else
    if byte == 12 then codes "\\f" else
    if byte == 10 then codes "\\n" else
    if byte == 13 then codes "\\r" else
    if byte == 9 then codes "\\t" else
    if nat_lt byte 32 then codes "\\u00" ++ hexadecimal byte else byte ∷ []

-- between quotes
abbrev pub quoted_text : List ℕ → List ℕ
quoted_text text = 34 ∷ (flat_map escaped_byte text ++ (34 ∷ []))

pub data Value : Type 0 where
  text : List ℕ → Value
  number : ℕ → Value

abbrev pub value_text : Value → List ℕ
value_text (text t) = quoted_text t
value_text (number n) = decimal n

pub record Member : Type 0 where
  pub key : List ℕ
  pub value : Value

-- the key, a colon and the value
abbrev pub member_text : Member → List ℕ
member_text member = quoted_text member.key ++ (58 ∷ value_text member.value)

-- in braces, with a comma between each two members
abbrev pub object_text : List Member → List ℕ
object_text members = 123 ∷ (join_by member_text (44 ∷ []) members ++ (125 ∷ []))

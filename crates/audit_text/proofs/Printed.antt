-- What the writer of the library `json` prints of the tokens of an object is the object's text.
use Rattle.std.proofs.Common.{◌≡◌, ℕ, ◌/◌, ◌%◌, ◌==◌, ◌||◌, Bool, true, false, cond, nat_lt, eqb-true, List, [], ◌∷◌, ◌++◌, Option, Some, None, refl, sym, ap, ◌∙◌, append_assoc, flat_map, decimal}
use Rattle.std.specs.Char.{digit_char}
use Rattle.std.specs.List.{filter_map}
use Rattle.json.specs.Token.{Token, begin_object, end_object}
use Rattle.json.specs.Print.{print, print_from, escape, escape_byte}
use Rattle.json.specs.Print as json
use Rattle.audit_text.specs.JsonText.{Value, text, number, Member, escaped_byte, quoted_text, member_text, object_text}
use Rattle.audit_text.specs.Tokens.{member_tokens, told_tokens, object_tokens}

-- ---- escapes

abbrev hex_escape : ℕ → List ℕ
hex_escape byte = 92 ∷ 117 ∷ 48 ∷ 48 ∷ digit_char (byte / 16) ∷ digit_char (byte % 16) ∷ []

-- both definitions, by the answers of the same tests: whether the byte is a quote, a backslash, and so on
abbrev letter_by : ℕ → Bool → Bool → Bool → Bool → Bool → Bool → Bool → ℕ
letter_by byte quote slash b f n r t = cond (quote || slash) byte (cond b 98 (cond f 102 (cond n 110 (cond r 114 (cond t 116 0)))))

abbrev printed_by : ℕ → ℕ → Bool → List ℕ
printed_by byte letter control = cond (nat_lt 0 letter) (92 ∷ letter ∷ []) (cond control (hex_escape byte) (byte ∷ []))

abbrev escaped_by : ℕ → Bool → Bool → Bool → Bool → Bool → Bool → Bool → Bool → List ℕ
escaped_by byte quote slash b f n r t control =
    cond quote (92 ∷ 34 ∷ []) (cond slash (92 ∷ 92 ∷ []) (cond b (92 ∷ 98 ∷ []) (cond f (92 ∷ 102 ∷ []) (cond n (92 ∷ 110 ∷ []) (cond r (92 ∷ 114 ∷ []) (cond t (92 ∷ 116 ∷ []) (cond control (hex_escape byte) (byte ∷ []))))))))

agree : (byte : ℕ) (quote slash b f n r t control : Bool) → (quote ≡ true → byte ≡ 34) → (slash ≡ true → byte ≡ 92)
    → printed_by byte (letter_by byte quote slash b f n r t) control ≡ escaped_by byte quote slash b f n r t control
agree byte true slash b f n r t control is_quote is_slash = ap (λ x. printed_by x x control) (is_quote refl)
agree byte false true b f n r t control is_quote is_slash = ap (λ x. printed_by x x control) (is_slash refl)
agree byte false false true f n r t control is_quote is_slash = refl
agree byte false false false true n r t control is_quote is_slash = refl
agree byte false false false false true r t control is_quote is_slash = refl
agree byte false false false false false true t control is_quote is_slash = refl
agree byte false false false false false false true control is_quote is_slash = refl
agree byte false false false false false false false control is_quote is_slash = refl

escapes : (byte : ℕ) → escape_byte byte ≡ escaped_byte byte
unfolding escape_byte
escapes byte =
    agree byte (byte == 34) (byte == 92) (byte == 8) (byte == 12) (byte == 10) (byte == 13) (byte == 9) (nat_lt byte 32) (eqb-true byte 34) (eqb-true byte 92)

all_escapes : (bytes : List ℕ) → escape bytes ≡ flat_map escaped_byte bytes
all_escapes [] = refl
all_escapes (byte ∷ bytes) = ap (λ front. front ++ escape bytes) (escapes byte) ∙ ap (λ rest. escaped_byte byte ++ rest) (all_escapes bytes)

quotes : (bytes : List ℕ) → json.quoted bytes ≡ quoted_text bytes
quotes bytes = ap (λ inner. 34 ∷ (inner ++ (34 ∷ []))) (all_escapes bytes)

-- ---- members

-- a key with its colon, and a value
joined : (key value rest : List ℕ) → (key ++ 58 ∷ []) ++ (value ++ rest) ≡ (key ++ (58 ∷ value)) ++ rest
joined key value rest = append_assoc key (58 ∷ []) (value ++ rest) ∙ sym (append_assoc key (58 ∷ value) rest)

one : (member : Member) (rest : List Token) → print_from false (member_tokens member ++ rest) ≡ member_text member ++ print_from true rest
unfolding print_from
one member rest = by member.value
  where
    by : (value : Value) → print_from false (member_tokens (record { key = member.key; value = value }) ++ rest) ≡ member_text (record { key = member.key; value = value }) ++ print_from true rest
    by (text t) =
        ap (λ key. (key ++ 58 ∷ []) ++ (json.quoted t ++ print_from true rest)) (quotes member.key)
        ∙ ap (λ value. (quoted_text member.key ++ 58 ∷ []) ++ (value ++ print_from true rest)) (quotes t)
        ∙ joined (quoted_text member.key) (quoted_text t) (print_from true rest)
    by (number n) = ap (λ key. (key ++ 58 ∷ []) ++ (decimal n ++ print_from true rest)) (quotes member.key) ∙ joined (quoted_text member.key) (decimal n) (print_from true rest)

-- members behind the first, and the closing brace
abbrev others : List Member → List ℕ
others members = flat_map (λ member. 44 ∷ member_text member) members

behind : (members : List Member) → print_from true (flat_map member_tokens members ++ (end_object ∷ [])) ≡ others members ++ (125 ∷ [])
unfolding print_from
behind [] = refl
behind (member ∷ members) =
    ap (λ rest. 44 ∷ rest) (one member (flat_map member_tokens members ++ (end_object ∷ [])))
    ∙ ap (λ rest. 44 ∷ (member_text member ++ rest)) (behind members)
    ∙ sym (append_assoc (44 ∷ member_text member) (others members) (125 ∷ []))

object : (members : List Member) → print (begin_object ∷ (flat_map member_tokens members ++ (end_object ∷ []))) ≡ object_text members
unfolding print_from
object [] = refl
object (member ∷ members) =
    ap (λ rest. 123 ∷ rest) (one member (flat_map member_tokens members ++ (end_object ∷ [])))
    ∙ ap (λ rest. 123 ∷ (member_text member ++ rest)) (behind members)
    ∙ ap (λ rest. 123 ∷ rest) (sym (append_assoc (member_text member) (others members) (125 ∷ [])))

-- ---- what is told

there : (told : List (Option Member)) → flat_map told_tokens told ≡ flat_map member_tokens (filter_map (λ member. member) told)
there [] = refl
there (None ∷ told) = there told
there (Some member ∷ told) = ap (λ rest. member_tokens member ++ rest) (there told)

pub printed : (told : List (Option Member)) → print (object_tokens told) ≡ object_text (filter_map (λ member. member) told)
printed told = ap (λ tokens. print (begin_object ∷ (tokens ++ (end_object ∷ [])))) (there told) ∙ object (filter_map (λ member. member) told)

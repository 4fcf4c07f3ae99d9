-- What is read is the text of its parts, and the text of parts is read again.
use Rattle.std.proofs.Common.{◌≡◌, ℕ, ◌^◌, Bool, true, false, cond, eqb, List, [], ◌∷◌, ◌++◌, length, Option, Some, None, refl, sym, ap, subst, ◌∙◌, append_assoc}
use Rattle.std.specs.Prelude.{IfSome}
use Rattle.std.specs.Int.{w32, w64, to_be_bytes}
use Rattle.std.proofs.lemmas.Bool.{eqb-true}
use Rattle.block_tokens.specs.TokenText.{Body, AreParts, TokenText, version_1_fields}
use Rattle.block_tokens.specs.Reading.{◌>>=◌, number_at, modes_at, user_at, version_1_at, parts_of}
use Rattle.block_tokens.proofs.Fields.{IsBytes, IsBytes-rest, bind_some, wide32, wide64, number_takes, number_again, modes_take, modes_again, user_takes, user_again}

regrouped : (x y z user code : List ℕ) (modes size : ℕ) → (x ++ (y ++ (z ++ (modes ∷ size ∷ user)))) ++ code ≡ x ++ (y ++ (z ++ (modes ∷ size ∷ (user ++ code))))
regrouped x y z user code modes size = simp append_assoc

-- each field after the one before it
joined : (bytes x r y s z t : List ℕ) (modes : ℕ) (u user code : List ℕ) → bytes ≡ x ++ r → r ≡ y ++ s → s ≡ z ++ t → t ≡ (modes ∷ []) ++ u → u ≡ length user ∷ (user ++ code)
    → bytes ≡ (x ++ (y ++ (z ++ (modes ∷ length user ∷ user)))) ++ code
joined bytes x r y s z t modes u user code a b c d e = rw (regrouped x y z user code modes (length user)) (rw (a, b, c, d, e) refl)

abbrev pub found : Body → Option Body
found parts = Some parts

pub some_is : (p q : Body) → found p ≡ found q → p ≡ q
some_is p q e = cc

moved : (bytes : List ℕ) (read parts : Body) → found read ≡ found parts → AreParts read × (bytes ≡ version_1_fields read ++ read.code) → AreParts parts × (bytes ≡ version_1_fields parts ++ parts.code)
moved bytes read parts e both = subst (λ (p : Body). AreParts p × (bytes ≡ version_1_fields p ++ p.code)) (some_is read parts e) both

fields_take : (bytes : List ℕ) (parts : Body) → IsBytes bytes → version_1_at bytes ≡ Some parts → AreParts parts × (bytes ≡ version_1_fields parts ++ parts.code)
unfolding version_1_at version_1_fields
fields_take bytes parts fits e =
    let made : ℕ → ℕ → ℕ → ℕ → (List ℕ × List ℕ) → Option Body = λ expiry serial block modes user. Some (record { expiry = expiry; serial = serial; block = block; modes = modes; user = user.0; code = user.1 }) in
    let a = bind_some (number_at w64 bytes) (λ expiry. number_at w32 expiry.1 >>= λ serial. number_at w64 serial.1 >>= λ block. modes_at block.1 >>= λ modes. user_at modes.1 >>= made expiry.0 serial.0 block.0 modes.0) parts e in
    let b = bind_some (number_at w32 a.0.1) (λ serial. number_at w64 serial.1 >>= λ block. modes_at block.1 >>= λ modes. user_at modes.1 >>= made a.0.0 serial.0 block.0 modes.0) parts a.2 in
    let d = bind_some (number_at w64 b.0.1) (λ block. modes_at block.1 >>= λ modes. user_at modes.1 >>= made a.0.0 b.0.0 block.0 modes.0) parts b.2 in
    let m = bind_some (modes_at d.0.1) (λ modes. user_at modes.1 >>= made a.0.0 b.0.0 d.0.0 modes.0) parts d.2 in
    let u = bind_some (user_at m.0.1) (made a.0.0 b.0.0 d.0.0 m.0.0) parts m.2 in
    let ta = number_takes w64 (2 ^ 64) wide64 bytes a.0.0 a.0.1 fits a.1 in
    let tb = number_takes w32 (2 ^ 32) wide32 a.0.1 b.0.0 b.0.1 ta.0.rest_fits b.1 in
    let td = number_takes w64 (2 ^ 64) wide64 b.0.1 d.0.0 d.0.1 tb.0.rest_fits d.1 in
    let tm = modes_take d.0.1 m.0.0 m.0.1 td.0.rest_fits m.1 in
    let tu = user_takes m.0.1 u.0.0 u.0.1 u.1 in
    let whole = joined bytes (to_be_bytes w64 a.0.0) a.0.1 (to_be_bytes w32 b.0.0) b.0.1 (to_be_bytes w64 d.0.0) d.0.1 m.0.0 m.0.1 u.0.0 u.0.1 ta.0.parts tb.0.parts td.0.parts tm.0.parts tu.parts in
    let read : Body = record { expiry = a.0.0; serial = b.0.0; block = d.0.0; modes = m.0.0; user = u.0.0; code = u.0.1 } in
    let fit : AreParts read = record { expiry = ta.1; serial = tb.1; block = td.1; modes = tm.1; user = tu.user_fits; code = tu.code_fits } in
    moved bytes read parts u.2 (fit, whole)

fields_again : (parts : Body) → AreParts parts → version_1_at (version_1_fields parts ++ parts.code) ≡ Some parts
unfolding version_1_at version_1_fields
fields_again p h =
    ap version_1_at (regrouped (to_be_bytes w64 p.expiry) (to_be_bytes w32 p.serial) (to_be_bytes w64 p.block) p.user p.code p.modes (length p.user))
    ∙ rw (
      number_again w64 (2 ^ 64) wide64 p.expiry (to_be_bytes w32 p.serial ++ (to_be_bytes w64 p.block ++ (p.modes ∷ length p.user ∷ (p.user ++ p.code)))) h.expiry,
      number_again w32 (2 ^ 32) wide32 p.serial (to_be_bytes w64 p.block ++ (p.modes ∷ length p.user ∷ (p.user ++ p.code))) h.serial,
      number_again w64 (2 ^ 64) wide64 p.block (p.modes ∷ length p.user ∷ (p.user ++ p.code)) h.block,
      modes_again p.modes (length p.user ∷ (p.user ++ p.code)) h.modes,
      user_again p.user p.code h.user h.code,
    ) refl

guarded : (b : Bool) (o : Option Body) (p : Body) → cond b o None ≡ Some p → (b ≡ true) × (o ≡ Some p)
guarded true o p e = (refl, e)
guarded false o p e = absurd cc

pub text_is_read : (bytes : List ℕ) (parts : Body) → TokenText bytes parts → parts_of bytes ≡ Some parts
unfolding parts_of
text_is_read bytes p t = ap parts_of t.spelled ∙ fields_again p t.parts_fit

pub read_is_text : (bytes : List ℕ) (parts : Body) → IsBytes bytes → parts_of bytes ≡ Some parts → TokenText bytes parts
unfolding parts_of
read_is_text [] p fits e = absurd cc
read_is_text (version ∷ bytes) p fits e =
    let g = guarded (eqb version 1) (version_1_at bytes) p e in
    let t = fields_take bytes p (IsBytes-rest version bytes fits) g.1 in
    record { parts_fit = t.0; spelled = rw (eqb-true _ _ g.0) (ap (λ (r : List ℕ). 1 ∷ r) t.1) }

pub texts_found : (bytes : List ℕ) (read : Option Body) → IsBytes bytes → read ≡ parts_of bytes → IfSome read (λ parts. TokenText bytes parts)
texts_found bytes None fits e = tt
texts_found bytes (Some parts) fits e = read_is_text bytes parts fits (sym e)

-- The line that shows what a token says. The token is given in hexadecimal digits of either case.
use Rattle.std.specs.Prelude.{◌≡◌, ℕ, Bool, true, false, List, ◌++◌, Ok, codes}
use Rattle.std.specs.Fmt.{decimal}
use Rattle.hex.specs.Hex.{decode_of, encode_lower}
use Rattle.permission_bits.specs.Modes.{modes_text}
use Rattle.block_tokens.specs.TokenText.{Body, TokenText}
use Rattle.block_tokens.specs.Refusals.{token_refusal_text}
use Rattle.block_tokens.specs.declared.refusal.TokenRefusal.TheVariants.{Malformed}

-- the digits, two for each byte, spell the text of a token with these parts
pub record SpellsToken (digits : List ℕ) (parts : Body) : Type 0 where
  pub bytes : List ℕ
  pub decoded : decode_of digits ≡ Ok bytes
  pub text : TokenText bytes parts

-- `version 1 expiry E serial S block B modes M user U code HEX`
abbrev pub parts_line : Body → List ℕ
parts_line parts =
    codes "version 1 expiry " ++ (decimal parts.expiry ++ (codes " serial " ++ (decimal parts.serial ++ (codes " block " ++ (decimal parts.block
    ++ (codes " modes " ++ (modes_text parts.modes ++ (codes " user " ++ (parts.user ++ (codes " code " ++ encode_lower parts.code))))))))))

-- what is shown of the digits: the parts of their token, or that they are malformed, since they spell none
abbrev pub ShowsToken : List ℕ → Bool → List ℕ → Type 0
ShowsToken digits false line = (parts : Body) × SpellsToken digits parts × (line ≡ parts_line parts)
ShowsToken digits true line = ((parts : Body) → ¬ (SpellsToken digits parts)) × (line ≡ token_refusal_text Malformed)

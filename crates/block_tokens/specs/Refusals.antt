-- The texts of a token's refusals.
use Rattle.std.specs.Prelude.{ℕ, List, codes}
use Rattle.block_tokens.specs.declared.refusal.TokenRefusal.{TokenRefusal}
use Rattle.block_tokens.specs.declared.refusal.TokenRefusal.TheVariants.{Malformed, UnknownKey, CodeMismatch, Expired, WrongUser, WrongBlock, WrongMode}

abbrev pub token_refusal_text : TokenRefusal → List ℕ
token_refusal_text Malformed = codes "T1 Malformed"
token_refusal_text UnknownKey = codes "T2 UnknownKey"
token_refusal_text CodeMismatch = codes "T3 CodeMismatch"
token_refusal_text Expired = codes "T4 Expired"
token_refusal_text WrongUser = codes "T5 WrongUser"
token_refusal_text WrongBlock = codes "T6 WrongBlock"
token_refusal_text WrongMode = codes "T7 WrongMode"

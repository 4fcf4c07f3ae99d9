-- The tokens of JSON of which a line consists, for the writer of tokens in the library `json`.
use Rattle.std.specs.Prelude.{◌≡◌, List, [], ◌∷◌, ◌++◌, flat_map, Option, Some, None, decimal}
use Rattle.json.specs.Token.{Token, begin_object, end_object}
use Rattle.json.specs.Token as token
use Rattle.json.specs.Written.{Written}
use Rattle.audit_text.specs.JsonText.{Value, text, number, Member}

abbrev pub value_token : Value → Token
value_token (text t) = token.string t
value_token (number n) = token.number (decimal n)

abbrev pub member_tokens : Member → List Token
member_tokens member = token.key member.key ∷ value_token member.value ∷ []

-- none where there is no member
abbrev pub told_tokens : Option Member → List Token
told_tokens None = []
told_tokens (Some member) = member_tokens member

abbrev pub object_tokens : List (Option Member) → List Token
object_tokens told = begin_object ∷ (flat_map told_tokens told ++ (end_object ∷ []))

-- the tokens of these members were added, and nothing else
pub record Tells (old new : Written) (told : List (Option Member)) : Type 0 where
  pub before : new.before ≡ old.before
  pub tokens : new.tokens ≡ old.tokens ++ flat_map told_tokens told

-- those of an object of these members
pub record TellsObject (old new : Written) (told : List (Option Member)) : Type 0 where
  pub before : new.before ≡ old.before
  pub tokens : new.tokens ≡ old.tokens ++ object_tokens told

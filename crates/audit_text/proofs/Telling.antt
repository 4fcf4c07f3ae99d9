-- Members that are told one after another.
use Rattle.std.proofs.Common.{◌≡◌, List, [], ◌∷◌, ◌++◌, Option, Result, Ok, Err, sym, ap, ◌∙◌, append_assoc, flat_map, OnOk}
use Rattle.std.proofs.lemmas.List.Concat.{flat_map-append}
use Rattle.json.specs.Token.{Token, begin_object, end_object}
use Rattle.json.specs.Written.{Written, Writes}
use Rattle.audit_text.specs.JsonText.{Member}
use Rattle.audit_text.specs.Tokens.{Tells, TellsObject, told_tokens}

pub then_tells : (a b c : Written) (told others : List (Option Member)) → Tells a b told → Tells b c others → Tells a c (told ++ others)
then_tells a b c told others first second = record {
  before = second.before ∙ first.before;
  tokens =
      second.tokens
      ∙ ap (λ (front : List Token). front ++ flat_map told_tokens others) first.tokens
      ∙ append_assoc a.tokens (flat_map told_tokens told) (flat_map told_tokens others)
      ∙ ap (λ (rest : List Token). a.tokens ++ rest) (sym (flat_map-append told_tokens told others));
}

pub then_ok : {S E : Type 0} (r : Result S E) (a b c : Written) (told others : List (Option Member)) → Tells a b told → OnOk r (Tells b c others) → OnOk r (Tells a c (told ++ others))
then_ok (Ok s) a b c told others first second = then_tells a b c told others first second
then_ok (Err e) a b c told others first second = tt

-- braces around what is told
pub in_braces : {E : Type 0} (r : Result (Unit {0}) E) (a b c d : Written) (told : List (Option Member)) → b.before ≡ a.before → b.tokens ≡ a.tokens ++ begin_object ∷ [] → Tells b c told → Writes r c d end_object
    → OnOk r (TellsObject a d told)
in_braces (Ok s) a b c d told kept begins tells ends = record {
  before = ends.room.0 ∙ tells.before ∙ kept;
  tokens =
      ends.ok
      ∙ ap (λ (front : List Token). front ++ (end_object ∷ [])) (tells.tokens ∙ ap (λ (front : List Token). front ++ flat_map told_tokens told) begins ∙ append_assoc a.tokens (begin_object ∷ []) (flat_map told_tokens told))
      ∙ append_assoc a.tokens (begin_object ∷ flat_map told_tokens told) (end_object ∷ []);
}
in_braces (Err e) a b c d told kept begins tells ends = tt

-- What a token is tested for that was verified before.
use Rattle.std.proofs.Common.{◌≡◌, ◌∙◌, ℕ, Bool, true, false, List, Option, Some, None, Bor, refl, sym, ap}
use Rattle.std.specs.Prelude.{unwrap_or, option_copied, IfSome, if◌then◌else◌}
use Rattle.block_answers.specs.declared.key_list.HeldKey.{HeldKey}
use Rattle.block_tokens.specs.KeyList.{KeyList, key_with, usable_keys, unless_expired, expires_after}
use Rattle.block_tokens.specs.TokenText.{Body}
use Rattle.block_tokens.specs.TokenTest.{Access, IsVerified, access_test, has_code, code_test, parts_test, token_test}
use Rattle.block_tokens.specs.declared.refusal.TokenRefusal.TheVariants.{CodeMismatch}

some_is : {A : Type 0} (x y : A) → Some x ≡ Some y → x ≡ y
some_is {A} x y e = ap (λ (o : Option A). unwrap_or o x) e

-- what is usable is known
pub unexpired : (now : ℕ) (known : Option HeldKey) (held : HeldKey) → unless_expired now known ≡ Some held → known ≡ Some held
unexpired now None held is = is
unexpired now (Some own) held is = by (expires_after now own.expiry) refl
  where
    by : (b : Bool) → expires_after now own.expiry ≡ b → Some own ≡ Some held
    by true at = ap (λ b. if b then Some own else None) (sym at) ∙ is
    by false at = cc

pub usable_known : (now : ℕ) (known : Option HeldKey) (found : Option (Bor HeldKey)) → option_copied found ≡ unless_expired now known → IfSome found (λ held. known ≡ Some held.now)
usable_known now known None is = tt
usable_known now known (Some held) is = unexpired now known held.now (sym is)

pub verified_is : (keys : KeyList) (access : Access) (bytes : List ℕ) (parts : Body) (held : HeldKey) → IsVerified keys bytes parts
    → key_with parts.serial (usable_keys access.now keys) ≡ Some held → key_with parts.serial keys ≡ Some held → token_test keys access bytes ≡ access_test parts access
unfolding token_test
verified_is keys access bytes parts held verified usable known =
    ap (λ read. parts_test keys bytes read access) verified.read ∙ (ap (λ key. code_test key bytes parts access) usable
    ∙ ap (λ b. if b then access_test parts access else Some CodeMismatch) (ap (λ (own : HeldKey). has_code own.key bytes parts.code) (some_is held verified.held (sym known ∙ verified.known)) ∙ verified.code))

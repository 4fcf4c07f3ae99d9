use Rattle.std.proofs.Common.{◌∙◌, sym, ap, subst}
use Rattle.block_tokens.specs.KeyList.{key_with, usable_keys}
use Rattle.block_tokens.specs.TokenText.{Body}
use Rattle.block_tokens.specs.TokenTest.{TellsTokenRefusal}
use Rattle.block_tokens.proofs.Verified.{verified_is}
use Rattle.block_tokens.proofs.cache.KeyCache.check_parts.Goals as goal

pub returns : goal.returns
returns c = λ bytes verified. subst (TellsTokenRefusal c.judge.result)
    (sym (verified_is c.args.self.now (record { now = c.args.now; caller = c.args.caller.now; block = c.args.block; mode = c.args.mode.0 }) bytes c.args.parts.now c.in-Some._held.now verified
    (ap (λ (parts : Body). key_with parts.serial (usable_keys c.args.now c.args.self.now)) (sym c.parts.view_is) ∙ sym c.in-Some.ensures.usable)
    (ap (λ (parts : Body). key_with parts.serial c.args.self.now) (sym c.parts.view_is) ∙ c.in-Some.ensures.known)))
    c.judge.ensures

use Rattle.std.proofs.Common.{◌∙◌, sym, ap}
use Rattle.block_tokens.specs.KeyList.{key_with, usable_keys, unless_expired}
use Rattle.block_tokens.proofs.Usable.{usable_key}
use Rattle.block_tokens.proofs.Verified.{usable_known}
use Rattle.block_tokens.proofs.cache.KeyCache.usable_key.Goals as goal

pub returns-clause-usable : goal.returns-clause-usable
returns-clause-usable c =
    c.unless_expired.ensures ∙ ap (unless_expired c.args.now) c.get-2.ensures.value
    ∙ ap (λ serial. unless_expired c.args.now (key_with serial c.self.inside.keys.entries)) c.get.ensures
    ∙ sym (usable_key c.args.now c.args.serial c.self.inside.keys.entries c.self.invariant)
    ∙ ap (λ keys. key_with c.args.serial (usable_keys c.args.now keys)) c.self.view_is

pub returns-clause-known : goal.returns-clause-known
returns-clause-known c = usable_known c.args.now (key_with c.args.serial c.args.self.now) c.unless_expired.result
    (c.unless_expired.ensures ∙ ap (unless_expired c.args.now)
    (c.get-2.ensures.value ∙ ap (λ serial. key_with serial c.self.inside.keys.entries) c.get.ensures ∙ ap (key_with c.args.serial) c.self.view_is))

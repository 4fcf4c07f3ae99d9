use Rattle.std.proofs.Common.{◌∙◌, sym, ap}
use Rattle.block_answers.specs.declared.key_list.HeldKey.{HeldKey}
use Rattle.block_tokens.specs.KeyList.{key_with}
use Rattle.block_tokens.specs.TokenText.{Body}
use Rattle.block_tokens.specs.TokenTest.{has_code}
use Rattle.block_tokens.proofs.cache.KeyCache.verify.Goals as goal

pub returns-clause-verified : goal.returns-clause-verified
returns-clause-verified c = record {
  read = sym c.in-Some.ensures.read;
  held = c.in-Some-usable_key.held.now;
  known = ap (λ (body : Body). key_with body.serial c.args.self.now) (sym c.body.view_is) ∙ c.in-Some-usable_key.ensures.known;
  code = ap (λ (held : HeldKey). has_code held.key c.args.bytes.now c.in-Some.body.code) (sym c.held.view_is)
      ∙ ap (λ (body : Body). has_code c.held.inside.key c.args.bytes.now body.code) (sym c.body.view_is) ∙ sym c.has_code.ensures ∙ c.if-not-has_code.false;
}

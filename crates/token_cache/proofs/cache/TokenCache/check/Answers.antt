use Rattle.std.proofs.Common.{ℕ, sym, subst}
use Rattle.std.specs.Prelude.{Vec}
use Rattle.std.specs.declared.alloc.Global.{Global}
use Rattle.lru.specs.LruCache.{LruCache}
use Rattle.block_tokens.specs.TokenText.{Body}
use Rattle.block_tokens.specs.TokenTest.{IsVerified, TellsTokenRefusal, token_test}
use Rattle.token_cache.specs.Verified.{AreVerified}
use Rattle.token_cache.proofs.Kept.{used_one, kept_one, put_one}
use Rattle.token_cache.proofs.cache.TokenCache.check.Goals as goal

pub invariant_of-self : goal.invariant_of-self
invariant_of-self c = subst (λ (cache : LruCache (Vec ℕ Global) Body). AreVerified c.self.inside.keys cache.entries) (sym c.get.follows.holds-at-none)
    (used_one c.self.inside.keys c.self.inside.verified.entries c.args.token.now c.self.invariant)

pub check_parts-requires : goal.check_parts-requires
check_parts-requires c = (
  c.args.token.now,
  subst (IsVerified c.self.inside.keys c.args.token.now) (sym c.body-body.ensures)
      (kept_one c.self.inside.keys c.self.inside.verified.entries c.args.token.now c.self.invariant c.in-Some.parts.now c.in-Some.ensures.value),
)

pub returns-in-Some-clause-answer : goal.returns-in-Some-clause-answer
returns-in-Some-clause-answer c =
    subst (λ keys. TellsTokenRefusal c.check_parts.result (token_test keys (record { now = c.args.now; caller = c.args.caller.now; block = c.args.block; mode = c.args.mode.0 }) c.args.token.now)) c.self.view_is
    (c.check_parts.ensures c.args.token.now (subst (IsVerified c.self.inside.keys c.args.token.now) (sym c.body-body.ensures)
    (kept_one c.self.inside.keys c.self.inside.verified.entries c.args.token.now c.self.invariant c.in-Some.parts.now c.in-Some.ensures.value)))

pub invariant_of-self-in-Err : goal.invariant_of-self-in-Err
invariant_of-self-in-Err c = subst (λ (cache : LruCache (Vec ℕ Global) Body). AreVerified c.self.inside.keys cache.entries) (sym c.get.follows.holds-at-none)
    (used_one c.self.inside.keys c.self.inside.verified.entries c.args.token.now c.self.invariant)

pub invariant_of-self-in_err-parts : goal.invariant_of-self-in_err-parts
invariant_of-self-in_err-parts c = subst (λ (cache : LruCache (Vec ℕ Global) Body). AreVerified c.self.inside.keys cache.entries) (sym c.get.follows.holds-at-none)
    (used_one c.self.inside.keys c.self.inside.verified.entries c.args.token.now c.self.invariant)

pub invariant_of-self-in_err-to_vec : goal.invariant_of-self-in_err-to_vec
invariant_of-self-in_err-to_vec c = subst (λ (cache : LruCache (Vec ℕ Global) Body). AreVerified c.self.inside.keys cache.entries) (sym c.get.follows.holds-at-none)
    (used_one c.self.inside.keys c.self.inside.verified.entries c.args.token.now c.self.invariant)

pub invariant_of-self-in_err-put : goal.invariant_of-self-in_err-put
invariant_of-self-in_err-put c = subst (λ (cache : LruCache (Vec ℕ Global) Body). AreVerified c.self.inside.keys cache.entries) (sym c.in_err-put.ensures.err)
    (subst (λ (cache : LruCache (Vec ℕ Global) Body). AreVerified c.self.inside.keys cache.entries) (sym c.get.follows.holds-at-none)
    (used_one c.self.inside.keys c.self.inside.verified.entries c.args.token.now c.self.invariant))

pub invariant_of-self-2 : goal.invariant_of-self-2
invariant_of-self-2 c =
    let all : AreVerified c.self.inside.keys c.get.follows.lender-at-none.entries = subst (λ (cache : LruCache (Vec ℕ Global) Body). AreVerified c.self.inside.keys cache.entries) (sym c.get.follows.holds-at-none)
    (used_one c.self.inside.keys c.self.inside.verified.entries c.args.token.now c.self.invariant) in
    let own : IsVerified c.self.inside.keys c.in_ok-to_vec.field-0.items c.in_ok-parts.parts = subst (λ bytes. IsVerified c.self.inside.keys bytes c.in_ok-parts.parts) (sym (c.in_ok-to_vec.ensures.items_if_clones_equal (λ x y h. h)))
    (subst (IsVerified c.self.inside.keys c.args.token.now) (sym c.in_ok-parts.ensures) c.in-Ok.ensures.verified) in
    subst (λ (cache : LruCache (Vec ℕ Global) Body). AreVerified c.self.inside.keys cache.entries) (sym c.in_ok-put.ensures.entries)
    (put_one c.self.inside.keys c.get.follows.lender-at-none c.in_ok-to_vec.field-0 c.in_ok-parts.parts all own)

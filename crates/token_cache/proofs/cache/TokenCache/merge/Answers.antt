use Rattle.std.proofs.Common.{sym, subst}
use Rattle.token_cache.specs.Verified.{AreVerified}
use Rattle.token_cache.proofs.Kept.{stay}
use Rattle.token_cache.proofs.cache.TokenCache.merge.Goals as goal

pub invariant_of-self : goal.invariant_of-self
invariant_of-self c = subst (λ keys. AreVerified keys c.self.inside.verified.entries) (sym c.in_err-merge.ensures.err) c.self.invariant

pub invariant_of-self-2 : goal.invariant_of-self-2
invariant_of-self-2 c = subst (λ keys. AreVerified keys c.self.inside.verified.entries) (sym c.in_ok-merge.ensures.ok) (stay c.self.inside.keys c.args.update.now c.self.inside.verified.entries c.self.invariant)

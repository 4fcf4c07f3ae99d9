use Rattle.std.proofs.Common.{◌≤◌, length, sym, ap, subst, arith}
use Rattle.block_tokens.specs.KeyList.{usable_keys}
use Rattle.token_cache.specs.Verified.{AreVerified}
use Rattle.token_cache.proofs.Kept.{none_expired}
use Rattle.token_cache.proofs.cache.TokenCache.drop_expired.Goals as goal

pub invariant_of-self-else-len-held : goal.invariant_of-self-else-len-held
invariant_of-self-else-len-held c =
    let long : length c.self.inside.keys ≤ length (usable_keys c.args.now c.self.inside.keys) = omega (arith, c.len-held.ensures.count, c.len.ensures.count, c.if-len-held.false, ap length c.drop_expired.ensures) in
    subst (λ keys. AreVerified keys c.self.inside.verified.entries) (sym c.drop_expired.ensures) (none_expired c.args.now c.self.inside.keys c.self.inside.verified.entries long c.self.invariant)

use Rattle.std.proofs.Common.{rules, ap, ◌∙◌}
use Rattle.std.proofs.lemmas.Map.Made.{filter_same_pairs}
use Rattle.block_tokens.specs.KeyList.{expires_after, usable_keys}
use Rattle.block_tokens.proofs.cache.KeyCache.drop_expired.Goals as goal

pub returns : goal.returns
returns c =
    filter_same_pairs _ (λ entry. expires_after c.args.now entry.1.expiry) _ (λ k v b w f t. search rules) _ _ c.retain.ensures.filtered
    ∙ ap (usable_keys c.args.now) c.self.view_is

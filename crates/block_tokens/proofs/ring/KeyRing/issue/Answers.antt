use Rattle.block_tokens.specs.Shown.{shown_ring}
use Rattle.block_tokens.proofs.Grants.{grant_made}
use Rattle.block_tokens.proofs.ring.KeyRing.issue.Goals as goal

pub returns : goal.returns
returns c =
    grant_made (shown_ring c.self.inside) c.args.self.now c.args.now c.args.user.now c.in_ok-clone.field-0 c.as_str.result.now _ c.in_ok-coded.field-0.items c.in_ok-token.token
    c.args.block c.args.modes c.expiry-expiry.result
    c.self.view_is c.expiry-expiry.ensures c.in_ok-clone.ensures.cases c.as_str.ensures.text c.in_ok-coded.ensures c.in_ok-token.ensures

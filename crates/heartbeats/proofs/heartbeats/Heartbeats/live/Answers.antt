use Rattle.std.proofs.Common.{◌∙◌, sym, subst, List, ℕ}
use Rattle.std.specs.List.Sorted.{IsStrictlySortedBy, IsStrictlyIncreasing}
use Rattle.std.specs.Map.{keys_of}
use Rattle.std.specs.Ordering.{nat_cmp}
use Rattle.heartbeats.specs.Live.{Heartbeats}
use Rattle.heartbeats.proofs.Live.{is_recent_entry, kept_increasing, live_recent}
use Rattle.heartbeats.proofs.heartbeats.Heartbeats.live.Goals as goal

pub of_ascending-requires : goal.of_ascending-requires
of_ascending-requires c =
    let up = subst (λ (nodes : Heartbeats). IsStrictlySortedBy nat_cmp (keys_of nodes.last)) c.self.view_is c.self.invariant in
    subst (λ (xs : List ℕ). IsStrictlyIncreasing xs) (sym c.in_ok-nodes.ensures) (kept_increasing (is_recent_entry c.args.self.now.dead c.args.now) c.args.self.now.last up)

pub returns : goal.returns
returns c =
    let up = subst (λ (nodes : Heartbeats). IsStrictlySortedBy nat_cmp (keys_of nodes.last)) c.self.view_is c.self.invariant in
    c.of_ascending.ensures ∙ (c.in_ok-nodes.ensures ∙ live_recent c.args.self.now c.args.now up)

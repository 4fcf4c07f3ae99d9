use Rattle.std.proofs.Common.{◌≡◌, ◌∙◌, Some, sym, ap}
use Rattle.block_records.specs.Numbers.{entry_at}
use Rattle.block_records.proofs.Standing.{entry_there}
use Rattle.heartbeats.specs.Live.{Heartbeats}
use Rattle.heartbeats.proofs.Best.{passed_over, counted}
use Rattle.heartbeats.proofs.heartbeats.Heartbeats.better.Goals as goal

pub returns-then-not-is_recent : goal.returns-then-not-is_recent
returns-then-not-is_recent c =
    let there : entry_at c.args.node c.self.inside.last.items ≡ Some c.index.result.now.1 =
    entry_there c.args.node c.self.inside.last.items c.in-Ok.at c.index.result.now (rw (← c.deref.ensures.value) c.in-Ok.ensures.there) ∙ ap (λ entry. Some entry.1) (sym c.index.ensures) in
    passed_over c.args.self.now c.args.now c.args.node c.args.best c.index.result.now.1 (ap (λ (nodes : Heartbeats). entry_at c.args.node nodes.last) (sym c.self.view_is) ∙ there)
    (sym c.is_recent.ensures ∙ c.if-not-is_recent.true)

pub returns : goal.returns
returns c =
    let there : entry_at c.args.node c.self.inside.last.items ≡ Some c.index.result.now.1 =
    entry_there c.args.node c.self.inside.last.items c.in-Ok.at c.index.result.now (rw (← c.deref.ensures.value) c.in-Ok.ensures.there) ∙ ap (λ entry. Some entry.1) (sym c.index.ensures) in
    c.ahead.ensures ∙ counted c.args.self.now c.args.now c.args.node c.args.best c.index.result.now.1 (ap (λ (nodes : Heartbeats). entry_at c.args.node nodes.last) (sym c.self.view_is) ∙ there)
    (sym c.is_recent.ensures ∙ c.if-not-is_recent.false)

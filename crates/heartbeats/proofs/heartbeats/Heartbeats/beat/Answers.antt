use Rattle.std.proofs.Common.{◌∙◌, ℕ, List, sym, ap, subst}
use Rattle.block_records.proofs.Standing.{IsOrdered, set_there, inserted_in_gap, inserted_ordered}
use Rattle.heartbeats.specs.Live.{with_heartbeat}
use Rattle.heartbeats.proofs.heartbeats.Heartbeats.beat.Goals as goal

pub index_mut-requires : goal.index_mut-requires
index_mut-requires c = rw (← c.deref.ensures.len) c.in-Ok.ensures.bound

pub invariant_of-self : goal.invariant_of-self
invariant_of-self c =
    subst (λ (entries : List (ℕ × ℕ)). IsOrdered entries) (sym (set_there c.args.node c.args.now c.self.inside.last.items c.in-Ok.at (rw (← c.deref.ensures.value) c.in-Ok.ensures.there)))
    (inserted_ordered c.args.node c.args.now c.self.inside.last.items c.self.invariant)

pub insert-requires : goal.insert-requires
insert-requires c = rw (← c.deref.ensures.len) c.in-Err.ensures.bound

pub invariant_of-self-in-Err : goal.invariant_of-self-in-Err
invariant_of-self-in-Err c =
    subst (λ (entries : List (ℕ × ℕ)). IsOrdered entries) (sym (c.in_ok-insert-in-Err.ensures.items ∙ inserted_in_gap c.args.node c.args.now c.self.inside.last.items c.in-Err.at (rw (← c.deref.ensures.value) c.in-Err.ensures.absent)))
    (inserted_ordered c.args.node c.args.now c.self.inside.last.items c.self.invariant)

pub returns-in-Ok-clause-ok : goal.returns-in-Ok-clause-ok
returns-in-Ok-clause-ok c =
    ap (λ entries. record { dead = c.self.inside.dead; last = entries }) (set_there c.args.node c.args.now c.self.inside.last.items c.in-Ok.at (rw (← c.deref.ensures.value) c.in-Ok.ensures.there))
    ∙ ap (λ nodes. with_heartbeat nodes c.args.node c.args.now) c.self.view_is

pub returns-in_ok-insert-in-Err-clause-ok : goal.returns-in_ok-insert-in-Err-clause-ok
returns-in_ok-insert-in-Err-clause-ok c =
    ap (λ entries. record { dead = c.self.inside.dead; last = entries }) (c.in_ok-insert-in-Err.ensures.items ∙ inserted_in_gap c.args.node c.args.now c.self.inside.last.items c.in-Err.at (rw (← c.deref.ensures.value) c.in-Err.ensures.absent))
    ∙ ap (λ nodes. with_heartbeat nodes c.args.node c.args.now) c.self.view_is

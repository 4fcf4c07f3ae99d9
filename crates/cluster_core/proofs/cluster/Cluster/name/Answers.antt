use Rattle.std.proofs.Common.{ℕ, ◌+◌, length, sym, ap, ◌∙◌, subst}
use Rattle.grant_ledger.specs.declared.ledger.LedgerRow.{LedgerRow}
use Rattle.std.proofs.Common.{List}
use Rattle.cluster_trace.specs.Trace.{Cluster, request_named, left_by, outcome_of}
use Rattle.cluster_trace.specs.Typed.{GrantsFit}
use Rattle.cluster_core.proofs.Naming.{IsNamed, is_named, noted_behind, grants_fit}
use Rattle.cluster_core.proofs.cluster.Cluster.name.Goals as goal

done : (c : goal.After-place) → IsNamed c.self.inside.core c.append.new.self c.self.inside.nodes c.self.inside.leaders c.self.inside.sent.batches.items c.add-first.new.self.batches.items c.self.inside.sent.count
    c.add-first.new.self.count c.last_count-count.result c.args.request
done c =
    let own = c.self.inside in
    is_named own.core c.append.new.self own.nodes own.leaders own.sent.batches.items c.add-first.new.self.batches.items own.sent.count c.add-first.new.self.count c.last_count-count.result c.place-index.result c.args.request
    c.in_ok-append.ensures.ok c.self.invariant c.place-index.ensures.place c.last_count-count.ensures.count
    (noted_behind c.place-index.result c.last_count-count.result own.sent.batches.items c.make_room.new.self.batches.items c.add-first.new.self.batches.items own.sent.count c.make_room.new.self.count c.add-first.new.self.count
    c.make_room.ensures.batches c.make_room.ensures.count (record { messages = c.add-first.ensures.messages; laid = c.add-first.ensures.laid }))

pub invariant_of-self-2 : goal.invariant_of-self-2
invariant_of-self-2 c = (done c).laid

pub returns-clause-ok : goal.returns-clause-ok
returns-clause-ok c = (done c).state ∙ ap (λ (state : Cluster). left_by state (request_named state c.args.request)) c.self.view_is

pub returns-clause-outcome : goal.returns-clause-outcome
returns-clause-outcome c =
    (done c).outcome c.place.result c.add-first.result c.place.ensures.place (c.add-first.ensures.first ∙ ap (λ (n : ℕ). n + 1) c.make_room.ensures.count)
    ∙ ap (λ (state : Cluster). outcome_of state (request_named state c.args.request)) c.self.view_is

pub returns-clause-fits : goal.returns-clause-fits
returns-clause-fits c = λ fits.
    grants_fit c.self.inside.core c.append.new.self c.as_slice.result.now c.place-index.result c.len-granted.result c.args.request c.in_ok-append.ensures.ok
    (c.len-granted.ensures ∙ ap (λ (rows : List LedgerRow). length rows) c.ledger.ensures) (c.as_slice.ensures ∙ c.ledger-2.ensures) c.read_rows.ensures (subst GrantsFit (sym c.self.view_is) fits)

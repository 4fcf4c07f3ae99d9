-- One event more.
use Rattle.std.proofs.Common.{◌≡◌, ℕ, true, false, List, [], ◌∷◌, ◌++◌, reverse, sym, ap, ◌∙◌, subst, Option, Some, None}
use Rattle.std.proofs.lemmas.List.{reverse-append}
use Rattle.block_records.specs.Numbers.{entry_at}
use Rattle.history.specs.declared.entry.HistoryEntry.{HistoryEntry}
use Rattle.node_calls.specs.declared.call.NodeCall.{NodeCall}
use Rattle.node_calls.specs.declared.message.Message.{Message}
use Rattle.node_calls.specs.declared.message.Message.TheVariants as message
use Rattle.datanode.specs.NodeStep.{DataNode}
use Rattle.hdfs_types.specs.declared.op.Request.{Request}
use Rattle.node_calls.specs.declared.call.PlanCall.{PlanCall}
use Rattle.block_recovery.specs.Plans.{PlanTable}
use Rattle.cluster_trace.specs.DataCall.{DataCall, BeginWrite, Packet, Finalize, Read, Decide, Commit}
use Rattle.cluster_trace.specs.Trace.{Cluster, entry_of, request_named, called_at, led_at, is_from_outside, left_by, happens, event_outcome, Happened, event_happened}
use Rattle.cluster_trace.specs.Provenance.{AllRight, IsRuled, call_of, request_made}
use Rattle.cluster_trace.specs.Typed.{GrantsFit, CallFits, AreTyped}
use Rattle.cluster_trace.specs.declared.event.Event.{Event}
use Rattle.cluster_trace.specs.declared.event.Event.TheVariants.{Name, Data}
use Rattle.cluster_trace.specs.declared.outcome.Outcome.{Outcome}
use Rattle.cluster_trace.proofs.Right.{all_right, event_ruled}
use Rattle.cluster_laws.specs.Laws.{RecordsOf}
use Rattle.cluster_laws.proofs.Logs.{records_rest}
use Rattle.cluster_parts.specs.Kept.{IsWithin, AreWithin, events_of, events_kept, IsOneMore}
use Rattle.cluster_core.specs.Past.{World}
use Rattle.cluster_core.specs.World.{state_after, with_event, history_of, past_of, IsReached}
use Rattle.cluster_parts.specs.declared.kept.KeptEvents.{KeptEvents}
use Rattle.cluster_core.specs.declared.world.World.TheInside.{Inside}
use Rattle.cluster_core.proofs.Answering.{taken, not_taken}
use Rattle.cluster_parts.proofs.Keeping.{one_more}

-- ---- the NameNode's history grows at its end, if at all

pub record Grows (old new : List HistoryEntry) : Type 0 where
  pub more : List HistoryEntry
  pub is : new ≡ more ++ old

grows_by : (state : Cluster) (request : Option Request) (what : Happened) → IsRuled state request what → Grows state.entries what.entries
grows_by state None what ruled = record { more = []; is = ruled }
grows_by state (Some request) what ruled = record { more = entry_of state request ∷ []; is = ruled.1 }

grows : (state : Cluster) (event : Event) → Grows state.entries (happens state event).entries
grows state event = grows_by state (request_made state event) (event_happened state event) (event_ruled state event)

-- what the history is longer by, the oldest first
abbrev more_of : Inside → Event → List HistoryEntry
more_of old event = reverse (grows old.cluster event).more

history_more : (old new : Inside) (event : Event) → new.cluster ≡ happens old.cluster event → history_of new ≡ history_of old ++ more_of old event
history_more old new event is =
    let grown = grows old.cluster event in
    ap reverse (ap (λ (state : Cluster). state.entries) is ∙ grown.is) ∙ reverse-append grown.more old.cluster.entries

-- ---- a world that stepped an event

pub record Steps (old : Inside) (event : Event) (new : Inside) : Type 0 where
  pub ids : new.ids.items ≡ old.ids.items
  pub cluster : new.cluster ≡ happens old.cluster event
  pub kept : AreWithin (history_of old) old.events.items → IsOneMore (history_of old) old.events.items event (history_of new) new.events.items
  pub fits : GrantsFit old.cluster → GrantsFit new.cluster
  pub call : CallFits (call_of old.cluster event)

-- the event is kept as it is
pub kept_steps : (old new : Inside) (event : Event) (own : KeptEvents) → ((history : List HistoryEntry) → IsWithin history own × (events_of history own ≡ event ∷ [])) → new.ids.items ≡ old.ids.items
    → new.cluster ≡ happens old.cluster event → new.events.items ≡ old.events.items ++ own ∷ [] → (GrantsFit old.cluster → GrantsFit new.cluster) → CallFits (call_of old.cluster event) → Steps old event new
kept_steps old new event own alone ids cluster events fits call =
    let history : history_of new ≡ history_of old ++ more_of old event = history_more old new event cluster in
    let told = alone (history_of old ++ more_of old event) in
    record {
      ids = ids;
      cluster = cluster;
      kept = λ within.
          subst (λ (entries : List HistoryEntry). IsOneMore (history_of old) old.events.items event entries new.events.items) (sym history)
          (subst (λ (all : List KeptEvents). IsOneMore (history_of old) old.events.items event (history_of old ++ more_of old event) all) (sym events)
          (one_more (history_of old) (more_of old event) old.events.items own event within told.0 told.1));
      fits = fits;
      call = call;
    }

-- the history keeps the request
pub asked_steps : (old new : Inside) (request : Request) → is_from_outside request.op ≡ true
    → (AreWithin (history_of old) old.events.items → IsOneMore (history_of old) old.events.items (Name request) (reverse (entry_of old.cluster request ∷ old.cluster.entries)) new.events.items)
    → new.ids.items ≡ old.ids.items → new.cluster ≡ left_by old.cluster (request_named old.cluster request) → (GrantsFit old.cluster → GrantsFit new.cluster) → Steps old (Name request) new
asked_steps old new request outside kept ids cluster fits = record {
  ids = ids;
  cluster = cluster ∙ ap (left_by old.cluster) (sym (taken old.cluster request outside));
  kept = λ within. subst (λ (state : Cluster). IsOneMore (history_of old) old.events.items (Name request) (reverse state.entries) new.events.items) (sym cluster) (kept within);
  fits = fits;
  call = tt;
}

-- ---- what grants nothing

pub lost_fits : (old new : Cluster) (request : Request) → is_from_outside request.op ≡ false → new ≡ happens old (Name request) → GrantsFit old → GrantsFit new
lost_fits old new request outside is fits = subst GrantsFit (sym (is ∙ ap (left_by old) (not_taken old request outside))) fits

fits_called : (state : Cluster) (id now : ℕ) (asked : NodeCall) (found : Option DataNode) → GrantsFit state → GrantsFit (left_by state (called_at state id now asked found))
fits_called state id now asked None fits = fits
fits_called state id now asked (Some node) fits = fits

fits_led : (state : Cluster) (id : ℕ) (asked : PlanCall) (found : Option PlanTable) → GrantsFit state → GrantsFit (left_by state (led_at state id asked found))
fits_led state id asked None fits = fits
fits_led state id asked (Some plans) fits = fits

fits_data : (state : Cluster) (node now : ℕ) (asked : DataCall) → GrantsFit state → GrantsFit (happens state (Data node now asked))
fits_data state node now (BeginWrite presented next) fits = fits_called state node now _ (entry_at node state.nodes) fits
fits_data state node now (Packet presented offset bytes next) fits = fits_called state node now _ (entry_at node state.nodes) fits
fits_data state node now (Finalize presented count next) fits = fits_called state node now _ (entry_at node state.nodes) fits
fits_data state node now (Read presented offset count) fits = fits_called state node now _ (entry_at node state.nodes) fits
fits_data state node now (Decide block stamp) fits = fits_led state node _ (entry_at node state.plans) fits
fits_data state node now (Commit block stamp) fits = fits_led state node _ (entry_at node state.plans) fits

pub data_fits : (old new : Cluster) (node now : ℕ) (asked : DataCall) → new ≡ happens old (Data node now asked) → GrantsFit old → GrantsFit new
data_fits old new node now asked is fits = subst GrantsFit (sym is) (fits_data old node now asked fits)

-- ---- what it leaves

events_stepped : (old : Inside) (event : Event) (new : Inside) → IsReached old → Steps old event new → (past_of new).events ≡ event ∷ (past_of old).events
events_stepped old event new reached steps =
    ap reverse (steps.kept reached.within).is ∙ reverse-append (events_kept (history_of old) old.events.items) (event ∷ [])

past_more : (old : Inside) (event : Event) (new : Inside) → IsReached old → Steps old event new → past_of new ≡ with_event (past_of old) event
past_more old event new reached steps =
    let name = ap (λ (state : Cluster). state.opening) steps.cluster in
    ap (λ own. record { opening = record { name = own; nodes = new.ids.items }; events = (past_of new).events }) name
    ∙ ap (λ (nodes : List ℕ). record { opening = record { name = old.cluster.opening; nodes = nodes }; events = (past_of new).events }) steps.ids
    ∙ ap (λ (own : List Event). record { opening = record { name = old.cluster.opening; nodes = old.ids.items }; events = own }) (events_stepped old event new reached steps)

reached_more : (old : Inside) (event : Event) (new : Inside) → IsReached old → Steps old event new → IsReached new
reached_more old event new reached steps =
    let past : past_of new ≡ with_event (past_of old) event = past_more old event new reached steps in
    let fits : GrantsFit (state_after (past_of old)) = subst GrantsFit reached.state reached.fits in
    let call : CallFits (call_of (state_after (past_of old)) event) = subst (λ (state : Cluster). CallFits (call_of state event)) reached.state steps.call in
    record {
      within = (steps.kept reached.within).within;
      state = steps.cluster ∙ ap (λ (state : Cluster). happens state event) reached.state ∙ ap state_after (sym past);
      typed = subst (λ (own : World). AreTyped own.opening own.events) (sym past) (record { grants = fits; call = call }, reached.typed);
      fits = steps.fits reached.fits;
    }

-- ---- a world, as it is seen

pub step_reached : (old : Inside) (event : Event) (new : Inside) → IsReached old → Steps old event new → IsReached new
step_reached = reached_more

pub step_past : (old : Inside) (past : World) (event : Event) (new : Inside) → IsReached old → past_of old ≡ past → Steps old event new → past_of new ≡ with_event past event
step_past old past event new reached is steps = past_more old event new reached steps ∙ ap (λ (own : World). with_event own event) is

-- what comes of an event of the cluster comes of it behind the past
pub step_outcome : (old : Inside) (past : World) (event : Event) (told : Outcome) → IsReached old → past_of old ≡ past → told ≡ event_outcome old.cluster event → told ≡ event_outcome (state_after past) event
step_outcome old past event told reached is at = at ∙ ap (λ (state : Cluster). event_outcome state event) (reached.state ∙ ap state_after is)

pub reached_right : (world : Inside) → IsReached world → AllRight (past_of world).opening (past_of world).events
reached_right world reached = all_right (past_of world).opening (past_of world).events reached.typed

pub reached_rest : (world : Inside) → IsReached world → RecordsOf (past_of world).opening (past_of world).events
reached_rest world reached = records_rest (past_of world).opening (past_of world).events reached.typed

-- ---- a world in which nothing but its room has changed

past_same : (old new : Inside) → new.ids.items ≡ old.ids.items → new.cluster ≡ old.cluster → new.events.items ≡ old.events.items → past_of new ≡ past_of old
past_same old new ids cluster events =
    ap (λ (own : Cluster). record { opening = record { name = own.opening; nodes = new.ids.items }; events = reverse (events_kept (reverse own.entries) new.events.items) }) cluster
    ∙ ap (λ (own : List ℕ). record { opening = record { name = old.cluster.opening; nodes = own }; events = reverse (events_kept (history_of old) new.events.items) }) ids
    ∙ ap (λ (own : List KeptEvents). record { opening = (past_of old).opening; events = reverse (events_kept (history_of old) own) }) events

pub still_reached : (old new : Inside) → new.ids.items ≡ old.ids.items → new.cluster ≡ old.cluster → new.events.items ≡ old.events.items → IsReached old → IsReached new
still_reached old new ids cluster events reached =
    let past : past_of new ≡ past_of old = past_same old new ids cluster events in
    record {
      within = subst (λ (own : List KeptEvents). AreWithin (history_of new) own) (sym events)
          (subst (λ (own : Cluster). AreWithin (reverse own.entries) old.events.items) (sym cluster) reached.within);
      state = cluster ∙ reached.state ∙ ap state_after (sym past);
      typed = subst (λ (own : World). AreTyped own.opening own.events) (sym past) reached.typed;
      fits = subst GrantsFit (sym cluster) reached.fits;
    }

pub still_past : (old new : Inside) (past : World) → new.ids.items ≡ old.ids.items → new.cluster ≡ old.cluster → new.events.items ≡ old.events.items → past_of old ≡ past → past_of new ≡ past
still_past old new past ids cluster events is = past_same old new ids cluster events ∙ is

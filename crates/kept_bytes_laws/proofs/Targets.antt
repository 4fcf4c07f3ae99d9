-- The nodes that a recovery asks are targets of its block, and so are those that are to hold the block behind it.
use Rattle.std.proofs.Common.{◌≡◌, ℕ, inl, inr, List, [], ◌∷◌, ◌++◌, Some, refl, sym, ◌∙◌, subst}
use Rattle.std.specs.List.{AllByRecursion}
use Rattle.block_records.specs.declared.block_record.BlockRecord.{BlockRecord}
use Rattle.block_recovery.specs.declared.plan.Plan.{Plan}
use Rattle.block_map.specs.BlockFacts.{Blocks}
use Rattle.hdfs_types.specs.declared.op.Op.TheVariants as op
use Rattle.hdfs_types.specs.declared.op.Request.{Request}
use Rattle.hdfs_types.specs.declared.replica.RecoveredBlock.{RecoveredBlock}
use Rattle.hdfs_types.specs.declared.reply.Reply.{Reply}
use Rattle.flat_rows.specs.Facts.{Facts}
use Rattle.flat_rows.specs.declared.verdict.Verdict.{Verdict}
use Rattle.flat_rows.specs.declared.verdict.Verdict.TheVariants.{Done, Denied, Refused}
use Rattle.history.specs.Blocks.{blocks_by}
use Rattle.history.specs.LegalHistory.{now_at}
use Rattle.history.specs.State.{rows_of, users_of, facts_of}
use Rattle.history.specs.declared.entry.HistoryEntry.{HistoryEntry}
use Rattle.block_laws.specs.Laws as given
use Rattle.block_laws.specs.Laws.{new_blocks, blocks_told}
use Rattle.block_laws.proofs.Histories.{stands}
use Rattle.block_laws.proofs.Unrefused.{was_done}
use Rattle.node_calls.specs.declared.call.PlanCall.TheVariants as plan
use Rattle.node_calls.specs.declared.message.Message.TheVariants as message
use Rattle.cluster_trace.specs.Provenance.{IsIn, call_of}
use Rattle.cluster_trace.specs.Trace.{Cluster, ClusterOpening, Happened, event_lost, entry_of, entry_messages, request_named, called_at, led_at, event_happened, left_by, after}
use Rattle.cluster_trace.specs.declared.event.Event.{Event}
use Rattle.cluster_trace.proofs.Each.{never_some, each_append, each_more, each_in}
use Rattle.fencing_laws.specs.Fencing.{plan_in}
use Rattle.fencing_laws.proofs.Plans.{plans_are_right}
use Rattle.fencing_laws.proofs.Orders.{Order, OfOrder, HasNone, answer_none, plan_answer_none, IsNew, all_new}
use Rattle.fencing_laws.proofs.Leaders.{HasLeaders, facts_in, leaders}
use Rattle.fencing_laws.proofs.OnePlan.{all_ordered}
use Rattle.kept_bytes_laws.proofs.Records.{OfEach, Stays, each_after}
use Rattle.kept_bytes_laws.proofs.Added.{in_behind, AreTargets, target_still}
use Rattle.kept_bytes_laws.proofs.Noted.{Noted, noted_asked, all_noted}
use Rattle.kept_bytes_laws.proofs.Sent.{Does, does}

-- the nodes that are to hold the block are its targets
abbrev pub Expects : List HistoryEntry → ℕ → BlockRecord → Type 0
Expects entries block own = AreTargets entries block own.expected

abbrev pub OrdersTargets : List HistoryEntry → Order → Type 0
OrdersTargets entries order = AreTargets entries order.block order.nodes

pub record AreAsked (state : Cluster) : Type 0 where
  pub records : OfEach (Expects state.entries) (facts_in state).known.blocks
  pub orders : AllByRecursion (OfOrder (OrdersTargets state.entries)) state.messages

quiet : (state : Cluster) (what : Happened) → what.entries ≡ state.entries → AllByRecursion HasNone what.sent → AreAsked state → AreAsked (left_by state what)
quiet state what same none before =
    subst (λ entries. AreAsked (record { opening = state.opening; entries = entries; nodes = what.nodes; plans = what.plans; messages = state.messages ++ what.sent })) (sym same) (record {
      records = before.records;
      orders = each_append (OfOrder (OrdersTargets state.entries)) state.messages what.sent before.orders
          (each_more HasNone (OfOrder (OrdersTargets state.entries)) (λ own is order e. absurd (never_some order (sym is ∙ e))) what.sent none);
    })

stays : (entries : List HistoryEntry) → Stays (Expects entries)
stays entries = record {
  replication = λ block replication own h. h;
  committed = λ block length own h. h;
  unreported = λ block node own h. h;
  copied = λ block now own h. h;
  recovery = λ block stamp now own h. h;
}

-- ---- a request

-- the nodes that hold a block behind its recovery are its targets
abbrev EndsAtTargets : Cluster → Request → Type 0
EndsAtTargets state request = (recovery : RecoveredBlock) → request.op ≡ op.CommitRecovery recovery → AreTargets state.entries recovery.block recovery.nodes

module _ (state : Cluster) (request : Request) (leads : HasLeaders state) (before : AreAsked state) (ends : EndsAtTargets state request) where
  abbrev entry : HistoryEntry
  entry = entry_of state request

  abbrev facts : Facts
  facts = facts_of state.opening state.entries (now_at state.entries request)

  abbrev now : List HistoryEntry
  now = entry_of state request ∷ state.entries

  more : (block : ℕ) (nodes : List ℕ) → AreTargets state.entries block nodes → AreTargets now block nodes
  more block nodes h node has = target_still (entry_of state request) state.entries block node (h node has)

  records_before : OfEach (Expects now) (facts_in state).known.blocks
  records_before block own there = more block own.expected (before.records block own there)

  records_by : (verdict : Verdict) → (entry_of state request).verdict ≡ verdict → OfEach (Expects now) (blocks_by facts request.op request.caller verdict (rows_of state.opening state.entries) (facts_in state)).known.blocks
  records_by (Denied denial) e = records_before
  records_by (Refused refusal) e = records_before
  records_by (Done told) e =
      let was = was_done facts (rows_of state.opening state.entries) (users_of state.entries) request.caller request.op told (sym e) in
      each_after (Expects now) (stays now) facts request.caller (rows_of state.opening state.entries) (users_of state.entries) request.op was.unrefused
      (record {
        added = λ new replication i. λ node has. record {
          new = new;
          added = in_behind new (new_blocks state.entries) (given.blocks_given_by (entry_of state request).verdict)
              (subst (λ (verdict : Verdict). IsIn new (given.blocks_given_by verdict)) (sym e) (subst (λ (reply : Reply). IsIn new (blocks_told reply)) (sym was.told_is) i));
          of = refl;
          target = has;
        };
        reported = λ node replica own is by same h. h;
        recovered = λ recovery own is same h. more recovery.block recovery.nodes (ends recovery is);
      })
      (stands state.opening state.entries leads.legal).sound.once records_before

  -- what is ordered now asks the nodes that are to hold the block
  new_order : (later : Blocks) (order : Order) → IsNew facts request.caller (rows_of state.opening state.entries) leads.order later order → OrdersTargets now order
  new_order later order new = more order.block order.nodes (subst (AreTargets state.entries order.block) (sym new.nodes) (before.records order.block new.own new.there))

  asked : AreAsked (left_by state (request_named state request))
  asked = record {
    records = records_by (entry_of state request).verdict refl;
    orders = each_append (OfOrder (OrdersTargets now)) state.messages (entry_messages (entry_of state request))
        (each_more (OfOrder (OrdersTargets state.entries)) (OfOrder (OrdersTargets now)) (λ own h order e. more order.block order.nodes (h order e)) state.messages before.orders)
        (each_more (OfOrder (IsNew facts request.caller (rows_of state.opening state.entries) leads.order (facts_in (left_by state (request_named state request))))) (OfOrder (OrdersTargets now))
        (λ own h order e. new_order (facts_in (left_by state (request_named state request))) order (h order e)) (entry_messages (entry_of state request))
        (all_new facts request.caller (rows_of state.opening state.entries) leads.order (users_of state.entries) request.op (entry_of state request).verdict refl));
  }

-- ---- plans

-- a plan asks the nodes that were ordered
pub plan_asks : (opening : ClusterOpening) (events : List Event) (leader block stamp : ℕ) (own : Plan) → AreAsked (after opening events) → plan_in (after opening events) leader block stamp ≡ Some own
    → AreTargets (after opening events).entries block own.nodes
plan_asks opening events leader block stamp own asked there =
    let ordered = all_ordered opening events leader block stamp own there in
    let order : Order = record { node = leader; block = block; stamp = stamp; nodes = own.nodes } in
    each_in (OfOrder (OrdersTargets (after opening events).entries)) (after opening events).messages (message.Plan leader (plan.Recover block stamp own.nodes ordered.token)) asked.orders ordered.is order refl

ends_at_targets : (opening : ClusterOpening) (events : List Event) (leader block stamp count : ℕ) (nodes : List ℕ) → AreAsked (after opening events)
    → IsIn (message.CommitRecovery leader block stamp count nodes) (after opening events).messages → AreTargets (after opening events).entries block nodes
ends_at_targets opening events leader block stamp count nodes asked i node has =
    let noted = each_in (Noted (after opening events)) (after opening events).messages (message.CommitRecovery leader block stamp count nodes) (all_noted opening events) i in
    plan_asks opening events leader block stamp noted.0 asked noted.1 node (noted_asked noted.0 node (plans_are_right opening events leader block stamp noted.0 noted.1) (noted.2 node has))

-- ---- every event

event_asked : (opening : ClusterOpening) (earlier : List Event) (event : Event) → AreAsked (after opening earlier) → AreAsked (after opening (event ∷ earlier))
event_asked opening earlier event before = by (does state event)
  where
    state : Cluster
    state = after opening earlier

    by : Does state (call_of state event) (event_happened state event) → AreAsked (left_by state (event_happened state event))
    by (inl own) = subst (λ (what : Happened). AreAsked (left_by state what)) (sym own.is) (quiet state (event_lost state own.refusal) refl tt before)
    by (inr (inl own)) = subst (λ (what : Happened). AreAsked (left_by state what)) (sym own.is)
        (quiet state (called_at state own.id own.now own.called (Some own.node)) refl (answer_none own.node own.now own.called) before)
    by (inr (inr (inl own))) = subst (λ (what : Happened). AreAsked (left_by state what)) (sym own.is)
        (quiet state (led_at state own.id own.asked (Some own.plans)) refl (plan_answer_none own.id own.asked own.plans) before)
    by (inr (inr (inr own))) = subst (λ (what : Happened). AreAsked (left_by state what)) (sym own.is)
        (asked state own.request (leaders opening earlier) before
        (λ recovery is. let commit = own.commit recovery is in ends_at_targets opening earlier commit.0 recovery.block recovery.stamp recovery.length recovery.nodes before commit.1))

pub all_asked : (opening : ClusterOpening) (events : List Event) → AreAsked (after opening events)
all_asked opening [] = record { records = λ block own there. cc; orders = tt }
all_asked opening (event ∷ earlier) = event_asked opening earlier event (all_asked opening earlier)

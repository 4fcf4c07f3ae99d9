-- Over every list of events, all orders to lead the recovery of a block at a stamp are for one DataNode.
use Rattle.std.proofs.Common.{◌≡◌, ℕ, ◌<◌, ◌≤◌, Bool, true, false, ◌⊎◌, inl, inr, List, [], ◌∷◌, ◌++◌, Option, Some, None, refl, sym, ap, ◌∙◌, subst, cond, arith}
use Rattle.std.specs.List.{AllByRecursion}
use Rattle.std.specs.List.Sorted.{IsStrictlySortedBy}
use Rattle.block_records.specs.Numbers.{entry_at}
use Rattle.block_records.specs.declared.block_record.BlockRecord.{BlockRecord}
use Rattle.block_recovery.specs.Plans.{PlanTable}
use Rattle.block_map.specs.BlockFacts.{Blocks, known_block}
use Rattle.block_effect_laws.specs.Laws.{Becomes}
use Rattle.block_effect_laws.proofs.Orders.{AreInOrder}
use Rattle.hdfs_types.specs.declared.op.Request.{Request}
use Rattle.flat_rows.specs.Facts.{Facts}
use Rattle.history.specs.LegalHistory.{IsLegal, now_at}
use Rattle.history.specs.State.{rows_of, users_of, blocks_of, facts_of}
use Rattle.history.specs.declared.entry.HistoryEntry.{HistoryEntry}
use Rattle.block_laws.specs.Laws as blocks
use Rattle.block_laws.proofs.Histories.{stands}
use Rattle.block_laws.proofs.Steps.{Turned, turned}
use Rattle.node_calls.specs.declared.call.NodeCall.{NodeCall}
use Rattle.node_calls.specs.declared.call.PlanCall.{PlanCall}
use Rattle.node_calls.specs.declared.message.Message.{Message}
use Rattle.node_calls.specs.declared.message.Message.TheVariants as message
use Rattle.datanode.specs.NodeStep.{DataNode}
use Rattle.cluster_trace.specs.DataCall.{as_message}
use Rattle.cluster_trace.specs.Trace.{Cluster, ClusterOpening, Happened, event_lost, entry_of, entry_messages, request_named, called_at, led_at, message_delivered, message_at, is_from_outside, report_request, commit_request, event_happened, left_by, after}
use Rattle.cluster_trace.specs.declared.event.Event.{Event}
use Rattle.cluster_trace.specs.declared.event.Event.TheVariants.{Name, Deliver, Data}
use Rattle.cluster_trace.specs.declared.outcome.ClusterRefusal.{ClusterRefusal}
use Rattle.cluster_trace.specs.declared.outcome.ClusterRefusal.TheVariants.{NoMessage, NoNode, NotFromOutside}
use Rattle.cluster_trace.proofs.Each.{some_is, never_some, each_append, each_more}
use Rattle.fencing_laws.proofs.Orders.{Order, order_of, OfOrder, HasNone, answer_none, plan_answer_none, IsNew, all_new}
use Rattle.fencing_laws.proofs.Waiting.{IsAnew, QueueKept, queue_kept}

pub each_both : {X : Type 0} (P Q : X → Type 0) (xs : List X) → AllByRecursion P xs → AllByRecursion Q xs → AllByRecursion (λ x. P x × Q x) xs
each_both P Q [] p q = tt
each_both P Q (x ∷ xs) p q = ((p.0, q.0), each_both P Q xs p.1 q.1)

-- ---- orders that were given

-- its stamp was given, and while it is the newest one of the block, no recovery of the block waits
pub record WasGiven (facts : Blocks) (order : Order) : Type 0 where
  pub below : order.stamp < facts.known.next_stamp
  pub once : (own : BlockRecord) → known_block facts order.block ≡ Some own → own.stamp ≡ order.stamp → entry_at order.block facts.queued ≡ None

abbrev pub Agree : Message → Message → Type 0
Agree own other = (order also : Order) → order_of own ≡ Some order → order_of other ≡ Some also → order.block ≡ also.block → order.stamp ≡ also.stamp → order.node ≡ also.node

abbrev pub AllAgree : List Message → Type 0
AllAgree messages = AllByRecursion (λ own. AllByRecursion (Agree own) messages) messages

-- more messages, of which each new order is given now, and no old one is as a new one
module _ (old later : Blocks) (messages sent : List Message) (N : Order → Type 0)
    (still : (order : Order) → WasGiven old order → WasGiven later order)
    (given_now : (order : Order) → N order → WasGiven later order)
    (apart : (order also : Order) → WasGiven old order → N also → order.block ≡ also.block → order.stamp ≡ also.stamp → ⊥)
    (same : (order also : Order) → N order → N also → order.node ≡ also.node)
    (given : AllByRecursion (OfOrder (WasGiven old)) messages) (news : AllByRecursion (OfOrder N) sent) where
  pub all_given : AllByRecursion (OfOrder (WasGiven later)) (messages ++ sent)
  all_given =
      each_append (OfOrder (WasGiven later)) messages sent
      (each_more (OfOrder (WasGiven old)) (OfOrder (WasGiven later)) (λ own h order e. still order (h order e)) messages given)
      (each_more (OfOrder N) (OfOrder (WasGiven later)) (λ own h order e. given_now order (h order e)) sent news)

  old_new : (own other : Message) → OfOrder (WasGiven old) own → OfOrder N other → Agree own other
  old_new own other h k order also e f block stamp = absurd (apart order also (h order e) (k also f) block stamp)

  new_old : (own other : Message) → OfOrder N own → OfOrder (WasGiven old) other → Agree own other
  new_old own other h k order also e f block stamp = absurd (apart also order (k also f) (h order e) (sym block) (sym stamp))

  new_new : (own other : Message) → OfOrder N own → OfOrder N other → Agree own other
  new_new own other h k order also e f block stamp = same order also (h order e) (k also f)

  pub all_agree : AllAgree messages → AllAgree (messages ++ sent)
  all_agree agree =
      each_append (λ own. AllByRecursion (Agree own) (messages ++ sent)) messages sent
      (each_more (λ own. AllByRecursion (Agree own) messages × OfOrder (WasGiven old) own) (λ own. AllByRecursion (Agree own) (messages ++ sent))
      (λ own h. each_append (Agree own) messages sent h.0 (each_more (OfOrder N) (Agree own) (λ other k. old_new own other h.1 k) sent news)) messages
      (each_both (λ own. AllByRecursion (Agree own) messages) (OfOrder (WasGiven old)) messages agree given))
      (each_more (OfOrder N) (λ own. AllByRecursion (Agree own) (messages ++ sent))
      (λ own h. each_append (Agree own) messages sent (each_more (OfOrder (WasGiven old)) (Agree own) (λ other k. new_old own other h k) messages given)
      (each_more (OfOrder N) (Agree own) (λ other k. new_new own other h k) sent news)) sent news)

-- ---- a cluster at one moment

abbrev pub facts_in : Cluster → Blocks
facts_in state = blocks_of state.opening state.entries

pub record HasLeaders (state : Cluster) : Type 0 where
  pub legal : IsLegal state.opening state.entries
  pub order : AreInOrder (facts_in state).queued
  pub given : AllByRecursion (OfOrder (WasGiven (facts_in state))) state.messages
  pub agree : AllAgree state.messages

abbrev Never : Order → Type 0
Never order = ⊥

-- nothing is asked of the NameNode, and nothing is ordered
quiet : (state : Cluster) (what : Happened) → what.entries ≡ state.entries → AllByRecursion HasNone what.sent → HasLeaders state → HasLeaders (left_by state what)
quiet state what same none before =
    subst (λ entries. HasLeaders (record { opening = state.opening; entries = entries; nodes = what.nodes; plans = what.plans; messages = state.messages ++ what.sent })) (sym same) (record {
      legal = before.legal;
      order = before.order;
      given = all_given old old state.messages what.sent Never (λ order h. h) (λ order n. absurd n) (λ order also h n b s. n) (λ order also n m. absurd n) before.given news;
      agree = all_agree old old state.messages what.sent Never (λ order h. h) (λ order n. absurd n) (λ order also h n b s. n) (λ order also n m. absurd n) before.given news before.agree;
    })
  where
    old : Blocks
    old = facts_in state

    news : AllByRecursion (OfOrder Never) what.sent
    news = each_more HasNone (OfOrder Never) (λ own is order e. never_some order (sym is ∙ e)) what.sent none

-- ---- a request

module _ (state : Cluster) (request : Request) (before : HasLeaders state) where
  abbrev entry : HistoryEntry
  entry = entry_of state request

  abbrev facts : Facts
  facts = facts_of state.opening state.entries (now_at state.entries request)

  abbrev old : Blocks
  old = facts_in state

  abbrev later : Blocks
  later = blocks_of state.opening (entry_of state request ∷ state.entries)

  turn : Turned old.known later.known (rows_of state.opening (entry_of state request ∷ state.entries)) (blocks.blocks_given_by (entry_of state request).verdict)
  turn = turned facts (rows_of state.opening state.entries) (users_of state.entries) request.caller request.op (stands state.opening state.entries before.legal) (entry_of state request).verdict refl

  kept : QueueKept old later
  kept = queue_kept facts request.caller (rows_of state.opening state.entries) request.op (entry_of state request).verdict

  record Had (q stamp : ℕ) : Type 0 where
    was : BlockRecord
    is : known_block old q ≡ Some was
    same : was.stamp ≡ stamp

  -- a stamp that was given before is the one that the block had before
  had : (q : ℕ) (own : BlockRecord) → known_block later q ≡ Some own → own.stamp < old.known.next_stamp → Had q own.stamp
  had q own there low = by (known_block old q) refl (subst (λ found. Becomes old.known q (known_block old q) found) there (turn.kept.blocks q))
    where
      by_stamp : (was : BlockRecord) → known_block old q ≡ Some was → (own.stamp ≡ was.stamp) ⊎ (old.known.next_stamp ≤ own.stamp) → Had q own.stamp
      by_stamp was is (inl same) = record { was = was; is = is; same = sym same }
      by_stamp was is (inr fresh) = absurd (omega (arith, low, fresh))

      by : (found : Option BlockRecord) → known_block old q ≡ found → Becomes old.known q found (Some own) → Had q own.stamp
      by None is goes = absurd (omega (arith, goes.1, low))
      by (Some was) is goes = by_stamp was is goes.stamp

  still : (order : Order) → WasGiven old order → WasGiven later order
  still order given = record { below = omega (arith, given.below, turn.kept.next_stamp); once = λ own there same. out own there same (kept.waits order.block) }
    where
      none : (own : BlockRecord) → own.stamp ≡ order.stamp → Had order.block own.stamp → entry_at order.block old.queued ≡ None
      none own same h = given.once h.was h.is (h.same ∙ same)

      out : (own : BlockRecord) → known_block later order.block ≡ Some own → own.stamp ≡ order.stamp → (entry_at order.block old.queued ≡ None → entry_at order.block later.queued ≡ None) ⊎ IsAnew old later order.block
          → entry_at order.block later.queued ≡ None
      out own there same (inl stays) = stays (none own same (had order.block own there (omega (arith, given.below, same))))
      out own there same (inr new) = let low = given.below in let high = new own there in absurd (omega (arith, low, high, same))

  abbrev New : Order → Type 0
  New order = IsNew facts request.caller (rows_of state.opening state.entries) before.order later order

  given_now : (order : Order) → New order → WasGiven later order
  given_now order new =
      let was = ((stands state.opening state.entries before.legal).sound.each order.block new.own new.there).stamped in
      let same = new.stamp in
      record { below = omega (arith, was, same, turn.kept.next_stamp); once = λ own there is. new.told }

  apart : (order also : Order) → WasGiven old order → New also → order.block ≡ also.block → order.stamp ≡ also.stamp → ⊥
  apart order also given new block stamp =
      new.waited (subst (λ n. entry_at n old.queued ≡ None) block (given.once new.own (ap (known_block old) block ∙ new.there) (new.stamp ∙ sym stamp)))

  one_node : (order also : Order) → New order → New also → order.node ≡ also.node
  one_node order also new other = some_is order.node also.node (sym new.to_caller ∙ other.to_caller)

  news : AllByRecursion (OfOrder New) (entry_messages (entry_of state request))
  news = all_new facts request.caller (rows_of state.opening state.entries) before.order (users_of state.entries) request.op (entry_of state request).verdict refl

  request_leads : HasLeaders (left_by state (request_named state request))
  request_leads = record {
    legal = (refl, refl, before.legal);
    order = kept.order before.order;
    given = all_given old later state.messages (entry_messages (entry_of state request)) New still given_now apart one_node before.given news;
    agree = all_agree old later state.messages (entry_messages (entry_of state request)) New still given_now apart one_node before.given news before.agree;
  }

-- ---- every event

abbrev Leaves : Cluster → Happened → Type 0
Leaves state what = HasLeaders state → HasLeaders (left_by state what)

lost_leaves : (state : Cluster) (refusal : ClusterRefusal) → Leaves state (event_lost state refusal)
lost_leaves state refusal before = quiet state (event_lost state refusal) refl tt before

called_leaves : (state : Cluster) (id now : ℕ) (asked : NodeCall) (found : Option DataNode) → Leaves state (called_at state id now asked found)
called_leaves state id now asked None before = lost_leaves state NoNode before
called_leaves state id now asked (Some own) before = quiet state (called_at state id now asked (Some own)) refl (answer_none own now asked) before

led_leaves : (state : Cluster) (id : ℕ) (asked : PlanCall) (found : Option PlanTable) → Leaves state (led_at state id asked found)
led_leaves state id asked None before = lost_leaves state NoNode before
led_leaves state id asked (Some own) before = quiet state (led_at state id asked (Some own)) refl (plan_answer_none id asked own) before

delivered_leaves : (state : Cluster) (now : ℕ) (found : Option Message) → Leaves state (message_delivered state now found)
delivered_leaves state now None before = lost_leaves state NoMessage before
delivered_leaves state now (Some (message.Node node call)) before = called_leaves state node now call (entry_at node state.nodes) before
delivered_leaves state now (Some (message.Plan node call)) before = led_leaves state node call (entry_at node state.plans) before
delivered_leaves state now (Some (message.Reported node block stamp count)) before = request_leads state (report_request node now block stamp count) before
delivered_leaves state now (Some (message.CommitRecovery node block stamp count nodes)) before = request_leads state (commit_request node now block stamp count nodes) before

request_leaves : (state : Cluster) (request : Request) (outside : Bool) → Leaves state (cond outside (request_named state request) (event_lost state NotFromOutside))
request_leaves state request true before = request_leads state request before
request_leaves state request false before = lost_leaves state NotFromOutside before

event_leaves : (state : Cluster) (event : Event) → Leaves state (event_happened state event)
event_leaves state (Name request) before = request_leaves state request (is_from_outside request.op) before
event_leaves state (Deliver number now) before = delivered_leaves state now (message_at number state.messages) before
event_leaves state (Data node now call) before = delivered_leaves state now (Some (as_message node call)) before

pub leaders : (opening : ClusterOpening) (events : List Event) → HasLeaders (after opening events)
unfolding IsStrictlySortedBy
leaders opening [] = record { legal = tt; order = tt; given = tt; agree = tt }
leaders opening (event ∷ earlier) = event_leaves (after opening earlier) event (leaders opening earlier)

-- The end of a recovery tells the nodes that its plan noted, and these were asked by it.
use Rattle.std.proofs.Common.{◌≡◌, ℕ, true, false, ◌||◌, List, [], ◌∷◌, Option, Some, None, unwrap_or, refl, sym, ap, ◌∙◌, subst}
use Rattle.std.specs.Bool.{⊤}
use Rattle.std.specs.List.{AllByRecursion, list_any}
use Rattle.std.specs.Map.{values_of}
use Rattle.std.specs.Option.{is_some}
use Rattle.block_records.specs.Numbers.{is_number, has_number, entry_at}
use Rattle.block_records.proofs.Reporting.{number_eq}
use Rattle.block_recovery.specs.Decision.{least_of, finalized_of}
use Rattle.block_recovery.specs.Laws.{IsRight}
use Rattle.block_recovery.specs.Plans.{PlanTable, plan_at, refused_plan_commit, takes_part}
use Rattle.block_recovery.specs.declared.decision.Decision.{Decision}
use Rattle.block_recovery.specs.declared.plan.Plan.{Plan}
use Rattle.block_recovery.proofs.Deciding.{holds}
use Rattle.block_answers.specs.declared.commands.Recover.{Recover}
use Rattle.node_calls.specs.declared.message.Message.{Message}
use Rattle.node_calls.specs.declared.message.Message.TheVariants as message
use Rattle.plan_steps.specs.PlanStep.{plan_refusal, plan_there, no_plan, commit_there}
use Rattle.cluster_trace.specs.Trace.{Cluster, ClusterOpening, event_happened, happens, after}
use Rattle.cluster_trace.specs.declared.event.Event.{Event}
use Rattle.cluster_trace.proofs.Each.{each_append, each_more}
use Rattle.fencing_laws.specs.Fencing.{plan_in}
use Rattle.fencing_laws.proofs.Plans.{event_stays}
use Rattle.kept_bytes_laws.proofs.Sent.{event_sends, entry_sends}

-- a list of numbers has one
pub has_is : (n : ℕ) (numbers : List ℕ) → has_number n numbers ≡ list_any (is_number n) numbers
has_is n [] = refl
has_is n (first ∷ numbers) = ap (λ b. b || has_number n numbers) (sym (number_eq n first)) ∙ ap (λ b. is_number n first || b) (has_is n numbers)

-- ---- a plan

-- a node that was noted was asked
pub noted_asked : (own : Plan) (node : ℕ) → IsRight own → list_any (is_number node) own.updated ≡ true → has_number node own.nodes ≡ true
noted_asked own node right noted = by own.decision refl (right.noted node noted)
  where
    by : (found : Option Decision) → own.decision ≡ found → takes_part node found ≡ true → has_number node own.nodes ≡ true
    by None e h = cc
    by (Some decision) e h =
        let held = holds own.answers node right.by_node (least_of (finalized_of (values_of own.answers))) (least_of (values_of own.answers)) refl refl decision (right.decided decision e) h in
        right.asked node (ap is_some held.1)

-- ---- messages

-- the plan at the leader noted each of these nodes
abbrev pub NotedBy : Cluster → ℕ → ℕ → ℕ → List ℕ → Type 0
NotedBy state leader block stamp nodes =
    (own : Plan) × (plan_in state leader block stamp ≡ Some own) × ((node : ℕ) → has_number node nodes ≡ true → list_any (is_number node) own.updated ≡ true)

abbrev pub Noted : Cluster → Message → Type 0
Noted state (message.Node node asked) = ⊤
Noted state (message.Plan node asked) = ⊤
Noted state (message.Reported node block stamp count) = ⊤
Noted state (message.CommitRecovery leader block stamp count nodes) = NotedBy state leader block stamp nodes

noted_stays : (state : Cluster) (event : Event) (leader block stamp : ℕ) (nodes : List ℕ) → NotedBy state leader block stamp nodes → NotedBy (happens state event) leader block stamp nodes
noted_stays state event leader block stamp nodes h =
    let stays = event_stays state event leader block stamp h.0 h.1 in
    (stays.now, stays.there, λ node has. stays.extends.updated node (h.2 node has))

message_stays : (state : Cluster) (event : Event) (own : Message) → Noted state own → Noted (happens state event) own
message_stays state event (message.Node node asked) h = tt
message_stays state event (message.Plan node asked) h = tt
message_stays state event (message.Reported node block stamp count) h = tt
message_stays state event (message.CommitRecovery leader block stamp count nodes) h = noted_stays state event leader block stamp nodes h

-- a leading node tells those that it noted
told_noted : (state : Cluster) (leader block stamp : ℕ) (plans : PlanTable) → entry_at leader state.plans ≡ Some plans → refused_plan_commit (plan_at block stamp plans) ≡ None
    → NotedBy state leader block stamp (commit_there (plan_there block stamp plans)).nodes
told_noted state leader block stamp plans there allowed = by (plan_at block stamp plans) refl allowed
  where
    known : (own : Plan) (node : ℕ) → (found : Option Decision) → own.decision ≡ found → has_number node (commit_there own).nodes ≡ true → list_any (is_number node) own.updated ≡ true
    known own node None e h =
        let none : has_number node (commit_there own).nodes ≡ false = ap (λ (found : Option Decision). has_number node (commit_there (record own { decision = found })).nodes) e in
        cc
    known own node (Some decision) e h =
        let some : has_number node (commit_there own).nodes ≡ has_number node own.updated = ap (λ (found : Option Decision). has_number node (commit_there (record own { decision = found })).nodes) e in
        sym (has_is node own.updated) ∙ (sym some ∙ h)

    by : (found : Option Plan) → plan_at block stamp plans ≡ found → refused_plan_commit found ≡ None → NotedBy state leader block stamp (commit_there (unwrap_or found no_plan)).nodes
    by None e h = cc
    by (Some own) e h = (own, ap (λ (found : Option PlanTable). plan_at block stamp (unwrap_or found [])) there ∙ e, λ node has. known own node own.decision refl has)

event_noted : (state : Cluster) (event : Event) → AllByRecursion (Noted (happens state event)) (event_happened state event).sent
event_noted state event =
    event_sends (Noted (happens state event)) state event
    (λ own presented asked e allowed. record {
      asks = λ to next. tt;
      reply = λ primary is. tt;
      updated = λ primary count is at. tt;
      finalized = λ count next is. tt;
      recovered = λ count is. tt;
      stored = λ bytes is. tt;
    })
    (λ own allowed. record {
      asks = λ to next. tt;
      commit = λ block stamp is. noted_stays state event own.id block stamp (commit_there (plan_there block stamp own.plans)).nodes
          (told_noted state own.id block stamp own.plans own.there (subst (λ asked. plan_refusal asked own.plans ≡ None) is allowed));
    })
    (λ own. entry_sends (Noted (happens state event)) state own.request (λ to next. tt) (λ to (order : Recover). tt))

pub all_noted : (opening : ClusterOpening) (events : List Event) → AllByRecursion (Noted (after opening events)) (after opening events).messages
all_noted opening [] = tt
all_noted opening (event ∷ earlier) =
    let state = after opening earlier in
    each_append (Noted (happens state event)) state.messages (event_happened state event).sent
    (each_more (Noted state) (Noted (happens state event)) (message_stays state event) state.messages (all_noted opening earlier)) (event_noted state event)

-- A plan notes DataNodes that told of their updates: so those that the end of a recovery names were updated.
use Rattle.std.proofs.Common.{◌≡◌, ℕ, Bool, true, false, inl, inr, List, [], ◌∷◌, ◌++◌, Option, Some, unwrap_or, refl, sym, ap, ◌∙◌, subst, cond}
use Rattle.std.specs.List.{list_any}
use Rattle.block_records.specs.Numbers.{is_number, entry_at}
use Rattle.block_records.proofs.Numbers.{number_is}
use Rattle.block_recovery.specs.Plans.{PlanTable, plan_at}
use Rattle.block_recovery.specs.declared.decision.Decision.{Decision}
use Rattle.block_recovery.specs.declared.plan.Plan.{Plan}
use Rattle.node_calls.specs.declared.call.PlanCall.TheVariants as plan
use Rattle.node_calls.specs.declared.message.Message.{Message}
use Rattle.node_calls.specs.declared.message.Message.TheVariants as message
use Rattle.plan_steps.specs.PlanStep.{plans_after}
use Rattle.cluster_trace.specs.Provenance.{IsIn, call_of}
use Rattle.cluster_trace.specs.Trace.{Cluster, ClusterOpening, Happened, event_happened, after}
use Rattle.cluster_trace.specs.declared.event.Event.{Event}
use Rattle.cluster_trace.proofs.Each.{some_is, each_in, in_append}
use Rattle.cluster_trace.proofs.Sound.{message_brings}
use Rattle.fencing_laws.specs.Fencing.{plan_in, HasDecided}
use Rattle.fencing_laws.proofs.Behind.{set_there}
use Rattle.fencing_laws.proofs.Decided.{CommitDecided, commits_are_decided}
use Rattle.fencing_laws.proofs.OnePlan.{all_ordered, updates_follow}
use Rattle.kept_bytes_laws.proofs.Noted.{NotedBy, Noted, all_noted}
use Rattle.kept_bytes_laws.proofs.Sent.{is_driven, Leads, Does, does}
use Rattle.kept_bytes_laws.proofs.Told.{HadOrNow, had_or_now}
use Rattle.kept_bytes_laws.specs.Carried.{HasUpdated, CommitsNameTheUpdated}
use Rattle.kept_bytes_laws.proofs.Carried.{CarriesHeld, all_carried}

abbrev HasNoted : ℕ → Plan → Type 0
HasNoted node own = list_any (is_number node) own.updated ≡ true

-- ---- each event

abbrev table_at : ℕ → List (ℕ × PlanTable) → PlanTable
table_at leader plans = unwrap_or (entry_at leader plans) []

-- each node that is noted in one of these plans has told so
abbrev HaveTold : List (ℕ × PlanTable) → List Message → Type 0
HaveTold plans messages = (leader block stamp node : ℕ) (own : Plan) → plan_at block stamp (table_at leader plans) ≡ Some own → HasNoted node own → IsIn (message.Plan leader (plan.Updated node block stamp)) messages

plans_tell : (state : Cluster) (event : Event) → HaveTold state.plans state.messages → HaveTold (event_happened state event).plans state.messages
plans_tell state event before = by (does state event)
  where
    what : Happened
    what = event_happened state event

    one : (own : Leads state what) (leader block stamp node : ℕ) → own.id ≡ leader → HadOrNow own.asked own.plans block stamp node → IsIn (message.Plan leader (plan.Updated node block stamp)) state.messages
    one own leader block stamp node same (inl had) =
        before leader block stamp node had.old
        (ap (λ (n : ℕ). plan_at block stamp (table_at n state.plans)) (sym same) ∙ (ap (λ (found : Option PlanTable). plan_at block stamp (unwrap_or found [])) own.there ∙ had.there)) had.noted
    one own leader block stamp node same (inr now) =
        subst (λ n. IsIn (message.Plan n (plan.Updated node block stamp)) state.messages) same
        (subst (λ asked. IsIn (message.Plan own.id asked) state.messages) now (own.brought (ap is_driven now)))

    led : (own : Leads state what) (leader block stamp node : ℕ) (p : Plan) (b : Bool) → is_number own.id leader ≡ b
        → plan_at block stamp (unwrap_or (cond b (Some (plans_after own.asked own.plans)) (entry_at leader state.plans)) []) ≡ Some p → HasNoted node p → IsIn (message.Plan leader (plan.Updated node block stamp)) state.messages
    led own leader block stamp node p true at there noted = one own leader block stamp node (number_is own.id leader at) (had_or_now own.asked own.plans block stamp node p there noted)
    led own leader block stamp node p false at there noted = before leader block stamp node p there noted

    by : Does state (call_of state event) what → HaveTold what.plans state.messages
    by (inl own) = subst (λ (w : Happened). HaveTold w.plans state.messages) (sym own.is) before
    by (inr (inl own)) = subst (λ (w : Happened). HaveTold w.plans state.messages) (sym own.is) before
    by (inr (inr (inl own))) = λ leader block stamp node p there noted.
        led own leader block stamp node p (is_number own.id leader) refl
        (sym (ap (λ (w : Happened). plan_at block stamp (table_at leader w.plans)) own.is
        ∙ ap (λ (o : Option PlanTable). plan_at block stamp (unwrap_or o [])) (set_there own.id leader own.plans (plans_after own.asked own.plans) state.plans own.there)) ∙ there) noted
    by (inr (inr (inr own))) = subst (λ (w : Happened). HaveTold w.plans state.messages) (sym own.is) before

all_have_told : (opening : ClusterOpening) (events : List Event) → HaveTold (after opening events).plans (after opening events).messages
all_have_told opening [] = λ leader block stamp node own there noted. absurd (all_ordered opening [] leader block stamp own there).is
all_have_told opening (event ∷ earlier) = λ leader block stamp node own there noted.
    in_append (message.Plan leader (plan.Updated node block stamp)) (after opening earlier).messages (event_happened (after opening earlier) event).sent
    (plans_tell (after opening earlier) event (all_have_told opening earlier) leader block stamp node own there noted)

-- ---- the law

-- so many bytes as the commit tells
commit_tells : (opening : ClusterOpening) (events : List Event) (leader block stamp count node bytes : ℕ) (noted : Plan) → plan_in (after opening events) leader block stamp ≡ Some noted → HasUpdated opening events node block stamp bytes
    → CommitDecided (after opening events) leader block stamp count → bytes ≡ count
commit_tells opening events leader block stamp count node bytes noted there own carried =
    let follows = updates_follow opening own.later own.earlier own.event node bytes leader own.presented noted own.serves
    (ap (λ b. plan_in (after opening (own.later ++ own.event ∷ own.earlier)) leader b own.presented.stamp) own.of_block
    ∙ (ap (λ s. plan_in (after opening (own.later ++ own.event ∷ own.earlier)) leader block s) own.at_stamp
    ∙ (ap (λ (l : List Event). plan_in (after opening l) leader block stamp) (sym own.all) ∙ there))) in
    let decided : HasDecided (after opening events) leader block stamp carried.0 = carried.1 in
    let one_plan : noted ≡ decided.0 = some_is noted decided.0 (sym there ∙ decided.1) in
    let one_decision : follows.0 ≡ carried.0 = some_is follows.0 carried.0 (sym follows.1 ∙ (ap (λ (p : Plan). p.decision) one_plan ∙ decided.2)) in
    sym follows.2 ∙ (ap (λ (d : Decision). d.length) one_decision ∙ carried.2)

pub commits_name_the_updated : CommitsNameTheUpdated
commits_name_the_updated opening events number leader block stamp count node nodes is has =
    let messages = (after opening events).messages in
    let noted : NotedBy (after opening events) leader block stamp nodes =
    message_brings (Noted (after opening events)) messages number (message.CommitRecovery leader block stamp count nodes) (all_noted opening events) is in
    let updated : (bytes : ℕ) × HasUpdated opening events node block stamp bytes =
    each_in (CarriesHeld opening events) messages (message.Plan leader (plan.Updated node block stamp)) (all_carried opening events)
    (all_have_told opening events leader block stamp node noted.0 noted.1 (noted.2 node has)) in
    subst (HasUpdated opening events node block stamp)
    (commit_tells opening events leader block stamp count node updated.0 noted.0 noted.1 updated.1 (commits_are_decided opening events number leader block stamp count nodes is)) updated.1

-- What a plan was answered came with messages: where those of some nodes tell so many bytes at least, so do the answers of these nodes.
use Rattle.std.proofs.Common.{◌≡◌, ℕ, ◌≤◌, Bool, true, false, ◌&&◌, ◌⊎◌, inl, inr, List, [], Option, Some, None, unwrap_or, refl, sym, ap, ◌∙◌, subst, cond}
use Rattle.std.specs.Bool.{⊤}
use Rattle.std.specs.List.{AllByRecursion}
use Rattle.std.specs.Option.{option_map}
use Rattle.block_records.specs.Numbers.{is_number, entry_at}
use Rattle.block_records.proofs.Numbers.{number_is}
use Rattle.block_recovery.specs.Plans.{PlanTable, plan_at, with_plan_changed, new_plan, with_answer, with_decision, with_updated}
use Rattle.block_recovery.specs.declared.answer.Answer.{Answer}
use Rattle.recovery_updates.specs.declared.fault.PlanRefusal.{PlanRefusal}
use Rattle.block_recovery.specs.declared.plan.Plan.{Plan}
use Rattle.block_recovery.proofs.Lookups.{lookup_inserted}
use Rattle.block_recovery.proofs.Steps.{plan_changed, plan_begun}
use Rattle.node_calls.specs.declared.call.PlanCall.{PlanCall}
use Rattle.node_calls.specs.declared.call.PlanCall.TheVariants as plan
use Rattle.node_calls.specs.declared.call.ReplicaState.{ReplicaState}
use Rattle.node_calls.specs.declared.message.Message.{Message}
use Rattle.node_calls.specs.declared.message.Message.TheVariants as message
use Rattle.plan_steps.specs.PlanStep.{recover_of, answer_of, plan_refusal, left_unless, plans_after}
use Rattle.cluster_trace.specs.Provenance.{call_of}
use Rattle.cluster_trace.specs.Trace.{Cluster, Happened, event_happened}
use Rattle.cluster_trace.specs.declared.event.Event.{Event}
use Rattle.cluster_trace.proofs.Each.{some_is, never_some, each_in}
use Rattle.fencing_laws.proofs.Behind.{set_there}
use Rattle.kept_bytes_laws.proofs.Sent.{is_driven, Leads, Does, does}

-- ---- one call

-- the node had answered so before
record Had (plans : PlanTable) (block stamp node : ℕ) (answer : Answer) : Type 0 where
  old : Plan
  there : plan_at block stamp plans ≡ Some old
  had : entry_at node old.answers ≡ Some answer

-- or answers so now
record Now (asked : PlanCall) (block stamp node : ℕ) (answer : Answer) : Type 0 where
  state : ReplicaState
  count : ℕ
  is : asked ≡ plan.Reply node block stamp state count
  length : answer.length ≡ count

abbrev HadOrNow : PlanCall → PlanTable → ℕ → ℕ → ℕ → Answer → Type 0
HadOrNow asked plans block stamp node answer = Had plans block stamp node answer ⊎ Now asked block stamp node answer

-- a change that leaves the answers
had_changed : (change : Plan → Plan) → ((own : Plan) → (change own).answers ≡ own.answers) → (block stamp b s node : ℕ) (plans : PlanTable) (own : Plan) (answer : Answer)
    → plan_at b s (with_plan_changed change block stamp plans) ≡ Some own → entry_at node own.answers ≡ Some answer → Had plans b s node answer
had_changed change keeps block stamp b s node plans own answer e there = by (is_number block b && is_number stamp s) (plan_at b s plans) refl (sym (plan_changed change block stamp b s plans) ∙ e)
  where
    by : (x : Bool) (found : Option Plan) → plan_at b s plans ≡ found → cond x (option_map change found) found ≡ Some own → Had plans b s node answer
    by true None at h = absurd (never_some own h)
    by true (Some old) at h =
        let is : change old ≡ own = some_is (change old) own h in
        record { old = old; there = at; had = ap (entry_at node) (sym (keeps old)) ∙ (ap (λ (one : Plan). entry_at node one.answers) is ∙ there) }
    by false None at h = absurd (never_some own h)
    by false (Some old) at h = record { old = own; there = at ∙ h; had = there }

answers_now : (from block stamp : ℕ) (state : ReplicaState) (count b s node : ℕ) (plans : PlanTable) (own : Plan) (answer : Answer)
    → plan_at b s (with_plan_changed (with_answer from (answer_of state count)) block stamp plans) ≡ Some own → entry_at node own.answers ≡ Some answer → HadOrNow (plan.Reply from block stamp state count) plans b s node answer
answers_now from block stamp state count b s node plans own answer e there =
    by (is_number block b) refl (is_number stamp s) refl (plan_at b s plans) refl (sym (plan_changed (with_answer from (answer_of state count)) block stamp b s plans) ∙ e)
  where
    one : (old : Plan) → plan_at b s plans ≡ Some old → block ≡ b → stamp ≡ s → (y : Bool) → is_number node from ≡ y → cond y (Some (answer_of state count)) (entry_at node old.answers) ≡ Some answer
        → HadOrNow (plan.Reply from block stamp state count) plans b s node answer
    one old at first second true is h = inr (record {
      state = state;
      count = count;
      is = ap (λ (n : ℕ). plan.Reply n block stamp state count) (sym (number_is node from is))
          ∙ (ap (λ (n : ℕ). plan.Reply node n stamp state count) first ∙ ap (λ (n : ℕ). plan.Reply node b n state count) second);
      length = ap (λ (one : Answer). one.length) (sym (some_is (answer_of state count) answer h));
    })
    one old at first second false is h = inl (record { old = old; there = at; had = h })

    by : (x : Bool) → is_number block b ≡ x → (y : Bool) → is_number stamp s ≡ y → (found : Option Plan) → plan_at b s plans ≡ found
        → cond (x && y) (option_map (with_answer from (answer_of state count)) found) found ≡ Some own → HadOrNow (plan.Reply from block stamp state count) plans b s node answer
    by true p true q None at h = absurd (never_some own h)
    by true p true q (Some old) at h =
        let is : with_answer from (answer_of state count) old ≡ own = some_is (with_answer from (answer_of state count) old) own h in
        one old at (number_is block b p) (number_is stamp s q) (is_number node from) refl
        (sym (lookup_inserted from node (answer_of state count) old.answers) ∙ (ap (λ (p : Plan). entry_at node p.answers) is ∙ there))
    by true p false q found at h = inl (record { old = own; there = at ∙ h; had = there })
    by false p y q found at h = inl (record { old = own; there = at ∙ h; had = there })

-- a plan that begins has none
begins_without : (block stamp : ℕ) (nodes token : List ℕ) (b s node : ℕ) (plans : PlanTable) (own : Plan) (answer : Answer)
    → cond (is_number b block && is_number s stamp) (Some (new_plan (recover_of block stamp nodes token))) (plan_at b s plans) ≡ Some own → entry_at node own.answers ≡ Some answer → Had plans b s node answer
begins_without block stamp nodes token b s node plans own answer e there = by (is_number b block && is_number s stamp) e
  where
    by : (x : Bool) → cond x (Some (new_plan (recover_of block stamp nodes token))) (plan_at b s plans) ≡ Some own → Had plans b s node answer
    by true h = absurd (never_some answer (ap (λ (one : Plan). entry_at node one.answers) (some_is (new_plan (recover_of block stamp nodes token)) own h) ∙ there))
    by false h = record { old = own; there = h; had = there }

had_or_now : (asked : PlanCall) (plans : PlanTable) (b s node : ℕ) (own : Plan) (answer : Answer) → plan_at b s (plans_after asked plans) ≡ Some own → entry_at node own.answers ≡ Some answer
    → HadOrNow asked plans b s node answer
unfolding plans_after
had_or_now asked plans b s node own answer e there = by (plan_refusal asked plans) e
  where
    left : (call : PlanCall) → plan_at b s (left_unless call plans None) ≡ Some own → HadOrNow call plans b s node answer
    left (plan.Recover block stamp nodes token) h = inl (begins_without block stamp nodes token b s node plans own answer (sym (plan_begun (recover_of block stamp nodes token) b s plans) ∙ h) there)
    left (plan.Reply from block stamp state count) h = answers_now from block stamp state count b s node plans own answer h there
    left (plan.Decide block stamp) h = inl (had_changed with_decision (λ one. refl) block stamp b s node plans own answer h there)
    left (plan.Updated from block stamp) h = inl (had_changed (with_updated from) (λ one. refl) block stamp b s node plans own answer h there)
    left (plan.Commit block stamp) h = inl (record { old = own; there = h; had = there })

    by : (refused : Option PlanRefusal) → plan_at b s (left_unless asked plans refused) ≡ Some own → HadOrNow asked plans b s node answer
    by (Some refusal) h = inl (record { old = own; there = h; had = there })
    by None h = left asked h

-- ---- every event

module _ (block bytes : ℕ) (T : ℕ → Type 0) where
  -- what these nodes tell of the block is so many bytes at least
  abbrev pub Tells : ℕ → ℕ → ℕ → Type 0
  Tells node of count = of ≡ block → T node → bytes ≤ count

  abbrev pub CallTells : PlanCall → Type 0
  CallTells (plan.Recover b stamp nodes token) = ⊤
  CallTells (plan.Reply node b stamp state count) = Tells node b count
  CallTells (plan.Decide b stamp) = ⊤
  CallTells (plan.Updated node b stamp) = ⊤
  CallTells (plan.Commit b stamp) = ⊤

  abbrev pub MessageTells : Message → Type 0
  MessageTells (message.Node to asked) = ⊤
  MessageTells (message.Plan to asked) = CallTells asked
  MessageTells (message.Reported node b stamp count) = ⊤
  MessageTells (message.CommitRecovery leader b stamp count nodes) = ⊤

  abbrev tables_at : ℕ → List (ℕ × PlanTable) → PlanTable
  tables_at leader plans = unwrap_or (entry_at leader plans) []

  abbrev pub AnswersTell : List (ℕ × PlanTable) → Type 0
  AnswersTell plans = (leader stamp node : ℕ) (own : Plan) (answer : Answer) → plan_at block stamp (tables_at leader plans) ≡ Some own → entry_at node own.answers ≡ Some answer → T node → bytes ≤ answer.length

  pub event_tells : (state : Cluster) (event : Event) → AllByRecursion MessageTells state.messages → AnswersTell state.plans → AnswersTell (event_happened state event).plans
  event_tells state event messages before = by (does state event)
    where
      what : Happened
      what = event_happened state event

      one : (own : Leads state what) (leader stamp node : ℕ) (answer : Answer) → own.id ≡ leader → HadOrNow own.asked own.plans block stamp node answer → T node → bytes ≤ answer.length
      one own leader stamp node answer same (inl had) t =
          before leader stamp node had.old answer (ap (λ (n : ℕ). plan_at block stamp (tables_at n state.plans)) (sym same) ∙ (ap (λ (found : Option PlanTable). plan_at block stamp (unwrap_or found [])) own.there ∙ had.there)) had.had t
      one own leader stamp node answer same (inr now) t =
          let brought = own.brought (ap is_driven now.is) in
          let told : CallTells own.asked = each_in MessageTells state.messages (message.Plan own.id own.asked) messages brought in
          subst (λ n. bytes ≤ n) (sym now.length) (subst CallTells now.is told refl t)

      led : (own : Leads state what) (leader stamp node : ℕ) (p : Plan) (answer : Answer) (b : Bool) → is_number own.id leader ≡ b
          → plan_at block stamp (unwrap_or (cond b (Some (plans_after own.asked own.plans)) (entry_at leader state.plans)) []) ≡ Some p → entry_at node p.answers ≡ Some answer → T node → bytes ≤ answer.length
      led own leader stamp node p answer true at there found t = one own leader stamp node answer (number_is own.id leader at) (had_or_now own.asked own.plans block stamp node p answer there found) t
      led own leader stamp node p answer false at there found t = before leader stamp node p answer there found t

      by : Does state (call_of state event) what → AnswersTell what.plans
      by (inl own) = subst (λ (w : Happened). AnswersTell w.plans) (sym own.is) before
      by (inr (inl own)) = subst (λ (w : Happened). AnswersTell w.plans) (sym own.is) before
      by (inr (inr (inl own))) = λ leader stamp node p answer there found t.
          led own leader stamp node p answer (is_number own.id leader) refl
          (sym (ap (λ (w : Happened). plan_at block stamp (tables_at leader w.plans)) own.is
          ∙ ap (λ (o : Option PlanTable). plan_at block stamp (unwrap_or o [])) (set_there own.id leader own.plans (plans_after own.asked own.plans) state.plans own.there)) ∙ there) found t
      by (inr (inr (inr own))) = subst (λ (w : Happened). AnswersTell w.plans) (sym own.is) before

-- A call that a DataNode serves presents a token that the NameNode granted for it, or a forged one.
use Rattle.std.proofs.Common.{◌≡◌, ℕ, Bool, true, false, ◌⊎◌, inl, inr, List, [], ◌∷◌, refl, sym, ap, ◌∙◌, subst, cond, Option, Some, None, Result, Ok, Err}
use Rattle.std.specs.Prelude.{◌<◌, slice_index}
use Rattle.std.specs.BTreeMap.{is_at}
use Rattle.std.specs.List.{AllByRecursion}
use Rattle.std.specs.Ordering.{nat_cmp}
use Rattle.block_records.specs.Numbers.{entry_at}
use Rattle.block_records.proofs.Numbers.{number_is}
use Rattle.node_ids.specs.NodeId.{node_principal}
use Rattle.hdfs_values.specs.Text.{same}
use Rattle.hdfs_values.proofs.Texts.{same_is, same_self}
use Rattle.permission_bits.specs.Rights.{covers}
use Rattle.block_answers.specs.declared.key_list.HeldKey.{HeldKey}
use Rattle.hdfs_types.specs.declared.op.Request.{Request}
use Rattle.block_tokens.specs.KeyList.{KeyList, key_with, usable_keys}
use Rattle.block_tokens.specs.Laws.{IsTokenTaken}
use Rattle.block_tokens.specs.TokenTest.{token_test}
use Rattle.block_tokens.specs.TokenText.{Body, TokenText}
use Rattle.block_tokens.specs.declared.refusal.TokenRefusal.{TokenRefusal}
use Rattle.block_tokens.proofs.Taking.{test_tells, parts_told}
use Rattle.grant_ledger.specs.declared.ledger.LedgerRow.{LedgerRow}
use Rattle.node_calls.specs.declared.call.NodeCall.{NodeCall}
use Rattle.node_calls.specs.declared.call.NodeCall.TheVariants.{Presenting, Invalidate, Keys}
use Rattle.node_calls.specs.declared.call.PlanCall.{PlanCall}
use Rattle.node_calls.specs.declared.call.TokenCall.{TokenCall}
use Rattle.node_calls.specs.declared.message.Message.{Message}
use Rattle.node_calls.specs.declared.message.Message.TheVariants as message
use Rattle.call_parts.specs.declared.presented.Presented.{Presented}
use Rattle.node_calls.specs.declared.refusal.NodeRefusal.{NodeRefusal}
use Rattle.node_calls.specs.declared.refusal.ReplicaRefusal.{ReplicaRefusal}
use Rattle.node_calls.specs.declared.reply.NodeReply.{NodeReply}
use Rattle.replicas.specs.Asking.{asked_by, modes_of_call, sends_copy}
use Rattle.replica_steps.specs.ReplicaStep.{held_at, replica_refusal}
use Rattle.datanode.specs.NodeStep.{DataNode, node_answer, presented_answer, told_by, clock_with, call_refusal, token_or_replica, access_of}
use Rattle.block_recovery.specs.Plans.{PlanTable}
use Rattle.cluster_trace.specs.DataCall.{DataCall, as_message, BeginWrite, Packet, Finalize, Read, Decide, Commit}
use Rattle.cluster_trace.specs.Provenance.{IsIn, ledger_in, IsGranted, IsForged, call_brought, call_of, request_brought, request_made, IsRuled, IsCovered, IsCoveredWhere, IsServedRightly, IsRightEvent, AllRight}
use Rattle.cluster_trace.specs.Trace.{Cluster, ClusterOpening, event_lost, request_named, called_at, led_at, message_delivered, message_at, is_from_outside, event_happened, after}
use Rattle.cluster_trace.specs.Typed.{GrantFits, GrantsFit, PresentsBytes, CallFits, AreTyped}
use Rattle.cluster_trace.specs.declared.event.Event.{Event}
use Rattle.cluster_trace.specs.declared.event.Event.TheVariants.{Name, Deliver, Data}
use Rattle.cluster_trace.specs.declared.outcome.ClusterRefusal.TheVariants.{NotFromOutside}
use Rattle.cluster_trace.specs.declared.outcome.EventAnswer.TheVariants.{Called}
use Rattle.cluster_trace.proofs.Each.{some_is, never_some, each_in, values_at}
use Rattle.cluster_trace.proofs.Keys.{Made, usable_made}
use Rattle.cluster_trace.proofs.Sound.{MadeIn, IsSound, sound}
use Rattle.cluster_trace.proofs.Tokens.{RowIssued, TellsItself, parts_of, issued_tells, all_issued}

-- ---- a token of the ledger, or none

record Issued (bytes : List ℕ) (rows : List LedgerRow) : Type 0 where
  row : LedgerRow
  stands : IsIn row rows
  token : row.grant.token ≡ bytes

abbrev NotIssued : List ℕ → List LedgerRow → Type 0
NotIssued bytes rows = (row : LedgerRow) → IsIn row rows → row.grant.token ≡ bytes → ⊥

differ : true ≡ false → ⊥
differ e = cc

issued_or_not : (bytes : List ℕ) (rows : List LedgerRow) → Issued bytes rows ⊎ NotIssued bytes rows
issued_or_not bytes [] = inr (λ row i e. i)
issued_or_not bytes (own ∷ rows) = by (same own.grant.token bytes) refl (issued_or_not bytes rows)
  where
    by : (b : Bool) → same own.grant.token bytes ≡ b → Issued bytes rows ⊎ NotIssued bytes rows → Issued bytes (own ∷ rows) ⊎ NotIssued bytes (own ∷ rows)
    by true h rest = inl (record { row = own; stands = inl refl; token = same_is own.grant.token bytes h })
    by false h (inl one) = inl (record { row = one.row; stands = inr one.stands; token = one.token })
    by false h (inr none) = inr other
      where
        other : NotIssued bytes (own ∷ rows)
        other row (inl is) e = differ (sym (same_self bytes) ∙ ap (λ t. same t bytes) (sym e ∙ ap (λ (r : LedgerRow). r.grant.token) is) ∙ h)
        other row (inr i) e = none row i e

-- ---- the key

module _ (P : ℕ × List ℕ → Type 0) where
  found_made : (keys : KeyList) (serial : ℕ) (held : HeldKey) → Made P keys → key_with serial keys ≡ Some held → P (serial, held.key)
  found_made [] serial held each h = absurd (never_some held h)
  found_made (e ∷ keys) serial held each h = by (is_at (nat_cmp serial) e.0) refl h (found_made keys serial held each.1)
    where
      by : (b : Bool) → is_at (nat_cmp serial) e.0 ≡ b → cond b (Some e.1) (key_with serial keys) ≡ Some held → (key_with serial keys ≡ Some held → P (serial, held.key)) → P (serial, held.key)
      by true at k rest = subst (λ n. P (n, held.key)) (sym (number_is serial e.0 at)) (subst (λ (own : HeldKey). P (e.0, own.key)) (some_is e.1 held k) each.0)
      by false at k rest = rest k

-- ---- a call that is served

stands_in : (rows : List LedgerRow) (row : LedgerRow) → AllByRecursion RowIssued rows → AllByRecursion (λ (own : LedgerRow). GrantFits own.grant) rows → IsIn row rows → TellsItself row.grant
stands_in rows row issued fits i = issued_tells row.grant (each_in RowIssued rows row issued i) (each_in (λ (own : LedgerRow). GrantFits own.grant) rows row fits i)

covered : (state : Cluster) (keys : KeyList) (clock : ℕ) (own : Presented) (asked : TokenCall) → Made (MadeIn state) keys → GrantsFit state → ((i : ℕ) → slice_index own.token i < 256)
    → token_test keys (access_of clock own asked) own.token ≡ None → IsGranted state clock own asked ⊎ IsForged state own.token
covered state keys clock own asked made fits bytes h =
    let all = test_tells keys (access_of clock own asked) own.token bytes h in
    by all.0 all.1 all.2 (issued_or_not own.token (ledger_in state))
  where
    by : (parts : Body) (held : HeldKey) → IsTokenTaken keys (access_of clock own asked) own.token parts held → Issued own.token (ledger_in state) ⊎ NotIssued own.token (ledger_in state)
        → IsGranted state clock own asked ⊎ IsForged state own.token
    by parts held all (inl one) =
        let text = stands_in (ledger_in state) one.row (all_issued state.opening state.entries) fits one.stands in
        let same_parts : parts ≡ parts_of one.row.grant text.0 = parts_told own.token parts (parts_of one.row.grant text.0) all.text (subst (λ t. TokenText t (parts_of one.row.grant text.0)) one.token text.1) in
        inl (
          one.row,
          one.stands,
          record {
            token = one.token;
            user = sym (ap (λ (p : Body). p.user) same_parts) ∙ all.user;
            block = sym (ap (λ (p : Body). p.block) same_parts) ∙ all.block;
            mode = sym (ap (λ (p : Body). covers p.modes (modes_of_call asked).0) same_parts) ∙ all.allowed;
            in_time = subst (λ (p : Body). clock < p.expiry) same_parts all.in_time;
          },
        )
    by parts held all (inr none) =
        inr (record {
          parts = parts;
          key = held.key;
          text = all.text;
          made = found_made (MadeIn state) (usable_keys clock keys) parts.serial held (usable_made (MadeIn state) clock keys made) all.usable;
          code = all.code;
          not_granted = none;
        })

test_passes : (test : Option TokenRefusal) (later : Option ReplicaRefusal) → token_or_replica test later ≡ None → test ≡ None
test_passes None later h = refl
test_passes (Some refusal) later h = cc

never_ok : (told : NodeReply) (refusal : NodeRefusal) → Err refusal ≡ Ok told → ⊥
never_ok told refusal e = cc

own_token : (b : Bool) (given : Presented) (principal : List ℕ) → (cond b (record given { caller = principal }) given).token ≡ given.token
own_token true given principal = refl
own_token false given principal = refl

presented_covered : (state : Cluster) (node : DataNode) (clock : ℕ) (own : Presented) (asked : TokenCall) (told : NodeReply) → Made (MadeIn state) node.keys → GrantsFit state → ((i : ℕ) → slice_index own.token i < 256)
    → (presented_answer node clock own asked).result ≡ Ok told → IsGranted state clock own asked ⊎ IsForged state own.token
unfolding presented_answer
presented_covered state node clock own asked told made fits bytes e = by (call_refusal node clock own asked) refl e
  where
    by : (refused : Option NodeRefusal) → call_refusal node clock own asked ≡ refused → (told_by node own asked refused).result ≡ Ok told → IsGranted state clock own asked ⊎ IsForged state own.token
    by (Some refusal) is h = absurd (never_ok told refusal h)
    by None is h = covered state node.keys clock own asked made fits bytes
        (test_passes (token_test node.keys (access_of clock own asked) own.token) (replica_refusal node.limit asked own.stamp (held_at own.block node.blocks)) is)

answer_covered : (state : Cluster) (node : DataNode) (now : ℕ) (asked : NodeCall) (told : NodeReply) → Made (MadeIn state) node.keys → GrantsFit state → PresentsBytes asked
    → (node_answer node now asked).result ≡ Ok told → IsCovered state now (Some node) asked
unfolding node_answer
answer_covered state node now (Presenting given asked) told made fits bytes e =
    let own : Presented = asked_by node.id given asked in
    let token : own.token ≡ given.token = own_token (sends_copy asked) given (node_principal node.id) in
    subst (λ t. IsGranted state (clock_with node now) own asked ⊎ IsForged state t) token
    (presented_covered state node (clock_with node now) own asked told made fits (subst (λ t. (i : ℕ) → slice_index t i < 256) (sym token) bytes) e)
answer_covered state node now (Invalidate block stamp) told made fits bytes e = tt
answer_covered state node now (Keys update) told made fits bytes e = tt

-- ---- an event

called_rightly : (state : Cluster) (id now : ℕ) (asked : NodeCall) → IsSound state → GrantsFit state → PresentsBytes asked → (found : Option DataNode) → entry_at id state.nodes ≡ found
    → IsCoveredWhere state now found asked (called_at state id now asked found).answer
called_rightly state id now asked sound fits bytes None e = tt
called_rightly state id now asked sound fits bytes (Some node) e = by (node_answer node now asked).result refl
  where
    by : (result : Result NodeReply NodeRefusal) → (node_answer node now asked).result ≡ result → IsCoveredWhere state now (Some node) asked (Called result)
    by (Ok told) is = answer_covered state node now asked told (values_at (λ (own : DataNode). Made (MadeIn state) own.keys) state.nodes id node sound.nodes e) fits bytes is
    by (Err refusal) is = tt

delivered_rightly : (state : Cluster) (now : ℕ) (found : Option Message) → IsSound state → GrantsFit state → CallFits (call_brought now found)
    → IsServedRightly state (call_brought now found) (message_delivered state now found).answer
delivered_rightly state now None sound fits bytes = tt
delivered_rightly state now (Some (message.Node node asked)) sound fits bytes = called_rightly state node now asked sound fits bytes (entry_at node state.nodes) refl
delivered_rightly state now (Some (message.Plan node asked)) sound fits bytes = tt
delivered_rightly state now (Some (message.Reported node block stamp count)) sound fits bytes = tt
delivered_rightly state now (Some (message.CommitRecovery node block stamp count nodes)) sound fits bytes = tt

called_ruled : (state : Cluster) (id now : ℕ) (asked : NodeCall) (found : Option DataNode) → IsRuled state None (called_at state id now asked found)
called_ruled state id now asked None = refl
called_ruled state id now asked (Some node) = refl

led_ruled : (state : Cluster) (id : ℕ) (asked : PlanCall) (found : Option PlanTable) → IsRuled state None (led_at state id asked found)
led_ruled state id asked None = refl
led_ruled state id asked (Some plans) = refl

delivered_ruled : (state : Cluster) (now : ℕ) (found : Option Message) → IsRuled state (request_brought now found) (message_delivered state now found)
delivered_ruled state now None = refl
delivered_ruled state now (Some (message.Node node asked)) = called_ruled state node now asked (entry_at node state.nodes)
delivered_ruled state now (Some (message.Plan node asked)) = led_ruled state node asked (entry_at node state.plans)
delivered_ruled state now (Some (message.Reported node block stamp count)) = (refl, refl)
delivered_ruled state now (Some (message.CommitRecovery node block stamp count nodes)) = (refl, refl)

outside_ruled : (state : Cluster) (node now : ℕ) (asked : DataCall) → IsRuled state None (message_delivered state now (Some (as_message node asked)))
outside_ruled state node now (BeginWrite presented next) = called_ruled state node now _ (entry_at node state.nodes)
outside_ruled state node now (Packet presented offset bytes next) = called_ruled state node now _ (entry_at node state.nodes)
outside_ruled state node now (Finalize presented count next) = called_ruled state node now _ (entry_at node state.nodes)
outside_ruled state node now (Read presented offset count) = called_ruled state node now _ (entry_at node state.nodes)
outside_ruled state node now (Decide block stamp) = led_ruled state node _ (entry_at node state.plans)
outside_ruled state node now (Commit block stamp) = led_ruled state node _ (entry_at node state.plans)

request_ruled : (state : Cluster) (request : Request) (b : Bool) → IsRuled state (cond b (Some request) None) (cond b (request_named state request) (event_lost state NotFromOutside))
request_ruled state request true = (refl, refl)
request_ruled state request false = refl

pub event_ruled : (state : Cluster) (event : Event) → IsRuled state (request_made state event) (event_happened state event)
event_ruled state (Name request) = request_ruled state request (is_from_outside request.op)
event_ruled state (Deliver number now) = delivered_ruled state now (message_at number state.messages)
event_ruled state (Data node now asked) = outside_ruled state node now asked

pub event_right : (state : Cluster) (event : Event) → IsSound state → GrantsFit state → CallFits (call_of state event) → IsRightEvent state event
event_right state (Name request) sound fits bytes = record { ruled = event_ruled state (Name request); served = tt }
event_right state (Deliver number now) sound fits bytes =
    record { ruled = event_ruled state (Deliver number now); served = delivered_rightly state now (message_at number state.messages) sound fits bytes }
event_right state (Data node now asked) sound fits bytes =
    record { ruled = event_ruled state (Data node now asked); served = delivered_rightly state now (Some (as_message node asked)) sound fits bytes }

pub all_right : (opening : ClusterOpening) (events : List Event) → AreTyped opening events → AllRight opening events
all_right opening [] typed = tt
all_right opening (event ∷ earlier) typed = (event_right (after opening earlier) event (sound opening earlier) typed.0.grants typed.0.call, all_right opening earlier typed.1)

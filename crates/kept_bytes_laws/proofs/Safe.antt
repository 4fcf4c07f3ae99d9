-- What each front of a list of events leaves of the bytes that are acknowledged behind all of them.
use Rattle.std.proofs.Common.{◌≡◌, ℕ, suc, ◌+◌, ◌≤◌, true, ◌⊎◌, inl, inr, List, [], ◌∷◌, ◌++◌, length, Option, None, unwrap_or, refl, sym, ap, ◌∙◌, subst, arith}
use Rattle.std.proofs.lemmas.List.{length-append}
use Rattle.std.specs.List.{AllByRecursion}
use Rattle.std.specs.Map.{values_of}
use Rattle.std.specs.Option.{is_some}
use Rattle.block_records.specs.Numbers.{has_number, entry_at}
use Rattle.block_laws.specs.Laws.{blocks_given_by, new_blocks}
use Rattle.block_recovery.specs.Decision.{least_of, finalized_of}
use Rattle.block_recovery.specs.declared.decision.Decision.{Decision}
use Rattle.block_recovery.specs.declared.plan.Plan.{Plan}
use Rattle.block_recovery.proofs.Deciding.{none_lost, lost_by_none}
use Rattle.block_answers.specs.LocatedBlocks.{AddedBlock}
use Rattle.block_answers.specs.declared.commands.Recover.{Recover}
use Rattle.node_calls.specs.declared.call.NodeCall.{NodeCall}
use Rattle.node_calls.specs.declared.call.NodeCall.TheVariants.{Presenting}
use Rattle.node_calls.specs.declared.call.ReplicaState.TheVariants.{Writing}
use Rattle.node_calls.specs.declared.call.TokenCall.{TokenCall}
use Rattle.node_calls.specs.declared.call.TokenCall.TheVariants as call
use Rattle.call_parts.specs.declared.presented.Presented.{Presented}
use Rattle.replicas.specs.Asking.{asked_by}
use Rattle.replicas.specs.Sending.{call_reply}
use Rattle.replica_steps.specs.ReplicaStep as held
use Rattle.replica_steps.specs.ReplicaStep.{held_at}
use Rattle.replica_steps.specs.declared.replica.Replica.{Replica}
use Rattle.datanode.specs.NodeStep.{DataNode, node_answer, clock_with, call_refusal}
use Rattle.cluster_trace.specs.Provenance.{IsIn, call_of}
use Rattle.cluster_trace.specs.Trace.{Cluster, ClusterOpening, Happened, entry_of, event_happened, after}
use Rattle.cluster_trace.specs.declared.event.Event.{Event}
use Rattle.cluster_trace.proofs.Each.{some_is, each_append, in_append}
use Rattle.fencing_laws.specs.Fencing.{Serves, HasDecided}
use Rattle.fencing_laws.proofs.Decided.{updates_are_decided}
use Rattle.fencing_laws.proofs.Plans.{plans_are_right}
use Rattle.fencing_laws.proofs.Leaders.{leaders}
use Rattle.fencing_laws.proofs.OnePlan.{all_ordered}
use Rattle.kept_bytes_laws.specs.KeptBytes.{Removes, IsAdded, HoldsFrom, IsAcknowledged, DecisionsKeepBytes, UpdatesKeepBytes, ReplicasKeepBytes}
use Rattle.kept_bytes_laws.proofs.Added.{one_added, IsTarget}
use Rattle.kept_bytes_laws.proofs.Answers.{MessageTells, AnswersTell, event_tells}
use Rattle.kept_bytes_laws.proofs.Fronts.{Begins, asked_block, served_answer}
use Rattle.kept_bytes_laws.proofs.Sent.{Calls, Does, does, event_sends, entry_sends}
use Rattle.kept_bytes_laws.proofs.Since.{HasFront, has_front, front_is, served_at, answered_at, event_keeps, ids_stand}
use Rattle.kept_bytes_laws.proofs.Targets.{plan_asks, all_asked}

-- ---- lists of events

tail_is : (first other : Event) (xs ys : List Event) → (first ∷ xs) ≡ (other ∷ ys) → xs ≡ ys
tail_is first other xs ys e = cc

head_is : (first other : Event) (xs ys : List Event) → (first ∷ xs) ≡ (other ∷ ys) → first ≡ other
head_is first other xs ys e = cc

pub one_more : (rest past : List Event) (event : Event) → rest ++ event ∷ past ≡ (rest ++ event ∷ []) ++ past
one_more [] past event = refl
one_more (first ∷ rest) past event = ap (λ events. first ∷ events) (one_more rest past event)

pub joined : (xs ys zs : List Event) → xs ++ (ys ++ zs) ≡ (xs ++ ys) ++ zs
joined [] ys zs = refl
joined (x ∷ xs) ys zs = ap (λ events. x ∷ events) (joined xs ys zs)

-- of two fronts of a list one is a front of the other
abbrev IsFront : List Event → List Event → Type 0
IsFront front whole = (rest : List Event) × (whole ≡ rest ++ front)

fronts : (xs ys us vs : List Event) → xs ++ ys ≡ us ++ vs → IsFront vs ys ⊎ IsFront ys vs
fronts [] ys us vs e = inl (us, e)
fronts (x ∷ xs) ys [] vs e = inr (x ∷ xs, sym e)
fronts (x ∷ xs) ys (u ∷ us) vs e = fronts xs ys us vs (tail_is x u (xs ++ ys) (us ++ vs) e)

longer : (x : Event) (xs ys : List Event) → ys ≡ x ∷ xs ++ ys → ⊥
longer x xs ys e = never (length ys) (length xs) (length (xs ++ ys)) (ap (λ (l : List Event). length l) e) (length-append xs ys)
  where
    never : (a b c : ℕ) → a ≡ suc c → c ≡ b + a → ⊥
    never a b c h k = absurd (omega (arith, h, k))

cut : (xs ys zs : List Event) → xs ++ zs ≡ ys ++ zs → xs ≡ ys
cut [] [] zs e = refl
cut [] (y ∷ ys) zs e = absurd (longer y ys zs e)
cut (x ∷ xs) [] zs e = absurd (longer x xs zs (sym e))
cut (x ∷ xs) (y ∷ ys) zs e = ap (λ (z : Event). z ∷ xs) (head_is x y (xs ++ zs) (ys ++ zs) e) ∙ ap (λ (l : List Event). y ∷ l) (cut xs ys zs (tail_is x y (xs ++ zs) (ys ++ zs) e))

-- ---- blocks that were added

added_now : (state : Cluster) (event : Event) (new : AddedBlock) → IsIn new (new_blocks state.entries) → IsIn new (new_blocks (event_happened state event).entries)
added_now state event new i = by (does state event)
  where
    by : Does state (call_of state event) (event_happened state event) → IsIn new (new_blocks (event_happened state event).entries)
    by (inl own) = subst (λ (what : Happened). IsIn new (new_blocks what.entries)) (sym own.is) i
    by (inr (inl own)) = subst (λ (what : Happened). IsIn new (new_blocks what.entries)) (sym own.is) i
    by (inr (inr (inl own))) = subst (λ (what : Happened). IsIn new (new_blocks what.entries)) (sym own.is) i
    by (inr (inr (inr own))) = subst (λ (what : Happened). IsIn new (new_blocks what.entries)) (sym own.is) (in_append new (new_blocks state.entries) (blocks_given_by (entry_of state own.request).verdict) i)

added_later : (opening : ClusterOpening) (rest past : List Event) (new : AddedBlock) → IsIn new (new_blocks (after opening past).entries) → IsIn new (new_blocks (after opening (rest ++ past)).entries)
added_later opening [] past new i = i
added_later opening (event ∷ rest) past new i = added_now (after opening (rest ++ past)) event new (added_later opening rest past new i)

-- ---- fronts of these events

module _ (opening : ClusterOpening) (events : List Event) (new : AddedBlock) (bytes : ℕ) (added : IsAdded (after opening events) new) (held_since : IsAcknowledged opening events new bytes) where
  abbrev block : ℕ
  block = new.block

  abbrev T : ℕ → Type 0
  T node = has_number node new.targets ≡ true

  -- behind a front no target has told less, and each that has held the bytes by then still does
  pub record IsSafe (past : List Event) : Type 0 where
    pub replies : AllByRecursion (MessageTells block bytes T) (after opening past).messages
    pub answers : AnswersTell block bytes T (after opening past).plans
    pub kept : (node : ℕ) (t : T node) (last : List Event) → past ≡ last ++ (held_since node t).1 → HasFront (after opening past) node block bytes (held_since node t).2

  -- a target by then is a target of the block
  is_target : (rest past : List Event) (node : ℕ) → events ≡ rest ++ past → IsTarget (after opening past).entries block node → T node
  is_target rest past node e is =
      let there : IsIn is.new (new_blocks (after opening events).entries) = subst (λ (all : List Event). IsIn is.new (new_blocks (after opening all).entries)) (sym e) (added_later opening rest past is.new is.added) in
      let same : is.new ≡ new = one_added (after opening events).opening (after opening events).entries is.new new (leaders opening events).legal there added is.of in
      subst (λ (one : AddedBlock). has_number node one.targets ≡ true) same is.target

  -- so what is decided by then is no less
  pub decided_enough : (rest past : List Event) (leader stamp : ℕ) (decision : Decision) → events ≡ rest ++ past → IsSafe past → HasDecided (after opening past) leader block stamp decision → bytes ≤ decision.length
  decided_enough rest past leader stamp decision e safe has =
      let own : Plan = has.0 in
      let right = plans_are_right opening past leader block stamp own has.1 in
      none_lost own.answers bytes
      (lost_by_none own.answers bytes right.by_node
      (λ node answer found. safe.answers leader stamp node own answer has.1 found
      (is_target rest past node e (plan_asks opening past leader block stamp own (all_asked opening past) has.1 node (right.asked node (ap is_some found))))))
      (least_of (finalized_of (values_of own.answers))) (least_of (values_of own.answers)) refl refl decision (right.decided decision has.2)

  -- and a recovery cuts no replica to less
  pub updated_enough : (rest past : List Event) (event : Event) (node count : ℕ) (presented : Presented) → events ≡ rest ++ past → IsSafe past → presented.block ≡ block
      → Serves opening past event node presented (call.UpdateReplica count) → bytes ≤ count
  updated_enough rest past event node count presented e safe same serves =
      let decided = updates_are_decided opening past event node count presented serves in
      let has : HasDecided (after opening past) decided.0 block presented.stamp decided.1 = subst (λ n. HasDecided (after opening past) decided.0 n presented.stamp decided.1) same decided.2 in
      subst (λ n. bytes ≤ n) decided.3 (decided_enough rest past decided.0 presented.stamp decided.1 e safe has)

  -- ---- one event more

  module _ (event : Event) (past rest : List Event) (e : events ≡ rest ++ event ∷ past) (safe : IsSafe past) where
    abbrev state : Cluster
    state = after opening past

    before : events ≡ (rest ++ event ∷ []) ++ past
    before = e ∙ one_more rest past event

    -- a target that lets a recovery begin has held the bytes before
    held_before : (node : ℕ) (t : T node) (presented : Presented) → presented.block ≡ block → Serves opening past event node presented call.InitRecovery → HasFront (after opening past) node block bytes (held_since node t).2
    held_before node t presented same serves = by (fronts rest (event ∷ past) own.0 own.1 (sym e ∙ own.3))
      where
        own : (later : List Event) × (earlier : List Event) × (front : List ℕ) × (events ≡ later ++ earlier) × HoldsFrom opening later earlier new node bytes front
        own = held_since node t

        since : (d : List Event) → event ∷ past ≡ d ++ own.1 → HasFront (after opening past) node block bytes (held_since node t).2
        since [] is = absurd (own.4.not_recovered [] past event presented (sym is) same serves)
        since (x ∷ d) is = safe.kept node t d (tail_is event x past (d ++ own.1) is)

        by : IsFront own.1 (event ∷ past) ⊎ IsFront (event ∷ past) own.1 → HasFront (after opening past) node block bytes (held_since node t).2
        by (inl later) = since later.0 later.1
        by (inr earlier) = absurd (own.4.not_recovered earlier.0 past event presented earlier.1 same serves)

    -- so it tells no less
    tells : (own : Calls state (call_of state event) (event_happened state event)) (presented : Presented) (asked : TokenCall) → own.called ≡ Presenting presented asked
        → call_refusal own.node (clock_with own.node own.now) (asked_by own.node.id presented asked) asked ≡ None → asked ≡ call.InitRecovery → (asked_by own.node.id presented asked).block ≡ block → T own.node.id
        → bytes ≤ length (held.own (held_at (asked_by own.node.id presented asked).block own.node.blocks)).bytes
    tells own presented asked is allowed init same t =
        let at_id : own.node.id ≡ own.id = ids_stand opening past own.id own.node own.there in
        let serves : Serves opening past event own.node.id presented call.InitRecovery = record {
          now = own.now;
          told = call_reply asked (held_at (asked_by own.node.id presented asked).block own.node.blocks);
          asks = served_at state event own own.node.id (Presenting presented call.InitRecovery) (sym at_id) (is ∙ ap (Presenting presented) init);
          served = answered_at state event own (call_reply asked (held_at (asked_by own.node.id presented asked).block own.node.blocks))
              (ap (λ (c : NodeCall). (node_answer own.node own.now c).result) is ∙ served_answer own.node own.now presented asked allowed);
        } in
        let has = held_before own.node.id t presented (sym (asked_block own.node.id presented asked) ∙ same) serves in
        let node_is : has.own ≡ own.node = some_is has.own own.node (sym has.there ∙ (ap (λ n. entry_at n state.nodes) at_id ∙ own.there)) in
        let begins : Begins block bytes (held_since own.node.id t).2 (held_at block own.node.blocks) = subst (λ (one : DataNode). Begins block bytes (held_since own.node.id t).2 (held_at block one.blocks)) node_is has.begins in
        subst (λ n. bytes ≤ length (held.own (held_at n own.node.blocks)).bytes) (sym same)
        (subst (λ (found : Option Replica). bytes ≤ length (unwrap_or found (record { stamp = 0; state = Writing; bytes = [] })).bytes) (sym begins.there) begins.enough)

    sent : AllByRecursion (MessageTells block bytes T) (event_happened state event).sent
    sent =
        event_sends (MessageTells block bytes T) state event
        (λ own presented asked is allowed. record {
          asks = λ to next. tt;
          reply = λ primary init. λ same t. tells own presented asked is allowed init same t;
          updated = λ primary count at by. tt;
          finalized = λ count next at. tt;
          recovered = λ count at. tt;
          stored = λ copy at. tt;
        })
        (λ own allowed. record { asks = λ to next. tt; commit = λ b stamp at. tt })
        (λ own. entry_sends (MessageTells block bytes T) state own.request (λ to next. tt) (λ to (order : Recover). tt))

    -- the replica of a target that holds the bytes
    still : (node : ℕ) (t : T node) (last : List Event) → event ∷ past ≡ last ++ (held_since node t).1 → HasFront (after opening (event ∷ past)) node block bytes (held_since node t).2
    still node t last is = by last is
      where
        own : (later : List Event) × (earlier : List Event) × (front : List ℕ) × (events ≡ later ++ earlier) × HoldsFrom opening later earlier new node bytes front
        own = held_since node t

        by : (last : List Event) → event ∷ past ≡ last ++ own.1 → HasFront (after opening (event ∷ past)) node block bytes own.2
        by [] is =
            subst (λ (all : List Event). HasFront (after opening all) node block bytes own.2) (sym is)
            (has_front (after opening own.1) node block bytes own.2 own.4.replica own.4.there own.4.enough own.4.begins)
        by (x ∷ d) is =
            let past_is : past ≡ d ++ own.1 = tail_is event x past (d ++ own.1) is in
            let later_is : own.0 ≡ rest ++ event ∷ d =
            cut own.0 (rest ++ event ∷ d) own.1 (sym own.3 ∙ (e ∙ (ap (λ (p : List Event). rest ++ event ∷ p) past_is ∙ joined rest (event ∷ d) own.1))) in
            event_keeps opening past event node block bytes own.2
            (λ presented count serves same. updated_enough (rest ++ event ∷ []) past event node count presented before safe same serves)
            (λ removes. own.4.not_removed rest d event later_is (subst (λ (p : List Event). Removes opening p event node block) past_is removes))
            (safe.kept node t d past_is)

    safe_now : IsSafe (event ∷ past)
    safe_now = record {
      replies = each_append (MessageTells block bytes T) state.messages (event_happened state event).sent safe.replies sent;
      answers = event_tells block bytes T state event safe.replies safe.answers;
      kept = still;
    }

  -- ---- all fronts

  start_kept : (node : ℕ) (t : T node) (last : List Event) → [] ≡ last ++ (held_since node t).1 → HasFront (after opening []) node block bytes (held_since node t).2
  start_kept node t [] is =
      subst (λ (all : List Event). HasFront (after opening all) node block bytes (held_since node t).2) (sym is)
      (has_front (after opening (held_since node t).1) node block bytes (held_since node t).2 (held_since node t).4.replica (held_since node t).4.there (held_since node t).4.enough (held_since node t).4.begins)
  start_kept node t (x ∷ d) is = cc

  pub all_safe : (past rest : List Event) → events ≡ rest ++ past → IsSafe past
  all_safe [] rest e = record {
    replies = tt;
    answers = λ leader stamp node own answer there found t. absurd (all_ordered opening [] leader block stamp own there).is;
    kept = start_kept;
  }
  all_safe (event ∷ past) rest e = safe_now event past rest e (all_safe past (rest ++ event ∷ []) (e ∙ one_more rest past event))

-- ---- the laws

pub decisions_keep : DecisionsKeepBytes
decisions_keep opening events new bytes leader stamp decision added since has =
    decided_enough opening events new bytes added since [] events leader stamp decision refl (all_safe opening events new bytes added since events [] refl) has

pub updates_keep : UpdatesKeepBytes
updates_keep opening later earlier event new bytes node count presented added since same serves =
    let events = later ++ event ∷ earlier in
    let is : events ≡ (later ++ event ∷ []) ++ earlier = one_more later earlier event in
    updated_enough opening events new bytes added since (later ++ event ∷ []) earlier event node count presented is (all_safe opening events new bytes added since earlier (later ++ event ∷ []) is) same serves

-- from the event on at which a target held the bytes
module _ (opening : ClusterOpening) (since earlier events : List Event) (new : AddedBlock) (node bytes : ℕ) (front : List ℕ) (added : IsAdded (after opening events) new) (acknowledged : IsAcknowledged opening events new bytes)
    (is : events ≡ since ++ earlier) (holds : HoldsFrom opening since earlier new node bytes front) where
  kept_since : (part rest : List Event) → since ≡ rest ++ part → HasFront (after opening (part ++ earlier)) node new.block bytes front
  kept_since [] rest e = has_front (after opening earlier) node new.block bytes front holds.replica holds.there holds.enough holds.begins
  kept_since (event ∷ part) rest e =
      let before : since ≡ (rest ++ event ∷ []) ++ part = e ∙ one_more rest part event in
      let all : events ≡ (rest ++ event ∷ []) ++ (part ++ earlier) = is ∙ (ap (λ (l : List Event). l ++ earlier) before ∙ sym (joined (rest ++ event ∷ []) part earlier)) in
      event_keeps opening (part ++ earlier) event node new.block bytes front
      (λ presented count serves same. updated_enough opening events new bytes added acknowledged (rest ++ event ∷ []) (part ++ earlier) event node count presented all
      (all_safe opening events new bytes added acknowledged (part ++ earlier) (rest ++ event ∷ []) all) same serves)
      (λ removes. holds.not_removed rest part event e removes)
      (kept_since part (rest ++ event ∷ []) before)

pub replicas_keep : ReplicasKeepBytes
replicas_keep opening last later earlier new node bytes front added acknowledged target holds =
    front_is (after opening (later ++ earlier)) node new.block bytes front
    (kept_since opening (last ++ later) earlier (last ++ (later ++ earlier)) new node bytes front added acknowledged (joined last later earlier) holds later last refl)

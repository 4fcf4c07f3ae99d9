-- Orders to lead the recovery of a block: a DataNode gets them with the answer to its heartbeat, and in no other way.
use Rattle.std.proofs.Common.{◌≡◌, ℕ, Bool, true, false, not, List, [], ◌∷◌, ◌++◌, map, filter, Option, Some, None, refl, sym, ap, ◌∙◌, subst, cond}
use Rattle.std.proofs.lemmas.Map.Entries.{lookup-filter-values, option_filter}
use Rattle.std.proofs.lemmas.Map.Keys.{IsDistinct-from_sorted}
use Rattle.std.specs.Cmp.{eq_by_cmp_equiv, nat_cmp_total}
use Rattle.std.specs.List.{AllByRecursion, filter_map, cons_option}
use Rattle.std.specs.Map.{keys_of}
use Rattle.std.specs.Option.{is_some}
use Rattle.std.specs.Ordering.{nat_cmp}
use Rattle.block_records.specs.Numbers.{is_number, entry_at}
use Rattle.block_records.specs.declared.block_record.BlockRecord.{BlockRecord}
use Rattle.block_records.specs.declared.last_block.LastBlock.{LastBlock}
use Rattle.block_recovery.specs.Plans.{PlanTable}
use Rattle.recovery_updates.specs.declared.fault.PlanRefusal.{PlanRefusal}
use Rattle.block_recovery.proofs.Tables.{itself}
use Rattle.node_ids.specs.NodeId.{node_of}
use Rattle.block_answers.specs.Commands.{Commands}
use Rattle.block_answers.specs.declared.commands.CopyOrder.{CopyOrder}
use Rattle.block_answers.specs.declared.commands.Recover.{Recover}
use Rattle.block_answers.specs.declared.commands.Removal.{Removal}
use Rattle.hdfs_types.specs.declared.op.Op.{Op}
use Rattle.hdfs_types.specs.declared.op.Op.TheVariants as op
use Rattle.hdfs_types.specs.declared.reply.Reply.{Reply}
use Rattle.hdfs_types.specs.declared.reply.Reply.TheVariants as reply
use Rattle.recovery_queue.specs.Queue as queue
use Rattle.block_changes.specs.Orders.{recovery_by}
use Rattle.block_changes.specs.declared.recovery.Recovery.{Recovery}
use Rattle.block_map.specs.BlockFacts.{Blocks, known_block, recoveries_for}
use Rattle.block_map.specs.BlockEffects.{with_node_heard}
use Rattle.block_effect_laws.proofs.Orders.{AreInOrder}
use Rattle.principals.specs.Users.{Users}
use Rattle.namespace_rows.specs.declared.row.Row.{Row}
use Rattle.namespace_rows.specs.Rows.{row_at}
use Rattle.flat_rows.specs.BlockOutcome.{replication_at, added_to}
use Rattle.flat_rows.specs.Facts.{Facts}
use Rattle.flat_rows.specs.FileOutcome.{holder_at}
use Rattle.flat_rows.specs.NodeOutcome.{heartbeat_reply, commands_to, recover_command}
use Rattle.flat_rows.specs.Outcome.{step, reply_of, status_of, acl_status_of, serial_reply}
use Rattle.flat_rows.specs.Takeover.{unfinished_at, appended_reply}
use Rattle.flat_rows.specs.declared.verdict.Verdict.{Verdict}
use Rattle.flat_rows.specs.declared.verdict.Verdict.TheVariants.{Done, Denied, Refused}
use Rattle.history.specs.Blocks.{heard_of, blocks_after, blocks_by}
use Rattle.block_laws.proofs.Unrefused.{was_done}
use Rattle.node_calls.specs.declared.call.NodeCall.{NodeCall}
use Rattle.node_calls.specs.declared.call.NodeCall.TheVariants.{Presenting, Invalidate, Keys}
use Rattle.node_calls.specs.declared.call.PlanCall.{PlanCall}
use Rattle.node_calls.specs.declared.call.PlanCall.TheVariants as plan
use Rattle.node_calls.specs.declared.call.TokenCall.{TokenCall}
use Rattle.node_calls.specs.declared.call.TokenCall.TheVariants as call
use Rattle.node_calls.specs.declared.message.Message.{Message}
use Rattle.node_calls.specs.declared.message.Message.TheVariants as message
use Rattle.call_parts.specs.declared.presented.Presented.{Presented}
use Rattle.node_calls.specs.declared.refusal.NodeRefusal.{NodeRefusal}
use Rattle.node_calls.specs.declared.refusal.ReplicaRefusal.{ReplicaRefusal}
use Rattle.replicas.specs.Asking.{asked_by}
use Rattle.replicas.specs.Sending.{call_sends, forward, report, to_primary}
use Rattle.replica_steps.specs.ReplicaStep.{held_at, removal_refusal}
use Rattle.replica_steps.specs.declared.held.Held.{Held}
use Rattle.datanode.specs.NodeStep.{DataNode, node_answer, presented_answer, told_by, removal_told, clock_with, call_refusal}
use Rattle.plan_steps.specs.PlanStep.{plan_refusal, plan_there, decision_there, presented_by_leader, to_each, plan_sends, told_unless, plan_answer}
use Rattle.cluster_trace.specs.Trace.{recover_message, removal_message, copy_message, command_messages, told_messages, sent_by}
use Rattle.cluster_trace.proofs.Each.{never_some, each_append, each_more, each_map}

-- a DataNode is to lead the recovery of a block at a stamp, in which these nodes are asked
pub record Order : Type 0 where
  pub node : ℕ
  pub block : ℕ
  pub stamp : ℕ
  pub nodes : List ℕ

abbrev pub plan_order : ℕ → PlanCall → Option Order
plan_order node (plan.Recover block stamp nodes token) = Some (record { node = node; block = block; stamp = stamp; nodes = nodes })
plan_order node (plan.Reply from block stamp state bytes) = None
plan_order node (plan.Decide block stamp) = None
plan_order node (plan.Updated from block stamp) = None
plan_order node (plan.Commit block stamp) = None

abbrev pub order_of : Message → Option Order
order_of (message.Node node asked) = None
order_of (message.Plan node asked) = plan_order node asked
order_of (message.Reported node block stamp count) = None
order_of (message.CommitRecovery leader block stamp count nodes) = None

-- what holds of the order that a message has, if it has one
abbrev pub OfOrder : (Order → Type 0) → Message → Type 0
OfOrder P own = (order : Order) → order_of own ≡ Some order → P order

abbrev pub HasNone : Message → Type 0
HasNone own = order_of own ≡ None

-- ---- DataNodes send none

forward_none : (presented : Presented) (asked : List ℕ → TokenCall) (next : List ℕ) → AllByRecursion HasNone (forward presented asked next)
forward_none presented asked [] = tt
forward_none presented asked (first ∷ next) = (refl, tt)

primary_none : (primary : Option ℕ) (told : ℕ → Message) → ((node : ℕ) → HasNone (told node)) → AllByRecursion HasNone (to_primary primary told)
primary_none None told h = tt
primary_none (Some primary) told h = (h primary, tt)

sends_none : (node : ℕ) (presented : Presented) (asked : TokenCall) (held : Held) → AllByRecursion HasNone (call_sends node presented asked held)
sends_none node presented (call.Begin next) held = forward_none presented call.Begin next
sends_none node presented (call.Packet offset bytes next) held = forward_none presented (call.Packet offset bytes) next
sends_none node presented (call.Finalize count next) held =
    each_append HasNone (forward presented (call.Finalize count) next) (report node presented count) (forward_none presented (call.Finalize count) next) (refl, tt)
sends_none node presented (call.Read offset count) held = tt
sends_none node presented call.InitRecovery held = primary_none (node_of presented.caller) _ (λ primary. refl)
sends_none node presented (call.UpdateReplica count) held =
    each_append HasNone (to_primary (node_of presented.caller) _) (report node presented count) (primary_none (node_of presented.caller) _ (λ primary. refl)) (refl, tt)
sends_none node presented (call.SendCopy to) held = (refl, tt)
sends_none node presented (call.TakeCopy bytes) held = (refl, tt)

presented_none : (node : DataNode) (clock : ℕ) (own : Presented) (asked : TokenCall) → AllByRecursion HasNone (presented_answer node clock own asked).messages
unfolding presented_answer
presented_none node clock own asked = by (call_refusal node clock own asked)
  where
    by : (refused : Option NodeRefusal) → AllByRecursion HasNone (told_by node own asked refused).messages
    by (Some refusal) = tt
    by None = sends_none node.id own asked (held_at own.block node.blocks)

pub answer_none : (node : DataNode) (now : ℕ) (asked : NodeCall) → AllByRecursion HasNone (node_answer node now asked).messages
unfolding node_answer
answer_none node now (Presenting own asked) = presented_none node (clock_with node now) (asked_by node.id own asked) asked
answer_none node now (Keys update) = tt
answer_none node now (Invalidate block stamp) = by (removal_refusal stamp (held_at block node.blocks).replica)
  where
    by : (refused : Option ReplicaRefusal) → AllByRecursion HasNone (removal_told refused).messages
    by (Some refusal) = tt
    by None = tt

each_none : (presented : Presented) (asked : TokenCall) (nodes : List ℕ) → AllByRecursion HasNone (to_each presented asked nodes)
each_none presented asked nodes = each_map HasNone (λ (node : ℕ). message.Node node (Presenting presented asked)) (λ (node : ℕ). refl) nodes

plan_sends_none : (leader : ℕ) (asked : PlanCall) (plans : PlanTable) → AllByRecursion HasNone (plan_sends leader asked plans)
plan_sends_none leader (plan.Recover block stamp nodes token) plans = each_none (presented_by_leader leader block stamp token) call.InitRecovery nodes
plan_sends_none leader (plan.Reply node block stamp state bytes) plans = tt
plan_sends_none leader (plan.Decide block stamp) plans =
    let own = plan_there block stamp plans in
    each_none (presented_by_leader leader block stamp own.token) (call.UpdateReplica (decision_there own).length) (decision_there own).nodes
plan_sends_none leader (plan.Updated node block stamp) plans = tt
plan_sends_none leader (plan.Commit block stamp) plans = (refl, tt)

pub plan_answer_none : (leader : ℕ) (asked : PlanCall) (plans : PlanTable) → AllByRecursion HasNone (plan_answer leader asked plans).messages
unfolding plan_answer
plan_answer_none leader asked plans = by (plan_refusal asked plans)
  where
    by : (refused : Option PlanRefusal) → AllByRecursion HasNone (told_unless leader asked plans refused).messages
    by (Some refusal) = tt
    by None = plan_sends_none leader asked plans

-- ---- lists

pub each_of : {X Y : Type 0} (P : X → Type 0) (Q : Y → Type 0) (f : X → Y) → ((x : X) → P x → Q (f x)) → (xs : List X) → AllByRecursion P xs → AllByRecursion Q (map f xs)
each_of P Q f h [] p = tt
each_of P Q f h (x ∷ xs) p = (h x p.0, each_of P Q f h xs p.1)

pub each_found : {X Y : Type 0} (P : X → Type 0) (Q : Y → Type 0) (f : X → Option Y) → ((x : X) (y : Y) → P x → f x ≡ Some y → Q y) → (xs : List X) → AllByRecursion P xs → AllByRecursion Q (filter_map f xs)
each_found P Q f h [] all = tt
each_found {X} {Y} P Q f h (x ∷ xs) all = by (f x) refl (each_found P Q f h xs all.1)
  where
    by : (found : Option Y) → f x ≡ found → AllByRecursion Q (filter_map f xs) → AllByRecursion Q (cons_option found (filter_map f xs))
    by None e rest = rest
    by (Some y) e rest = (h x y all.0 e, rest)

-- ---- the blocks whose recovery a node is to lead

module _ (waiting : List (ℕ × ℕ)) (node : ℕ) (up : AreInOrder waiting) where
  -- a block waits, and does no more once the node was told
  record IsLed (block : ℕ) : Type 0 where
    waited : entry_at block waiting ≡ None → ⊥
    told : entry_at block (queue.without_led_by waiting node) ≡ None

  keys_there : (table : List (ℕ × ℕ)) → AllByRecursion (λ block. is_some (entry_at block table) ≡ true) (keys_of table)
  keys_there [] = tt
  keys_there (entry ∷ table) = (
    ap (λ b. is_some (cond b (Some entry.1) (entry_at entry.0 table))) (itself entry.0),
    each_more (λ block. is_some (entry_at block table) ≡ true) (λ block. is_some (entry_at block (entry ∷ table)) ≡ true) (λ block h. by (is_number block entry.0) (entry_at block table) h) (keys_of table) (keys_there table),
  )
    where
      by : (b : Bool) (found : Option ℕ) → is_some found ≡ true → is_some (cond b (Some entry.1) found) ≡ true
      by true found h = refl
      by false found h = h

  led : (block : ℕ) → is_some (entry_at block (filter (queue.leads node) waiting)) ≡ true → IsLed block
  led block there =
      by (entry_at block waiting) refl
      (sym (ap is_some (lookup-filter-values (eq_by_cmp_equiv nat_cmp_total) (λ primary. is_number primary node) block waiting (IsDistinct-from_sorted nat_cmp (keys_of waiting) up))) ∙ there)
    where
      left : (found : Option ℕ) → entry_at block waiting ≡ found → entry_at block (queue.without_led_by waiting node) ≡ option_filter (λ primary. not (is_number primary node)) found
      left found e =
          lookup-filter-values (eq_by_cmp_equiv nat_cmp_total) (λ primary. not (is_number primary node)) block waiting (IsDistinct-from_sorted nat_cmp (keys_of waiting) up)
          ∙ ap (option_filter (λ primary. not (is_number primary node))) e

      none : (primary : ℕ) (b : Bool) → is_some (cond b (Some primary) None) ≡ true → cond (not b) (Some primary) None ≡ None
      none primary true h = refl
      none primary false h = cc

      some : (primary : ℕ) → entry_at block waiting ≡ Some primary → entry_at block waiting ≡ None → ⊥
      some primary e f = cc

      by : (found : Option ℕ) → entry_at block waiting ≡ found → is_some (option_filter (λ primary. is_number primary node) found) ≡ true → IsLed block
      by None e h = cc
      by (Some primary) e h = record { waited = some primary e; told = left (Some primary) e ∙ none primary (is_number primary node) h }

  all_led : AllByRecursion IsLed (queue.led_by node waiting)
  all_led = each_more (λ block. is_some (entry_at block (filter (queue.leads node) waiting)) ≡ true) IsLed led (queue.led_by node waiting) (keys_there (filter (queue.leads node) waiting))

-- ---- what an operation orders

module _ (facts : Facts) (caller : List ℕ) (rows : List Row) (up : AreInOrder facts.blocks.queued) where
  -- the caller is to lead it, and to ask the nodes that are to hold the block; it waited for that, and waits no more
  pub record IsNew (later : Blocks) (order : Order) : Type 0 where
    pub to_caller : node_of caller ≡ Some order.node
    pub own : BlockRecord
    pub there : known_block facts.blocks order.block ≡ Some own
    pub stamp : own.stamp ≡ order.stamp
    pub nodes : order.nodes ≡ own.expected
    pub waited : entry_at order.block facts.blocks.queued ≡ None → ⊥
    pub told : entry_at order.block later.queued ≡ None

  abbrev Orders : Blocks → Option ℕ → Reply → Type 0
  Orders later found told = AllByRecursion (OfOrder (IsNew later)) (told_messages found told)

  none : (later : Blocks) (own : Message) → HasNone own → OfOrder (IsNew later) own
  none later own is order e = absurd (never_some order (sym is ∙ e))

  all_none : (later : Blocks) (messages : List Message) → AllByRecursion HasNone messages → AllByRecursion (OfOrder (IsNew later)) messages
  all_none later messages all = each_more HasNone (OfOrder (IsNew later)) (none later) messages all

  -- what a heartbeat orders
  module _ (node : ℕ) (is_caller : node_of caller ≡ Some node) where
    abbrev later : Blocks
    later = heard_of (Some node) facts.now facts.blocks

    abbrev commands : Commands
    commands = commands_to facts caller node

    record IsDue (recovery : Recovery) : Type 0 where
      own : BlockRecord
      there : known_block facts.blocks recovery.block ≡ Some own
      stamp : own.stamp ≡ recovery.stamp
      nodes : recovery.nodes ≡ own.expected
      waited : entry_at recovery.block facts.blocks.queued ≡ None → ⊥
      told : entry_at recovery.block later.queued ≡ None

    recovery_is : (x y : Recovery) → Some x ≡ Some y → x ≡ y
    recovery_is x y e = cc

    due : (block : ℕ) (recovery : Recovery) → IsLed facts.blocks.queued node up block → recovery_by block (known_block facts.blocks block) ≡ Some recovery → IsDue recovery
    due block recovery is e = by (known_block facts.blocks block) refl e
      where
        by : (found : Option BlockRecord) → known_block facts.blocks block ≡ found → recovery_by block found ≡ Some recovery → IsDue recovery
        by None at h = cc
        by (Some own) at h =
            let made : Recovery = record { block = block; stamp = own.stamp; nodes = own.expected } in
            let first : IsDue made = record { own = own; there = at; stamp = refl; nodes = refl; waited = is.waited; told = is.told } in
            subst IsDue (recovery_is made recovery h) first

    all_due : AllByRecursion IsDue (recoveries_for (with_node_heard facts.blocks node facts.now) node)
    all_due = each_found (IsLed facts.blocks.queued node up) IsDue (λ block. recovery_by block (known_block facts.blocks block)) due (queue.led_by node facts.blocks.queued) (all_led facts.blocks.queued node up)

    order_is : (x y : Order) → Some x ≡ Some y → x ≡ y
    order_is x y e = cc

    ordered : (own : Recover) → IsDue (record { block = own.block; stamp = own.stamp; nodes = own.nodes }) → OfOrder (IsNew later) (recover_message node own)
    ordered own is order e =
        let made : Order = record { node = node; block = own.block; stamp = own.stamp; nodes = own.nodes } in
        let first : IsNew later made = record { to_caller = is_caller; own = is.own; there = is.there; stamp = is.stamp; nodes = is.nodes; waited = is.waited; told = is.told } in
        subst (IsNew later) (order_is made order e) first

    all_ordered : AllByRecursion (OfOrder (IsNew later)) (command_messages node commands)
    all_ordered = (
      none later (message.Node node (Keys commands.keys)) refl,
      each_append (OfOrder (IsNew later)) (map (recover_message node) commands.recoveries) (map (removal_message node) commands.removals ++ map (copy_message node) commands.copies)
          (each_of (λ (own : Recover). IsDue (record { block = own.block; stamp = own.stamp; nodes = own.nodes })) (OfOrder (IsNew later)) (recover_message node) ordered commands.recoveries
          (each_of IsDue (λ (own : Recover). IsDue (record { block = own.block; stamp = own.stamp; nodes = own.nodes })) (recover_command facts.token caller) (λ recovery is. is)
          (recoveries_for (with_node_heard facts.blocks node facts.now) node) all_due))
          (each_append (OfOrder (IsNew later)) (map (removal_message node) commands.removals) (map (copy_message node) commands.copies)
          (all_none later (map (removal_message node) commands.removals) (each_map HasNone (removal_message node) (λ (own : Removal). refl) commands.removals))
          (all_none later (map (copy_message node) commands.copies) (each_map HasNone (copy_message node) (λ (own : CopyOrder). refl) commands.copies))),
    )

  heartbeat_orders : (found : Option ℕ) → node_of caller ≡ found → Orders (heard_of found facts.now facts.blocks) found (heartbeat_reply facts caller found)
  heartbeat_orders None e = tt
  heartbeat_orders (Some node) e = all_ordered node e

  -- other replies have none
  abbrev has_commands : Reply → Bool
  has_commands (reply.Commands own) = true
  has_commands _ = false

  quiet : (later : Blocks) (found : Option ℕ) (told : Reply) → has_commands told ≡ false → Orders later found told
  quiet later (Some node) (reply.Commands commands) h = cc
  quiet later _ told h = tt

  no_status : (at : Option Row) → has_commands (status_of at) ≡ false
  no_status None = refl
  no_status (Some row) = refl

  no_acl : (at : Option Row) → has_commands (acl_status_of at) ≡ false
  no_acl None = refl
  no_acl (Some row) = refl

  no_append : (holder : Option (List ℕ)) (block : Option ℕ) → has_commands (appended_reply facts.blocks holder block) ≡ false
  no_append None block = refl
  no_append (Some holder) None = refl
  no_append (Some holder) (Some block) = refl

  no_serial : (serial : Option ℕ) → has_commands (serial_reply serial) ≡ false
  no_serial None = refl
  no_serial (Some serial) = refl

  no_block : (last : Option LastBlock) (replication : Option ℕ) → has_commands (added_to facts.token caller facts.blocks last facts.now replication) ≡ false
  no_block last None = refl
  no_block last (Some replication) = refl

  abbrev after : Op → Blocks
  after what = blocks_after facts what caller rows facts.blocks

  orders_by : (what : Op) → Orders (after what) (node_of caller) (reply_of facts caller what rows)
  orders_by (op.Stat path) = quiet (after (op.Stat path)) (node_of caller) (status_of (row_at path rows)) (no_status (row_at path rows))
  orders_by (op.GetAcl path) = quiet (after (op.GetAcl path)) (node_of caller) (acl_status_of (row_at path rows)) (no_acl (row_at path rows))
  orders_by (op.Append path) =
      quiet (after (op.Append path)) (node_of caller) (appended_reply facts.blocks (holder_at (row_at path rows)) (unfinished_at (row_at path rows))) (no_append (holder_at (row_at path rows)) (unfinished_at (row_at path rows)))
  orders_by (op.AddBlock path last) =
      quiet (after (op.AddBlock path last)) (node_of caller) (added_to facts.token caller facts.blocks last facts.now (replication_at (row_at path rows))) (no_block last (replication_at (row_at path rows)))
  orders_by (op.RollKey key) = quiet (after (op.RollKey key)) (node_of caller) (serial_reply facts.next_serial) (no_serial facts.next_serial)
  orders_by op.Heartbeat = heartbeat_orders (node_of caller) refl
  orders_by what = quiet (after what) (node_of caller) (reply_of facts caller what rows) refl

  pub all_new : (users : Users) (what : Op) (verdict : Verdict) → verdict ≡ (step facts rows users caller what).verdict
      → AllByRecursion (OfOrder (IsNew (blocks_by facts what caller verdict rows facts.blocks))) (sent_by (node_of caller) verdict)
  all_new users what (Done told) is =
      subst (λ (own : Reply). Orders (after what) (node_of caller) own) (sym (was_done facts rows users caller what told is).told_is) (orders_by what)
  all_new users what (Denied denial) is = tt
  all_new users what (Refused refusal) is = tt

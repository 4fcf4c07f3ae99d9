-- The entries of first lines are the first entries of all lines.
use Rattle.std.proofs.Common.{◌≡◌, ◌≤◌, ℕ, zero, suc, ◌+◌, Bool, true, false, List, [], ◌∷◌, ◌++◌, take, length, reverse, Option, Some, None, Result, Ok, Err, refl, sym, ap, ◌∙◌, arith, append_assoc, subst}
use Rattle.std.specs.Prelude.{fold, OnOk, OnErr, if◌then◌else◌}
use Rattle.std.proofs.lemmas.List.{take_all, take-append-le, length-append, length-reverse, reverse-append}
use Rattle.block_records.specs.Numbers.{entry_at}
use Rattle.hdfs_values.specs.declared.fault.IllFormed.{IllFormed}
use Rattle.hdfs_types.specs.declared.op.Request.{Request}
use Rattle.history.specs.declared.entry.HistoryEntry.{HistoryEntry}
use Rattle.node_calls.specs.declared.call.NodeCall.{NodeCall}
use Rattle.node_calls.specs.declared.call.PlanCall.{PlanCall}
use Rattle.node_calls.specs.declared.message.Message.{Message}
use Rattle.node_calls.specs.declared.message.Message.TheVariants as message
use Rattle.datanode.specs.NodeStep.{DataNode}
use Rattle.block_recovery.specs.Plans.{PlanTable}
use Rattle.cluster_trace.specs.DataCall.{as_message}
use Rattle.cluster_trace.specs.Trace as trace
use Rattle.cluster_trace.specs.declared.event.Event.{Event}
use Rattle.cluster_trace.specs.declared.event.Event.TheVariants.{Name, Deliver, Data}
use Rattle.cluster_trace.specs.declared.outcome.ClusterRefusal.TheVariants.{NotFromOutside}
use Rattle.cluster_core.specs.Past.{World}
use Rattle.cluster_core.specs.World.{state_after, with_event}
use Rattle.script_words.specs.Words.{lines_of, is_skipped, without_return}
use Rattle.cluster_runs.specs.Output.{State, no_lines, event_in, line_answered, after_answer, after_line, after_lines}
use Rattle.cluster_runs.specs.Audit.{history_after, history_of_script}
use Rattle.cluster_runs.specs.Recorded.{AreFirstOf}

-- entries are only added
record Adds (before after : List HistoryEntry) : Type 0 where
  more : List HistoryEntry
  is : after ≡ more ++ before

adds_none : (entries : List HistoryEntry) → Adds entries entries
adds_none entries = record { more = []; is = refl }

adds_on : (a b c : List HistoryEntry) → Adds a b → Adds b c → Adds a c
adds_on a b c p q = record { more = q.more ++ p.more; is = q.is ∙ ap (λ l. q.more ++ l) p.is ∙ sym (append_assoc q.more p.more a) }

-- ---- one event

adds_named : (state : trace.Cluster) (request : Request) → Adds state.entries (trace.request_named state request).entries
adds_named state request = record { more = trace.entry_of state request ∷ []; is = refl }

adds_called : (state : trace.Cluster) (id now : ℕ) (asked : NodeCall) (found : Option DataNode) → Adds state.entries (trace.called_at state id now asked found).entries
adds_called state id now asked None = adds_none state.entries
adds_called state id now asked (Some node) = adds_none state.entries

adds_led : (state : trace.Cluster) (id : ℕ) (asked : PlanCall) (found : Option PlanTable) → Adds state.entries (trace.led_at state id asked found).entries
adds_led state id asked None = adds_none state.entries
adds_led state id asked (Some plans) = adds_none state.entries

adds_delivered : (state : trace.Cluster) (now : ℕ) (found : Option Message) → Adds state.entries (trace.message_delivered state now found).entries
adds_delivered state now None = adds_none state.entries
adds_delivered state now (Some (message.Node node asked)) = adds_called state node now asked (entry_at node state.nodes)
adds_delivered state now (Some (message.Plan node asked)) = adds_led state node asked (entry_at node state.plans)
adds_delivered state now (Some (message.Reported node block stamp bytes)) = adds_named state (trace.report_request node now block stamp bytes)
adds_delivered state now (Some (message.CommitRecovery node block stamp bytes nodes)) = adds_named state (trace.commit_request node now block stamp bytes nodes)

adds_asked : (state : trace.Cluster) (request : Request) → Adds state.entries (trace.event_happened state (Name request)).entries
adds_asked state request = by (trace.is_from_outside request.op)
  where
    by : (outside : Bool) → Adds state.entries (if outside then trace.request_named state request else trace.event_lost state NotFromOutside).entries
    by true = adds_named state request
    by false = adds_none state.entries

adds_event : (state : trace.Cluster) (event : Event) → Adds state.entries (trace.event_happened state event).entries
adds_event state (Name request) = adds_asked state request
adds_event state (Deliver number now) = adds_delivered state now (trace.message_at number state.messages)
adds_event state (Data node now asked) = adds_delivered state now (Some (as_message node asked))

-- ---- lines

-- what a past leaves of the NameNode's entries
abbrev entries_after : World → List HistoryEntry
entries_after past = (state_after past).entries

adds_said : (state : State) (said : Result Event IllFormed) → Adds (entries_after state.past) (entries_after (after_answer state (line_answered state.past said)).past)
adds_said state (Ok event) = adds_event (state_after state.past) event
adds_said state (Err fault) = adds_none (entries_after state.past)

adds_line : (state : State) (line : List ℕ) → Adds (entries_after state.past) (entries_after (after_line state line).past)
adds_line state line = by (is_skipped (without_return line))
  where
    by : (skipped : Bool)
        → Adds (entries_after state.past) (entries_after (if skipped then record state { number = state.number + 1 } else after_answer state (line_answered state.past (event_in state.past (without_return line)))).past)
    by true = adds_none (entries_after state.past)
    by false = adds_said state (event_in state.past (without_return line))

adds_lines : (state : State) (lines : List (List ℕ)) → Adds (entries_after state.past) (entries_after (fold after_line state lines).past)
adds_lines state [] = adds_none (entries_after state.past)
adds_lines state (line ∷ lines) =
    adds_on (entries_after state.past) (entries_after (after_line state line).past) (entries_after (fold after_line (after_line state line) lines).past)
    (adds_line state line)
    (adds_lines (after_line state line) lines)

adds_behind : (state : State) (lines : List (List ℕ)) (count : ℕ) → Adds (entries_after (fold after_line state (take count lines)).past) (entries_after (fold after_line state lines).past)
adds_behind state lines zero = adds_lines state lines
adds_behind state [] (suc count) = adds_none (entries_after state.past)
adds_behind state (line ∷ lines) (suc count) = adds_behind (after_line state line) lines count

-- ---- histories

first_of : (early more late : List HistoryEntry) → late ≡ more ++ early → AreFirstOf (reverse late) (reverse early)
first_of early more late is =
    let whole : reverse late ≡ reverse early ++ reverse more = ap reverse is ∙ reverse-append more early in
    let size : ℕ = length (reverse early) in
    record {
      within = omega (arith, ap length whole, length-append (reverse early) (reverse more));
      are = sym (ap (take size) whole ∙ take-append-le size (reverse early) (reverse more) (omega arith) ∙ take_all size (reverse early) (omega arith));
    }

-- what the first lines of a script leave
pub first_lines : (script : List ℕ) (count : ℕ) (past : World) → past ≡ (after_lines (take count (lines_of script))).past → AreFirstOf (history_of_script script) (history_after past)
first_lines script count past is =
    let rest = adds_behind no_lines (lines_of script) count in
    subst (λ (early : World). AreFirstOf (history_of_script script) (history_after early)) (sym is)
    (first_of (entries_after (after_lines (take count (lines_of script))).past) rest.more (entries_after (after_lines (lines_of script)).past) rest.is)

-- all of them are
pub all_first : (history entries : List HistoryEntry) → entries ≡ history → AreFirstOf history entries
all_first history entries is =
    let count : length entries ≡ length history = ap length is in
    record { within = omega (arith, count); are = is ∙ sym (take_all (length entries) history (omega (arith, count))) }

pub first_or_all : {S E : Type 0} (ended : Result S E) (history entries : List HistoryEntry) → OnOk ended (entries ≡ history) → OnErr ended (AreFirstOf history entries) → AreFirstOf history entries
first_or_all (Ok s) history entries ok err = all_first history entries ok
first_or_all (Err e) history entries ok err = err

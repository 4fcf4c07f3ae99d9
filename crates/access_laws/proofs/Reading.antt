-- What a reader is told is held.
use Rattle.std.proofs.Common.{◌≡◌, ℕ, ◌+◌, ◌==◌, ◌≤◌, false, not, nat_lt, List, ◌++◌, length, take, drop, Option, Some, None, Result, Ok, refl, sym, ap, subst, ◌∙◌, arith}
use Rattle.std.proofs.lemmas.Bool.{eqb-true, ltb-false}
use Rattle.std.proofs.lemmas.List.{take-append-drop, length-take-le, length-append}
use Rattle.block_tokens.specs.TokenTest.{token_test}
use Rattle.call_parts.specs.declared.presented.Presented.{Presented}
use Rattle.node_calls.specs.declared.call.NodeCall.TheVariants.{Presenting}
use Rattle.node_calls.specs.declared.call.ReplicaState.{ReplicaState}
use Rattle.node_calls.specs.declared.call.ReplicaState.TheVariants.{Writing, Finalized}
use Rattle.node_calls.specs.declared.call.TokenCall.TheVariants as call
use Rattle.node_calls.specs.declared.refusal.NodeRefusal.{NodeRefusal}
use Rattle.node_calls.specs.declared.refusal.ReplicaRefusal.TheVariants.{NoReplica, StampDiffers, OutOfRange}
use Rattle.node_calls.specs.declared.reply.NodeReply.{NodeReply}
use Rattle.node_calls.specs.declared.reply.NodeReply.TheVariants as reply
use Rattle.replica_steps.specs.ReplicaState.{is_writing}
use Rattle.replica_steps.specs.ReplicaStep.{held_at, own, refused_or_later, replica_refusal}
use Rattle.replica_steps.specs.declared.replica.Replica.{Replica}
use Rattle.datanode.specs.NodeStep.{DataNode, node_answer, presented_answer, told_by, clock_with, call_refusal, access_of}
use Rattle.datanode.proofs.Steps.{passed, not_so, never}
use Rattle.datanode.proofs.Nodes.{replica_passes}
use Rattle.access_laws.specs.Laws.{IsPart, IsOfReplica}

part_of : (bytes : List ℕ) (offset count : ℕ) → offset + count ≤ length bytes → IsPart bytes (take count (drop offset bytes)) offset count
part_of bytes offset count within =
    let sizes : length (take offset bytes) + length (drop offset bytes) ≡ length bytes = sym (length-append (take offset bytes) (drop offset bytes)) ∙ ap length (take-append-drop offset bytes) in
    let front : length (take offset bytes) ≡ offset = length-take-le offset bytes (omega (arith, within)) in
    record {
      before = take offset bytes;
      behind = drop count (drop offset bytes);
      parted = sym (take-append-drop offset bytes) ∙ ap (λ rest. take offset bytes ++ rest) (sym (take-append-drop count (drop offset bytes)));
      begins = front;
      long = length-take-le count (drop offset bytes) (omega (arith, within, sizes, front));
    }

told_is : (bytes told : List ℕ) → ◌≡◌ {A = Result NodeReply NodeRefusal} (Ok (reply.Read bytes)) (Ok (reply.Read told)) → bytes ≡ told
told_is bytes told e = cc

finalized : (state : ReplicaState) → is_writing state ≡ false → state ≡ Finalized
finalized Writing e = cc
finalized Finalized e = refl

of_replica : (limit stamp offset count promised : ℕ) (held : Option Replica) (told : List ℕ) → replica_refusal limit (call.Read offset count) stamp (record { replica = held; promised = promised }) ≡ None
    → take count (drop offset (own (record { replica = held; promised = promised })).bytes) ≡ told → IsOfReplica held stamp offset count told
of_replica limit stamp offset count promised None told e is = absurd (never NoReplica e)
of_replica limit stamp offset count promised (Some replica) told e is =
    let one = passed (is_writing replica.state) NoReplica (refused_or_later (not (stamp == replica.stamp)) (StampDiffers replica.stamp) (refused_or_later (nat_lt (length replica.bytes) (offset + count)) OutOfRange None)) e in
    let two = passed (not (stamp == replica.stamp)) (StampDiffers replica.stamp) (refused_or_later (nat_lt (length replica.bytes) (offset + count)) OutOfRange None) one.1 in
    let three = passed (nat_lt (length replica.bytes) (offset + count)) OutOfRange None two.1 in
    let part : IsPart replica.bytes (take count (drop offset replica.bytes)) offset count = part_of replica.bytes offset count (omega (arith, ltb-false (length replica.bytes) (offset + count) three.0)) in
    record {
      replica = replica;
      stands = refl;
      finalized = finalized replica.state one.0;
      stamp_is = sym (eqb-true stamp replica.stamp (not_so (stamp == replica.stamp) two.0));
      part = subst (λ t. IsPart replica.bytes t offset count) is part;
    }

pub read_is_held : (node : DataNode) (now : ℕ) (given : Presented) (offset count : ℕ) (told : List ℕ) → (node_answer node now (Presenting given (call.Read offset count))).result ≡ Ok (reply.Read told)
    → IsOfReplica (held_at given.block node.blocks).replica given.stamp offset count told
unfolding node_answer presented_answer
read_is_held node now given offset count told e = by (call_refusal node (clock_with node now) given (call.Read offset count)) refl e
  where
    by : (refused : Option NodeRefusal) → call_refusal node (clock_with node now) given (call.Read offset count) ≡ refused → (told_by node given (call.Read offset count) refused).result ≡ Ok (reply.Read told)
        → IsOfReplica (held_at given.block node.blocks).replica given.stamp offset count told
    by (Some refusal) is h = cc
    by None is h =
        of_replica node.limit given.stamp offset count (held_at given.block node.blocks).promised (held_at given.block node.blocks).replica told
        (replica_passes (token_test node.keys (access_of (clock_with node now) given (call.Read offset count)) given.token)
        (replica_refusal node.limit (call.Read offset count) given.stamp (held_at given.block node.blocks)) is)
        (told_is (take count (drop offset (own (held_at given.block node.blocks)).bytes)) told h)

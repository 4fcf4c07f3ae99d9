use Rattle.std.proofs.Common.{◌≡◌, ◌<◌, None, slice_index, rules, sym, ap, subst, ◌∙◌}
use Rattle.std.proofs.lemmas.Map.Steps.{set_value_same}
use Rattle.std.specs.Map.{set_value}
use Rattle.block_records.specs.Numbers.{is_number}
use Rattle.block_tokens.specs.TokenTest.{token_test}
use Rattle.replica_steps.specs.ReplicaStep.{Replicas, replica_refusal}
use Rattle.replica_steps.specs.declared.held.Held.{Held}
use Rattle.datanode.specs.Kept.{AreBelow, AreCovered}
use Rattle.datanode.specs.NodeStep.{DataNode, access_of, call_refusal, presented_by, told_by}
use Rattle.datanode.specs.Served.{held_by}
use Rattle.datanode.proofs.Served.{left, told, served_below, served_covered}
use Rattle.datanode.proofs.datanode.DataNode.serve_taken.Goals as goal

abbrev node_of : goal.In_ok-answered → DataNode
node_of c = record { id = c.self.inside.id; limit = c.self.inside.limit; clock = c.self.inside.clock; keys = c.self.inside.keys; blocks = c.self.inside.replicas; log = c.self.inside.log }

taken : (c : goal.In_ok-answered) → token_test (node_of c).keys (access_of c.args.clock c.args.presented.now c.args.call.now) c.args.presented.now.token ≡ None
taken c = subst (λ (own : DataNode). token_test own.keys (access_of c.args.clock c.args.presented.now c.args.call.now) c.args.presented.now.token ≡ None) (sym c.self.view_is) c.requires

leaves : (c : goal.In_ok-answered) → record (node_of c) { blocks = set_value (is_number c.args.presented.now.block) c.self.inside.replicas c.serve_held.new.held; log = c.serve_held.new.log } ≡ presented_by (node_of c) c.args.clock c.args.presented.now c.args.call.now (call_refusal (node_of c) c.args.clock c.args.presented.now c.args.call.now)
leaves c =
    let node = node_of c in
    ap (λ (held : Held). record node { blocks = set_value (is_number c.args.presented.now.block) c.self.inside.replicas held; log = c.serve_held.new.log }) c.in_ok-answered.ensures.held
    ∙ (ap (λ log. record node { blocks = set_value (is_number c.args.presented.now.block) c.self.inside.replicas (held_by c.args.call.now c.args.presented.now.stamp c.in-Some.held.now (replica_refusal node.limit c.args.call.now c.args.presented.now.stamp c.in-Some.held.now)); log = log }) c.in_ok-answered.ensures.noted
    ∙ left node c.args.clock c.args.presented.now c.args.call.now (taken c) c.in-Some.held.now c.in-Some.ensures.value c.get_mut.ensures.ascending)

pub invariant_of-self-2 : goal.invariant_of-self-2
invariant_of-self-2 c =
    let node = node_of c in
    record {
      principal = c.self.invariant.principal;
      covered = subst AreCovered (sym (ap (λ (own : DataNode). own.log) (leaves c)))
          (served_covered node c.args.clock c.args.presented.now c.args.call.now (λ i. subst (λ token. slice_index token i < 256) c.as_bytes.ensures (c.read_bytes.ensures i)) c.self.invariant.covered);
      below = subst AreBelow (sym (ap (λ (own : DataNode). own.blocks) (leaves c))) (served_below node c.args.clock c.args.presented.now c.args.call.now c.self.invariant.below);
    }

pub returns-clause-ok : goal.returns-clause-ok
returns-clause-ok c = leaves c ∙ ap (λ (own : DataNode). presented_by own c.args.clock c.args.presented.now c.args.call.now (call_refusal own c.args.clock c.args.presented.now c.args.call.now)) c.self.view_is

pub returns-clause-answer : goal.returns-clause-answer
returns-clause-answer c =
    c.in_ok-answered.ensures.answer
    ∙ (told (node_of c) c.args.clock c.args.presented.now c.args.call.now (taken c) c.in-Some.held.now c.in-Some.ensures.value c.get_mut.ensures.ascending
    ∙ ap (λ (own : DataNode). told_by own c.args.presented.now c.args.call.now (call_refusal own c.args.clock c.args.presented.now c.args.call.now)) c.self.view_is)

same : (c : goal.After-from_residual) → set_value (is_number c.args.presented.now.block) c.self.inside.replicas c.serve_held.new.held ≡ c.self.inside.replicas
same c =
    ap (set_value (is_number c.args.presented.now.block) c.self.inside.replicas) c.in_err-answered.ensures.held_err
    ∙ set_value_same (is_number c.args.presented.now.block) c.self.inside.replicas c.in-Some.held.now (sym c.in-Some.ensures.value)

pub invariant_of-self-in_err-answered : goal.invariant_of-self-in_err-answered
invariant_of-self-in_err-answered c = record {
  principal = c.self.invariant.principal;
  covered = subst AreCovered (sym c.in_err-answered.ensures.log_err) c.self.invariant.covered;
  below = subst AreBelow (sym (same c)) c.self.invariant.below;
}

pub returns-in_err-answered-clause-err : goal.returns-in_err-answered-clause-err
returns-in_err-answered-clause-err c =
    let node : DataNode = record { id = c.self.inside.id; limit = c.self.inside.limit; clock = c.self.inside.clock; keys = c.self.inside.keys; blocks = c.self.inside.replicas; log = c.self.inside.log } in
    let kept : record node { blocks = set_value (is_number c.args.presented.now.block) c.self.inside.replicas c.serve_held.new.held; log = c.serve_held.new.log } ≡ c.args.self.now =
    ap (λ (blocks : Replicas). record node { blocks = blocks; log = c.serve_held.new.log }) (same c)
    ∙ (ap (λ log. record node { log = log }) c.in_err-answered.ensures.log_err
    ∙ c.self.view_is) in
    search (rules, kept)

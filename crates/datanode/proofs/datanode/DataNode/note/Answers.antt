use Rattle.std.proofs.Common.{◌≡◌, ◌<◌, ◌++◌, ◌∷◌, [], None, slice_index, sym, ap, subst, ◌∙◌}
use Rattle.replica_steps.specs.ReplicaStep.{held_at}
use Rattle.replicas.specs.Asking.{record_of}
use Rattle.datanode.specs.Kept.{AreBelow, AreCovered}
use Rattle.datanode.specs.NodeStep.{DataNode, call_refusal}
use Rattle.datanode.proofs.Kept.{applied_below, noted_covered}
use Rattle.datanode.proofs.datanode.DataNode.note.Goals as goal

pub invariant_of-self-in-Ok : goal.invariant_of-self-in-Ok
invariant_of-self-in-Ok c =
    let node : DataNode = record {
      id = c.self.inside.id;
      limit = c.self.inside.limit;
      clock = c.self.inside.clock;
      keys = c.self.inside.keys;
      blocks = c.self.inside.replicas;
      log = c.self.inside.log;
    } in
    let allowed : call_refusal node c.args.clock c.args.presented.now c.args.call.now ≡ None =
    subst (λ (own : DataNode). call_refusal own c.args.clock c.args.presented.now c.args.call.now ≡ None) (sym c.self.view_is) c.requires.allowed in
    let logged : c.push.new.self ≡ node.log ++ record_of node.id c.args.clock c.args.presented.now c.args.call.now (held_at c.args.presented.now.block node.blocks) ∷ [] =
    c.in_ok-push.ensures.ok ∙ ap (λ entry. c.self.inside.log ++ entry ∷ [])
    (c.requires.noted ∙ ap (λ (own : DataNode). record_of own.id c.args.clock c.args.presented.now c.args.call.now (held_at c.args.presented.now.block own.blocks)) (sym c.self.view_is)) in
    record {
      principal = c.self.invariant.principal;
      covered = subst AreCovered (sym logged)
          (noted_covered node c.args.clock c.args.presented.now c.args.call.now allowed (λ i. subst (λ token. slice_index token i < 256) c.as_bytes.ensures (c.read_bytes.ensures i)) c.self.invariant.covered);
      below = subst AreBelow (sym c.in-Ok.ensures.ok) (applied_below node c.args.clock c.args.presented.now c.args.call.now allowed c.self.invariant.below);
    }

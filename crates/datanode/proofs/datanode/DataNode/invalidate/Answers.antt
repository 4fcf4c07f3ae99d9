use Rattle.std.proofs.Common.{sym, subst}
use Rattle.datanode.specs.Kept.{AreBelow}
use Rattle.datanode.proofs.Kept.{removed_below}
use Rattle.datanode.proofs.datanode.DataNode.invalidate.Goals as goal

pub invariant_of-self : goal.invariant_of-self
invariant_of-self c = record {
  principal = c.self.invariant.principal;
  covered = c.self.invariant.covered;
  below = subst AreBelow (sym c.remove.ensures) (removed_below c.args.block c.self.inside.replicas c.self.invariant.below);
}

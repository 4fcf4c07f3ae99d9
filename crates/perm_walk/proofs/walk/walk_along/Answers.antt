use Rattle.std.proofs.Common.{◌∙◌, sym, subst}
use Rattle.std.specs.List.{flat_map}
use Rattle.flat_rows.specs.Decision.{asks_of}
use Rattle.perm_walk.specs.Reached.{IsReach}
use Rattle.perm_walk.proofs.Denials.{superuser_meets}
use Rattle.perm_walk.proofs.walk.walk_along.Goals as goal

pub returns-then-is_superuser : goal.returns-then-is_superuser
returns-then-is_superuser c = record {
  granted =
      sym (superuser_meets c.args.caller.now (sym c.is_superuser.ensures ∙ c.if-is_superuser.true)
      (flat_map (asks_of c.args.tree.now) c.args.needs.now));
  leads = subst (λ path. IsReach path c.args.tree.now c.follow.result) c.names.ensures.names c.follow.ensures;
}

use Rattle.std.proofs.Common.{◌∙◌, sym}
use Rattle.namespace_rows.proofs.PathOrders.{same_path_is}
use Rattle.perm_walk.proofs.walk.denial_on_either.Goals as goal

pub denial_by-requires-clause-on : goal.denial_by-requires-clause-on
denial_by-requires-clause-on c = sym c.path-path.ensures.path ∙ same_path_is c.path-path.result.now c.args.from.now.path.now (sym c.is_same.ensures ∙ c.if-is_same.true)

pub denial_by-requires-then-is_same-2-clause-on : goal.denial_by-requires-then-is_same-2-clause-on
denial_by-requires-then-is_same-2-clause-on c = sym c.path-path.ensures.path ∙ same_path_is c.path-path.result.now c.args.to.now.path.now (sym c.is_same-2.ensures ∙ c.if-is_same-2.true)

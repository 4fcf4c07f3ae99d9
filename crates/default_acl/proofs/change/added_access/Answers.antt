use Rattle.std.proofs.Common.{sym, subst}
use Rattle.permission_specs.specs.declared.entry.Scope.TheVariants.{Access}
use Rattle.partial_acl.specs.Answers.{IsPartialList}
use Rattle.default_acl.proofs.Partials.{added_good}
use Rattle.default_acl.proofs.change.added_access.Goals as goal

pub kept-requires-clause-list : goal.kept-requires-clause-list
kept-requires-clause-list c = subst IsPartialList (sym c.in_ok-list.ensures.ok) (added_good Access c.args.spec.now c.args.staying c.requires)

use Rattle.std.proofs.Common.{sym, subst}
use Rattle.permission_specs.specs.declared.entry.Scope.TheVariants.{Default}
use Rattle.partial_acl.specs.Answers.{IsPartialList}
use Rattle.default_acl.proofs.Partials.{added_good}
use Rattle.default_acl.proofs.change.added_default.Goals as goal

pub completed-requires-clause-list : goal.completed-requires-clause-list
completed-requires-clause-list c = subst IsPartialList (sym c.in_ok-list.ensures.ok) (added_good Default c.args.spec.now c.args.staying c.requires)

use Rattle.std.proofs.Common.{sym, subst}
use Rattle.permission_specs.specs.declared.entry.Scope.TheVariants.{Access}
use Rattle.partial_acl.specs.AclChange.{all_of}
use Rattle.partial_acl.specs.Answers.{IsPartialList}
use Rattle.default_acl.proofs.Partials.{all_good, removed_good}
use Rattle.default_acl.proofs.change.access_after.Goals as goal

pub added_access-requires-in-Modify : goal.added_access-requires-in-Modify
added_access-requires-in-Modify c = subst IsPartialList (sym c.in_ok-all_of-in-Modify.ensures.all) (all_good c.args.old.now c.all_of.ensures.entries)

pub kept-requires-clause-list : goal.kept-requires-clause-list
kept-requires-clause-list c =
    subst IsPartialList (sym c.in_ok-list-in-Remove.ensures.left) (removed_good Access c.args.spec.now (all_of c.args.old.now) (all_good c.args.old.now c.without.ensures.entries))

use Rattle.std.proofs.Common.{sym, subst, ◌∙◌}
use Rattle.permission_specs.specs.declared.entry.Scope.TheVariants.{Default}
use Rattle.partial_acl.specs.AclChange.{all_of, after_removal}
use Rattle.partial_acl.specs.Answers.{IsPartialList}
use Rattle.default_acl.proofs.Partials.{all_good, removed_good, some_left}
use Rattle.default_acl.proofs.change.default_left.Goals as goal

pub completed-requires-clause-list : goal.completed-requires-clause-list
completed-requires-clause-list c =
    subst IsPartialList (sym c.in_ok-list.ensures.left) (removed_good Default c.args.spec.now (all_of c.args.old.now) (all_good c.args.old.now c.without.ensures.entries))

pub returns : goal.returns
returns c =
    some_left c.args.old.now c.args.access.now c.in_ok-completed.field-0 (after_removal Default c.args.spec.now (all_of c.args.old.now)) c.in_ok-list.list c.in_ok-list.ensures.left
    (sym c.is_empty.ensures ∙ c.if-is_empty.false) c.in_ok-completed.ensures

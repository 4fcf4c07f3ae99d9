use Rattle.std.proofs.Common.{◌≡◌, ◌∙◌, [], ◌∷◌, Some, None, is_some, unwrap_or, refl, sym, ap}
use Rattle.std.specs.Map.{lookup}
use Rattle.hdfs_values.specs.Text.{same}
use Rattle.hdfs_types.specs.declared.op.Op.TheVariants as op
use Rattle.namespace_rows.specs.Rows.{row_at}
use Rattle.outcome_laws.proofs.Doing.{left, unrefused}
use Rattle.outcome_laws.proofs.Given.{list_given, owner_given, mode_given, replication_given}
use Rattle.flat_rows.specs.Outcome.{beneath_file, first_some, nothing_at, refused_change}
use Rattle.permission_laws.proofs.Deciding.{or_none}
use Rattle.principals.specs.Users.{Users}
use Rattle.permission_laws.specs.Attempt.{attempt_step}
use Rattle.permission_laws.proofs.Endings.{ended, done, unchanged_users}
use Rattle.outcome_laws.proofs.Groups.{given, others_keep, super_names_stay, checking_asked, checking_unasked, users_either_way}
use Rattle.outcome_laws.proofs.laws.what_is_given_stands.Goals as goal

pub returns-clause-owners : goal.returns-clause-owners
returns-clause-owners c = λ a path owner group row later is_done asked at after.
    owner_given path a.rows owner group row later at (ap (row_at path) (sym (left a (op.SetOwner path owner group) asked is_done)) ∙ after)

pub returns-clause-replications : goal.returns-clause-replications
returns-clause-replications c = λ a path replication later file is_done asked after is.
    replication_given path a.rows replication later file (ap (row_at path) (sym (left a (op.SetReplication path replication) asked is_done)) ∙ after) is

pub returns-clause-modes : goal.returns-clause-modes
returns-clause-modes c = λ a path mode later valid is_done asked after.
    mode_given path a.rows mode later valid (ap (row_at path) (sym (left a (op.SetMode path mode) asked is_done)) ∙ after)

pub returns-clause-lists : goal.returns-clause-lists
returns-clause-lists c = λ a path change row later is_done asked at after.
    let none = or_none (beneath_file path a.rows) (first_some (nothing_at (row_at path a.rows) ∷ refused_change change (row_at path a.rows) ∷ [])) (unrefused a (op.SetAcl path change) asked is_done) in
    let rest = or_none (nothing_at (row_at path a.rows)) (first_some (refused_change change (row_at path a.rows) ∷ [])) none.1 in
    list_given path a.rows change row later at (or_none (refused_change change (row_at path a.rows)) None rest.1).0 (ap (row_at path) (sym (left a (op.SetAcl path change) asked is_done)) ∙ after)

pub returns-clause-groups : goal.returns-clause-groups
returns-clause-groups c = λ a user groups is_done is.
    let found : lookup (same user) (attempt_step a).users.known ≡ Some groups =
    ap (λ (users : Users). lookup (same user) users.known) ((ended a.facts a.rows a.users a.caller a.op).users_left is_done)
    ∙ given user groups a.facts a.caller a.rows a.users a.op (done a.facts a.rows a.users a.caller a.op is_done).unrefused is in
    (ap is_some found, ap (λ o. unwrap_or o []) found)

pub returns-clause-others : goal.returns-clause-others
returns-clause-others c = λ a user other groups is apart.
    let kept : lookup (same other) (attempt_step a).users.known ≡ lookup (same other) a.users.known =
    users_either_way a.facts a.rows a.users a.caller a.op (λ users. lookup (same other) users.known ≡ lookup (same other) a.users.known) refl (others_keep user groups a.users a.op other is apart) in
    (ap is_some kept, ap (λ o. unwrap_or o []) kept)

pub returns-clause-names : goal.returns-clause-names
returns-clause-names c = λ a.
    users_either_way a.facts a.rows a.users a.caller a.op (λ users. (users.superuser ≡ a.users.superuser) × (users.supergroup ≡ a.users.supergroup)) (refl, refl) (super_names_stay a.users a.op)

pub returns-clause-checking : goal.returns-clause-checking
returns-clause-checking c = λ a on is_done asked.
    ap (λ (users : Users). users.checking) ((ended a.facts a.rows a.users a.caller a.op).users_left is_done) ∙ checking_asked a.users a.op on asked

pub returns-clause-unasked : goal.returns-clause-unasked
returns-clause-unasked c = λ a. (
  λ unasked. users_either_way a.facts a.rows a.users a.caller a.op (λ users. users.checking ≡ a.users.checking) refl (checking_unasked a.users a.op unasked),
  λ undone. ap (λ (users : Users). users.checking) (unchanged_users a.facts a.rows a.users a.caller a.op undone),
)

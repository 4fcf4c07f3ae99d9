use Rattle.std.proofs.Common.{Some, None}
use Rattle.permission_laws.proofs.Endings.{after_is, unchanged, unchanged_users}
use Rattle.permission_laws.proofs.Elsewhere.{stays, appears_nowhere_else}
use Rattle.permission_laws.proofs.laws.other_rows_stay.Goals as goal

pub returns-clause-stay : goal.returns-clause-stay
returns-clause-stay c = λ a path row namespace apart there.
    after_is a.facts a.rows a.users a.caller a.op path (Some row) there (λ unrefused. stays a.rows path a.facts a.users a.caller namespace a.op row unrefused apart there)

pub returns-clause-appear : goal.returns-clause-appear
returns-clause-appear c = λ a path namespace apart not_above there.
    after_is a.facts a.rows a.users a.caller a.op path None there (λ unrefused. appears_nowhere_else a.rows path a.facts a.users a.caller namespace a.op apart not_above there)

pub returns-clause-undone : goal.returns-clause-undone
returns-clause-undone c = λ a undone. (unchanged a.facts a.rows a.users a.caller a.op undone, unchanged_users a.facts a.rows a.users a.caller a.op undone)

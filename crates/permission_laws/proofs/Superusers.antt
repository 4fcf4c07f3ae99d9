-- A superuser meets every need, and nobody else is one.
use Rattle.std.proofs.Common.{◌≡◌, ◌≢◌, ℕ, Bool, true, false, ◌||◌, List, [], ◌∷◌, Option, Some, None, refl, ap, ◌∙◌, cond}
use Rattle.std.specs.List.{flat_map}
use Rattle.std.specs.Option.{option_or}
use Rattle.hdfs_values.specs.Text.{same}
use Rattle.hdfs_values.proofs.Texts.{same_is}
use Rattle.hdfs_values.specs.Groups.{has_group}
use Rattle.hdfs_types.specs.Request.{is_for_nodes}
use Rattle.hdfs_types.specs.declared.op.Op.{Op}
use Rattle.refusals.specs.declared.refusal.Refusal.{Refusal}
use Rattle.principals.specs.Users.{Users, Caller, caller_of, groups_of, is_super}
use Rattle.namespace_rows.specs.declared.row.Row.{Row}
use Rattle.namespace_rows.specs.First.{first_answer}
use Rattle.required_rights.specs.RequiredRights.{required_rights, judged_needs}
use Rattle.flat_rows.specs.Denial.{denial_at}
use Rattle.flat_rows.specs.Decision.{Ask, asks_of, denial_of, asking_caller, without_rank_where}
use Rattle.flat_rows.specs.Facts.{Facts}
use Rattle.flat_rows.specs.Outcome.{step, denied_or_outcome, refused_or_done, first_refusal}
use Rattle.flat_rows.specs.Verdicts.{is_denied}

none_denied : (caller : Caller) → caller.is_superuser ≡ true → (asks : List Ask) → first_answer (denial_of caller) asks ≡ None
none_denied caller super [] = refl
none_denied caller super (ask ∷ asks) =
    ap (λ s. option_or (cond s None (denial_at ask.need ask.row ask.above caller.name caller.groups)) (first_answer (denial_of caller) asks)) super ∙ none_denied caller super asks

module _ (facts : Facts) (rows : List Row) (users : Users) (caller : List ℕ) (op : Op) where
  pub never_denied : is_super users caller ≡ true → is_for_nodes op ≡ false → is_denied (step facts rows users caller op).verdict ≡ false
  never_denied super plain =
      ap (λ d. is_denied (denied_or_outcome facts rows users caller op d).verdict) (none_denied (asking_caller users caller op) (ap (λ b. (without_rank_where b (caller_of users caller)).is_superuser) plain ∙ super) (flat_map (asks_of rows) (judged_needs users.checking (required_rights op))))
      ∙ by (first_refusal facts caller op rows users)
    where
      by : (o : Option Refusal) → is_denied (refused_or_done facts rows users caller op o).verdict ≡ false
      by None = refl
      by (Some refusal) = refl

pub no_superuser : (users : Users) (user : List ℕ) → user ≢ users.superuser → has_group (groups_of users user) users.supergroup ≡ false → is_super users user ≡ false
no_superuser users user other out = by (same user users.superuser) refl
  where
    by : (b : Bool) → same user users.superuser ≡ b → (b || has_group (groups_of users user) users.supergroup) ≡ false
    by true e = absurd (other (same_is user users.superuser e))
    by false e = out

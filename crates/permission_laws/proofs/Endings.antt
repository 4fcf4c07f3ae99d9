-- What an attempt that is done had, and what it leaves.
use Rattle.std.proofs.Common.{◌≡◌, ℕ, Bool, true, false, List, Option, Some, None, refl, sym, ap, subst, ◌∙◌}
use Rattle.hdfs_types.specs.declared.op.Op.{Op}
use Rattle.hdfs_types.specs.declared.op.Op.TheVariants as op
use Rattle.refusals.specs.declared.refusal.Refusal.{Refusal}
use Rattle.principals.specs.Users.{Users}
use Rattle.namespace_rows.specs.declared.row.Row.{Row}
use Rattle.namespace_rows.specs.Rows.{row_at}
use Rattle.flat_rows.specs.declared.verdict.Verdict.TheVariants.{Denied}
use Rattle.flat_rows.specs.Denial.{Denial}
use Rattle.flat_rows.specs.Decision.{decision}
use Rattle.flat_rows.specs.Facts.{Facts}
use Rattle.flat_rows.specs.Outcome.{step, denied_or_outcome, refused_or_done, first_refusal, rows_after, users_after}
use Rattle.flat_rows.specs.Verdicts.{is_done}
use Rattle.permission_laws.specs.Attempt.{is_about_users}

same_after : (op : Op) → is_about_users op ≡ false → (users : Users) → users_after op users ≡ users
same_after (op.AddUser user groups) h users = cc
same_after (op.SetGroups user groups) h users = cc
same_after (op.SetChecking on) h users = cc
same_after _ h users = refl

module _ (facts : Facts) (rows : List Row) (users : Users) (caller : List ℕ) (op : Op) where
  -- no need fails, nothing refuses it, and the rows are those of the operation
  pub record Done : Type 0 where
    pub allowed : decision rows users caller op ≡ None
    pub unrefused : first_refusal facts caller op rows users ≡ None
    pub left : (step facts rows users caller op).rows ≡ rows_after facts op caller rows

  -- or the rows are as before
  pub record Ended (done : Bool) : Type 0 where
    pub parts : done ≡ true → Done
    pub same : done ≡ false → (step facts rows users caller op).rows ≡ rows
    pub same_users : done ≡ false → (step facts rows users caller op).users ≡ users
    pub users_left : done ≡ true → (step facts rows users caller op).users ≡ users_after op users

  pub ended : Ended (is_done (step facts rows users caller op).verdict)
  ended = by_decision (decision rows users caller op) refl
    where
      by_refusal : (o : Option Refusal) → decision rows users caller op ≡ None → first_refusal facts caller op rows users ≡ o
          → Ended (is_done (refused_or_done facts rows users caller op o).verdict)
      by_refusal None e g = record {
        parts = λ h. record {
          allowed = e;
          unrefused = g;
          left = ap (λ d. (denied_or_outcome facts rows users caller op d).rows) e ∙ ap (λ r. (refused_or_done facts rows users caller op r).rows) g;
        };
        same = λ h. cc;
        same_users = λ h. cc;
        users_left = λ h. ap (λ d. (denied_or_outcome facts rows users caller op d).users) e ∙ ap (λ r. (refused_or_done facts rows users caller op r).users) g;
      }
      by_refusal (Some refusal) e g = record {
        parts = λ h. cc;
        same = λ h. ap (λ d. (denied_or_outcome facts rows users caller op d).rows) e ∙ ap (λ r. (refused_or_done facts rows users caller op r).rows) g;
        same_users = λ h. ap (λ d. (denied_or_outcome facts rows users caller op d).users) e ∙ ap (λ r. (refused_or_done facts rows users caller op r).users) g;
        users_left = λ h. cc;
      }

      by_decision : (o : Option Denial) → decision rows users caller op ≡ o → Ended (is_done (denied_or_outcome facts rows users caller op o).verdict)
      by_decision None e = by_refusal (first_refusal facts caller op rows users) e refl
      by_decision (Some denial) e = record {
        parts = λ h. cc;
        same = λ h. ap (λ d. (denied_or_outcome facts rows users caller op d).rows) e;
        same_users = λ h. ap (λ d. (denied_or_outcome facts rows users caller op d).users) e;
        users_left = λ h. cc;
      }

  pub done : is_done (step facts rows users caller op).verdict ≡ true → Done
  done h = ended.parts h

  pub unchanged : is_done (step facts rows users caller op).verdict ≡ false → (step facts rows users caller op).rows ≡ rows
  unchanged h = ended.same h

  pub unchanged_users : is_done (step facts rows users caller op).verdict ≡ false → (step facts rows users caller op).users ≡ users
  unchanged_users h = ended.same_users h

  -- users change by what is about them alone
  pub users_stay : is_about_users op ≡ false → (step facts rows users caller op).users ≡ users
  users_stay plain = by (is_done (step facts rows users caller op).verdict) refl
    where
      by : (b : Bool) → is_done (step facts rows users caller op).verdict ≡ b → (step facts rows users caller op).users ≡ users
      by true e = ended.users_left e ∙ same_after op plain users
      by false e = unchanged_users e

  -- a denial is the decision
  pub denied : (denial : Denial) → (step facts rows users caller op).verdict ≡ Denied denial → decision rows users caller op ≡ Some denial
  denied denial h = by_decision (decision rows users caller op) h
    where
      by_refusal : (o : Option Refusal) → (refused_or_done facts rows users caller op o).verdict ≡ Denied denial → ⊥
      by_refusal None k = cc
      by_refusal (Some refusal) k = cc

      by_decision : (o : Option Denial) → (denied_or_outcome facts rows users caller op o).verdict ≡ Denied denial → o ≡ Some denial
      by_decision None k = absurd (by_refusal (first_refusal facts caller op rows users) k)
      by_decision (Some other) k = cc

  -- what stands at a path after the attempt, done or not
  pub after_is : (path : List (List ℕ)) (o : Option Row) → row_at path rows ≡ o → (first_refusal facts caller op rows users ≡ None → row_at path (rows_after facts op caller rows) ≡ o) → row_at path (step facts rows users caller op).rows ≡ o
  after_is path o before after = by (is_done (step facts rows users caller op).verdict) refl
    where
      by : (b : Bool) → is_done (step facts rows users caller op).verdict ≡ b → row_at path (step facts rows users caller op).rows ≡ o
      by true e = let parts = done e in ap (row_at path) parts.left ∙ after parts.unrefused
      by false e = ap (row_at path) (unchanged e) ∙ before

  -- what the rows of the operation and the rows as they were have alike, those after the attempt have
  pub either_way : (P : List Row → Type 0) → P rows → P (rows_after facts op caller rows) → P (step facts rows users caller op).rows
  either_way P as_before as_done = by (is_done (step facts rows users caller op).verdict) refl
    where
      by : (b : Bool) → is_done (step facts rows users caller op).verdict ≡ b → P (step facts rows users caller op).rows
      by true e = subst P (sym (done e).left) as_done
      by false e = subst P (sym (unchanged e)) as_before

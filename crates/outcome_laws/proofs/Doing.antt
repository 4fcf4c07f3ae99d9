-- What an attempt that is done wasn't refused by, what it leaves, and what it tells.
use Rattle.std.proofs.Common.{◌≡◌, Option, Some, None, sym, ap, subst, ◌∙◌}
use Rattle.hdfs_types.specs.declared.op.Op.{Op}
use Rattle.hdfs_types.specs.declared.reply.Reply.{Reply}
use Rattle.refusals.specs.declared.refusal.Refusal.{Refusal}
use Rattle.flat_rows.specs.declared.verdict.Verdict.TheVariants.{Done}
use Rattle.flat_rows.specs.Denial.{Denial}
use Rattle.flat_rows.specs.Decision.{decision}
use Rattle.flat_rows.specs.Outcome.{denied_or_outcome, refused_or_done, first_refusal, reply_of, rows_after}
use Rattle.permission_laws.specs.Attempt.{Attempt, attempt_step, IsDone}
use Rattle.permission_laws.proofs.Endings.{done}

module _ (a : Attempt) (what : Op) (asked : a.op ≡ what) where
  pub unrefused : IsDone a → first_refusal a.facts a.caller what a.rows a.users ≡ None
  unrefused is_done = subst (λ o. first_refusal a.facts a.caller o a.rows a.users ≡ None) asked (done a.facts a.rows a.users a.caller a.op is_done).unrefused

  pub left : IsDone a → (attempt_step a).rows ≡ rows_after a.facts what a.caller a.rows
  left is_done = (done a.facts a.rows a.users a.caller a.op is_done).left ∙ ap (λ o. rows_after a.facts o a.caller a.rows) asked

  pub told : (reply : Reply) → (attempt_step a).verdict ≡ Done reply → reply_of a.facts a.caller what a.rows ≡ reply
  told reply h = ap (λ o. reply_of a.facts a.caller o a.rows) (sym asked) ∙ by_decision (decision a.rows a.users a.caller a.op) h
    where
      by_refusal : (o : Option Refusal) → (refused_or_done a.facts a.rows a.users a.caller a.op o).verdict ≡ Done reply → reply_of a.facts a.caller a.op a.rows ≡ reply
      by_refusal None k = cc
      by_refusal (Some refusal) k = cc

      by_decision : (o : Option Denial) → (denied_or_outcome a.facts a.rows a.users a.caller a.op o).verdict ≡ Done reply → reply_of a.facts a.caller a.op a.rows ≡ reply
      by_decision None k = by_refusal (first_refusal a.facts a.caller a.op a.rows a.users) k
      by_decision (Some denial) k = cc

  -- what an attempt that is done is answered
  pub answered : IsDone a → (attempt_step a).verdict ≡ Done (reply_of a.facts a.caller what a.rows)
  answered is_done =
      let parts = done a.facts a.rows a.users a.caller a.op is_done in
      ap (λ d. (denied_or_outcome a.facts a.rows a.users a.caller a.op d).verdict) parts.allowed ∙ ap (λ r. (refused_or_done a.facts a.rows a.users a.caller a.op r).verdict) parts.unrefused
      ∙ ap (λ o. Done (reply_of a.facts a.caller o a.rows)) asked

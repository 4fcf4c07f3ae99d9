use Rattle.std.proofs.Common.{◌≡◌, ap, subst}
use Rattle.std.specs.Bool.{Decides}
use Rattle.flat_rows.specs.declared.verdict.Verdict.{Verdict}
use Rattle.history.specs.declared.entry.Answer.{Answer}
use Rattle.history_replay.proofs.replay.is_told.Goals as goal

pub returns : goal.returns
returns c =
    subst (λ (verdict : Verdict). Decides c.is_same_verdict-told.result (c.args.answer.now.verdict ≡ verdict)) (ap (λ (own : Answer). own.verdict) c.in_ok-own.ensures) c.is_same_verdict-told.ensures

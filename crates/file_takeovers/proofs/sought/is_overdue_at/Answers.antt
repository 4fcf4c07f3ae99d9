use Rattle.std.proofs.Common.{ap, sym, ◌∙◌}
use Rattle.file_takeovers.specs.Expiry.{sought_by}
use Rattle.file_takeovers.proofs.sought.is_overdue_at.Goals as goal

pub returns-in-Some : goal.returns-in-Some
returns-in-Some c = λ past is. ap (sought_by (record { past = past; retry = c.args.retry; now = c.args.now })) (sym c.in-Some.ensures) ∙ c.is_overdue.ensures past is

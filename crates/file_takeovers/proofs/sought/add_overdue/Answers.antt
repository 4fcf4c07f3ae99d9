use Rattle.std.proofs.Common.{ap, ◌∙◌}
use Rattle.namespace_rows.specs.Rows.{row_at}
use Rattle.file_takeovers.specs.Expiry.{Expiry, sought_at}
use Rattle.file_takeovers.proofs.sought.add_overdue.Goals as goal

pub returns-clause-some : goal.returns-clause-some
returns-clause-some c = λ past all.
    let expiry : Expiry = record { past = past; retry = c.args.retry; now = c.args.now } in
    c.add.ensures.some expiry c.args.tree.now (ap (λ path. sought_at expiry (row_at path c.args.tree.now)) c.in_ok-path.ensures.cases ∙ c.is_overdue_at.ensures past c.if-not-is_overdue_at.false) all

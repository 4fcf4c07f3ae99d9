use Rattle.std.proofs.Common.{◌≡◌, true}
use Rattle.namespace_rows.specs.Rows.{row_at}
use Rattle.permission_laws.proofs.Endings.{either_way}
use Rattle.outcome_laws.specs.Laws.{has_open}
use Rattle.outcome_laws.proofs.Writing.{open_before}
use Rattle.outcome_laws.proofs.Keeping.{open_behind}
use Rattle.outcome_laws.proofs.laws.live_writers_keep_their_files.Goals as goal

pub returns-clause-asked : goal.returns-clause-asked
returns-clause-asked c = λ a path client plain unasked after.
    either_way a.facts a.rows a.users a.caller a.op (λ some. has_open client (row_at path some) ≡ true → has_open client (row_at path a.rows) ≡ true)
    (λ h. h) (λ h. open_before client path a.caller a.facts a.rows a.op plain unasked h) after

pub returns-clause-kept : goal.returns-clause-kept
returns-clause-kept c = λ a path client namespace live fresh other stands held. open_behind client a.caller other path a.facts live fresh a.rows a.users namespace held a.op stands

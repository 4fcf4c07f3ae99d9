use Rattle.std.proofs.Common.{rules}
use Rattle.namespace_rows.proofs.file_row.recovers.Goals as goal

pub returns-in-Recovering : goal.returns-in-Recovering
returns-in-Recovering c = search rules

use Rattle.std.proofs.Common.{rules}
use Rattle.script_runs.proofs.script.read_script.Goals as goal

pub returns-in-Err-CannotRead-clause-not_text : goal.returns-in-Err-CannotRead-clause-not_text
returns-in-Err-CannotRead-clause-not_text g c = search rules

-- How a script that was run to its end has ended.
use Rattle.std.specs.Prelude.{Bool, true, false}
use Rattle.script_runs.specs.declared.script.Status.{Status}
use Rattle.script_runs.specs.declared.script.Status.TheVariants as status

-- with an ill-formed line, or with none
abbrev pub status_by : Bool → Status
status_by true = status.IllFormed
status_by false = status.Clean

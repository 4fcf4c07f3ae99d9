-- The lines of a script that get a hint: those that are answered `bad`, and each a hint for the answer that it gets.
use Rattle.std.specs.Prelude.{ℕ, List, if◌then◌else◌, Option, None}
use Rattle.std.specs.Result.{result_err}
use Rattle.hdfs_values.specs.declared.fault.IllFormed.{IllFormed}
use Rattle.hdfs_values.specs.declared.fault.IllFormed.TheVariants.{BadLine, BadPath, BadAcl, BadName, BadMode}
use Rattle.grant_ledger.specs.declared.ledger.LedgerRow.{LedgerRow}
use Rattle.script_hints.specs.declared.hint.Hint.{Hint}
use Rattle.script_hints.specs.declared.hint.Hint.TheVariants as hint
use Rattle.script_words.specs.Words.{without_return, is_skipped, words_of}
use Rattle.cluster_text.specs.EventLine.{event_of}

-- how the line is ill-formed that gets this hint
abbrev pub fault_of : Hint → IllFormed
fault_of (hint.Line why) = BadLine
fault_of (hint.Path why) = BadPath
fault_of (hint.Acl fault why) = BadAcl fault
fault_of (hint.Name why) = BadName
fault_of (hint.Mode why) = BadMode

abbrev pub fault_in_trimmed : List LedgerRow → List ℕ → Option IllFormed
fault_in_trimmed ledger line = if is_skipped line then None else result_err (event_of ledger (words_of line))

-- how a line of a script is ill-formed, where it is: neither empty nor a comment, and no event of a cluster that has granted these tokens
abbrev pub fault_in : List LedgerRow → List ℕ → Option IllFormed
fault_in ledger line = fault_in_trimmed ledger (without_return line)

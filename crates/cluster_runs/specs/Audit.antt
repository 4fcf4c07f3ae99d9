-- What `audit` prints of a script: the text of the history that its lines make at the NameNode of their cluster. A request makes an entry,
-- and so does the delivery of what a DataNode reports.
use Rattle.std.specs.Prelude.{◌≤◌, ℕ, List, length, take, reverse, Option}
use Rattle.std.specs.Io.KnownBytes.{Appends}
use Rattle.history.specs.declared.entry.HistoryEntry.{HistoryEntry}
use Rattle.cluster_core.specs.Past.{World}
use Rattle.cluster_core.specs.World.{state_after}
use Rattle.script_words.specs.Words.{lines_of}
use Rattle.cluster_runs.specs.Output.{after_lines}
use Rattle.audit_text.specs.AuditText.{audit_text}

-- the entries of the NameNode, the oldest first
abbrev pub history_after : World → List HistoryEntry
history_after past = reverse (state_after past).entries

-- those that a script leaves
abbrev pub history_of_script : List ℕ → List HistoryEntry
history_of_script script = history_after (after_lines (lines_of script)).past

abbrev pub audit_of : List ℕ → List ℕ
audit_of script = audit_text (history_of_script script)

-- the lines of so many first entries were written, all of them, and nothing else
pub record AppendsFirst (count : ℕ) (old new : Option (List ℕ)) (entries : List HistoryEntry) : Type 0 where
  pub within : count ≤ length entries
  pub written : Appends old new (audit_text (take count entries))

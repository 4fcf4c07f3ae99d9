-- What a server opened with, and what it hands back.
use Rattle.std.specs.Prelude.{◌≡◌, ℕ, ◌+◌, Bool, not, List, length, map, reverse, take, sum_by, count_by}
use Rattle.hdfs_types.specs.Request.{is_look}
use Rattle.history.specs.declared.entry.Answer.{Answer}
use Rattle.history.specs.LegalHistory.{IsLegal}
use Rattle.history_replay.specs.Agreement.{Claims}
use Rattle.audit_check.specs.declared.check.Opening.{Opening}
use Rattle.audit_check.specs.Checking.{history_opening, claims_of}
use Rattle.audit_check.specs.Laws.{AllAgree}
use Rattle.name_core.specs.NameCore.{NameCore}
use Rattle.name_service.specs.Passes.{Pass}
use Rattle.name_service.specs.declared.server.Report.{Report}

-- a server, by what its core opened with and the entries that it then had
abbrev pub NameServer : Type 0
NameServer = Opening

-- what a core opened with, and the entries that it has
abbrev pub IsOpeningOf : NameCore → Opening → Type 0
IsOpeningOf core opening = (history_opening opening ≡ core.opening) × (reverse opening.entries.items ≡ core.entries)

-- they are a legal history
abbrev pub BeganLegally : Opening → Type 0
BeganLegally opening = IsLegal (history_opening opening) (reverse opening.entries.items)

abbrev pub receipts_of : List Pass → List (List Answer)
receipts_of passes = map (λ pass. pass.receipts) passes

-- what is checked: the history of a core against what the passes kept
abbrev pub claims_on : NameServer → NameCore → List Pass → Claims
claims_on server core passes = claims_of server (reverse core.entries) (receipts_of passes)

-- how many of the answers that the passes kept are to requests that may change something
abbrev pub is_change : Answer → Bool
is_change answer = not (is_look answer.request.op)

abbrev pub changes_told : List Pass → ℕ
changes_told passes = sum_by (λ receipts. count_by is_change receipts) (receipts_of passes)

-- all receipts and all entries agree; the history is legal, begins with the entries from before, and has as many more as changes were told
pub record Closes (server : NameServer) (passes : List Pass) (report : Report) : Type 0 where
  pub agree : AllAgree (claims_on server report.core passes)
  pub legal : IsLegal (history_opening server) report.core.entries
  pub goes_on : take (length server.entries.items) (reverse report.core.entries) ≡ server.entries.items
  pub entries : length report.core.entries ≡ length server.entries.items + report.entries
  pub changes : report.entries ≡ changes_told passes

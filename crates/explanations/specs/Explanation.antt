-- What `explain` prints of a line of a script: the needs of its request that are judged, in their order, up to the first that
-- fails, on what the lines before leave; and `granted` where none fails.
use Rattle.std.specs.Prelude.{ℕ, zero, suc, List, [], ◌∷◌, take, drop, if◌then◌else◌, Option, Some, None, Result, Ok, Err}
use Rattle.hdfs_values.specs.declared.fault.IllFormed.{IllFormed}
use Rattle.hdfs_types.specs.declared.op.Request.{Request}
use Rattle.flat_rows.specs.declared.trail.Judged.{Judged}
use Rattle.flat_rows.specs.DenialText.{trail_text}
use Rattle.flat_rows.specs.Decision.{trail}
use Rattle.history.specs.declared.entry.HistoryEntry.{HistoryEntry}
use Rattle.history.specs.Config.{Opening}
use Rattle.history.specs.State.{rows_of, users_of}
use Rattle.explanations.specs.declared.explain.Explained.{Explained}
use Rattle.explanations.specs.declared.explain.Explained.TheVariants.{Trail, NoRequest}
use Rattle.script_words.specs.Words.{lines_of, without_return, is_skipped, words_of}
use Rattle.script_text.specs.Script.{request_of}
use Rattle.cluster_core.specs.World.{state_after}
use Rattle.cluster_runs.specs.Output.{State, after_lines, script_status}

abbrev pub well_formed : Result Request IllFormed → Option Request
well_formed (Ok request) = Some request
well_formed (Err fault) = None

-- the request of a line that is neither empty nor a comment nor ill-formed, nor a call of a DataNode or a delivery
abbrev pub request_in_trimmed : List ℕ → Option Request
request_in_trimmed line = if is_skipped line then None else well_formed (request_of (words_of line))

abbrev pub request_in : List ℕ → Option Request
request_in line = request_in_trimmed (without_return line)

abbrev pub request_in_first : List (List ℕ) → Option Request
request_in_first [] = None
request_in_first (line ∷ lines) = request_in line

-- on the namespace and the users that the entries give
abbrev pub trail_on : Opening → List HistoryEntry → Request → List Judged
trail_on opening entries request = trail (rows_of opening entries) (users_of entries) request.caller request.op

abbrev pub trail_of : State → Request → List Judged
trail_of state request = trail_on state.past.opening.name (state_after state.past).entries request

abbrev pub explanation_by : State → Option Request → List ℕ
explanation_by state None = []
explanation_by state (Some request) = trail_text (trail_of state request)

-- what is printed of the line behind so many of these
abbrev pub explanation_behind : ℕ → List (List ℕ) → List ℕ
explanation_behind before lines = explanation_by (after_lines (take before lines)) (request_in_first (drop before lines))

abbrev pub found_by : State → Option Request → Explained
found_by state None = NoRequest
found_by state (Some request) = Trail (script_status state.answers)

-- whether that line makes a request, and how the lines before it ended
abbrev pub found_behind : ℕ → List (List ℕ) → Explained
found_behind before lines = found_by (after_lines (take before lines)) (request_in_first (drop before lines))

-- the lines of a script are counted from 1
abbrev pub explanation : ℕ → List ℕ → List ℕ
explanation zero script = []
explanation (suc before) script = explanation_behind before (lines_of script)

abbrev pub found_at_line : ℕ → List ℕ → Explained
found_at_line zero script = NoRequest
found_at_line (suc before) script = found_behind before (lines_of script)

-- The text of a history, the oldest entry first: JSON Lines, an object for each entry, whose keys stand in the order of their bytes.
-- (The counterpart of the audit log of a NameNode, HDFS-3680; keys and format are this project's own rule.)
use Rattle.std.specs.Prelude.{ℕ, List, [], ◌∷◌, ◌++◌, flat_map, Option, Some, None, codes}
use Rattle.std.specs.List.{filter_map}
use Rattle.std.specs.Option.{option_map}
use Rattle.file_paths.specs.Path.{path_text}
use Rattle.refusals.specs.Refusal.{refusal_code}
use Rattle.hdfs_types.specs.declared.op.Op.{Op}
use Rattle.hdfs_types.specs.declared.op.Op.TheVariants as op
use Rattle.hdfs_types.specs.declared.op.Request.{Request}
use Rattle.required_rights.specs.NeedText.{need_text, by_text}
use Rattle.flat_rows.specs.declared.verdict.Verdict.{Verdict}
use Rattle.flat_rows.specs.declared.verdict.Verdict.TheVariants.{Done, Denied, Refused}
use Rattle.history.specs.declared.entry.HistoryEntry.{HistoryEntry}
use Rattle.audit_text.specs.JsonText.{Member, text, number, object_text}

-- ---- what a line tells of an operation

-- its name, which is its verb in scripts, and the paths that it names
pub record Asked : Type 0 where
  pub name : List ℕ
  pub path : Option (List (List ℕ))
  pub to : Option (List (List ℕ))

abbrev pub bare : List ℕ → Asked
bare name = record { name = name; path = None; to = None }

abbrev pub at_path : List ℕ → List (List ℕ) → Asked
at_path name path = record { name = name; path = Some path; to = None }

abbrev pub asked_of : Op → Asked
asked_of (op.Mkdirs path mode) = at_path (codes "mkdirs") path
asked_of (op.Stat path) = at_path (codes "stat") path
asked_of (op.List path) = at_path (codes "ls") path
asked_of (op.Summary path) = at_path (codes "du") path
asked_of (op.GetAcl path) = at_path (codes "getfacl") path
asked_of (op.Delete path recursive) = at_path (codes "delete") path
asked_of (op.Rename path to) = record { name = codes "rename"; path = Some path; to = Some to }
asked_of (op.SetMode path mode) = at_path (codes "chmod") path
asked_of (op.SetOwner path owner group) = at_path (codes "chown") path
asked_of (op.SetAcl path change) = at_path (codes "setfacl") path
asked_of (op.AddUser user groups) = bare (codes "adduser")
asked_of (op.SetGroups user groups) = bare (codes "groups")
asked_of (op.SetChecking on) = bare (codes "permissions")
asked_of (op.Create path mode replication over) = at_path (codes "create") path
asked_of (op.Append path) = at_path (codes "append") path
asked_of (op.AddBlock path last) = at_path (codes "addblock") path
asked_of (op.Complete path last) = at_path (codes "complete") path
asked_of (op.Open path) = at_path (codes "open") path
asked_of (op.SetReplication path replication) = at_path (codes "setrep") path
asked_of (op.RollKey key) = bare (codes "rollkey")
asked_of op.Renew = bare (codes "renew")
asked_of op.Tick = bare (codes "tick")
asked_of op.Heartbeat = bare (codes "heartbeat")
asked_of (op.Reported replica) = bare (codes "reported")
asked_of (op.CommitRecovery recovered) = bare (codes "commitrecovery")

-- ---- what a line tells of a verdict

abbrev pub verdict_word : Verdict → List ℕ
verdict_word (Done reply) = codes "done"
verdict_word (Denied denial) = codes "denied"
verdict_word (Refused refusal) = codes "refused"

-- of a denial the path of the component, the need that failed there, and what decided
abbrev pub denied_at : Verdict → Option (List (List ℕ))
denied_at (Denied denial) = Some denial.row.path
denied_at _ = None

abbrev pub denied_need : Verdict → Option (List ℕ)
denied_need (Denied denial) = Some (need_text denial.need)
denied_need _ = None

abbrev pub denied_by : Verdict → Option (List ℕ)
denied_by (Denied denial) = Some (by_text denial.by)
denied_by _ = None

-- of a refusal its number
abbrev pub refused_code : Verdict → Option ℕ
refused_code (Refused refusal) = Some (refusal_code refusal)
refused_code _ = None

-- ---- lines

abbrev pub text_at : List ℕ → List ℕ → Member
text_at key told = record { key = key; value = text told }

abbrev pub number_member : List ℕ → ℕ → Member
number_member key told = record { key = key; value = number told }

abbrev pub path_at : List ℕ → List (List ℕ) → Member
path_at key path = text_at key (path_text path)

-- the members that a line may have, each where there is something to tell: those up to the moment, and those behind it
abbrev pub told_front : Request → Verdict → List (Option Member)
told_front request verdict =
    option_map (path_at (codes "at")) (denied_at verdict)
    ∷ option_map (text_at (codes "by")) (denied_by verdict)
    ∷ Some (text_at (codes "caller") request.caller)
    ∷ option_map (number_member (codes "code")) (refused_code verdict)
    ∷ Some (number_member (codes "moment") request.moment)
    ∷ []

abbrev pub told_rest : HistoryEntry → List (Option Member)
told_rest entry =
    option_map (text_at (codes "need")) (denied_need entry.verdict)
    ∷ Some (text_at (codes "op") (asked_of entry.request.op).name)
    ∷ option_map (path_at (codes "path")) (asked_of entry.request.op).path
    ∷ Some (number_member (codes "place") entry.place)
    ∷ option_map (path_at (codes "to")) (asked_of entry.request.op).to
    ∷ Some (text_at (codes "verdict") (verdict_word entry.verdict))
    ∷ []

abbrev pub told_of : HistoryEntry → List (Option Member)
told_of entry = told_front entry.request entry.verdict ++ told_rest entry

abbrev pub members_of : HistoryEntry → List Member
members_of entry = filter_map (λ member. member) (told_of entry)

-- the object of an entry, and a line feed
abbrev pub entry_line : HistoryEntry → List ℕ
entry_line entry = object_text (members_of entry) ++ (10 ∷ [])

-- a line for each entry
abbrev pub audit_text : List HistoryEntry → List ℕ
audit_text entries = flat_map entry_line entries

-- How a verdict is printed.
use Rattle.std.specs.Prelude.{ℕ, ◌+◌, List, ◌∷◌, ◌++◌, codes}
use Rattle.std.specs.Fmt.{decimal}
use Rattle.hdfs_types.specs.Reply.{status_text, acl_status_text, names_text, summary_text}
use Rattle.refusals.specs.Refusal.{refusal_text}
use Rattle.hdfs_types.specs.declared.reply.Expired.{Expired as ExpiredFiles}
use Rattle.hdfs_types.specs.declared.reply.Reply.{Reply}
use Rattle.hdfs_types.specs.declared.reply.Reply.TheVariants.{Empty, Status, Acl, Names, Summary, Deleted, Released, Recovering, Closed, Opened, Added, Expired, Serial, Commands}
use Rattle.flat_rows.specs.DenialText.{denial_text}
use Rattle.flat_rows.specs.declared.verdict.Verdict.{Verdict}
use Rattle.flat_rows.specs.declared.verdict.Verdict.TheVariants.{Done, Denied, Refused}
use Rattle.script_text.specs.BlockText.{added_text, opened_text}

-- how many files were closed, and of how many the last block is recovered
abbrev pub expired_text : ExpiredFiles → List ℕ
expired_text files = codes "closed " ++ (decimal files.closed ++ (codes " recovering " ++ decimal files.recovering))

-- what is done, where the ledger had so many rows before: the first token that it grants is in the next row
abbrev pub reply_text : ℕ → Reply → List ℕ
reply_text rows Empty = codes "ok"
reply_text rows (Status status) = codes "ok " ++ status_text status
reply_text rows (Acl status) = codes "ok " ++ acl_status_text status
reply_text rows (Names names) = codes "ok list" ++ names_text names
reply_text rows (Summary summary) = codes "ok summary" ++ summary_text summary
reply_text rows (Deleted count) = codes "ok deleted " ++ decimal count
reply_text rows Released = codes "ok released"
reply_text rows (Recovering block stamp) = codes "ok recovering " ++ (decimal block ++ (32 ∷ decimal stamp))
reply_text rows (Closed bytes) = codes "ok closed " ++ decimal bytes
reply_text rows (Opened opened) = codes "ok open " ++ opened_text (rows + 1) opened
reply_text rows (Added added) = codes "ok block " ++ added_text (rows + 1) added
reply_text rows (Expired files) = codes "ok " ++ expired_text files
reply_text rows (Serial serial) = codes "ok serial " ++ decimal serial
reply_text rows (Commands commands) = codes "ok heartbeat"

abbrev pub verdict_text : ℕ → Verdict → List ℕ
verdict_text rows (Done reply) = reply_text rows reply
verdict_text rows (Denied denial) = codes "denied " ++ denial_text denial
verdict_text rows (Refused refusal) = codes "refused " ++ refusal_text refusal

-- Only three operations grant something: new blocks, files that are opened, and heartbeats; and only these are told before they change
-- something.
use Rattle.std.proofs.Common.{◌≡◌, ℕ, Bool, true, false, List, [], ◌++◌, map, Option, Some, None, Result, Ok, Err, refl, sym, ap, ◌∙◌}
use Rattle.std.proofs.lemmas.List.{append-nil}
use Rattle.std.specs.Result.{IfOk}
use Rattle.hdfs_types.specs.declared.op.Op.{Op}
use Rattle.hdfs_types.specs.declared.op.Op.TheVariants as op
use Rattle.hdfs_types.specs.declared.reply.Reply.{Reply}
use Rattle.refusals.specs.declared.refusal.Refusal.{Refusal}
use Rattle.hdfs_types.specs.Verb.{read_op, update_op, write_op, op_of}
use Rattle.hdfs_types.specs.declared.verb.Grant.{Grant}
use Rattle.hdfs_types.specs.declared.verb.Verb.{Verb}
use Rattle.hdfs_types.specs.declared.verb.Verb.TheVariants as verb
use Rattle.hdfs_types.specs.declared.verb.Read.{Read}
use Rattle.hdfs_types.specs.declared.verb.Read.TheVariants as read
use Rattle.hdfs_types.specs.declared.verb.Update.{Update}
use Rattle.hdfs_types.specs.declared.verb.Update.TheVariants as update
use Rattle.hdfs_types.specs.declared.verb.Write.{Write}
use Rattle.hdfs_types.specs.declared.verb.Write.TheVariants as write
use Rattle.principals.specs.Users.{Users}
use Rattle.namespace_rows.specs.declared.row.Row.{Row}
use Rattle.namespace_rows.specs.Rows.{row_at}
use Rattle.block_tokens.specs.Ring.{KeyRing}
use Rattle.grant_ledger.specs.declared.ledger.LedgerRow.{LedgerRow}
use Rattle.flat_rows.specs.declared.verdict.Verdict.{Verdict}
use Rattle.flat_rows.specs.declared.verdict.Verdict.TheVariants.{Done, Denied, Refused}
use Rattle.flat_rows.specs.Denial as denied
use Rattle.flat_rows.specs.Decision.{decision}
use Rattle.flat_rows.specs.Facts.{Facts}
use Rattle.block_map.specs.BlockFacts.{Blocks}
use Rattle.flat_rows.specs.FileOutcome.{holder_at}
use Rattle.flat_rows.specs.Takeover.{appended_reply, unfinished_at}
use Rattle.flat_rows.specs.Outcome.{step, first_refusal, denied_or_outcome, refused_or_done, reply_of, status_of, acl_status_of, serial_reply}
use Rattle.history.specs.Grants.{granted_by, rows_granted, ledger_row}
use Rattle.namesystem.specs.Told.{is_list, is_told_before}

abbrev pub is_grant : Op → Bool
is_grant (op.AddBlock path last) = true
is_grant (op.Open path) = true
is_grant op.Heartbeat = true
is_grant _ = false

none_granted : (what : Op) (told : Reply) → is_grant what ≡ false → granted_by what told ≡ []
none_granted (op.AddBlock path last) told h = cc
none_granted (op.Open path) told h = cc
none_granted op.Heartbeat told h = cc
none_granted _ told h = refl

pub no_rows : (place : ℕ) (ring : KeyRing) (now : ℕ) (caller : List ℕ) (what : Op) (verdict : Verdict) → is_grant what ≡ false → rows_granted place ring now caller what verdict ≡ []
no_rows place ring now caller what (Done told) h = ap (map (ledger_row place ring now caller)) (none_granted what told h)
no_rows place ring now caller what (Denied denial) h = refl
no_rows place ring now caller what (Refused refusal) h = refl

-- so the ledger stays
pub ledger_stays : {E : Type 0} (result : Result Verdict E) (ledger : List LedgerRow) (place : ℕ) (ring : KeyRing) (now : ℕ) (caller : List ℕ) (what : Op) → is_grant what ≡ false
    → IfOk result (λ verdict. ledger ≡ ledger ++ rows_granted place ring now caller what verdict)
ledger_stays (Ok verdict) ledger place ring now caller what h = sym (ap (λ rows. ledger ++ rows) (no_rows place ring now caller what verdict h) ∙ append-nil ledger)
ledger_stays (Err error) ledger place ring now caller what h = tt

pub no_grant_read : (verb : Read) → is_grant (read_op verb) ≡ false
no_grant_read (read.Stat path) = refl
no_grant_read _ = refl

pub no_grant_update : (verb : Update) → is_grant (update_op verb) ≡ false
no_grant_update (update.Mkdirs path mode) = refl
no_grant_update _ = refl

pub no_grant_write : (verb : Write) → is_grant (write_op verb) ≡ false
no_grant_write (write.Delete path recursive) = refl
no_grant_write _ = refl

pub no_grant : (which : Verb) → ((grant : Grant) → which ≡ verb.Grant grant → ⊥) → is_grant (op_of which) ≡ false
no_grant (verb.Grant grant) h = absurd (h grant refl)
no_grant (verb.Read read) h = no_grant_read read
no_grant (verb.Update update) h = no_grant_update update
no_grant (verb.Write write) h = no_grant_write write
no_grant (verb.SetReplication path replication) h = refl
no_grant _ h = refl

-- ---- lists

status_no_list : (at : Option Row) → is_list (status_of at) ≡ false
status_no_list None = refl
status_no_list (Some row) = refl

acl_no_list : (at : Option Row) → is_list (acl_status_of at) ≡ false
acl_no_list None = refl
acl_no_list (Some row) = refl

appended_no_list : (blocks : Blocks) (holder : Option (List ℕ)) (block : Option ℕ) → is_list (appended_reply blocks holder block) ≡ false
appended_no_list blocks None block = refl
appended_no_list blocks (Some holder) None = refl
appended_no_list blocks (Some holder) (Some block) = refl

serial_no_list : (next : Option ℕ) → is_list (serial_reply next) ≡ false
serial_no_list None = refl
serial_no_list (Some serial) = refl

reply_no_list : (facts : Facts) (caller : List ℕ) (what : Op) (rows : List Row) → is_grant what ≡ false → is_list (reply_of facts caller what rows) ≡ false
reply_no_list facts caller op.Heartbeat rows h = cc
reply_no_list facts caller (op.AddBlock path last) rows h = cc
reply_no_list facts caller (op.Open path) rows h = cc
reply_no_list facts caller (op.Stat path) rows h = status_no_list (row_at path rows)
reply_no_list facts caller (op.GetAcl path) rows h = acl_no_list (row_at path rows)
reply_no_list facts caller (op.Append path) rows h = appended_no_list facts.blocks (holder_at (row_at path rows)) (unfinished_at (row_at path rows))
reply_no_list facts caller (op.RollKey key) rows h = serial_no_list facts.next_serial
reply_no_list facts caller _ rows h = refl

module _ (facts : Facts) (rows : List Row) (users : Users) (caller : List ℕ) (what : Op) (plain : is_grant what ≡ false) where
  pub told_behind : is_told_before (step facts rows users caller what).verdict ≡ false
  told_behind = by_denial (decision rows users caller what)
    where
      by_refusal : (refusal : Option Refusal) → is_told_before (refused_or_done facts rows users caller what refusal).verdict ≡ false
      by_refusal None = reply_no_list facts caller what rows plain
      by_refusal (Some refusal) = refl

      by_denial : (denial : Option denied.Denial) → is_told_before (denied_or_outcome facts rows users caller what denial).verdict ≡ false
      by_denial None = by_refusal (first_refusal facts caller what rows users)
      by_denial (Some denial) = refl

-- The tokens of the recoveries that a DataNode is told to lead, and of the copies that it is told to make, were granted with them.
use Rattle.std.proofs.Common.{◌≡◌, ℕ, List, map, refl, sym, subst, Option, Some, None}
use Rattle.std.specs.Bool.{⊤}
use Rattle.std.specs.List.{AllByRecursion}
use Rattle.permission_bits.specs.Modes.{modes}
use Rattle.block_records.specs.declared.last_block.LastBlock.{LastBlock}
use Rattle.block_changes.specs.declared.transfer.Transfer.{Transfer}
use Rattle.block_changes.specs.declared.recovery.Recovery.{Recovery}
use Rattle.block_tokens.specs.Ring.{KeyRing, grant_of}
use Rattle.grant_ledger.specs.declared.ledger.LedgerRow.{LedgerRow}
use Rattle.node_ids.specs.NodeId.{node_of}
use Rattle.block_answers.specs.Commands.{Commands}
use Rattle.block_answers.specs.declared.commands.CopyOrder.{CopyOrder}
use Rattle.block_answers.specs.declared.commands.Recover.{Recover}
use Rattle.hdfs_types.specs.declared.op.Op.{Op}
use Rattle.hdfs_types.specs.declared.op.Op.TheVariants as op
use Rattle.hdfs_types.specs.declared.op.Request.{Request}
use Rattle.refusals.specs.declared.refusal.Refusal.{Refusal}
use Rattle.hdfs_types.specs.declared.reply.Reply.{Reply}
use Rattle.hdfs_types.specs.declared.reply.Reply.TheVariants as reply
use Rattle.namespace_rows.specs.declared.row.Row.{Row}
use Rattle.namespace_rows.specs.Rows.{row_at}
use Rattle.principals.specs.Users.{Users}
use Rattle.block_map.specs.BlockFacts.{recoveries_for, transfers_for}
use Rattle.block_map.specs.BlockEffects.{with_node_heard}
use Rattle.flat_rows.specs.BlockOutcome.{added_to, replication_at}
use Rattle.flat_rows.specs.Decision.{decision}
use Rattle.flat_rows.specs.Denial as denied
use Rattle.flat_rows.specs.Facts.{Facts}
use Rattle.flat_rows.specs.FileOutcome.{holder_at}
use Rattle.flat_rows.specs.NodeOutcome.{Tokens, recover_command, copy_command, heartbeat_reply}
use Rattle.flat_rows.specs.Outcome.{reply_of, status_of, acl_status_of, serial_reply, first_refusal, refused_or_done, denied_or_outcome, step}
use Rattle.flat_rows.specs.Takeover.{unfinished_at, appended_reply}
use Rattle.flat_rows.specs.declared.verdict.Verdict.{Verdict}
use Rattle.flat_rows.specs.declared.verdict.Verdict.TheVariants.{Done, Denied, Refused}
use Rattle.history.specs.Config as name
use Rattle.history.specs.Grants.{BlockModes, granted_with, ledger_row, rows_granted}
use Rattle.history.specs.Keys.{ring_of}
use Rattle.history.specs.LegalHistory.{now_at, verdict_of}
use Rattle.history.specs.State.{rows_of, users_of, facts_of}
use Rattle.history.specs.declared.entry.HistoryEntry.{HistoryEntry}
use Rattle.cluster_trace.specs.Provenance.{IsIn}
use Rattle.cluster_trace.proofs.Each.{each_map, in_append}
use Rattle.forgery_laws.specs.Forgeries.{IsTokenOf}
use Rattle.forgery_laws.proofs.Members.{in_behind, in_map, all_in, each_both}

-- ---- what a request is answered

-- a heartbeat alone is told of recoveries and of copies: of each recovery with the token to write its block, and of each copy with the token to
-- read and write it
abbrev LeadsTokens : Tokens → List ℕ → List Recover → Type 0
LeadsTokens token caller recoveries = AllByRecursion (λ (recovery : Recover). recovery.token ≡ token caller recovery.block (modes 2)) recoveries

abbrev HasTokens : Tokens → List ℕ → List CopyOrder → Type 0
HasTokens token caller copies = AllByRecursion (λ (copy : CopyOrder). copy.token ≡ token caller copy.block (modes 3)) copies

abbrev TellsTokens : Tokens → List ℕ → Op → Reply → Type 0
TellsTokens token caller what (reply.Commands commands) = (what ≡ op.Heartbeat) × LeadsTokens token caller commands.recoveries × HasTokens token caller commands.copies
TellsTokens token caller what _ = ⊤

module _ (token : Tokens) (user : List ℕ) (what : Op) where
  status_tells : (row : Option Row) → TellsTokens token user what (status_of row)
  status_tells None = tt
  status_tells (Some row) = tt

  acl_tells : (row : Option Row) → TellsTokens token user what (acl_status_of row)
  acl_tells None = tt
  acl_tells (Some row) = tt

  append_tells : (facts : Facts) (holder : Option (List ℕ)) (block : Option ℕ) → TellsTokens token user what (appended_reply facts.blocks holder block)
  append_tells facts None block = tt
  append_tells facts (Some holder) None = tt
  append_tells facts (Some holder) (Some block) = tt

  serial_tells : (serial : Option ℕ) → TellsTokens token user what (serial_reply serial)
  serial_tells None = tt
  serial_tells (Some serial) = tt

  added_tells : (facts : Facts) (caller : List ℕ) (last : Option LastBlock) (replication : Option ℕ) → TellsTokens token user what (added_to facts.token caller facts.blocks last facts.now replication)
  added_tells facts caller last None = tt
  added_tells facts caller last (Some replication) = tt

heartbeat_tells : (facts : Facts) (principal : List ℕ) (node : Option ℕ) → TellsTokens facts.token principal op.Heartbeat (heartbeat_reply facts principal node)
heartbeat_tells facts principal None = tt
heartbeat_tells facts principal (Some node) = (
  refl,
  each_map (λ (recovery : Recover). recovery.token ≡ facts.token principal recovery.block (modes 2)) (recover_command facts.token principal) (λ (recovery : Recovery). refl) (recoveries_for (with_node_heard facts.blocks node facts.now) node),
  each_map (λ (copy : CopyOrder). copy.token ≡ facts.token principal copy.block (modes 3)) (copy_command facts.token principal) (λ (copy : Transfer). refl) (transfers_for (with_node_heard facts.blocks node facts.now) facts.now node),
)

reply_tells : (facts : Facts) (caller : List ℕ) (what : Op) (rows : List Row) → TellsTokens facts.token caller what (reply_of facts caller what rows)
reply_tells facts caller (op.Stat path) rows = status_tells facts.token caller (op.Stat path) (row_at path rows)
reply_tells facts caller (op.GetAcl path) rows = acl_tells facts.token caller (op.GetAcl path) (row_at path rows)
reply_tells facts caller (op.Append path) rows = append_tells facts.token caller (op.Append path) facts (holder_at (row_at path rows)) (unfinished_at (row_at path rows))
reply_tells facts caller (op.AddBlock path last) rows = added_tells facts.token caller (op.AddBlock path last) facts caller last (replication_at (row_at path rows))
reply_tells facts caller (op.RollKey key) rows = serial_tells facts.token caller (op.RollKey key) facts.next_serial
reply_tells facts caller op.Heartbeat rows = heartbeat_tells facts caller (node_of caller)
reply_tells facts caller _ rows = tt

abbrev VerdictTells : Tokens → List ℕ → Op → Verdict → Type 0
VerdictTells token caller what (Done told) = TellsTokens token caller what told
VerdictTells token caller what (Denied denial) = ⊤
VerdictTells token caller what (Refused refusal) = ⊤

step_tells : (facts : Facts) (rows : List Row) (users : Users) (caller : List ℕ) (what : Op) → VerdictTells facts.token caller what (step facts rows users caller what).verdict
step_tells facts rows users caller what = by (decision rows users caller what)
  where
    outcome_tells : (refusal : Option Refusal) → VerdictTells facts.token caller what (refused_or_done facts rows users caller what refusal).verdict
    outcome_tells None = reply_tells facts caller what rows
    outcome_tells (Some refusal) = tt

    by : (denial : Option denied.Denial) → VerdictTells facts.token caller what (denied_or_outcome facts rows users caller what denial).verdict
    by None = outcome_tells (first_refusal facts caller what rows users)
    by (Some denial) = tt

-- ---- the rows that are granted with it

-- the tokens of these recoveries and copies are in the rows
abbrev pub CommandsGranted : List LedgerRow → Commands → Type 0
CommandsGranted rows commands =
    AllByRecursion (λ (recovery : Recover). IsTokenOf rows recovery.token) commands.recoveries × AllByRecursion (λ (copy : CopyOrder). IsTokenOf rows copy.token) commands.copies

abbrev pub TellsGranted : List LedgerRow → Verdict → Type 0
TellsGranted rows (Done (reply.Commands commands)) = CommandsGranted rows commands
TellsGranted rows _ = ⊤

module _ (place : ℕ) (ring : KeyRing) (now : ℕ) (caller : List ℕ) where
  abbrev token_in : Tokens
  token_in user block access = (grant_of ring now user block access).token

  abbrev copied : CopyOrder → BlockModes
  copied copy = record { block = copy.block; modes = modes 3 }

  abbrev led : Recover → BlockModes
  led recovery = record { block = recovery.block; modes = modes 2 }

  abbrev row_in : BlockModes → LedgerRow
  row_in own = ledger_row place ring now caller own

  lead_granted : (commands : Commands) (recovery : Recover) → IsIn recovery commands.recoveries → recovery.token ≡ token_in caller recovery.block (modes 2)
      → IsTokenOf (map row_in (granted_with commands)) recovery.token
  lead_granted commands recovery i e =
      (row_in (led recovery), in_map row_in (led recovery) (granted_with commands) (in_append (led recovery) (map led commands.recoveries) (map copied commands.copies) (in_map led recovery commands.recoveries i)), sym e)

  order_granted : (commands : Commands) (copy : CopyOrder) → IsIn copy commands.copies → copy.token ≡ token_in caller copy.block (modes 3) → IsTokenOf (map row_in (granted_with commands)) copy.token
  order_granted commands copy i e =
      (row_in (copied copy), in_map row_in (copied copy) (granted_with commands) (in_behind (copied copy) (map led commands.recoveries) (map copied commands.copies) (in_map copied copy commands.copies i)), sym e)

  orders_granted : (commands : Commands) → LeadsTokens token_in caller commands.recoveries → HasTokens token_in caller commands.copies → CommandsGranted (map row_in (granted_with commands)) commands
  orders_granted commands leads has = (
    each_both (λ (recovery : Recover). IsIn recovery commands.recoveries) (λ (recovery : Recover). recovery.token ≡ token_in caller recovery.block (modes 2)) (λ (recovery : Recover). IsTokenOf (map row_in (granted_with commands)) recovery.token)
        (lead_granted commands) commands.recoveries (all_in commands.recoveries) leads,
    each_both (λ (copy : CopyOrder). IsIn copy commands.copies) (λ (copy : CopyOrder). copy.token ≡ token_in caller copy.block (modes 3)) (λ (copy : CopyOrder). IsTokenOf (map row_in (granted_with commands)) copy.token)
        (order_granted commands) commands.copies (all_in commands.copies) has,
  )

  commands_granted : (what : Op) (commands : Commands) → TellsTokens token_in caller what (reply.Commands commands) → TellsGranted (rows_granted place ring now caller what (Done (reply.Commands commands))) (Done (reply.Commands commands))
  commands_granted what commands tells =
      subst (λ (own : Op). TellsGranted (rows_granted place ring now caller own (Done (reply.Commands commands))) (Done (reply.Commands commands))) (sym tells.0) (orders_granted commands tells.1 tells.2)

  told_granted : (what : Op) (told : Reply) → TellsTokens token_in caller what told → TellsGranted (rows_granted place ring now caller what (Done told)) (Done told)
  told_granted what (reply.Commands commands) tells = commands_granted what commands tells
  told_granted what _ tells = tt

  verdict_granted : (what : Op) (verdict : Verdict) → VerdictTells token_in caller what verdict → TellsGranted (rows_granted place ring now caller what verdict) verdict
  verdict_granted what (Done told) tells = told_granted what told tells
  verdict_granted what (Denied denial) tells = tt
  verdict_granted what (Refused refusal) tells = tt

-- whatever a request is answered, the tokens of the recoveries and copies that are told are among those that its entry grants
pub request_granted : (opening : name.Opening) (earlier : List HistoryEntry) (request : Request) (place : ℕ)
    → TellsGranted (rows_granted place (ring_of opening earlier) (now_at earlier request) request.caller request.op (verdict_of opening earlier request)) (verdict_of opening earlier request)
request_granted opening earlier request place =
    verdict_granted place (ring_of opening earlier) (now_at earlier request) request.caller request.op (verdict_of opening earlier request)
    (step_tells (facts_of opening earlier (now_at earlier request)) (rows_of opening earlier) (users_of earlier) request.caller request.op)

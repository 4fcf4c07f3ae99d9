-- What the NameNode grants stands in the token: its text tells the grant.
use Rattle.std.proofs.Common.{◌≡◌, ℕ, zero, suc, ◌*◌, List, [], ◌∷◌, ◌++◌, map, length, get_or, refl, sym, ap, subst, arith}
use Rattle.std.specs.Prelude.{IsTrue}
use Rattle.std.specs.Int.{w32, to_be_bytes}
use Rattle.std.specs.List.{AllByRecursion}
use Rattle.std.proofs.lemmas.List.{length-append}
use Rattle.permission_bits.specs.Modes.{is_modes, modes}
use Rattle.permission_bits.specs.declared.modes.Modes.{Modes}
use Rattle.block_answers.specs.declared.commands.CopyOrder.{CopyOrder}
use Rattle.block_answers.specs.declared.commands.Recover.{Recover}
use Rattle.block_answers.specs.declared.located.LocatedBlock.{LocatedBlock}
use Rattle.hdfs_types.specs.declared.op.Op.{Op}
use Rattle.hdfs_types.specs.declared.op.Op.TheVariants as op
use Rattle.hdfs_types.specs.declared.reply.Reply.{Reply}
use Rattle.hdfs_types.specs.declared.reply.Reply.TheVariants as reply
use Rattle.sha1.specs.Sha1.{sha1, digest_bytes}
use Rattle.block_tokens.specs.Hmac.{hmac_sha1}
use Rattle.block_tokens.specs.Ring.{KeyRing, parts_with, coded_token, grant_of}
use Rattle.block_tokens.specs.TokenText.{Body, TokenText, version_1_fields, coded_bytes}
use Rattle.block_tokens.specs.declared.grant.Grant.{Grant}
use Rattle.grant_ledger.specs.declared.ledger.LedgerRow.{LedgerRow}
use Rattle.flat_rows.specs.declared.verdict.Verdict.{Verdict}
use Rattle.flat_rows.specs.declared.verdict.Verdict.TheVariants.{Done, Denied, Refused}
use Rattle.history.specs.Config as name
use Rattle.history.specs.ClockAndLease.{clock_of}
use Rattle.history.specs.Grants.{BlockModes, granted_to_node, granted_to_writer, granted_to_reader, granted_by, ledger_row, rows_granted, ledger_of}
use Rattle.history.specs.Keys.{ring_of}
use Rattle.history.specs.declared.entry.HistoryEntry.{HistoryEntry}
use Rattle.cluster_trace.specs.Typed.{GrantFits}
use Rattle.cluster_trace.proofs.Each.{each_append, each_map}

-- ---- a code has 20 bytes

digest_length : (h : List ℕ) (n : ℕ) → length (digest_bytes h n) ≡ 4 * n
unfolding digest_bytes
digest_length h zero = refl
digest_length h (suc n) = omega (arith, length-append (digest_bytes h n) (to_be_bytes w32 (get_or h n 0)), digest_length h n)

sha1_length : (text : List ℕ) → length (sha1 text) ≡ 20
unfolding sha1
sha1_length text = digest_length _ 5

code_length : (key text : List ℕ) → length (hmac_sha1 key text) ≡ 20
unfolding hmac_sha1
code_length key text = sha1_length _

-- ---- one grant

-- the parts that a grant's token tells
abbrev pub parts_of : Grant → List ℕ → Body
parts_of grant code = record { expiry = grant.expiry; serial = grant.serial; block = grant.block; modes = grant.modes.0; user = grant.user; code = code }

abbrev pub TellsItself : Grant → Type 0
TellsItself grant = (code : List ℕ) × TokenText grant.token (parts_of grant code)

same_fields : (parts : Body) (code : List ℕ) → coded_bytes parts ≡ coded_bytes (record parts { code = code })
unfolding version_1_fields
same_fields parts code = refl

granted_tells : (ring : KeyRing) (now : ℕ) (user : List ℕ) (block : ℕ) (own : Modes) → IsTrue (is_modes own.0) → GrantFits (grant_of ring now user block own) → TellsItself (grant_of ring now user block own)
unfolding coded_token
granted_tells ring now user block own allow fits =
    let plain : Body = parts_with ring now user block own.0 [] in
    let code : List ℕ = hmac_sha1 ring.key (coded_bytes plain) in (
      code,
      record {
        parts_fit = record { expiry = fits.expiry; serial = fits.serial; block = fits.block; modes = allow; user = fits.user; code = code_length ring.key (coded_bytes plain) };
        spelled = ap (λ (bytes : List ℕ). bytes ++ code) (same_fields plain code);
      },
    )

-- ---- all grants

-- a ring issued it
pub record IsIssued (grant : Grant) : Type 0 where
  pub ring : KeyRing
  pub now : ℕ
  pub user : List ℕ
  pub block : ℕ
  pub own : Modes
  pub is : grant ≡ grant_of ring now user block own
  pub allow : IsTrue (is_modes own.0)

pub issued_tells : (grant : Grant) → IsIssued grant → GrantFits grant → TellsItself grant
issued_tells grant issued fits =
    subst TellsItself (sym issued.is) (granted_tells issued.ring issued.now issued.user issued.block issued.own issued.allow (subst GrantFits issued.is fits))

abbrev Allows : BlockModes → Type 0
Allows own = IsTrue (is_modes own.modes.0)

to_node_allow : (told : Reply) → AllByRecursion Allows (granted_to_node told)
to_node_allow (reply.Commands commands) =
    each_append Allows (map (λ (recovery : Recover). record { block = recovery.block; modes = modes 2 }) commands.recoveries) (map (λ (copy : CopyOrder). record { block = copy.block; modes = modes 3 }) commands.copies)
    (each_map Allows (λ (recovery : Recover). record { block = recovery.block; modes = modes 2 }) (λ recovery. refl) commands.recoveries)
    (each_map Allows (λ (copy : CopyOrder). record { block = copy.block; modes = modes 3 }) (λ copy. refl) commands.copies)
to_node_allow _ = tt

to_writer_allow : (told : Reply) → AllByRecursion Allows (granted_to_writer told)
to_writer_allow (reply.Added added) = (refl, tt)
to_writer_allow _ = tt

to_reader_allow : (told : Reply) → AllByRecursion Allows (granted_to_reader told)
to_reader_allow (reply.Opened opened) =
    each_map Allows (λ (block : LocatedBlock). record { block = block.block; modes = modes 1 }) (λ block. refl) opened.blocks
to_reader_allow _ = tt

granted_allow : (what : Op) (told : Reply) → AllByRecursion Allows (granted_by what told)
granted_allow (op.AddBlock path last) told = to_writer_allow told
granted_allow (op.Open path) told = to_reader_allow told
granted_allow op.Heartbeat told = to_node_allow told
granted_allow _ told = tt

abbrev pub RowIssued : LedgerRow → Type 0
RowIssued row = IsIssued row.grant

rows_issued : (place : ℕ) (ring : KeyRing) (now : ℕ) (caller : List ℕ) (all : List BlockModes) → AllByRecursion Allows all → AllByRecursion RowIssued (map (ledger_row place ring now caller) all)
rows_issued place ring now caller [] allow = tt
rows_issued place ring now caller (own ∷ all) allow =
    (record { ring = ring; now = now; user = caller; block = own.block; own = own.modes; is = refl; allow = allow.0 }, rows_issued place ring now caller all allow.1)

verdict_issued : (place : ℕ) (ring : KeyRing) (now : ℕ) (caller : List ℕ) (what : Op) (verdict : Verdict) → AllByRecursion RowIssued (rows_granted place ring now caller what verdict)
verdict_issued place ring now caller what (Done told) = rows_issued place ring now caller (granted_by what told) (granted_allow what told)
verdict_issued place ring now caller what (Denied denial) = tt
verdict_issued place ring now caller what (Refused refusal) = tt

-- every row of the ledger
pub all_issued : (opening : name.Opening) (entries : List HistoryEntry) → AllByRecursion RowIssued (ledger_of opening entries)
all_issued opening [] = tt
all_issued opening (entry ∷ earlier) =
    each_append RowIssued (ledger_of opening earlier) (rows_granted entry.place (ring_of opening earlier) (clock_of (entry ∷ earlier)) entry.request.caller entry.request.op entry.verdict)
    (all_issued opening earlier) (verdict_issued entry.place (ring_of opening earlier) (clock_of (entry ∷ earlier)) entry.request.caller entry.request.op entry.verdict)

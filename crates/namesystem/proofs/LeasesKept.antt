-- Verbs that leave leases, or keys, as they are.
use Rattle.std.proofs.Common.{◌≡◌, ℕ, Bool, true, false, ◌&&◌, List, length, nat_lt, Option, Some, None, refl, sym, ap, ◌∙◌, cond}
use Rattle.hdfs_values.specs.Text.{same}
use Rattle.hdfs_types.specs.Request.{keeps_leases}
use Rattle.hdfs_types.specs.Verb.{read_op, update_op}
use Rattle.hdfs_types.specs.declared.op.Op.{Op}
use Rattle.hdfs_types.specs.declared.op.Op.TheVariants as op
use Rattle.hdfs_types.specs.declared.reply.Reply.TheVariants.{Empty}
use Rattle.hdfs_types.specs.declared.verb.Read.{Read}
use Rattle.hdfs_types.specs.declared.verb.Read.TheVariants as read
use Rattle.hdfs_types.specs.declared.verb.Update.{Update}
use Rattle.hdfs_types.specs.declared.verb.Update.TheVariants as update
use Rattle.principals.specs.Users.{Users}
use Rattle.namespace_rows.specs.declared.row.Row.{Row}
use Rattle.flat_rows.specs.declared.verdict.Verdict.{Verdict}
use Rattle.flat_rows.specs.declared.verdict.Verdict.TheVariants.{Done, Denied, Refused}
use Rattle.namespace_rows.specs.Namespace.{IsNamespace}
use Rattle.namespace_rows.specs.Files.{open_files}
use Rattle.flat_rows.specs.Facts.{Facts}
use Rattle.flat_rows.specs.Outcome.{step, reply_of}
use Rattle.flat_rows.proofs.Keeping.{kept_open}
use Rattle.history.specs.ClockAndLease.{renews}
use Rattle.block_tokens.specs.Ring.{KeyRing}
use Rattle.block_map.specs.BlockFacts.{Blocks}
use Rattle.history.specs.Keys.{ring_by}
use Rattle.history.specs.Blocks.{blocks_by}
use Rattle.lease_manager.specs.declared.writers.Writers.{Writers}
use Rattle.lease_manager.specs.Writers.{count_of}
use Rattle.file_effects.specs.Effected.{IsExact, renewed_where}

pub read_keeps : (verb : Read) → keeps_leases (read_op verb) ≡ true
read_keeps (read.Stat path) = refl
read_keeps _ = refl

pub update_keeps : (verb : Update) → keeps_leases (update_op verb) ≡ true
update_keeps (update.Mkdirs path mode) = refl
update_keeps _ = refl

-- there is nothing to report of an update
pub empty_reply : (facts : Facts) (caller : List ℕ) (verb : Update) (rows : List Row) → reply_of facts caller (update_op verb) rows ≡ Empty
empty_reply facts caller (update.Mkdirs path mode) rows = refl
empty_reply facts caller _ rows = refl

-- none renews a lease
pub renews_not : (what : Op) (verdict : Verdict) → keeps_leases what ≡ true → renews what verdict ≡ false
renews_not what (Denied denial) h = refl
renews_not what (Refused refusal) h = refl
renews_not (op.Delete path recursive) (Done told) h = cc
renews_not (op.Create path mode replication over) (Done told) h = cc
renews_not (op.Append path) (Done told) h = cc
renews_not (op.AddBlock path last) (Done told) h = cc
renews_not (op.Complete path last) (Done told) h = cc
renews_not op.Renew (Done told) h = cc
renews_not op.Tick (Done told) h = cc
renews_not op.Heartbeat (Done told) h = cc
renews_not (op.Reported replica) (Done told) h = cc
renews_not (op.CommitRecovery recovered) (Done told) h = cc
renews_not _ (Done told) h = refl

abbrev pub is_roll : Op → Bool
is_roll (op.RollKey key) = true
is_roll _ = false

-- none is a roll of the keys
pub keys_stay : (what : Op) (verdict : Verdict) (now : ℕ) (ring : KeyRing) → keeps_leases what ≡ true → ring_by what verdict now ring ≡ ring
keys_stay what (Denied denial) now ring h = refl
keys_stay what (Refused refusal) now ring h = refl
keys_stay (op.RollKey key) (Done told) now ring h = cc
keys_stay _ (Done told) now ring h = refl

-- nor is one that isn't a roll
pub keys_stay_unrolled : (what : Op) (verdict : Verdict) (now : ℕ) (ring : KeyRing) → is_roll what ≡ false → ring_by what verdict now ring ≡ ring
keys_stay_unrolled what (Denied denial) now ring h = refl
keys_stay_unrolled what (Refused refusal) now ring h = refl
keys_stay_unrolled (op.RollKey key) (Done told) now ring h = cc
keys_stay_unrolled _ (Done told) now ring h = refl

-- none changes what is known of blocks
pub blocks_stay : (facts : Facts) (what : Op) (caller : List ℕ) (verdict : Verdict) (rows : List Row) (blocks : Blocks) → keeps_leases what ≡ true → blocks_by facts what caller verdict rows blocks ≡ blocks
blocks_stay facts what caller (Denied denial) rows blocks h = refl
blocks_stay facts what caller (Refused refusal) rows blocks h = refl
blocks_stay facts (op.Create path mode replication over) caller (Done told) rows blocks h = cc
blocks_stay facts (op.Delete path recursive) caller (Done told) rows blocks h = cc
blocks_stay facts (op.Append path) caller (Done told) rows blocks h = cc
blocks_stay facts (op.AddBlock path last) caller (Done told) rows blocks h = cc
blocks_stay facts (op.Complete path last) caller (Done told) rows blocks h = cc
blocks_stay facts (op.SetReplication path replication) caller (Done told) rows blocks h = cc
blocks_stay facts op.Tick caller (Done told) rows blocks h = cc
blocks_stay facts op.Heartbeat caller (Done told) rows blocks h = cc
blocks_stay facts (op.Reported replica) caller (Done told) rows blocks h = cc
blocks_stay facts (op.CommitRecovery recovered) caller (Done told) rows blocks h = cc
blocks_stay facts _ caller (Done told) rows blocks h = refl

-- each client has as many files open, and the same lease
pub exact_kept : (last : List ℕ → Option ℕ) (now : ℕ) (facts : Facts) (rows : List Row) (users : Users) (caller : List ℕ) (what : Op) (verdict : Verdict) (left : List Row) (writers : Writers)
    → keeps_leases what ≡ true → IsNamespace rows → left ≡ (step facts rows users caller what).rows → IsExact last rows writers → IsExact (renewed_where (renews what verdict) caller now last) left writers
exact_kept last now facts rows users caller what verdict left writers k namespace is exact =
    record {
      files = λ client. exact.files client ∙ (sym (kept_open client rows namespace facts users caller what k) ∙ ap (λ rs. length (open_files client rs)) (sym is));
      leased = λ client. exact.leased client ∙ ap (λ b. cond (nat_lt 0 (count_of writers.files client)) (cond (b && same caller client) (Some now) (last client)) None) (sym (renews_not what verdict k));
    }

-- What is granted: whichever key is the current one, it lasts for the same lifetime, and what holds of each grant holds of each row of the ledger.
use Rattle.std.proofs.Common.{◌≡◌, ℕ, List, refl}
use Rattle.std.specs.List.{AllByRecursion}
use Rattle.hdfs_types.specs.declared.op.Op.{Op}
use Rattle.hdfs_types.specs.declared.op.Op.TheVariants as op
use Rattle.block_tokens.specs.Ring.{KeyRing}
use Rattle.grant_ledger.specs.declared.ledger.LedgerRow.{LedgerRow}
use Rattle.flat_rows.specs.declared.verdict.Verdict.{Verdict}
use Rattle.flat_rows.specs.declared.verdict.Verdict.TheVariants.{Done, Denied, Refused}
use Rattle.history.specs.Grants.{BlockModes, granted_by, ledger_row, rows_granted}
use Rattle.history.specs.Keys.{ring_after, ring_by}
use Rattle.cluster_trace.proofs.Each.{each_map}

after_lifetime : (what : Op) (now : ℕ) (ring : KeyRing) → (ring_after what now ring).lifetime ≡ ring.lifetime
after_lifetime (op.RollKey key) now ring = refl
after_lifetime _ now ring = refl

pub kept_lifetime : (what : Op) (verdict : Verdict) (now : ℕ) (ring : KeyRing) → (ring_by what verdict now ring).lifetime ≡ ring.lifetime
kept_lifetime what (Done told) now ring = after_lifetime what now ring
kept_lifetime what (Denied denial) now ring = refl
kept_lifetime what (Refused refusal) now ring = refl

pub each_granted : (P : LedgerRow → Type 0) (place : ℕ) (ring : KeyRing) (now : ℕ) (caller : List ℕ) → ((own : BlockModes) → P (ledger_row place ring now caller own)) → (what : Op) (verdict : Verdict)
    → AllByRecursion P (rows_granted place ring now caller what verdict)
each_granted P place ring now caller h what (Done told) = each_map P (ledger_row place ring now caller) h (granted_by what told)
each_granted P place ring now caller h what (Denied denial) = tt
each_granted P place ring now caller h what (Refused refusal) = tt

-- Entries that change nothing but the clock.
use Rattle.std.proofs.Common.{◌≡◌, ℕ, true, false, ◌&&◌, List, [], ◌∷◌, ◌++◌, map, Some, refl, ap, ◌∙◌, cond}
use Rattle.std.proofs.lemmas.List.{append-nil}
use Rattle.hdfs_values.specs.Text.{same}
use Rattle.hdfs_types.specs.Request.{is_look}
use Rattle.hdfs_types.specs.declared.op.Op.{Op}
use Rattle.hdfs_types.specs.declared.op.Op.TheVariants.{Stat, List as Lists, Summary, GetAcl}
use Rattle.hdfs_types.specs.declared.reply.Reply.{Reply}
use Rattle.principals.specs.Users.{Users}
use Rattle.namespace_rows.specs.declared.row.Row.{Row}
use Rattle.flat_rows.specs.declared.verdict.Verdict.{Verdict}
use Rattle.flat_rows.specs.declared.verdict.Verdict.TheVariants.{Done, Denied, Refused}
use Rattle.block_tokens.specs.Ring.{KeyRing}
use Rattle.block_map.specs.BlockFacts.{Blocks}
use Rattle.flat_rows.specs.Facts.{Facts}
use Rattle.history.specs.declared.entry.HistoryEntry.{HistoryEntry}
use Rattle.history.specs.Config.{Opening, limits_of}
use Rattle.history.specs.ClockAndLease.{renews, last_renewal, clock_of, lease_in}
use Rattle.history.specs.Keys.{ring_by, ring_of}
use Rattle.history.specs.Blocks.{blocks_by}
use Rattle.history.specs.Grants.{granted_by, ledger_row, rows_granted, ledger_of}
use Rattle.history.specs.State.{users_by, users_of, facts_with, rows_by, rows_of, blocks_of}
use Rattle.flat_rows.specs.Verdicts.{is_done}
use Rattle.history.specs.Laws.{IsSame}

-- what an operation with a verdict does
pub record Rests (op : Op) (verdict : Verdict) : Type 0 where
  pub users : (users : Users) → users_by op verdict users ≡ users
  pub rows : (facts : Facts) (caller : List ℕ) (rows : List Row) → rows_by facts op caller verdict rows ≡ rows
  pub renewals : renews op verdict ≡ false
  pub keys : (now : ℕ) (ring : KeyRing) → ring_by op verdict now ring ≡ ring
  pub blocks : (facts : Facts) (caller : List ℕ) (rows : List Row) (blocks : Blocks) → blocks_by facts op caller verdict rows blocks ≡ blocks
  pub grants : (place : ℕ) (ring : KeyRing) (now : ℕ) (caller : List ℕ) → rows_granted place ring now caller op verdict ≡ []

pub same_where_rests : (opening : Opening) (entry : HistoryEntry) (earlier : List HistoryEntry) → Rests entry.request.op entry.verdict → IsSame opening entry earlier
same_where_rests opening entry earlier rests =
    record {
      users = rests.users (users_of earlier);
      rows = rests.rows (facts_with (limits_of opening.config) (clock_of (entry ∷ earlier)) (lease_in (last_renewal earlier) (rows_of opening earlier)) (ring_of opening earlier) (blocks_of opening earlier)) entry.request.caller (rows_of opening earlier);
      renewals = λ client. ap (λ b. cond (b && same entry.request.caller client) (Some (clock_of (entry ∷ earlier))) (last_renewal earlier client)) rests.renewals;
      keys = rests.keys (clock_of (entry ∷ earlier)) (ring_of opening earlier);
      blocks = rests.blocks (facts_with (limits_of opening.config) (clock_of (entry ∷ earlier)) (lease_in (last_renewal earlier) (rows_of opening earlier)) (ring_of opening earlier) (blocks_of opening earlier)) entry.request.caller (rows_of opening earlier) (blocks_of opening earlier);
      grants = ap (λ rows. ledger_of opening earlier ++ rows) (rests.grants entry.place (ring_of opening earlier) (clock_of (entry ∷ earlier)) entry.request.caller) ∙ append-nil (ledger_of opening earlier);
    }

pub not_done_rests : (op : Op) (verdict : Verdict) → is_done verdict ≡ false → Rests op verdict
not_done_rests op (Done reply) h = cc
not_done_rests op (Denied denial) h = record { users = λ users. refl; rows = λ facts caller rows. refl; renewals = refl; keys = λ now ring. refl; blocks = λ facts caller rows blocks. refl; grants = λ place ring now caller. refl }
not_done_rests op (Refused refusal) h = record { users = λ users. refl; rows = λ facts caller rows. refl; renewals = refl; keys = λ now ring. refl; blocks = λ facts caller rows blocks. refl; grants = λ place ring now caller. refl }

-- a reply changes nothing, and what isn't done neither
rests : (op : Op) → ((users : Users) (told : Reply) → users_by op (Done told) users ≡ users) → ((facts : Facts) (caller : List ℕ) (told : Reply) (rows : List Row) → rows_by facts op caller (Done told) rows ≡ rows)
    → ((told : Reply) → renews op (Done told) ≡ false) → ((told : Reply) (now : ℕ) (ring : KeyRing) → ring_by op (Done told) now ring ≡ ring)
    → ((facts : Facts) (caller : List ℕ) (told : Reply) (rows : List Row) (blocks : Blocks) → blocks_by facts op caller (Done told) rows blocks ≡ blocks)
    → ((told : Reply) → granted_by op told ≡ []) → (verdict : Verdict) → Rests op verdict
rests op users rows renewals keys blocks grants (Done told) =
    record {
      users = λ some. users some told;
      rows = λ facts caller some. rows facts caller told some;
      renewals = renewals told;
      keys = keys told;
      blocks = λ facts caller. blocks facts caller told;
      grants = λ place ring now caller. ap (map (ledger_row place ring now caller)) (grants told);
    }
rests op users rows renewals keys blocks grants (Denied denial) = not_done_rests op (Denied denial) refl
rests op users rows renewals keys blocks grants (Refused refusal) = not_done_rests op (Refused refusal) refl

pub look_rests : (op : Op) (verdict : Verdict) → is_look op ≡ true → Rests op verdict
look_rests (Stat path) verdict h = rests (Stat path) (λ users told. refl) (λ facts caller told rows. refl) (λ told. refl) (λ told now ring. refl) (λ facts caller told rows blocks. refl) (λ told. refl) verdict
look_rests (Lists path) verdict h = rests (Lists path) (λ users told. refl) (λ facts caller told rows. refl) (λ told. refl) (λ told now ring. refl) (λ facts caller told rows blocks. refl) (λ told. refl) verdict
look_rests (Summary path) verdict h = rests (Summary path) (λ users told. refl) (λ facts caller told rows. refl) (λ told. refl) (λ told now ring. refl) (λ facts caller told rows blocks. refl) (λ told. refl) verdict
look_rests (GetAcl path) verdict h = rests (GetAcl path) (λ users told. refl) (λ facts caller told rows. refl) (λ told. refl) (λ told now ring. refl) (λ facts caller told rows blocks. refl) (λ told. refl) verdict
look_rests _ verdict h = cc

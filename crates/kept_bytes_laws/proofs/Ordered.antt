-- Each node reports a block once: reports stand by the nodes, in every history.
use Rattle.std.proofs.Common.{◌≡◌, ℕ, ◌==◌, List, [], ◌∷◌}
use Rattle.block_records.specs.Numbers.{is_number}
use Rattle.block_records.specs.Reports.{agreeing_reports}
use Rattle.block_records.specs.declared.block_record.BlockRecord.{BlockRecord}
use Rattle.block_records.proofs.Ascending.{kept_ascending}
use Rattle.block_effect_laws.proofs.Orders.{AreInOrder, put_in_order, taken_in_order}
use Rattle.flat_rows.specs.Facts.{Facts}
use Rattle.flat_rows.specs.declared.verdict.Verdict.{Verdict}
use Rattle.flat_rows.specs.declared.verdict.Verdict.TheVariants.{Done, Denied, Refused}
use Rattle.history.specs.declared.entry.HistoryEntry.{HistoryEntry}
use Rattle.history.specs.Config.{Opening}
use Rattle.history.specs.Blocks.{blocks_by}
use Rattle.history.specs.LegalHistory.{now_at, verdict_of, IsLegal}
use Rattle.history.specs.State.{rows_of, users_of, blocks_of, facts_of}
use Rattle.block_laws.proofs.Histories.{stands}
use Rattle.block_laws.proofs.Unrefused.{was_done}
use Rattle.kept_bytes_laws.proofs.Records.{OfEach, Stays, each_after}
use Rattle.kept_bytes_laws.proofs.Tables.{none_in_order, more_in_order}

abbrev pub ReportsInOrder : ℕ → BlockRecord → Type 0
ReportsInOrder block own = AreInOrder own.reports

order_stays : Stays ReportsInOrder
order_stays = record {
  replication = λ block replication own h. h;
  committed = λ block length own h. kept_ascending (λ report. report.1 == length) own.reports h;
  unreported = λ block node own h. taken_in_order (is_number node) own.reports h;
  copied = λ block now own h. h;
  recovery = λ block stamp now own h. none_in_order;
}

module _ (opening : Opening) (entry : HistoryEntry) (earlier : List HistoryEntry) (legal : IsLegal opening (entry ∷ earlier)) where
  abbrev then : Facts
  then = facts_of opening earlier (now_at earlier entry.request)

  order_behind : OfEach ReportsInOrder (blocks_of opening earlier).known.blocks → (verdict : Verdict) → verdict ≡ verdict_of opening earlier entry.request
      → OfEach ReportsInOrder (blocks_by then entry.request.op entry.request.caller verdict (rows_of opening earlier) (blocks_of opening earlier)).known.blocks
  order_behind before (Denied denial) is = before
  order_behind before (Refused refusal) is = before
  order_behind before (Done told) is =
      each_after ReportsInOrder order_stays then entry.request.caller (rows_of opening earlier) (users_of earlier) entry.request.op
      (was_done then (rows_of opening earlier) (users_of earlier) entry.request.caller entry.request.op told is).unrefused
      (record {
        added = λ new replication i. none_in_order;
        reported = λ node replica own w sender same h. put_in_order node replica.length own.reports h;
        recovered = λ recovery own w same h. more_in_order recovery.length recovery.nodes (agreeing_reports recovery.length own.reports) (kept_ascending (λ report. report.1 == recovery.length) own.reports h);
      })
      (stands opening earlier legal.2).sound.once before

pub in_order : (opening : Opening) (entries : List HistoryEntry) → IsLegal opening entries → OfEach ReportsInOrder (blocks_of opening entries).known.blocks
in_order opening [] legal = λ block own there. cc
in_order opening (entry ∷ earlier) legal = order_behind opening entry earlier legal (in_order opening earlier legal.2) entry.verdict legal.1

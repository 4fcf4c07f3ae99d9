-- Who opens a file is told just of the nodes that report its blocks.
use Rattle.std.proofs.Common.{◌≡◌, ℕ, Bool, true, false, is_some, List, [], ◌∷◌, Option, Some, None, refl, sym, ap, ◌∙◌, subst, cond}
use Rattle.std.proofs.lemmas.Map.Keys.{IsStrictlyIncreasing-from_sorted}
use Rattle.std.specs.List.Sorted.{IsStrictlyIncreasing}
use Rattle.std.specs.Map.{keys_of}
use Rattle.block_records.specs.Numbers.{is_number, has_number, entry_at}
use Rattle.block_records.specs.declared.block_record.BlockRecord.{BlockRecord}
use Rattle.block_records.proofs.Reporting.{has_key}
use Rattle.block_answers.specs.LocatedBlocks.{OpenedFile}
use Rattle.block_answers.specs.declared.located.LocatedBlock.{LocatedBlock}
use Rattle.block_changes.specs.Behind.{reports_by}
use Rattle.block_map.specs.BlockFacts.{known_block}
use Rattle.block_effect_laws.specs.Laws.{AgreeOn}
use Rattle.file_blocks.specs.declared.blocks.FileBlock.{FileBlock}
use Rattle.hdfs_types.specs.declared.reply.Reply.TheVariants as reply
use Rattle.flat_rows.specs.BlockOutcome.{located_with}
use Rattle.flat_rows.specs.Facts.{Facts}
use Rattle.flat_rows.specs.declared.verdict.Verdict.TheVariants.{Done}
use Rattle.history.specs.declared.entry.HistoryEntry.{HistoryEntry}
use Rattle.history.specs.Config.{Opening}
use Rattle.history.specs.LegalHistory.{now_at, IsLegal}
use Rattle.history.specs.State.{rows_of, users_of, blocks_of, facts_of}
use Rattle.block_laws.proofs.Histories.{stands, files_tell}
use Rattle.block_laws.proofs.Unrefused.{was_done}
use Rattle.cluster_trace.proofs.Each.{each_in}
use Rattle.kept_bytes_laws.specs.Reports.{ReportingNodesAreListed, ListedNodesAscend}
use Rattle.kept_bytes_laws.proofs.Opened.{OfListed, of_reply}
use Rattle.kept_bytes_laws.proofs.Ordered.{in_order}
use Rattle.kept_bytes_laws.proofs.Reports.{as_told}

-- a node is among those that report, or has nothing
reported_alike : (node length : ℕ) (reports : List (ℕ × ℕ)) → AgreeOn (Some length) reports → entry_at node reports ≡ cond (is_some (entry_at node reports)) (Some length) None
reported_alike node length [] all = refl
reported_alike node length (report ∷ reports) all = by (is_number node report.0) (reported_alike node length reports all.1)
  where
    by : (b : Bool) → entry_at node reports ≡ cond (is_some (entry_at node reports)) (Some length) None
        → cond b (Some report.1) (entry_at node reports) ≡ cond (is_some (cond b (Some report.1) (entry_at node reports))) (Some length) None
    by true rest = ap (λ own. Some own) all.0
    by false rest = rest

-- the node is listed just where it reports the block
abbrev Lists : Opening → List HistoryEntry → ℕ → LocatedBlock → Type 0
Lists opening earlier node own = entry_at node (reports_by (known_block (blocks_of opening earlier) own.block)) ≡ cond (has_number node own.nodes) (Some own.length) None

module _ (opening : Opening) (entry : HistoryEntry) (earlier : List HistoryEntry) (file : OpenedFile) (legal : IsLegal opening (entry ∷ earlier)) (opened : entry.verdict ≡ Done (reply.Opened file)) where
  abbrev then : Facts
  then = facts_of opening earlier (now_at earlier entry.request)

  -- what holds of each block that a reader can be told of then
  module _ (P : LocatedBlock → Type 0)
      (located : (length : ℕ) (block : FileBlock) (own : BlockRecord) → own.committed ≡ Some length → known_block then.blocks block.id ≡ Some own → P (located_with then.token entry.request.caller block.id length own)) where
    of_file : OfListed P (reply.Opened file)
    of_file =
        subst (OfListed P) (sym (was_done then (rows_of opening earlier) (users_of earlier) entry.request.caller entry.request.op (reply.Opened file) (sym opened ∙ legal.1)).told_is)
        (of_reply P then entry.request.caller (rows_of opening earlier) (files_tell opening earlier legal.2) located entry.request.op)

  lists : (node length : ℕ) (block : FileBlock) (own : BlockRecord) → own.committed ≡ Some length → known_block then.blocks block.id ≡ Some own
      → Lists opening earlier node (located_with then.token entry.request.caller block.id length own)
  lists node length block own committed there =
      let agreed = ((stands opening earlier legal.2).sound.each block.id own there).agreed in
      ap (λ (found : Option BlockRecord). entry_at node (reports_by found)) there
      ∙ (reported_alike node length own.reports (subst (λ c. AgreeOn c own.reports) committed agreed) ∙ ap (λ b. cond b (Some length) None) (sym (has_key node own.reports)))

pub reporting_are_listed : ReportingNodesAreListed
reporting_are_listed opening entry earlier file listed node legal opened i =
    sym (as_told opening earlier node listed.block legal.2)
    ∙ each_in (Lists opening earlier node) file.blocks listed (of_file opening entry earlier file legal opened (Lists opening earlier node) (lists opening entry earlier file legal opened node)) i

pub listed_ascend : ListedNodesAscend
listed_ascend opening entry earlier file listed legal opened i =
    each_in (λ (own : LocatedBlock). IsStrictlyIncreasing own.nodes) file.blocks listed
    (of_file opening entry earlier file legal opened (λ (own : LocatedBlock). IsStrictlyIncreasing own.nodes)
    (λ length block own committed there. IsStrictlyIncreasing-from_sorted (keys_of own.reports) (in_order opening earlier legal.2 block.id own there))) i

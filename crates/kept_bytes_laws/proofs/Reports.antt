-- What is known of reports is what the entries of a history told.
use Rattle.std.proofs.Common.{◌≡◌, ℕ, ◌==◌, ◌&&◌, Bool, true, false, not, inl, inr, List, [], ◌∷◌, map, is_some, nat_lt, Option, Some, None, refl, sym, ap, ◌∙◌, cond, arith}
use Rattle.std.proofs.lemmas.Bool.{eqb-true, eqb-false, eq-eqb, ne_eqb, ltb-true}
use Rattle.std.proofs.lemmas.Map.Entries.{option_filter}
use Rattle.std.specs.Bool.{⊤}
use Rattle.std.specs.Option.{option_map, option_or, option_and_then}
use Rattle.node_ids.specs.NodeId.{node_of}
use Rattle.block_records.specs.Numbers.{is_number, has_number, entry_at}
use Rattle.block_records.specs.Reports.{agreeing_reports, with_reports_of}
use Rattle.block_records.specs.Verdicts.{agrees, verdict_by}
use Rattle.block_records.specs.declared.block_record.BlockRecord.{BlockRecord}
use Rattle.block_records.specs.declared.last_block.LastBlock.{LastBlock}
use Rattle.block_records.specs.declared.report.ReportVerdict.{ReportVerdict}
use Rattle.block_records.specs.declared.report.ReportVerdict.TheVariants.{Superseded, Invalid, Valid}
use Rattle.block_records.proofs.Numbers.{number_is}
use Rattle.block_records.proofs.Reporting.{number_eq}
use Rattle.block_changes.specs.Behind.{reports_by}
use Rattle.block_changes.specs.Copies.{is_the}
use Rattle.block_changes.specs.declared.transfer.Transfer.{Transfer}
use Rattle.block_tables.specs.Changes.{with_report, without_report, with_length, with_recovered, without_blocks}
use Rattle.known_blocks.specs.Known.{KnownBlocks, with_block_changed}
use Rattle.block_map.specs.BlockFacts.{Blocks, known_block, newest_stamp, committed_length, transfers_for, chosen_targets}
use Rattle.block_map.specs.BlockEffects.{committed_last, recoveries_begun, with_node_heard, without_report_at, reported_by}
use Rattle.block_effect_laws.specs.Laws.{IsSound}
use Rattle.hdfs_types.specs.declared.op.Op.{Op}
use Rattle.hdfs_types.specs.declared.op.Op.TheVariants as op
use Rattle.hdfs_types.specs.declared.replica.RecoveredBlock.{RecoveredBlock}
use Rattle.hdfs_types.specs.declared.replica.ReportedReplica.{ReportedReplica}
use Rattle.hdfs_types.specs.declared.reply.Reply.{Reply}
use Rattle.principals.specs.Users.{Users}
use Rattle.namespace_rows.specs.declared.row.Row.{Row}
use Rattle.namespace_rows.specs.Files.{blocks_in}
use Rattle.namespace_rows.specs.Namespace.{IsNamespace}
use Rattle.namespace_rows.specs.Rows.{row_at}
use Rattle.flat_rows.specs.BlockOutcome.{replication_at, replication_of, ids_at}
use Rattle.namespace_rows.specs.Changes.{rows_under}
use Rattle.flat_rows.specs.Facts.{Facts}
use Rattle.flat_rows.specs.FileOutcome.{holder_at}
use Rattle.flat_rows.specs.Outcome.{first_refusal}
use Rattle.flat_rows.specs.Takeover.{unfinished_at, sought_blocks}
use Rattle.flat_rows.specs.declared.verdict.Verdict.{Verdict}
use Rattle.flat_rows.specs.declared.verdict.Verdict.TheVariants.{Done, Denied, Refused}
use Rattle.history.specs.declared.entry.HistoryEntry.{HistoryEntry}
use Rattle.history.specs.Config.{Opening}
use Rattle.history.specs.Blocks.{heard_of, reported_of, file_extended, file_ended, taken_over, blocks_after, blocks_by}
use Rattle.history.specs.LegalHistory.{now_at, verdict_of, IsLegal}
use Rattle.history.specs.State.{rows_of, users_of, blocks_of, facts_of}
use Rattle.block_laws.proofs.Histories.{stands}
use Rattle.block_laws.proofs.Told.{number_equal}
use Rattle.block_laws.proofs.Unrefused.{one, was_done, block_asked, recovery_ran}
use Rattle.kept_bytes_laws.specs.Reports.{is_report_of, is_end_of, replica_on, length_told, tells_otherwise, is_marked, stays_reported, reported_behind, told_of, ReportsAreAsTold}
use Rattle.kept_bytes_laws.proofs.Records.{OfEach, all_removed_have}
use Rattle.kept_bytes_laws.proofs.Tables.{put_at, more_at, left_at, agreeing_at}
use Rattle.kept_bytes_laws.proofs.Ordered.{ReportsInOrder, in_order}
use Rattle.kept_bytes_laws.proofs.Turned.{Turned, TurnedFrom, untold, turned_one, begun, all_begun, added, replicated, handed}

-- ---- each operation

both_false : (a b : Bool) → b ≡ false → (a && b) ≡ false
both_false true b h = h
both_false false b h = refl

module _ (facts : Facts) (caller : List ℕ) (rows : List Row) (users : Users) (namespace : IsNamespace rows) (sound : IsSound facts.blocks.known) (node : ℕ)
    (order : OfEach ReportsInOrder facts.blocks.known.blocks) where
  abbrev known : KnownBlocks
  known = facts.blocks.known

  abbrev committed : ℕ → Option ℕ
  committed block = committed_length facts.blocks block

  -- what an operation that is done leaves of a length that was reported
  abbrev tells : Op → ℕ → ℕ → Option ℕ → Option ℕ
  tells what block stamp before = option_or (length_told (committed block) what caller (replica_on node block stamp)) (stays_reported (committed block) what caller (replica_on node block stamp) before)

  quiet : (what : Op) (block stamp : ℕ) → length_told (committed block) what caller (replica_on node block stamp) ≡ None
      → ((length : ℕ) → is_marked (committed block) what caller (replica_on node block stamp) length ≡ false) → (r : Option ℕ) → tells what block stamp r ≡ r
  quiet what block stamp none unmarked r = ap (λ t. option_or t (stays_reported (committed block) what caller (replica_on node block stamp) r)) none ∙ by r
    where
      by : (r : Option ℕ) → stays_reported (committed block) what caller (replica_on node block stamp) r ≡ r
      by None = refl
      by (Some length) = ap (λ b. cond b None (Some length)) (unmarked length)

  abbrev Turns : Op → KnownBlocks → Type 0
  Turns what later = OfEach (TurnedFrom node (tells what) known.blocks) later.blocks

  -- nothing is told of any block
  start : (what : Op) → ((block stamp : ℕ) (r : Option ℕ) → tells what block stamp r ≡ r) → Turns what known
  start what silent block own there = untold node (tells what) known.blocks block own there (silent block own.stamp)

  taken : (what : Op) → ((block stamp : ℕ) (r : Option ℕ) → tells what block stamp r ≡ r) → (holder : Option (List ℕ)) (block : Option ℕ) → Turns what (taken_over holder block facts.now facts.blocks).known
  taken what silent None None = start what silent
  taken what silent (Some holder) None = start what silent
  taken what silent None (Some block) = start what silent
  taken what silent (Some holder) (Some block) = begun node (tells what) known sound facts.now facts.blocks block (omega arith) (start what silent)

  heard : (what : Op) → ((block stamp : ℕ) (r : Option ℕ) → tells what block stamp r ≡ r) → (sender : Option ℕ) → Turns what (heard_of sender facts.now facts.blocks).known
  heard what silent None = start what silent
  heard what silent (Some own) =
      handed node (tells what) known.blocks facts.now (map (λ (transfer : Transfer). transfer.block) (transfers_for (with_node_heard facts.blocks own facts.now) facts.now own)) known.blocks (start what silent)

  -- ---- a length is committed

  module _ (what : Op) (last : LastBlock) (none : (block stamp : ℕ) → length_told (committed block) what caller (replica_on node block stamp) ≡ None)
      (marks : (block stamp length : ℕ) → is_marked (committed block) what caller (replica_on node block stamp) length ≡ tells_otherwise (Some last) block length) where
    ended : Turns what (with_block_changed (with_length last.length) last.block known)
    ended = turned_one node (tells what) known.blocks (with_length last.length) last.block here apart
      where
        turn : (b : Bool) (length : ℕ) → cond b (Some length) None ≡ cond (not b) None (Some length)
        turn true length = refl
        turn false length = refl

        left : (stamp : ℕ) (r : Option ℕ) → option_filter (λ own. own == last.length) r ≡ stays_reported (committed last.block) what caller (replica_on node last.block stamp) r
        left stamp None = refl
        left stamp (Some length) =
            turn (length == last.length) length
            ∙ (ap (λ a. cond (a && not (length == last.length)) None (Some length)) (sym (eq-eqb last.block last.block refl)) ∙ ap (λ b. cond b None (Some length)) (sym (marks last.block stamp length)))

        here : (own : BlockRecord) → entry_at last.block known.blocks ≡ Some own → Turned node (tells what) last.block (Some own) own.stamp (entry_at node (agreeing_reports last.length own.reports))
        here own there =
            inl (
              refl,
              agreeing_at node own.reports (order last.block own there) last.length
                  ∙ (left own.stamp (entry_at node own.reports)
                  ∙ ap (λ t. option_or t (stays_reported (committed last.block) what caller (replica_on node last.block own.stamp) (entry_at node own.reports))) (sym (none last.block own.stamp))),
            )

        apart : (q : ℕ) → is_number last.block q ≡ false → (stamp : ℕ) (r : Option ℕ) → tells what q stamp r ≡ r
        apart q at stamp r =
            quiet what q stamp (none q stamp) (λ length. marks q stamp length ∙ ap (λ b. b && not (length == last.length)) (sym (number_equal last.block q) ∙ at)) r

  extended : (path : List (List ℕ)) (last : Option LastBlock) (found : Option ℕ) → is_some found ≡ true → Turns (op.AddBlock path last) (file_extended last facts.now found facts.blocks).known
  extended path last None there = cc
  extended path None (Some replication) there =
      added node (tells (op.AddBlock path None)) known sound known (chosen_targets (committed_last facts.blocks None) facts.now replication) replication (omega arith)
      (start (op.AddBlock path None) (λ block stamp. quiet (op.AddBlock path None) block stamp refl (λ length. refl)))
  extended path (Some last) (Some replication) there =
      added node (tells (op.AddBlock path (Some last))) known sound (committed_last facts.blocks (Some last)).known (chosen_targets (committed_last facts.blocks (Some last)) facts.now replication) replication (omega arith)
      (ended (op.AddBlock path (Some last)) last (λ block stamp. refl) (λ block stamp length. refl))

  completed : (path : List (List ℕ)) (last : Option LastBlock) → Turns (op.Complete path last) (file_ended last facts.blocks).known
  completed path None = start (op.Complete path None) (λ block stamp. quiet (op.Complete path None) block stamp refl (λ length. refl))
  completed path (Some last) = ended (op.Complete path (Some last)) last (λ block stamp. refl) (λ block stamp length. refl)

  -- ---- a recovery ends

  module _ (recovery : RecoveredBlock) (unrefused : first_refusal facts caller (op.CommitRecovery recovery) rows users ≡ None) where
    -- what is told where it is the end of a recovery of the block, or not
    abbrev by_end : Bool → Option ℕ → Option ℕ
    by_end end None = option_or (cond (end && has_number node recovery.nodes) (Some recovery.length) None) None
    by_end end (Some length) = option_or (cond (end && has_number node recovery.nodes) (Some recovery.length) None) (cond (end && (not (has_number node recovery.nodes) && not (length == recovery.length))) None (Some length))

    recovered : Turns (op.CommitRecovery recovery) (with_block_changed (with_recovered recovery.length recovery.nodes) recovery.block known)
    recovered = turned_one node (tells (op.CommitRecovery recovery)) known.blocks (with_recovered recovery.length recovery.nodes) recovery.block here apart
      where
        told : (block stamp : ℕ) (r : Option ℕ) → by_end (is_end_of recovery (replica_on node block stamp)) r ≡ tells (op.CommitRecovery recovery) block stamp r
        told block stamp None = refl
        told block stamp (Some length) = refl

        known_end : (r : Option ℕ) → cond (has_number node recovery.nodes) (Some recovery.length) (option_filter (λ own. own == recovery.length) r) ≡ by_end true r
        known_end None = by (has_number node recovery.nodes)
          where
            by : (h : Bool) → cond h (Some recovery.length) None ≡ option_or (cond h (Some recovery.length) None) None
            by true = refl
            by false = refl
        known_end (Some length) = by (has_number node recovery.nodes) (length == recovery.length)
          where
            by : (h x : Bool) → cond h (Some recovery.length) (cond x (Some length) None) ≡ option_or (cond h (Some recovery.length) None) (cond (not h && not x) None (Some length))
            by true x = refl
            by false true = refl
            by false false = refl

        no_end : (r : Option ℕ) → by_end false r ≡ r
        no_end None = refl
        no_end (Some length) = refl

        here : (own : BlockRecord) → entry_at recovery.block known.blocks ≡ Some own
            → Turned node (tells (op.CommitRecovery recovery)) recovery.block (Some own) own.stamp (entry_at node (with_reports_of recovery.nodes recovery.length (agreeing_reports recovery.length own.reports)))
        here own there =
            let ran = recovery_ran facts caller recovery rows users unrefused in
            let same : recovery.stamp ≡ own.stamp = ran.stamped ∙ ap (λ (o : BlockRecord). o.stamp) (one ran.known own (sym ran.there ∙ there)) in
            let end : is_end_of recovery (replica_on node recovery.block own.stamp) ≡ true = ap (λ b. b && (recovery.stamp == own.stamp)) (eq-eqb recovery.block recovery.block refl) ∙ eq-eqb recovery.stamp own.stamp same in
            inl (
              refl,
              more_at node recovery.length recovery.nodes (agreeing_reports recovery.length own.reports)
                  ∙ (ap (cond (has_number node recovery.nodes) (Some recovery.length)) (agreeing_at node own.reports (order recovery.block own there) recovery.length)
                  ∙ (known_end (entry_at node own.reports) ∙ (ap (λ e. by_end e (entry_at node own.reports)) (sym end) ∙ told recovery.block own.stamp (entry_at node own.reports)))),
            )

        apart : (q : ℕ) → is_number recovery.block q ≡ false → (stamp : ℕ) (r : Option ℕ) → tells (op.CommitRecovery recovery) q stamp r ≡ r
        apart q at stamp r =
            sym (told q stamp r) ∙ (ap (λ e. by_end e r) (ap (λ b. b && (recovery.stamp == stamp)) (sym (number_equal recovery.block q) ∙ at)) ∙ no_end r)

  -- ---- a node reports a replica

  module _ (replica : ReportedReplica) where
    abbrev what : Op
    what = op.Reported replica

    -- what is told where it is a report of the node's replica, or not, and agrees with the committed length, or not
    abbrev by_report : Bool → Bool → Option ℕ → Option ℕ
    by_report its agree None = option_or (cond (its && agree) (Some replica.length) None) None
    by_report its agree (Some length) = option_or (cond (its && agree) (Some replica.length) None) (cond (its && not agree) None (Some length))

    report_told : (block stamp : ℕ) (r : Option ℕ) → by_report (is_report_of replica caller (replica_on node block stamp)) (agrees replica.length (committed block)) r ≡ tells what block stamp r
    report_told block stamp None = refl
    report_told block stamp (Some length) = refl

    no_report : (agree : Bool) (r : Option ℕ) → by_report false agree r ≡ r
    no_report agree None = refl
    no_report agree (Some length) = refl

    is_quiet : (block stamp : ℕ) → is_report_of replica caller (replica_on node block stamp) ≡ false → (r : Option ℕ) → tells what block stamp r ≡ r
    is_quiet block stamp other r = sym (report_told block stamp r) ∙ (ap (λ b. by_report b (agrees replica.length (committed block)) r) other ∙ no_report (agrees replica.length (committed block)) r)

    other_block : (block stamp : ℕ) → is_number replica.block block ≡ false → is_report_of replica caller (replica_on node block stamp) ≡ false
    other_block block stamp at =
        both_false (is_the node (node_of caller)) ((replica.block == block) && (replica.stamp == stamp)) (ap (λ b. b && (replica.stamp == stamp)) (sym (number_equal replica.block block) ∙ at))

    other_stamp : (block stamp : ℕ) → (replica.stamp == stamp) ≡ false → is_report_of replica caller (replica_on node block stamp) ≡ false
    other_stamp block stamp apart = both_false (is_the node (node_of caller)) ((replica.block == block) && (replica.stamp == stamp)) (both_false (replica.block == block) (replica.stamp == stamp) apart)

    -- nothing changes where the block has another stamp
    stale : ((own : BlockRecord) → entry_at replica.block known.blocks ≡ Some own → (replica.stamp == own.stamp) ≡ false) → Turns what known
    stale apart block own there = untold node (tells what) known.blocks block own there (is_quiet block own.stamp (by (is_number replica.block block) refl))
      where
        by : (b : Bool) → is_number replica.block block ≡ b → is_report_of replica caller (replica_on node block own.stamp) ≡ false
        by true at = other_stamp block own.stamp (apart own (ap (λ n. entry_at n known.blocks) (number_is replica.block block at) ∙ there))
        by false at = other_block block own.stamp at

    module _ (sender : ℕ) (sent : node_of caller ≡ Some sender) where
      its_report : (own : BlockRecord) → replica.stamp ≡ own.stamp → is_report_of replica caller (replica_on node replica.block own.stamp) ≡ (sender == node)
      its_report own same =
          ap (λ s. is_the node s && ((replica.block == replica.block) && (replica.stamp == own.stamp))) sent
          ∙ (ap (λ b. (sender == node) && (b && (replica.stamp == own.stamp))) (eq-eqb replica.block replica.block refl)
          ∙ (ap (λ b. (sender == node) && b) (eq-eqb replica.stamp own.stamp same) ∙ alone (sender == node)))
        where
          alone : (b : Bool) → (b && true) ≡ b
          alone true = refl
          alone false = refl

      agrees_by : (own : BlockRecord) → entry_at replica.block known.blocks ≡ Some own → agrees replica.length (committed replica.block) ≡ agrees replica.length own.committed
      agrees_by own there = ap (λ (found : Option BlockRecord). agrees replica.length (option_and_then (λ (o : BlockRecord). o.committed) found)) there

      -- a report of the newest stamp
      told_now : (own : BlockRecord) → entry_at replica.block known.blocks ≡ Some own → replica.stamp ≡ own.stamp → (agree : Bool) → agrees replica.length own.committed ≡ agree
          → by_report (sender == node) agree (entry_at node own.reports) ≡ tells what replica.block own.stamp (entry_at node own.reports)
      told_now own there same agree is =
          ap (λ b. by_report b agree (entry_at node own.reports)) (sym (its_report own same))
          ∙ (ap (λ b. by_report (is_report_of replica caller (replica_on node replica.block own.stamp)) b (entry_at node own.reports)) (sym (agrees_by own there ∙ is)) ∙ report_told replica.block own.stamp (entry_at node own.reports))

      taken_in : (r : Option ℕ) → cond (sender == node) (Some replica.length) r ≡ by_report (sender == node) true r
      taken_in None = by (sender == node)
        where
          by : (b : Bool) → cond b (Some replica.length) None ≡ option_or (cond (b && true) (Some replica.length) None) None
          by true = refl
          by false = refl
      taken_in (Some length) = by (sender == node)
        where
          by : (b : Bool) → cond b (Some replica.length) (Some length) ≡ option_or (cond (b && true) (Some replica.length) None) (cond (b && not true) None (Some length))
          by true = refl
          by false = refl

      taken_out : (r : Option ℕ) → cond (sender == node) None r ≡ by_report (sender == node) false r
      taken_out None = by (sender == node)
        where
          by : (b : Bool) → cond b None None ≡ option_or (cond (b && false) (Some replica.length) None) None
          by true = refl
          by false = refl
      taken_out (Some length) = by (sender == node)
        where
          by : (b : Bool) → cond b None (Some length) ≡ option_or (cond (b && false) (Some replica.length) None) (cond (b && not false) None (Some length))
          by true = refl
          by false = refl

      elsewhere : (q : ℕ) → is_number replica.block q ≡ false → (stamp : ℕ) (r : Option ℕ) → tells what q stamp r ≡ r
      elsewhere q at stamp r = is_quiet q stamp (other_block q stamp at) r

      valid : ((own : BlockRecord) → entry_at replica.block known.blocks ≡ Some own → (replica.stamp ≡ own.stamp) × (agrees replica.length own.committed ≡ true))
          → Turns what (with_block_changed (with_report sender replica.length) replica.block known)
      valid suits = turned_one node (tells what) known.blocks (with_report sender replica.length) replica.block here elsewhere
        where
          here : (own : BlockRecord) → entry_at replica.block known.blocks ≡ Some own
              → Turned node (tells what) replica.block (Some own) own.stamp (entry_at node (with_report sender replica.length own).reports)
          here own there =
              inl (
                refl,
                put_at node sender replica.length own.reports
                    ∙ (ap (λ b. cond b (Some replica.length) (entry_at node own.reports)) (number_eq node sender)
                    ∙ (taken_in (entry_at node own.reports) ∙ told_now own there (suits own there).0 true (suits own there).1)),
              )

      invalid : ((own : BlockRecord) → entry_at replica.block known.blocks ≡ Some own → (replica.stamp ≡ own.stamp) × (agrees replica.length own.committed ≡ false))
          → Turns what (with_block_changed (without_report sender) replica.block known)
      invalid suits = turned_one node (tells what) known.blocks (without_report sender) replica.block here elsewhere
        where
          here : (own : BlockRecord) → entry_at replica.block known.blocks ≡ Some own → Turned node (tells what) replica.block (Some own) own.stamp (entry_at node (without_report sender own).reports)
          here own there =
              inl (
                refl,
                left_at node own.reports (order replica.block own there) sender
                    ∙ (ap (λ b. cond b None (entry_at node own.reports)) (number_equal sender node)
                    ∙ (taken_out (entry_at node own.reports) ∙ told_now own there (suits own there).0 false (suits own there).1)),
              )

      -- the verdict on a report of a block that is known
      module _ (own : BlockRecord) where
        abbrev judged : ReportVerdict
        judged = verdict_by (Some own) replica.stamp replica.length

        lower : (a b : Bool) → (a && b) ≡ true → a ≡ true
        lower true b h = refl
        lower false b h = cc

        less_apart : (m n : ℕ) → nat_lt m n ≡ true → (m == n) ≡ false
        less_apart m n h = let less = ltb-true m n h in ne_eqb m n (λ e. omega (arith, less, e))

        superseded_is : judged ≡ Superseded → (replica.stamp == own.stamp) ≡ false
        superseded_is h = by (nat_lt replica.stamp own.stamp && is_some own.recovering) refl ((replica.stamp == own.stamp) && agrees replica.length own.committed) h
          where
            by : (a : Bool) → (nat_lt replica.stamp own.stamp && is_some own.recovering) ≡ a → (c : Bool) → cond a Superseded (cond c Valid Invalid) ≡ Superseded → (replica.stamp == own.stamp) ≡ false
            by true e c h = less_apart replica.stamp own.stamp (lower (nat_lt replica.stamp own.stamp) (is_some own.recovering) e)
            by false e true h = cc
            by false e false h = cc

        valid_is : judged ≡ Valid → (replica.stamp ≡ own.stamp) × (agrees replica.length own.committed ≡ true)
        valid_is h = by (nat_lt replica.stamp own.stamp && is_some own.recovering) (replica.stamp == own.stamp) refl (agrees replica.length own.committed) refl h
          where
            by : (a b : Bool) → (replica.stamp == own.stamp) ≡ b → (c : Bool) → agrees replica.length own.committed ≡ c → cond a Superseded (cond (b && c) Valid Invalid) ≡ Valid
                → (replica.stamp ≡ own.stamp) × (agrees replica.length own.committed ≡ true)
            by true b e c f h = cc
            by false true e true f h = (eqb-true replica.stamp own.stamp e, f)
            by false true e false f h = cc
            by false false e c f h = cc

        invalid_is : judged ≡ Invalid → replica.stamp ≡ own.stamp → agrees replica.length own.committed ≡ false
        invalid_is h same = by (nat_lt replica.stamp own.stamp && is_some own.recovering) (replica.stamp == own.stamp) (eq-eqb replica.stamp own.stamp same) (agrees replica.length own.committed) refl h
          where
            by : (a b : Bool) → b ≡ true → (c : Bool) → agrees replica.length own.committed ≡ c → cond a Superseded (cond (b && c) Valid Invalid) ≡ Invalid → agrees replica.length own.committed ≡ false
            by true b e c f h = cc
            by false true e true f h = cc
            by false true e false f h = f
            by false false e c f h = cc

      -- what is known of the block
      judged_by : (own : BlockRecord) → entry_at replica.block known.blocks ≡ Some own → (verdict : ReportVerdict) → verdict_by (known_block facts.blocks replica.block) replica.stamp replica.length ≡ verdict
          → verdict_by (Some own) replica.stamp replica.length ≡ verdict
      judged_by own there verdict is = ap (λ found. verdict_by found replica.stamp replica.length) (sym there) ∙ is

      stamp_by : (own : BlockRecord) → entry_at replica.block known.blocks ≡ Some own → newest_stamp facts.blocks replica.block ≡ Some own.stamp
      stamp_by own there = ap (λ (found : Option BlockRecord). option_map (λ (o : BlockRecord). o.stamp) found) there

      marked : verdict_by (known_block facts.blocks replica.block) replica.stamp replica.length ≡ Invalid → (newest : Option ℕ) → newest_stamp facts.blocks replica.block ≡ newest
          → Turns what (without_report_at newest replica.stamp sender replica.block known)
      marked is None e = stale (λ own there. never (sym (stamp_by own there) ∙ e))
        where
          never : {m : ℕ} {A : Type 0} → Some m ≡ None → A
          never h = cc
      marked is (Some newest) e = by (newest == replica.stamp) refl
        where
          newest_is : (own : BlockRecord) → entry_at replica.block known.blocks ≡ Some own → newest ≡ own.stamp
          newest_is own there = one newest own.stamp (sym e ∙ stamp_by own there)

          by : (b : Bool) → (newest == replica.stamp) ≡ b → Turns what (cond b (with_block_changed (without_report sender) replica.block known) known)
          by true same =
              invalid (λ own there.
              let stamped : replica.stamp ≡ own.stamp = sym (eqb-true newest replica.stamp same) ∙ newest_is own there in
              (stamped, invalid_is own (judged_by own there Invalid is) stamped))
          by false apart = stale (λ own there. flipped newest replica.stamp own.stamp apart (newest_is own there))
            where
              flipped : (m n o : ℕ) → (m == n) ≡ false → m ≡ o → (n == o) ≡ false
              flipped m n o other same = ne_eqb n o (λ e. eqb-false m n other (same ∙ sym e))

      by_verdict : (verdict : ReportVerdict) → verdict_by (known_block facts.blocks replica.block) replica.stamp replica.length ≡ verdict
          → Turns what (reported_by verdict facts.blocks sender replica.block replica.stamp replica.length).known
      by_verdict Superseded is = stale (λ own there. superseded_is own (judged_by own there Superseded is))
      by_verdict Invalid is = marked is (newest_stamp facts.blocks replica.block) refl
      by_verdict Valid is = valid (λ own there. valid_is own (judged_by own there Valid is))

    by_sender : (sender : Option ℕ) → node_of caller ≡ sender → Turns what (reported_of sender replica facts.blocks).known
    by_sender None e = start what (λ block stamp. is_quiet block stamp (ap (λ s. is_the node s && ((replica.block == block) && (replica.stamp == stamp))) e))
    by_sender (Some sender) e = by_verdict sender e (verdict_by (known_block facts.blocks replica.block) replica.stamp replica.length) refl

  -- ---- all of them

  silent : (what : Op) → ((block stamp : ℕ) → length_told (committed block) what caller (replica_on node block stamp) ≡ None)
      → ((block stamp length : ℕ) → is_marked (committed block) what caller (replica_on node block stamp) length ≡ false) → (block stamp : ℕ) (r : Option ℕ) → tells what block stamp r ≡ r
  silent what none unmarked block stamp r = quiet what block stamp (none block stamp) (unmarked block stamp) r

  removed : (what : Op) → ((block stamp : ℕ) (r : Option ℕ) → tells what block stamp r ≡ r) → (gone : List ℕ) → OfEach (TurnedFrom node (tells what) known.blocks) (without_blocks known.blocks gone)
  removed what still gone = all_removed_have (TurnedFrom node (tells what) known.blocks) gone known.blocks sound.once (start what still)

  turns : (what : Op) → first_refusal facts caller what rows users ≡ None → Turns what (blocks_after facts what caller rows facts.blocks).known
  turns (op.Create path mode replication over) h =
      removed (op.Create path mode replication over) (silent (op.Create path mode replication over) (λ block stamp. refl) (λ block stamp length. refl)) (blocks_in (rows_under path rows))
  turns (op.Delete path recursive) h = removed (op.Delete path recursive) (silent (op.Delete path recursive) (λ block stamp. refl) (λ block stamp length. refl)) (blocks_in (rows_under path rows))
  turns (op.Append path) h =
      taken (op.Append path) (silent (op.Append path) (λ block stamp. refl) (λ block stamp length. refl)) (holder_at (row_at path rows)) (unfinished_at (row_at path rows))
  turns (op.AddBlock path last) h =
      let at = (block_asked facts caller path last rows users namespace h).0.at in
      extended path last (replication_at (row_at path rows)) (ap is_some (ap replication_at at.there ∙ ap replication_of at.file))
  turns (op.Complete path last) h = completed path last
  turns (op.SetReplication path replication) h =
      replicated node (tells (op.SetReplication path replication)) known.blocks replication (ids_at (row_at path rows)) facts.blocks
      (start (op.SetReplication path replication) (silent (op.SetReplication path replication) (λ block stamp. refl) (λ block stamp length. refl)))
  turns op.Tick h =
      all_begun node (tells op.Tick) known sound facts.now (recoveries_begun facts.blocks (sought_blocks facts rows) facts.now) facts.blocks (omega arith)
      (start op.Tick (silent op.Tick (λ block stamp. refl) (λ block stamp length. refl)))
  turns op.Heartbeat h = heard op.Heartbeat (silent op.Heartbeat (λ block stamp. refl) (λ block stamp length. refl)) (node_of caller)
  turns (op.Reported replica) h = by_sender replica (node_of caller) refl
  turns (op.CommitRecovery recovery) h = recovered recovery h
  turns what h = start what (silent what (λ block stamp. refl) (λ block stamp length. refl))

-- ---- over a history

module _ (node block : ℕ) (tells : ℕ → ℕ → Option ℕ → Option ℕ) (earlier : ℕ → Option ℕ) where
  abbrev stamp_of : Option BlockRecord → Option ℕ
  stamp_of found = option_map (λ (own : BlockRecord). own.stamp) found

  abbrev IsTurned : Option BlockRecord → Option BlockRecord → Type 0
  IsTurned before None = ⊤
  IsTurned before (Some later) = Turned node tells block before later.stamp (entry_at node later.reports)

  answered : (before later : Option BlockRecord) → entry_at node (reports_by before) ≡ option_and_then earlier (stamp_of before) → IsTurned before later
      → entry_at node (reports_by later) ≡ option_and_then (λ stamp. cond (is_the stamp (stamp_of before)) (tells block stamp (earlier stamp)) None) (stamp_of later)
  answered before None was turn = refl
  answered None (Some later) was turn = turn
  answered (Some own) (Some later) was (inl same) =
      same.1
      ∙ (ap (tells block later.stamp) (was ∙ ap earlier same.0) ∙ ap (λ b. cond b (tells block later.stamp (earlier later.stamp)) None) (sym (eq-eqb own.stamp later.stamp same.0)))
  answered (Some own) (Some later) was (inr new) = new.1 ∙ ap (λ b. cond b (tells block later.stamp (earlier later.stamp)) None) (sym new.0)

module _ (opening : Opening) (entry : HistoryEntry) (earlier : List HistoryEntry) (legal : IsLegal opening (entry ∷ earlier)) (node block : ℕ)
    (was : entry_at node (reports_by (known_block (blocks_of opening earlier) block)) ≡ option_and_then (λ stamp. told_of opening earlier (replica_on node block stamp)) (newest_stamp (blocks_of opening earlier) block)) where
  abbrev facts_then : Facts
  facts_then = facts_of opening earlier (now_at earlier entry.request)

  abbrev before : Blocks
  before = blocks_of opening earlier

  abbrev left : Verdict → Blocks
  left verdict = blocks_by facts_then entry.request.op entry.request.caller verdict (rows_of opening earlier) before

  abbrev told : Verdict → ℕ → ℕ → Option ℕ → Option ℕ
  told verdict own stamp r = reported_behind verdict (committed_length before own) entry.request.op entry.request.caller (replica_on node own stamp) r

  abbrev Answered : Verdict → Type 0
  Answered verdict =
      entry_at node (reports_by (known_block (left verdict) block))
      ≡ option_and_then (λ stamp. cond (is_the stamp (newest_stamp before block)) (told verdict block stamp (told_of opening earlier (replica_on node block stamp))) None) (newest_stamp (left verdict) block)

  same : (found : Option BlockRecord) → IsTurned node block (λ own stamp r. r) (λ stamp. told_of opening earlier (replica_on node block stamp)) found found
  same None = tt
  same (Some own) = inl (refl, refl)

  done : (reply : Reply) → Done reply ≡ verdict_of opening earlier entry.request → (found : Option BlockRecord) → known_block (left (Done reply)) block ≡ found
      → IsTurned node block (told (Done reply)) (λ stamp. told_of opening earlier (replica_on node block stamp)) (known_block before block) found
  done reply is None e = tt
  done reply is (Some later) e =
      let stand = stands opening earlier legal.2 in
      turns facts_then entry.request.caller (rows_of opening earlier) (users_of earlier) stand.namespace stand.sound node (in_order opening earlier legal.2) entry.request.op
      (was_done facts_then (rows_of opening earlier) (users_of earlier) entry.request.caller entry.request.op reply is).unrefused block later e

  told_by : (verdict : Verdict) → verdict ≡ verdict_of opening earlier entry.request → Answered verdict
  told_by (Denied denial) is = answered node block (λ own stamp r. r) (λ stamp. told_of opening earlier (replica_on node block stamp)) (known_block before block) (known_block before block) was (same (known_block before block))
  told_by (Refused refusal) is = answered node block (λ own stamp r. r) (λ stamp. told_of opening earlier (replica_on node block stamp)) (known_block before block) (known_block before block) was (same (known_block before block))
  told_by (Done reply) is =
      answered node block (told (Done reply)) (λ stamp. told_of opening earlier (replica_on node block stamp)) (known_block before block) (known_block (left (Done reply)) block) was
      (done reply is (known_block (left (Done reply)) block) refl)

pub as_told : ReportsAreAsTold
as_told opening [] node block legal = refl
as_told opening (entry ∷ earlier) node block legal = told_by opening entry earlier legal node block (as_told opening earlier node block legal.2) entry.verdict legal.1

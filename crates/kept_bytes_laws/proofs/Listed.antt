-- The NameNode lists DataNodes with what they have held.
use Rattle.std.proofs.Common.{◌≡◌, ℕ, suc, ◌==◌, Bool, true, false, ◌||◌, inl, inr, List, [], ◌∷◌, filter, length, Some, refl, sym, ap, ◌∙◌, subst, cond, arith}
use Rattle.std.specs.BTreeMap.{insert_entry}
use Rattle.std.specs.List.{AllByRecursion}
use Rattle.std.specs.Map.{keys_of, remove_entry}
use Rattle.std.specs.Ordering.{nat_cmp, is_eq, match_ordering}
use Rattle.std.specs.declared.cmp.Ordering.{Ordering}
use Rattle.std.specs.declared.cmp.Ordering.TheVariants.{Less, Equal, Greater}
use Rattle.std.proofs.lemmas.Bool.{eqb-true, eq-eqb}
use Rattle.block_records.specs.Numbers.{is_number, has_number}
use Rattle.block_records.specs.Reports.{agreeing_reports, with_reports_of}
use Rattle.block_records.specs.declared.block_record.BlockRecord.{BlockRecord}
use Rattle.block_records.proofs.Numbers.{number_is}
use Rattle.block_recovery.specs.declared.decision.Decision.{Decision}
use Rattle.block_recovery.specs.declared.plan.Plan.{Plan}
use Rattle.block_effect_laws.specs.Laws.{AgreeOn}
use Rattle.block_map.specs.BlockFacts.{known_block}
use Rattle.node_ids.specs.NodeId.{node_of}
use Rattle.block_answers.specs.declared.located.LocatedBlock.{LocatedBlock}
use Rattle.hdfs_types.specs.declared.op.Op.TheVariants as op
use Rattle.hdfs_types.specs.declared.replica.RecoveredBlock.{RecoveredBlock}
use Rattle.hdfs_types.specs.declared.replica.ReportedReplica.{ReportedReplica}
use Rattle.hdfs_types.specs.declared.reply.Reply.TheVariants as reply
use Rattle.file_blocks.specs.declared.blocks.FileBlock.{FileBlock}
use Rattle.flat_rows.specs.BlockOutcome.{located_with}
use Rattle.flat_rows.specs.Facts.{Facts}
use Rattle.flat_rows.specs.declared.verdict.Verdict.{Verdict}
use Rattle.flat_rows.specs.declared.verdict.Verdict.TheVariants.{Done, Denied, Refused}
use Rattle.history.specs.Blocks as blocks
use Rattle.history.specs.LegalHistory.{now_at}
use Rattle.history.specs.State.{rows_of, users_of, facts_of}
use Rattle.history.specs.declared.entry.HistoryEntry.{HistoryEntry}
use Rattle.block_laws.proofs.Histories.{stands, files_tell}
use Rattle.block_laws.proofs.Unrefused.{was_done}
use Rattle.node_calls.specs.declared.message.Message.TheVariants as message
use Rattle.cluster_trace.specs.Provenance.{call_of}
use Rattle.cluster_trace.specs.Trace.{Cluster, ClusterOpening, Happened, entry_of, request_named, event_happened, left_by, after}
use Rattle.cluster_trace.specs.declared.event.Event.{Event}
use Rattle.cluster_trace.proofs.Each.{some_is, each_more, each_in}
use Rattle.fencing_laws.specs.Fencing.{HasDecided}
use Rattle.fencing_laws.proofs.Decided.{CommitDecided, Carries, all_carry}
use Rattle.fencing_laws.proofs.Leaders.{each_both, facts_in, leaders}
use Rattle.kept_bytes_laws.specs.Listed.{HasHeld, ListedNodesHeld}
use Rattle.kept_bytes_laws.proofs.Opened.{OfListed, of_reply}
use Rattle.kept_bytes_laws.proofs.Noted.{NotedBy, Noted, all_noted}
use Rattle.kept_bytes_laws.proofs.Records.{OfEach, Stays, each_after}
use Rattle.kept_bytes_laws.proofs.Spelled.{named}
use Rattle.kept_bytes_laws.proofs.Sent.{Asks, Does, does}
use Rattle.kept_bytes_laws.proofs.Told.{TellsHeld, all_told, held_later, all_noted_held}

-- ---- reports

module _ (P : ℕ → ℕ → Type 0) where
  abbrev OfReports : List (ℕ × ℕ) → Type 0
  OfReports reports = AllByRecursion (λ (report : ℕ × ℕ). P report.0 report.1) reports

  put_has : (node count : ℕ) (reports : List (ℕ × ℕ)) → OfReports reports → P node count → OfReports (insert_entry nat_cmp reports node count)
  put_has node count [] all new = (new, tt)
  put_has node count (report ∷ reports) all new = by (nat_cmp node report.0) refl (put_has node count reports all.1 new)
    where
      by : (o : Ordering) → nat_cmp node report.0 ≡ o → OfReports (insert_entry nat_cmp reports node count)
          → OfReports (match_ordering o ((node, count) ∷ report ∷ reports) ((report.0, count) ∷ reports) (report ∷ insert_entry nat_cmp reports node count))
      by Less e rest = (new, all)
      by Equal e rest = (subst (λ n. P n count) (number_is node report.0 (ap is_eq e)) new, all.1)
      by Greater e rest = (all.0, rest)

  left_has : (test : ℕ → Bool) (reports : List (ℕ × ℕ)) → OfReports reports → OfReports (remove_entry test reports)
  left_has test [] all = tt
  left_has test (report ∷ reports) all = by (test report.0) (left_has test reports all.1)
    where
      by : (b : Bool) → OfReports (remove_entry test reports) → OfReports (cond b reports (report ∷ remove_entry test reports))
      by true rest = all.1
      by false rest = (all.0, rest)

  kept_has : (test : ℕ × ℕ → Bool) (reports : List (ℕ × ℕ)) → OfReports reports → OfReports (filter test reports)
  kept_has test [] all = tt
  kept_has test (report ∷ reports) all = by (test report) (kept_has test reports all.1)
    where
      by : (b : Bool) → OfReports (filter test reports) → OfReports (cond b (report ∷ filter test reports) (filter test reports))
      by true rest = (all.0, rest)
      by false rest = rest

  more_have : (count : ℕ) (nodes : List ℕ) (reports : List (ℕ × ℕ)) → ((node : ℕ) → has_number node nodes ≡ true → P node count) → OfReports reports → OfReports (with_reports_of nodes count reports)
  more_have count [] reports h all = all
  more_have count (node ∷ nodes) reports h all =
      more_have count nodes (insert_entry nat_cmp reports node count) (λ other has. h other (behind (node == other) (has_number other nodes) has))
      (put_has node count reports all (h node (ap (λ b. b || has_number node nodes) (eq-eqb node node refl))))
    where
      behind : (a b : Bool) → b ≡ true → (a || b) ≡ true
      behind true b h = refl
      behind false b h = h

-- ---- what is known of blocks

-- each node that reported the block has held what it reported
abbrev ReportsHeld : ClusterOpening → List Event → ℕ → BlockRecord → Type 0
ReportsHeld opening events block own = AllByRecursion (λ (report : ℕ × ℕ). HasHeld opening events report.0 block own.stamp report.1) own.reports

abbrev AreTrue : ClusterOpening → List Event → Type 0
AreTrue opening events = OfEach (ReportsHeld opening events) (facts_in (after opening events)).known.blocks

module _ (opening : ClusterOpening) (events : List Event) where
  abbrev HeldAt : ℕ → ℕ → ℕ → ℕ → Type 0
  HeldAt block stamp node count = HasHeld opening events node block stamp count

  stays : Stays (ReportsHeld opening events)
  stays = record {
    replication = λ block replication own h. h;
    committed = λ block length own h. kept_has (HeldAt block own.stamp) (λ report. report.1 == length) own.reports h;
    unreported = λ block node own h. left_has (HeldAt block own.stamp) (is_number node) own.reports h;
    copied = λ block now own h. h;
    recovery = λ block stamp now own h. tt;
  }

module _ (opening : ClusterOpening) (earlier : List Event) (event : Event) (before : AreTrue opening earlier) where
  abbrev state : Cluster
  state = after opening earlier

  true_later : OfEach (ReportsHeld opening (event ∷ earlier)) (facts_in (after opening earlier)).known.blocks
  true_later block own there =
      each_more (λ (report : ℕ × ℕ). HasHeld opening earlier report.0 block own.stamp report.1) (λ (report : ℕ × ℕ). HasHeld opening (event ∷ earlier) report.0 block own.stamp report.1)
      (λ report h. held_later opening event earlier report.0 block own.stamp report.1 h) own.reports (before block own there)

  -- a request
  module _ (own : Asks (after opening earlier) (event_happened (after opening earlier) event)) where
    abbrev facts : Facts
    facts = facts_of (after opening earlier).opening (after opening earlier).entries (now_at (after opening earlier).entries own.request)

    -- a report is of the node that sent it
    reported : (node : ℕ) (replica : ReportedReplica) (block_record : BlockRecord) → own.request.op ≡ op.Reported replica → node_of own.request.caller ≡ Some node → block_record.stamp ≡ replica.stamp
        → HasHeld opening (event ∷ earlier) node replica.block block_record.stamp replica.length
    reported node replica block_record is sender same =
        let report = own.report replica is in
        let told : HasHeld opening earlier report.0 replica.block replica.stamp replica.length =
        each_in (TellsHeld opening earlier) (after opening earlier).messages (message.Reported report.0 replica.block replica.stamp replica.length) (all_told opening earlier) report.2 in
        let sender_is : report.0 ≡ node = named report.0 node (ap node_of (sym report.1) ∙ sender) in
        subst (λ s. HasHeld opening (event ∷ earlier) node replica.block s replica.length) (sym same)
        (subst (λ n. HasHeld opening (event ∷ earlier) n replica.block replica.stamp replica.length) sender_is
        (held_later opening event earlier report.0 replica.block replica.stamp replica.length told))

    -- the end of a recovery tells of nodes that were updated to its length
    recovered : (node : ℕ) (recovery : RecoveredBlock) (block_record : BlockRecord) → own.request.op ≡ op.CommitRecovery recovery → block_record.stamp ≡ recovery.stamp → has_number node recovery.nodes ≡ true
        → HasHeld opening (event ∷ earlier) node recovery.block block_record.stamp recovery.length
    recovered node recovery block_record is same has =
        let commit = own.commit recovery is in
        let noted : NotedBy (after opening earlier) commit.0 recovery.block recovery.stamp recovery.nodes =
        each_in (Noted (after opening earlier)) (after opening earlier).messages (message.CommitRecovery commit.0 recovery.block recovery.stamp recovery.length recovery.nodes) (all_noted opening earlier) commit.1 in
        let held = all_noted_held opening earlier commit.0 recovery.block recovery.stamp node noted.0 noted.1 (noted.2 node has) in
        let carried : CommitDecided (after opening earlier) commit.0 recovery.block recovery.stamp recovery.length =
        each_in (Carries (after opening earlier)) (after opening earlier).messages (message.CommitRecovery commit.0 recovery.block recovery.stamp recovery.length recovery.nodes) (all_carry opening earlier) commit.1 in
        let decided : HasDecided (after opening earlier) commit.0 recovery.block recovery.stamp carried.0 = carried.1 in
        let one_plan : noted.0 ≡ decided.0 = some_is noted.0 decided.0 (sym noted.1 ∙ decided.1) in
        let one_decision : held.0 ≡ carried.0 = some_is held.0 carried.0 (sym held.1 ∙ (ap (λ (p : Plan). p.decision) one_plan ∙ decided.2)) in
        let length_is : held.0.length ≡ recovery.length = ap (λ (d : Decision). d.length) one_decision ∙ carried.2 in
        subst (λ s. HasHeld opening (event ∷ earlier) node recovery.block s recovery.length) (sym same)
        (subst (λ n. HasHeld opening (event ∷ earlier) node recovery.block recovery.stamp n) length_is
        (held_later opening event earlier node recovery.block recovery.stamp held.0.length held.2))

    records_by : (verdict : Verdict) → (entry_of (after opening earlier) own.request).verdict ≡ verdict
        → OfEach (ReportsHeld opening (event ∷ earlier)) (blocks.blocks_by facts own.request.op own.request.caller verdict (rows_of (after opening earlier).opening (after opening earlier).entries) (facts_in (after opening earlier))).known.blocks
    records_by (Denied denial) e = true_later
    records_by (Refused refusal) e = true_later
    records_by (Done told) e =
        let rows = rows_of (after opening earlier).opening (after opening earlier).entries in
        let users = users_of (after opening earlier).entries in
        let was = was_done facts rows users own.request.caller own.request.op told (sym e) in
        each_after (ReportsHeld opening (event ∷ earlier)) (stays opening (event ∷ earlier)) facts own.request.caller rows users own.request.op was.unrefused
        (record {
          added = λ new replication i. tt;
          reported = λ node replica block_record is sender same h.
              put_has (HeldAt opening (event ∷ earlier) replica.block block_record.stamp) node replica.length block_record.reports h (reported node replica block_record is sender same);
          recovered = λ recovery block_record is same h.
              more_have (HeldAt opening (event ∷ earlier) recovery.block block_record.stamp) recovery.length recovery.nodes (agreeing_reports recovery.length block_record.reports)
              (λ node has. recovered node recovery block_record is same has)
              (kept_has (HeldAt opening (event ∷ earlier) recovery.block block_record.stamp) (λ report. report.1 == recovery.length) block_record.reports h);
        })
        (stands (after opening earlier).opening (after opening earlier).entries (leaders opening earlier).legal).sound.once true_later

    true_asked : OfEach (ReportsHeld opening (event ∷ earlier)) (facts_in (left_by (after opening earlier) (request_named (after opening earlier) own.request))).known.blocks
    true_asked = records_by (entry_of (after opening earlier) own.request).verdict refl

  true_now : AreTrue opening (event ∷ earlier)
  true_now = by (does (after opening earlier) event)
    where
      by : Does (after opening earlier) (call_of (after opening earlier) event) (event_happened (after opening earlier) event) → AreTrue opening (event ∷ earlier)
      by (inl own) = subst (λ (what : Happened). OfEach (ReportsHeld opening (event ∷ earlier)) (facts_in (left_by (after opening earlier) what)).known.blocks) (sym own.is) true_later
      by (inr (inl own)) = subst (λ (what : Happened). OfEach (ReportsHeld opening (event ∷ earlier)) (facts_in (left_by (after opening earlier) what)).known.blocks) (sym own.is) true_later
      by (inr (inr (inl own))) = subst (λ (what : Happened). OfEach (ReportsHeld opening (event ∷ earlier)) (facts_in (left_by (after opening earlier) what)).known.blocks) (sym own.is) true_later
      by (inr (inr (inr own))) = subst (λ (what : Happened). OfEach (ReportsHeld opening (event ∷ earlier)) (facts_in (left_by (after opening earlier) what)).known.blocks) (sym own.is) (true_asked own)

all_true : (opening : ClusterOpening) (events : List Event) → AreTrue opening events
all_true opening [] = λ block own there. cc
all_true opening (event ∷ earlier) = true_now opening earlier event (all_true opening earlier)

-- ---- what a reader is told

-- it has held so many bytes, and these are the length
record IsListed (opening : ClusterOpening) (events : List Event) (block stamp length node count : ℕ) : Type 0 where
  held : HasHeld opening events node block stamp count
  same : count ≡ length

-- each node that is listed with the block has held it
abbrev Lists : ClusterOpening → List Event → LocatedBlock → Type 0
Lists opening events listed = (node : ℕ) → has_number node listed.nodes ≡ true → HasHeld opening events node listed.block listed.stamp listed.length

found_in : (P : ℕ → ℕ → Type 0) (node : ℕ) (reports : List (ℕ × ℕ)) → AllByRecursion (λ (report : ℕ × ℕ). P report.0 report.1) reports → has_number node (keys_of reports) ≡ true → (count : ℕ) × P node count
found_in P node [] all has = cc
found_in P node (report ∷ reports) all has = by (report.0 == node) refl has (found_in P node reports all.1)
  where
    by : (b : Bool) → (report.0 == node) ≡ b → (b || has_number node (keys_of reports)) ≡ true → (has_number node (keys_of reports) ≡ true → (count : ℕ) × P node count) → (count : ℕ) × P node count
    by true at h rest = (report.1, subst (λ n. P n report.1) (eqb-true report.0 node at) all.0)
    by false at h rest = rest h

module _ (opening : ClusterOpening) (events : List Event) (facts : Facts) (records : OfEach (ReportsHeld opening events) facts.blocks.known.blocks)
    (agree : (block : ℕ) (own : BlockRecord) → known_block facts.blocks block ≡ Some own → AgreeOn own.committed own.reports) where
  lists : (caller : List ℕ) (length : ℕ) (block : FileBlock) (own : BlockRecord) → own.committed ≡ Some length → known_block facts.blocks block.id ≡ Some own
      → Lists opening events (located_with facts.token caller block.id length own)
  lists caller length block own committed there node has =
      let all : AgreeOn (Some length) own.reports = subst (λ c. AgreeOn c own.reports) committed (agree block.id own there) in
      let found = found_in (IsListed opening events block.id own.stamp length) node own.reports
      (each_more (λ (report : ℕ × ℕ). HasHeld opening events report.0 block.id own.stamp report.1 × (report.1 ≡ length)) (λ (report : ℕ × ℕ). IsListed opening events block.id own.stamp length report.0 report.1)
      (λ report h. record { held = h.0; same = h.1 }) own.reports
      (each_both (λ (report : ℕ × ℕ). HasHeld opening events report.0 block.id own.stamp report.1) (λ (report : ℕ × ℕ). report.1 ≡ length) own.reports (records block.id own there) all)) has in
      subst (λ count. HasHeld opening events node block.id own.stamp count) found.1.same found.1.held

-- ---- the law

never_longer : (entry : HistoryEntry) (entries : List HistoryEntry) → entries ≡ entry ∷ entries → ⊥
never_longer entry entries e = never (length entries) (ap (λ (l : List HistoryEntry). length l) e)
  where
    never : (n : ℕ) → n ≡ suc n → ⊥
    never n h = absurd (omega (arith, h))

entry_is : (first other : HistoryEntry) (entries : List HistoryEntry) → first ∷ entries ≡ other ∷ entries → first ≡ other
entry_is first other entries e = cc

pub listed_held : ListedNodesHeld
listed_held opening earlier event entry file listed node entries opened i has = by (does (after opening earlier) event)
  where
    state : Cluster
    state = after opening earlier

    no_entry : (what : Happened) → event_happened (after opening earlier) event ≡ what → what.entries ≡ (after opening earlier).entries → HasHeld opening earlier node listed.block listed.stamp listed.length
    no_entry what is same = absurd (never_longer entry (after opening earlier).entries (sym (ap (λ (w : Happened). w.entries) is ∙ same) ∙ entries))

    by : Does state (call_of state event) (event_happened state event) → HasHeld opening earlier node listed.block listed.stamp listed.length
    by (inl own) = no_entry _ own.is refl
    by (inr (inl own)) = no_entry _ own.is refl
    by (inr (inr (inl own))) = no_entry _ own.is refl
    by (inr (inr (inr own))) =
        let request = own.request in
        let facts = facts_of state.opening state.entries (now_at state.entries request) in
        let rows = rows_of state.opening state.entries in
        let made : entry_of state request ≡ entry = entry_is (entry_of state request) entry state.entries (sym (ap (λ (w : Happened). w.entries) own.is) ∙ entries) in
        let done : Done (reply.Opened file) ≡ (entry_of state request).verdict = sym opened ∙ ap (λ (e : HistoryEntry). e.verdict) (sym made) in
        let was = was_done facts rows (users_of state.entries) request.caller request.op (reply.Opened file) done in
        let legal = (leaders opening earlier).legal in
        let listing = of_reply (Lists opening earlier) facts request.caller rows (files_tell state.opening state.entries legal)
        (lists opening earlier facts (all_true opening earlier) (λ block own_record there. ((stands state.opening state.entries legal).sound.each block own_record there).agreed) request.caller) request.op in
        let all : OfListed (Lists opening earlier) (reply.Opened file) = subst (OfListed (Lists opening earlier)) (sym was.told_is) listing in
        each_in (Lists opening earlier) file.blocks listed all i node has

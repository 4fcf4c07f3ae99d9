-- A node whose replica a request marks is to remove it.
use Rattle.std.proofs.Common.{◌≡◌, ℕ, ◌==◌, ◌<◌, ◌&&◌, ◌||◌, Bool, true, false, not, ◌⊎◌, inl, inr, is_some, nat_lt, List, [], ◌∷◌, Option, Some, None, refl, sym, ap, ◌∙◌, subst, cond, arith}
use Rattle.std.proofs.lemmas.Bool.{eqb-true, eq-eqb, ltb-true}
use Rattle.std.proofs.lemmas.Map.Entries.{lookup-filter-values, option_filter}
use Rattle.std.proofs.lemmas.Map.Keys.{IsDistinct-from_sorted}
use Rattle.std.specs.Cmp.{eq_by_cmp_equiv, nat_cmp_total}
use Rattle.std.specs.Map.{keys_of}
use Rattle.std.specs.List.{filter}
use Rattle.std.specs.Option.{option_map, option_and_then}
use Rattle.std.specs.Ordering.{nat_cmp, is_eq, ordering_then, match_ordering}
use Rattle.std.specs.declared.cmp.Ordering.{Ordering}
use Rattle.std.specs.declared.cmp.Ordering.TheVariants.{Less, Equal, Greater}
use Rattle.node_ids.specs.NodeId.{node_of}
use Rattle.block_records.specs.Marks.{mark_cmp, with_mark, with_marks}
use Rattle.block_records.specs.Numbers.{has_number, entry_at}
use Rattle.block_records.specs.Reports.{others_of}
use Rattle.block_records.specs.Verdicts.{agrees, verdict_by}
use Rattle.block_records.specs.declared.block_record.BlockRecord.{BlockRecord}
use Rattle.block_records.specs.declared.last_block.LastBlock.{LastBlock}
use Rattle.block_records.specs.declared.mark.Mark.{Mark}
use Rattle.block_records.specs.declared.report.ReportVerdict.TheVariants.{Superseded, Invalid, Valid}
use Rattle.block_records.proofs.Numbers.{number_is}
use Rattle.block_records.proofs.Reporting.{has_key, has_kept}
use Rattle.block_changes.specs.Behind.{marks_of, marks_of_others, reports_by}
use Rattle.block_changes.specs.Copies.{is_the}
use Rattle.block_changes.specs.Ends.{marks_but_of}
use Rattle.block_map.specs.BlockFacts.{Blocks, known_block, committed_length}
use Rattle.block_map.specs.BlockEffects.{with_length_committed, reported_by}
use Rattle.block_effect_laws.proofs.Orders.{AreInOrder}
use Rattle.hdfs_types.specs.declared.op.Op.{Op}
use Rattle.hdfs_types.specs.declared.op.Op.TheVariants as op
use Rattle.hdfs_types.specs.declared.replica.RecoveredBlock.{RecoveredBlock}
use Rattle.hdfs_types.specs.declared.replica.ReportedReplica.{ReportedReplica}
use Rattle.principals.specs.Users.{Users}
use Rattle.namespace_rows.specs.declared.row.Row.{Row}
use Rattle.namespace_rows.specs.Namespace.{IsNamespace}
use Rattle.namespace_rows.specs.Rows.{row_at}
use Rattle.flat_rows.specs.BlockOutcome.{replication_at, replication_of}
use Rattle.flat_rows.specs.Facts.{Facts}
use Rattle.flat_rows.specs.Outcome.{first_refusal}
use Rattle.history.specs.Blocks.{reported_of, file_extended, file_ended, blocks_after, blocks_by}
use Rattle.history.specs.LegalHistory.{now_at}
use Rattle.history.specs.State.{rows_of, users_of, blocks_of, facts_of}
use Rattle.block_laws.proofs.Histories.{stands}
use Rattle.block_laws.proofs.Unrefused.{one, was_done, block_asked}
use Rattle.cluster_trace.specs.Provenance.{IsIn}
use Rattle.kept_bytes_laws.specs.Reports.{is_end_of, replica_on, tells_otherwise, is_marked, MarkedReplicasAreToBeRemoved}
use Rattle.kept_bytes_laws.proofs.Ordered.{in_order}
use Rattle.kept_bytes_laws.proofs.Reports.{as_told}

-- ---- lists of marks

equal_parts : (a b : Ordering) → ordering_then a b ≡ Equal → (a ≡ Equal) × (b ≡ Equal)
equal_parts Less b h = cc
equal_parts Equal b h = (refl, h)
equal_parts Greater b h = cc

same_mark : (mark other : Mark) → mark_cmp mark other ≡ Equal → mark ≡ other
same_mark mark other h =
    let node = equal_parts (nat_cmp mark.node other.node) (ordering_then (nat_cmp mark.block other.block) (nat_cmp mark.stamp other.stamp)) h in
    let rest = equal_parts (nat_cmp mark.block other.block) (nat_cmp mark.stamp other.stamp) node.1 in
    made mark.node other.node mark.block other.block mark.stamp other.stamp (number_is mark.node other.node (ap is_eq node.0)) (number_is mark.block other.block (ap is_eq rest.0)) (number_is mark.stamp other.stamp (ap is_eq rest.1))
  where
    made : (n m b c s t : ℕ) → n ≡ m → b ≡ c → s ≡ t → ◌≡◌ {A = Mark} (record { node = n; block = b; stamp = s }) (record { node = m; block = c; stamp = t })
    made n m b c s t h i j = cc

module _ (mark : Mark) where
  put_in : (marks : List Mark) → IsIn mark (with_mark marks mark)
  put_in [] = inl refl
  put_in (first ∷ marks) = by (mark_cmp mark first) refl (put_in marks)
    where
      by : (o : Ordering) → mark_cmp mark first ≡ o → IsIn mark (with_mark marks mark) → IsIn mark (match_ordering o (mark ∷ first ∷ marks) (first ∷ marks) (first ∷ with_mark marks mark))
      by Less is rest = inl refl
      by Equal is rest = inl (same_mark mark first is)
      by Greater is rest = inr rest

  stays_in : (other : Mark) (marks : List Mark) → IsIn mark marks → IsIn mark (with_mark marks other)
  stays_in other [] i = absurd i
  stays_in other (first ∷ marks) i = by (mark_cmp other first) i (stays_in other marks)
    where
      by : (o : Ordering) → (mark ≡ first) ⊎ IsIn mark marks → (IsIn mark marks → IsIn mark (with_mark marks other))
          → IsIn mark (match_ordering o (other ∷ first ∷ marks) (first ∷ marks) (first ∷ with_mark marks other))
      by Less i rest = inr i
      by Equal i rest = i
      by Greater (inl e) rest = inl e
      by Greater (inr i) rest = inr (rest i)

  all_stay : (more marks : List Mark) → IsIn mark marks → IsIn mark (with_marks marks more)
  all_stay [] marks i = i
  all_stay (other ∷ more) marks i = all_stay more (with_mark marks other) (stays_in other marks i)

  pub all_in : (more marks : List Mark) → IsIn mark more → IsIn mark (with_marks marks more)
  all_in [] marks i = absurd i
  all_in (other ∷ more) marks (inl e) = all_stay more (with_mark marks other) (subst (λ own. IsIn mark (with_mark marks own)) e (put_in marks))
  all_in (other ∷ more) marks (inr i) = all_in more (with_mark marks other) i

-- ---- nodes that are marked

module _ (node block stamp : ℕ) where
  abbrev pub the_mark : Mark
  the_mark = record { node = node; block = block; stamp = stamp }

  pub among : (nodes : List ℕ) → has_number node nodes ≡ true → IsIn the_mark (marks_of nodes block stamp)
  among [] h = cc
  among (first ∷ nodes) h = by (first == node) refl h (among nodes)
    where
      by : (b : Bool) → (first == node) ≡ b → (b || has_number node nodes) ≡ true → (has_number node nodes ≡ true → IsIn the_mark (marks_of nodes block stamp)) → IsIn the_mark (marks_of (first ∷ nodes) block stamp)
      by true e h rest = inl (ap (λ n. record { node = n; block = block; stamp = stamp }) (sym (eqb-true first node e)))
      by false e h rest = inr (rest h)

-- a node that reported another length is among those that did
is_other : (node length own : ℕ) (reports : List (ℕ × ℕ)) → AreInOrder reports → entry_at node reports ≡ Some own → not (own == length) ≡ true → has_number node (others_of length reports) ≡ true
is_other node length own reports up there apart =
    has_key node (filter (λ report. not (report.1 == length)) reports)
    ∙ ap is_some
    (lookup-filter-values (eq_by_cmp_equiv nat_cmp_total) (λ bytes. not (bytes == length)) node reports (IsDistinct-from_sorted nat_cmp (keys_of reports) up)
    ∙ (ap (option_filter (λ bytes. not (bytes == length))) there ∙ ap (λ b. cond b (Some own) None) apart))

both : (a b : Bool) → (a && b) ≡ true → (a ≡ true) × (b ≡ true)
both true b h = (refl, h)
both false b h = cc

module _ (facts : Facts) (caller : List ℕ) (rows : List Row) (users : Users) (namespace : IsNamespace rows) (node block length : ℕ) (own : BlockRecord)
    (there : known_block facts.blocks block ≡ Some own) (up : AreInOrder own.reports) (reported : entry_at node own.reports ≡ Some length) where
  abbrev IsToGo : Blocks → Type 0
  IsToGo later = IsIn (the_mark node block own.stamp) later.marks

  committed : (last : LastBlock) → tells_otherwise (Some last) block length ≡ true → IsToGo (with_length_committed facts.blocks last.block last.length)
  committed last h =
      let parts = both (last.block == block) (not (length == last.length)) h in
      subst (λ n. IsToGo (with_length_committed facts.blocks n last.length)) (sym (eqb-true last.block block parts.0))
      (all_in (the_mark node block own.stamp) (marks_of_others block last.length (known_block facts.blocks block)) facts.blocks.marks
      (subst (λ found. IsIn (the_mark node block own.stamp) (marks_of_others block last.length found)) (sym there)
      (among node block own.stamp (others_of last.length own.reports) (is_other node last.length length own.reports up reported parts.1))))

  extended : (last : Option LastBlock) (found : Option ℕ) → is_some found ≡ true → tells_otherwise last block length ≡ true → IsToGo (file_extended last facts.now found facts.blocks)
  extended last None some h = cc
  extended None (Some replication) some h = cc
  extended (Some last) (Some replication) some h = committed last h

  ended : (last : Option LastBlock) → tells_otherwise last block length ≡ true → IsToGo (file_ended last facts.blocks)
  ended None h = cc
  ended (Some last) h = committed last h

  recovered : (recovery : RecoveredBlock) → (is_end_of recovery (replica_on node block own.stamp) && (not (has_number node recovery.nodes) && not (length == recovery.length))) ≡ true
      → IsToGo (blocks_after facts (op.CommitRecovery recovery) caller rows facts.blocks)
  recovered recovery h =
      let parts = both (is_end_of recovery (replica_on node block own.stamp)) (not (has_number node recovery.nodes) && not (length == recovery.length)) h in
      let end = both (recovery.block == block) (recovery.stamp == own.stamp) parts.0 in
      let other = both (not (has_number node recovery.nodes)) (not (length == recovery.length)) parts.1 in
      let left = filter (λ n. not (has_number n recovery.nodes)) (others_of recovery.length own.reports) in
      let has : has_number node left ≡ true =
      has_kept node (λ n. not (has_number n recovery.nodes)) (others_of recovery.length own.reports)
      ∙ (ap (λ b. b && has_number node (others_of recovery.length own.reports)) other.0 ∙ is_other node recovery.length length own.reports up reported other.1) in
      all_in (the_mark node block own.stamp) (marks_but_of recovery.nodes recovery.block recovery.length (known_block facts.blocks recovery.block)) facts.blocks.marks
      (subst (λ n. IsIn (the_mark node block own.stamp) (marks_but_of recovery.nodes n recovery.length (known_block facts.blocks n))) (sym (eqb-true recovery.block block end.0))
      (subst (λ found. IsIn (the_mark node block own.stamp) (marks_but_of recovery.nodes block recovery.length found)) (sym there) (among node block own.stamp left has)))

  -- a report of the newest stamp that isn't effective is wrong
  is_wrong : (stamp bytes : ℕ) → stamp ≡ own.stamp → not (agrees bytes own.committed) ≡ true → verdict_by (Some own) stamp bytes ≡ Invalid
  is_wrong stamp bytes same other = by (nat_lt stamp own.stamp) refl (stamp == own.stamp) (eq-eqb stamp own.stamp same) (agrees bytes own.committed) other
    where
      never : stamp < own.stamp → ⊥
      never less = omega (arith, less, same)

      by : (a : Bool) → nat_lt stamp own.stamp ≡ a → (b : Bool) → b ≡ true → (c : Bool) → not c ≡ true → cond (a && is_some own.recovering) Superseded (cond (b && c) Valid Invalid) ≡ Invalid
      by true e b f c g = absurd (never (ltb-true stamp own.stamp e))
      by false e true f true g = cc
      by false e true f false g = refl
      by false e false f c g = cc

  told : (replica : ReportedReplica) (sender : Option ℕ)
      → ((is_the node sender && ((replica.block == block) && (replica.stamp == own.stamp))) && not (agrees replica.length (committed_length facts.blocks block))) ≡ true → IsToGo (reported_of sender replica facts.blocks)
  told replica None h = cc
  told replica (Some sender) h =
      let parts = both ((sender == node) && ((replica.block == block) && (replica.stamp == own.stamp))) (not (agrees replica.length (committed_length facts.blocks block))) h in
      let first = both (sender == node) ((replica.block == block) && (replica.stamp == own.stamp)) parts.0 in
      let second = both (replica.block == block) (replica.stamp == own.stamp) first.1 in
      let its : sender ≡ node = eqb-true sender node first.0 in
      let of : replica.block ≡ block = eqb-true replica.block block second.0 in
      let at : replica.stamp ≡ own.stamp = eqb-true replica.stamp own.stamp second.1 in
      let found : known_block facts.blocks replica.block ≡ Some own = ap (known_block facts.blocks) of ∙ there in
      let other : not (agrees replica.length own.committed) ≡ true =
      ap (λ (o : Option BlockRecord). not (agrees replica.length (option_and_then (λ (one : BlockRecord). one.committed) o))) (sym there) ∙ parts.1 in
      let wrong : verdict_by (known_block facts.blocks replica.block) replica.stamp replica.length ≡ Invalid =
      ap (λ o. verdict_by o replica.stamp replica.length) found ∙ is_wrong replica.stamp replica.length at other in
      subst (λ verdict. IsToGo (reported_by verdict facts.blocks sender replica.block replica.stamp replica.length)) (sym wrong)
      (subst (λ (own_mark : Mark). IsIn own_mark (with_mark facts.blocks.marks (record { node = sender; block = replica.block; stamp = replica.stamp }))) (made sender node replica.block block replica.stamp own.stamp its of at)
      (put_in (record { node = sender; block = replica.block; stamp = replica.stamp }) facts.blocks.marks))
    where
      made : (n m b c s t : ℕ) → n ≡ m → b ≡ c → s ≡ t → ◌≡◌ {A = Mark} (record { node = n; block = b; stamp = s }) (record { node = m; block = c; stamp = t })
      made n m b c s t h i j = cc

  is_to_go : (what : Op) → first_refusal facts caller what rows users ≡ None → is_marked (committed_length facts.blocks block) what caller (replica_on node block own.stamp) length ≡ true
      → IsToGo (blocks_after facts what caller rows facts.blocks)
  is_to_go (op.AddBlock path last) unrefused h =
      let at = (block_asked facts caller path last rows users namespace unrefused).0.at in
      extended last (replication_at (row_at path rows)) (ap is_some (ap replication_at at.there ∙ ap replication_of at.file)) h
  is_to_go (op.Complete path last) unrefused h = ended last h
  is_to_go (op.Reported replica) unrefused h = told replica (node_of caller) h
  is_to_go (op.CommitRecovery recovery) unrefused h = recovered recovery h
  is_to_go _ unrefused h = cc

-- a block of this stamp is known
pub known_with : (found : Option BlockRecord) (stamp : ℕ) → option_map (λ (own : BlockRecord). own.stamp) found ≡ Some stamp → (own : BlockRecord) × (found ≡ Some own) × (own.stamp ≡ stamp)
known_with None stamp h = cc
known_with (Some own) stamp h = (own, refl, one own.stamp stamp h)

pub marked_are_to_go : MarkedReplicasAreToBeRemoved
marked_are_to_go opening entry earlier node block stamp length reply legal done newest reports marked =
    let known = known_with (known_block (blocks_of opening earlier) block) stamp newest in
    let facts = facts_of opening earlier (now_at earlier entry.request) in
    let reported : entry_at node known.0.reports ≡ Some length =
    ap (λ (found : Option BlockRecord). entry_at node (reports_by found)) (sym known.1) ∙ (as_told opening earlier node block legal.2 ∙ reports) in
    let was = was_done facts (rows_of opening earlier) (users_of earlier) entry.request.caller entry.request.op reply (sym done ∙ legal.1) in
    subst (λ verdict. IsIn (the_mark node block stamp) (blocks_by facts entry.request.op entry.request.caller verdict (rows_of opening earlier) (blocks_of opening earlier)).marks) (sym done)
    (subst (λ s. IsIn (the_mark node block s) (blocks_after facts entry.request.op entry.request.caller (rows_of opening earlier) (blocks_of opening earlier)).marks) known.2
    (is_to_go facts entry.request.caller (rows_of opening earlier) (users_of earlier) (stands opening earlier legal.2).namespace node block length known.0 known.1 (in_order opening earlier legal.2 block known.0 known.1) reported
    entry.request.op was.unrefused
    (subst (λ s. is_marked (committed_length (blocks_of opening earlier) block) entry.request.op entry.request.caller (replica_on node block s) length ≡ true) (sym known.2) marked)))

-- What an operation that is done leaves of blocks: what was sound is, and files and block facts agree.
use Rattle.std.proofs.Common.{◌≡◌, ℕ, ◌+◌, ◌-◌, ◌≤◌, Bool, true, false, List, [], ◌∷◌, map, length, is_some, Option, Some, None, refl, sym, ap, ◌∙◌, subst, cond, arith}
use Rattle.std.proofs.lemmas.Bool.{eq-eqb, eqb-true}
use Rattle.std.specs.Option.{option_map}
use Rattle.node_ids.specs.NodeId.{node_of}
use Rattle.file_paths.specs.PathOrder.{same_path}
use Rattle.file_states.specs.declared.state.FileState.TheVariants.{Closed}
use Rattle.hdfs_types.specs.declared.op.Op.{Op}
use Rattle.hdfs_types.specs.declared.op.Op.TheVariants as op
use Rattle.hdfs_types.specs.declared.replica.ReportedReplica.{ReportedReplica}
use Rattle.block_records.specs.Numbers.{is_number}
use Rattle.block_records.specs.declared.block_record.BlockRecord.{BlockRecord}
use Rattle.block_records.specs.declared.last_block.LastBlock.{LastBlock}
use Rattle.block_tables.specs.Changes.{with_length}
use Rattle.known_blocks.specs.Known as known
use Rattle.known_blocks.specs.Known.{KnownBlocks, block_of, with_block_changed}
use Rattle.block_map.specs.BlockFacts.{Blocks, chosen_targets}
use Rattle.block_map.specs.BlockEffects.{with_block_replication, committed_last, refused_last}
use Rattle.block_effect_laws.specs.Laws.{IsSound, KeepsKnown}
use Rattle.block_effect_laws.proofs.Turning.{kept_same, kept_in_turn}
use Rattle.block_effect_laws.proofs.Effects.{removals, replication_keeps, commit_keeps, request_keeps, begin_keeps, begins_keep, recovery_keeps, heartbeat_keeps, report_keeps}
use Rattle.principals.specs.Users.{Users}
use Rattle.file_blocks.specs.declared.blocks.FileBlock.{FileBlock}
use Rattle.namespace_rows.specs.declared.row.Row.{Row}
use Rattle.namespace_rows.specs.declared.row.Change.TheVariants as change
use Rattle.file_blocks.specs.Blocks.{new_block, last_of}
use Rattle.namespace_rows.specs.Files.{blocks_in, with_block, new_file}
use Rattle.namespace_rows.specs.Namespace.{IsNamespace}
use Rattle.namespace_rows.specs.Rows.{row_at, ancestor}
use Rattle.namespace_rows.proofs.Namespaces.{namespace_tests}
use Rattle.flat_rows.specs.BlockOutcome as file
use Rattle.flat_rows.specs.BlockOutcome.{is_last, has_block_id, replication_of, replication_at, ids_at, with_block_at, ended_at}
use Rattle.namespace_rows.specs.Changes.{rows_under, without, with_change, file_edited, row_rewritten, block_added}
use Rattle.flat_rows.specs.FileOutcome.{holder_at}
use Rattle.flat_rows.specs.Takeover.{unfinished_at, state_after_append, sought_blocks}
use Rattle.flat_rows.specs.Facts.{Facts}
use Rattle.flat_rows.specs.Outcome.{first_refusal, rows_after, with_new, made_at, with_mode_at, with_owner_at, with_acl_at}
use Rattle.flat_rows.proofs.Blocks.{row_at_map}
use Rattle.history.specs.Blocks.{heard_of, reported_of, file_extended, file_ended, all_replicated, taken_over, blocks_after}
use Rattle.block_laws.proofs.Sums.{sum_moved}
use Rattle.block_laws.proofs.Totals.{bit, Weight, total, own, by_blocks, in_rows, has, total_append}
use Rattle.block_laws.proofs.Changes.{state_blocks, replication_blocks, rows_rewritten, rows_added, rows_committed, counted}
use Rattle.block_laws.proofs.Keeping.{AreKept, mode_keeps, owner_keeps, list_keeps, made_keeps, created_sum, without_sum}
use Rattle.block_laws.proofs.Told.{seen_added, seen_removed, same_replicated, same_heard, same_reported_of, next_unknown, committed_of, told, TellTheSame, lengths_ignore, told_committed, same_begun, same_all_begun, last_known, added_first}
use Rattle.block_laws.proofs.Standing.{Agree, bit_few, length_of, agree_same, agree_taken, agree_added, agree_committed}
use Rattle.block_laws.proofs.Unrefused.{IsFileAt, created_on_no_directory, renamed_to_free, block_asked, file_completed, recovery_ran}
use Rattle.block_laws.proofs.Recoveries.{Recover, uncommitted}
use Rattle.block_laws.proofs.Ticks.{ticked_blocks}
use Rattle.block_laws.proofs.Ends.{one_recovers, agree_ended}

-- ---- block facts

all_replicated_keeps : (replication : ℕ) (numbers : List ℕ) (facts : Blocks) → IsSound facts.known → KeepsKnown facts.known (all_replicated replication numbers facts).known
all_replicated_keeps replication [] facts sound = kept_same facts.known sound
all_replicated_keeps replication (block ∷ numbers) facts sound =
    let between = with_block_replication facts block replication in
    let first = replication_keeps facts block replication sound in
    kept_in_turn facts.known between.known (all_replicated replication numbers between).known sound first (all_replicated_keeps replication numbers between first.sound)

module _ (facts : Blocks) (now : ℕ) (sound : IsSound facts.known) where
  kept_extended : (last : Option LastBlock) (replication : Option ℕ) → refused_last facts last ≡ None → KeepsKnown facts.known (file_extended last now replication facts).known
  kept_extended last None h = kept_same facts.known sound
  kept_extended last (Some replication) h = request_keeps facts last now replication h sound

  kept_ended : (last : Option LastBlock) → refused_last facts last ≡ None → KeepsKnown facts.known (file_ended last facts).known
  kept_ended None h = kept_same facts.known sound
  kept_ended (Some last) h = commit_keeps facts last.block last.length h sound

  kept_heard : (node : Option ℕ) → KeepsKnown facts.known (heard_of node now facts).known
  kept_heard None = kept_same facts.known sound
  kept_heard (Some node) = heartbeat_keeps facts node now sound

  kept_taken : (holder : Option (List ℕ)) (block : Option ℕ) → KeepsKnown facts.known (taken_over holder block now facts).known
  kept_taken None None = kept_same facts.known sound
  kept_taken (Some holder) None = kept_same facts.known sound
  kept_taken None (Some block) = kept_same facts.known sound
  kept_taken (Some holder) (Some block) = begin_keeps facts block now sound

  kept_reported : (node : Option ℕ) (replica : ReportedReplica) → KeepsKnown facts.known (reported_of node replica facts).known
  kept_reported None replica = kept_same facts.known sound
  kept_reported (Some node) replica = report_keeps facts node replica.block replica.stamp replica.length sound

-- what the block facts tell of lengths where a file is taken
same_taken : (holder : Option (List ℕ)) (block : Option ℕ) (now : ℕ) (facts : Blocks) → TellTheSame facts.known (taken_over holder block now facts).known
same_taken None None now facts number = refl
same_taken (Some holder) None now facts number = refl
same_taken None (Some block) now facts number = refl
same_taken (Some holder) (Some block) now facts number = same_begun block now facts.known number

-- ---- the last block of a file

last_counted : (last : LastBlock) (blocks : List FileBlock) → is_last (Some last) blocks ≡ true → 1 ≤ total (has last.block) blocks
last_counted last blocks h = by (last_of blocks) refl h
  where
    more : (a b : ℕ) → a ≤ b → a ≡ 1 → 1 ≤ b
    more a b le is = omega (arith, le, is)

    by : (found : Option FileBlock) → last_of blocks ≡ found → has_block_id last.block found ≡ true → 1 ≤ total (has last.block) blocks
    by None at named = cc
    by (Some block) at named =
        more (has last.block block) (total (has last.block) blocks) (counted (has last.block) blocks (length blocks - 1) block at) (ap bit (eq-eqb block.id last.block (sym (eqb-true last.block block.id named))))

-- where it is the last of the file at the path, and known, its length is committed in both
commit_agrees : (now : KnownBlocks) (path : List (List ℕ)) (last : LastBlock) (rows : List Row) (row : Row) → Agree (told now) rows → is_some (told now last.block) ≡ true
    → row_at path rows ≡ Some row → 1 ≤ total (has last.block) (own row)
    → Agree (told (with_block_changed (with_length last.length) last.block now)) (row_rewritten path (change.Committed last.block last.length) rows)
commit_agrees now path last rows row agree there at some =
    agree_committed (told now) (told (with_block_changed (with_length last.length) last.block now)) rows (row_rewritten path (change.Committed last.block last.length) rows) agree last.block last.length there
    (told_committed last.length last.block now)
    (λ w. rows_committed w last.block last.length path rows row (subst (λ n. n ≤ 1) (sym (agree.once last.block)) (bit_few (is_some (told now last.block)))) at some)

module _ (path : List (List ℕ)) (f : Row → Row) (paths : (row : Row) → (f row).path ≡ row.path) (rows : List Row) where
  abbrev at_path : Row → Row
  at_path row = cond (same_path path row.path) (f row) row

  keeps_path : (row : Row) → (at_path row).path ≡ row.path
  keeps_path row = by (same_path path row.path)
    where
      by : (b : Bool) → (cond b (f row) row).path ≡ row.path
      by true = paths row
      by false = refl

  found_anew : (row : Row) → row_at path rows ≡ Some row → row_at path (map at_path rows) ≡ Some (at_path row)
  found_anew row at = row_at_map at_path keeps_path path rows ∙ ap (option_map at_path) at

  -- a block that the row counts is counted still
  counts_still : (number : ℕ) (row : Row) → 1 ≤ total (has number) (own row) → 1 ≤ total (has number) (own (f row)) → 1 ≤ total (has number) (own (at_path row))
  counts_still number row before after = by (same_path path row.path)
    where
      by : (b : Bool) → 1 ≤ total (has number) (own (cond b (f row) row))
      by true = after
      by false = before

-- ---- each operation

module _ (facts : Facts) (caller : List ℕ) (rows : List Row) (users : Users) (namespace : IsNamespace rows) (sound : IsSound facts.blocks.known) (agree : Agree (told facts.blocks.known) rows) (recover : Recover facts.blocks.known rows) where
  abbrev before : KnownBlocks
  before = facts.blocks.known

  abbrev after : Op → KnownBlocks
  after what = (blocks_after facts what caller rows facts.blocks).known

  pub blocks_kept : (what : Op) → first_refusal facts caller what rows users ≡ None → KeepsKnown before (after what)
  blocks_kept (op.Create path mode replication over) h = removals before (blocks_in (rows_under path rows)) sound
  blocks_kept (op.Delete path recursive) h = removals before (blocks_in (rows_under path rows)) sound
  blocks_kept (op.AddBlock path last) h = kept_extended facts.blocks facts.now sound last (replication_at (row_at path rows)) (block_asked facts caller path last rows users namespace h).1
  blocks_kept (op.Complete path last) h = kept_ended facts.blocks facts.now sound last (file_completed facts caller path last rows users namespace h).1
  blocks_kept (op.SetReplication path replication) h = all_replicated_keeps replication (ids_at (row_at path rows)) facts.blocks sound
  blocks_kept (op.Append path) h = kept_taken facts.blocks facts.now sound (holder_at (row_at path rows)) (unfinished_at (row_at path rows))
  blocks_kept op.Tick h = begins_keep facts.blocks (sought_blocks facts rows) facts.now sound
  blocks_kept (op.CommitRecovery own) h =
      recovery_keeps facts.blocks own.block own.length own.nodes
      (length_of (block_of before own.block)
      ∙ uncommitted (told before) rows own.block agree recover.right
      (subst (λ n. 1 ≤ n) (sym (one_recovers own.block own.length before rows agree recover own.stamp (recovery_ran facts caller own rows users h))) (omega arith)))
      sound
  blocks_kept op.Heartbeat h = kept_heard facts.blocks facts.now sound (node_of caller)
  blocks_kept (op.Reported replica) h = kept_reported facts.blocks facts.now sound (node_of caller) replica
  blocks_kept _ h = kept_same before sound

  -- the rows keep their blocks, and the block facts are as before
  rows_alone : (left : List Row) → ((w : Weight) → in_rows w left ≡ in_rows w rows) → Agree (told before) left
  rows_alone left same = agree_same (told before) (told before) rows left agree (λ number. refl) same

  rows_kept : (left : List Row) → AreKept rows left → Agree (told before) left
  rows_kept left same = rows_alone left (λ w. same (by_blocks w) refl)

  facts_alone : (later : KnownBlocks) → TellTheSame before later → Agree (told later) rows
  facts_alone later same = agree_same (told before) (told later) rows rows agree same (λ w. refl)

  taken : (path : List (List ℕ)) (left : List Row) → ((w : Weight) → in_rows w left + in_rows w (rows_under path rows) ≡ in_rows w rows)
      → Agree (told (known.without_each_block before (blocks_in (rows_under path rows)))) left
  taken path left parts =
      agree_taken (told before) (told (known.without_each_block before (blocks_in (rows_under path rows)))) rows left agree (rows_under path rows)
      (seen_removed committed_of (blocks_in (rows_under path rows)) before sound.once) parts

  -- a writer asks for a block behind the last one of his file
  module _ (path : List (List ℕ)) (at : IsFileAt path rows) where
    abbrev longer : List Row
    longer = block_added path before.next_block rows

    more : (targets : List ℕ) (replication : ℕ) → Agree (told (known.with_new_block before targets replication)) longer
    more targets replication =
        agree_added (told before) (told (known.with_new_block before targets replication)) rows longer agree before.next_block (next_unknown committed_of before sound) (seen_added committed_of before targets replication)
        (λ w. rows_added w path before.next_block rows at.row at.its (namespace_tests rows namespace).ascending at.there at.file)

    its_count : (number : ℕ) → 1 ≤ total (has number) at.its.blocks → 1 ≤ total (has number) (own at.row)
    its_count number h = subst (λ o. 1 ≤ total (has number) (file.blocks_of_file o)) (sym at.file) h

    longer_count : (number : ℕ) → 1 ≤ total (has number) at.its.blocks → 1 ≤ total (has number) (own (file_edited (with_block before.next_block) at.row))
    longer_count number h =
        subst (λ o. 1 ≤ total (has number) (file.blocks_of_file (option_map (with_block before.next_block) o))) (sym at.file)
        (subst (λ n. 1 ≤ n) (sym (total_append (has number) at.its.blocks (new_block before.next_block ∷ []))) (enough (total (has number) at.its.blocks) (total (has number) (new_block before.next_block ∷ [])) h))
      where
        enough : (a b : ℕ) → 1 ≤ a → 1 ≤ a + b
        enough a b h = omega (arith, h)

    still_some : (b : Bool) (t : Option (Option ℕ)) → is_some t ≡ true → is_some (cond b (Some None) t) ≡ true
    still_some true t h = refl
    still_some false t h = h

    told_some : (found : Option BlockRecord) → is_some found ≡ true → is_some (option_map (λ (one : BlockRecord). one.committed) found) ≡ true
    told_some None h = cc
    told_some (Some one) h = refl

    asked : (last : Option LastBlock) (replication : ℕ) → is_last last at.its.blocks ≡ true → refused_last facts.blocks last ≡ None
        → Agree (told (file_extended last facts.now (Some replication) facts.blocks).known) (with_block_at path last before.next_block rows)
    asked None replication named h = more (chosen_targets (committed_last facts.blocks None) facts.now replication) replication
    asked (Some last) replication named h =
        let targets = chosen_targets (committed_last facts.blocks (Some last)) facts.now replication in
        let between = known.with_new_block before targets replication in
        let count = last_counted last at.its.blocks named in
        subst (λ own. Agree (told own) (with_block_at path (Some last) before.next_block rows)) (sym (added_first facts.blocks last facts.now replication sound h))
        (commit_agrees between path last longer (at_path path (file_edited (with_block before.next_block)) (λ row. refl) rows at.row) (more targets replication)
        (subst (λ t. is_some t ≡ true) (sym (seen_added committed_of before targets replication last.block))
        (still_some (is_number before.next_block last.block) (told before last.block) (told_some (block_of before last.block) (last_known facts.blocks last h))))
        (found_anew path (file_edited (with_block before.next_block)) (λ row. refl) rows at.row at.there)
        (counts_still path (file_edited (with_block before.next_block)) (λ row. refl) rows last.block at.row (its_count last.block count) (longer_count last.block count)))

    -- a writer completes his file
    completed : (last : Option LastBlock) → is_last last at.its.blocks ≡ true → refused_last facts.blocks last ≡ None → Agree (told (file_ended last facts.blocks).known) (ended_at path last rows)
    completed None named h = rows_alone (row_rewritten path (change.State Closed) rows) (λ w. rows_rewritten w path (change.State Closed) (state_blocks Closed) rows)
    completed (Some last) named h =
        let left = row_rewritten path (change.State Closed) rows in
        let count = its_count last.block (last_counted last at.its.blocks named) in
        commit_agrees before path last left (at_path path (with_change (change.State Closed)) (λ row. refl) rows at.row)
        (rows_alone left (λ w. rows_rewritten w path (change.State Closed) (state_blocks Closed) rows))
        (told_some (block_of before last.block) (last_known facts.blocks last h))
        (found_anew path (with_change (change.State Closed)) (λ row. refl) rows at.row at.there)
        (counts_still path (with_change (change.State Closed)) (λ row. refl) rows last.block at.row count (subst (λ blocks. 1 ≤ total (has last.block) blocks) (sym (state_blocks Closed at.row)) count))

  pub agree_stays : (what : Op) → first_refusal facts caller what rows users ≡ None → Agree (told (after what)) (rows_after facts what caller rows)
  agree_stays (op.Mkdirs path mode) h = rows_kept (made_at path mode caller (row_at path rows) rows) (made_keeps rows namespace path mode caller (row_at path rows) refl)
  agree_stays (op.Delete path recursive) h = taken path (without path rows) (λ w. without_sum path rows (by_blocks w))
  agree_stays (op.Rename from to) h = rows_kept (rows_after facts (op.Rename from to) caller rows) (λ c none. sum_moved c from to rows namespace (renamed_to_free facts caller from to rows users h).missing)
  agree_stays (op.SetMode path mode) h = rows_kept (with_mode_at path mode (row_at path rows) rows) (mode_keeps rows path mode (row_at path rows))
  agree_stays (op.SetOwner path owner group) h = rows_kept (with_owner_at path owner group (row_at path rows) rows) (owner_keeps rows path owner group (row_at path rows))
  agree_stays (op.SetAcl path form) h = rows_kept (with_acl_at path form (row_at path rows) rows) (list_keeps rows path form (row_at path rows))
  agree_stays (op.Create path mode replication over) h =
      taken path (with_new path mode (Some (new_file replication caller)) caller (ancestor path rows) rows)
      (λ w. created_sum rows namespace path mode replication caller (created_on_no_directory facts caller path rows users mode replication over h) (by_blocks w) refl refl)
  agree_stays (op.Append path) h =
      let holder = holder_at (row_at path rows) in
      let block = unfinished_at (row_at path rows) in
      let state = state_after_append facts.blocks facts.now caller holder block in
      agree_same (told before) (told (after (op.Append path))) rows (row_rewritten path (change.State state) rows) agree (same_taken holder block facts.now facts.blocks)
      (λ w. rows_rewritten w path (change.State state) (state_blocks state) rows)
  agree_stays (op.AddBlock path last) h =
      let parts = block_asked facts caller path last rows users namespace h in
      let at = parts.0.at in
      subst (λ replication. Agree (told (file_extended last facts.now replication facts.blocks).known) (with_block_at path last before.next_block rows))
      (sym (ap replication_at at.there ∙ ap replication_of at.file)) (asked path at last at.its.replication parts.0.named parts.1)
  agree_stays (op.Complete path last) h =
      let parts = file_completed facts caller path last rows users namespace h in
      completed path parts.0.at last parts.0.named parts.1
  agree_stays (op.SetReplication path replication) h =
      let later = (all_replicated replication (ids_at (row_at path rows)) facts.blocks).known in
      agree_same (told before) (told later) rows (row_rewritten path (change.Replication replication) rows) agree (same_replicated committed_of lengths_ignore replication (ids_at (row_at path rows)) facts.blocks)
      (λ w. rows_rewritten w path (change.Replication replication) (replication_blocks replication) rows)
  agree_stays op.Tick h =
      agree_same (told before) (told (after op.Tick)) rows (rows_after facts op.Tick caller rows) agree (same_all_begun (sought_blocks facts rows) facts.now facts.blocks) (ticked_blocks facts rows)
  agree_stays (op.CommitRecovery own) h = agree_ended own.block own.length before rows agree recover own.stamp (recovery_ran facts caller own rows users h) own.nodes
  agree_stays op.Heartbeat h = facts_alone (after op.Heartbeat) (same_heard committed_of lengths_ignore facts.blocks (node_of caller) facts.now)
  agree_stays (op.Reported replica) h = facts_alone (after (op.Reported replica)) (same_reported_of committed_of lengths_ignore facts.blocks (node_of caller) replica)
  agree_stays _ h = agree

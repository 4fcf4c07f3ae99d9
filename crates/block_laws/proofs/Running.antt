-- The recoveries that run are those of files behind each operation that is done.
use Rattle.std.proofs.Common.{◌≡◌, ℕ, ◌+◌, ◌≤◌, ◌==◌, Bool, true, false, not, List, map, is_some, Option, Some, None, refl, sym, ap, ◌∙◌, subst, cond, arith}
use Rattle.std.proofs.lemmas.Bool.{eq-eqb, eqb-true}
use Rattle.std.specs.Option.{option_map}
use Rattle.node_ids.specs.NodeId.{node_of}
use Rattle.file_paths.specs.PathOrder.{same_path}
use Rattle.file_states.specs.declared.state.FileState.{FileState}
use Rattle.file_states.specs.declared.state.FileState.TheVariants.{Closed, Open, Recovering}
use Rattle.hdfs_types.specs.declared.op.Op.{Op}
use Rattle.hdfs_types.specs.declared.op.Op.TheVariants as op
use Rattle.block_records.specs.Numbers.{is_number}
use Rattle.block_records.specs.declared.block_record.BlockRecord.{BlockRecord}
use Rattle.block_records.specs.declared.last_block.LastBlock.{LastBlock}
use Rattle.block_tables.specs.Changes.{with_length}
use Rattle.known_blocks.specs.Known as known
use Rattle.known_blocks.specs.Known.{KnownBlocks, block_of}
use Rattle.block_map.specs.BlockFacts.{Blocks, chosen_targets}
use Rattle.block_map.specs.BlockEffects.{with_recovery_begun, committed_last, refused_last}
use Rattle.block_effect_laws.specs.Laws.{IsSound}
use Rattle.principals.specs.Users.{Users}
use Rattle.namespace_rows.specs.declared.file_row.FileRow.{FileRow}
use Rattle.namespace_rows.specs.declared.row.Row.{Row}
use Rattle.namespace_rows.specs.declared.row.Change.TheVariants as change
use Rattle.file_blocks.specs.Blocks.{unfinished_block}
use Rattle.namespace_rows.specs.Files.{blocks_in, with_state, with_file_replication, with_block, committed_at, new_file}
use Rattle.namespace_rows.specs.Namespace.{IsNamespace}
use Rattle.namespace_rows.specs.Rows.{row_at, ancestor}
use Rattle.namespace_rows.proofs.Namespaces.{namespace_tests}
use Rattle.flat_rows.specs.BlockOutcome.{replication_at, ids_at, last_committed, with_block_at, ended_at}
use Rattle.namespace_rows.specs.Changes.{rows_under, without, file_edited, row_rewritten, block_added}
use Rattle.flat_rows.specs.FileOutcome.{holder_at}
use Rattle.flat_rows.specs.Takeover.{unfinished_at, unfinished_of, state_after_append}
use Rattle.flat_rows.specs.Facts.{Facts}
use Rattle.flat_rows.proofs.Blocks.{row_at_map}
use Rattle.flat_rows.proofs.Changes.{edited_namespace}
use Rattle.flat_rows.proofs.Firsts.{first_found}
use Rattle.flat_rows.specs.Outcome.{first_refusal, rows_after, with_new, made_at, with_mode_at, with_owner_at, with_acl_at}
use Rattle.history.specs.Blocks.{file_extended, file_ended, taken_over, blocks_after}
use Rattle.block_laws.proofs.Sums.{Count, sum_files, sum_map, sum_rewritten, sum_moved, anew, sum_anew, part}
use Rattle.block_laws.proofs.Totals.{bit, by_blocks, has}
use Rattle.block_laws.proofs.Told.{seen, seen_added, seen_removed, committed_of, told, same_altered, same_replicated, same_heard, same_reported_of, next_unknown, added_first, number_equal}
use Rattle.block_laws.proofs.Standing.{Agree, bit_few}
use Rattle.block_laws.proofs.Keeping.{AreKept, mode_keeps, owner_keeps, list_keeps, made_keeps, created_sum, without_sum}
use Rattle.block_laws.proofs.Unrefused.{IsFileAt, is_recovery, created_on_no_directory, renamed_to_free, block_asked, file_completed, file_appended, recovery_ran}
use Rattle.block_laws.proofs.Recoveries.{run_of, runs_ignore, RunWeight, one, worth, in_state, in_file, is_block, amiss, amiss_state, Recover, quiet_state, right_state, has_last, none_elsewhere, recover_same, recover_taken, run_begun}
use Rattle.block_laws.proofs.Ticks.{recover_ticked}
use Rattle.block_laws.proofs.Ends.{recover_ended}
use Rattle.block_laws.proofs.Namespaces.{added_namespace}
use Rattle.block_laws.proofs.Operations.{agree_stays}

-- ---- the block facts

-- what is seen of each number counts as before
abbrev CountTheSame : KnownBlocks → KnownBlocks → Type 0
CountTheSame before later = (number : ℕ) (v : RunWeight) → worth v (seen run_of later number) ≡ worth v (seen run_of before number)

module _ (facts : Blocks) (now : ℕ) (sound : IsSound facts.known) where
  -- a new block isn't recovered, and no other had its number
  count_added : (targets : List ℕ) (replication : ℕ) → CountTheSame facts.known (known.with_new_block facts.known targets replication)
  count_added targets replication number v = ap (worth v) (seen_added run_of facts.known targets replication number) ∙ by (is_number facts.known.next_block number) refl
    where
      by : (b : Bool) → is_number facts.known.next_block number ≡ b → worth v (cond b (Some None) (seen run_of facts.known number)) ≡ worth v (seen run_of facts.known number)
      by true is = sym (ap (λ n. worth v (seen run_of facts.known n)) (sym (eqb-true facts.known.next_block number (sym (number_equal facts.known.next_block number) ∙ is))) ∙ ap (worth v) (next_unknown run_of facts.known sound))
      by false is = refl

  count_extended : (last : Option LastBlock) (replication : Option ℕ) → refused_last facts last ≡ None → CountTheSame facts.known (file_extended last now replication facts).known
  count_extended last None h number v = refl
  count_extended None (Some replication) h number v = count_added (chosen_targets (committed_last facts None) now replication) replication number v
  count_extended (Some last) (Some replication) h number v =
      let targets = chosen_targets (committed_last facts (Some last)) now replication in
      ap (λ own. worth v (seen run_of own number)) (added_first facts last now replication sound h)
      ∙ (ap (worth v) (same_altered run_of (with_length last.length) (λ own. refl) last.block (known.with_new_block facts.known targets replication) number) ∙ count_added targets replication number v)

  count_ended : (last : Option LastBlock) → CountTheSame facts.known (file_ended last facts).known
  count_ended None number v = refl
  count_ended (Some last) number v = ap (worth v) (same_altered run_of (with_length last.length) (λ own. refl) last.block facts.known number)

-- ---- files that aren't in recovery

replicated_state : (number : ℕ) (v : RunWeight) (replication : ℕ) (its : Option FileRow) → in_file number v (option_map (with_file_replication replication) its) ≡ in_file number v its
replicated_state number v replication None = refl
replicated_state number v replication (Some its) = refl

replicated_right : (replication : ℕ) (its : Option FileRow) → amiss (option_map (with_file_replication replication) its) ≡ amiss its
replicated_right replication None = refl
replicated_right replication (Some its) = refl

-- an edit that leaves states
edited_state : (edit : FileRow → FileRow) → ((its : FileRow) → (edit its).state ≡ its.state) → (number : ℕ) (v : RunWeight) (its : Option FileRow) → in_file number v (option_map edit its) ≡ in_file number v its
edited_state edit same number v None = refl
edited_state edit same number v (Some its) = ap (in_state number v) (same its)

edited_anew : (path : List (List ℕ)) (edit : FileRow → FileRow) → ((its : FileRow) → (edit its).state ≡ its.state) → (number : ℕ) (v : RunWeight) (row : Row) → in_file number v (anew path (file_edited edit) row).file ≡ in_file number v row.file
edited_anew path edit same number v row = by (same_path path row.path)
  where
    by : (b : Bool) → in_file number v (cond b (file_edited edit row) row).file ≡ in_file number v row.file
    by true = edited_state edit same number v row.file
    by false = refl

module _ (path : List (List ℕ)) (rows : List Row) (namespace : IsNamespace rows) (at : IsFileAt path rows) (f : FileRow → FileRow) where
  abbrev left : List Row
  left = map (anew path (file_edited f)) rows

  -- the file at the path is edited
  file_sum : (c : Count) → sum_files c left + c (Some at.its) ≡ sum_files c rows + c (Some (f at.its))
  file_sum c =
      ap (λ its. sum_files c left + c its) (sym at.file)
      ∙ (sum_anew path (file_edited f) c rows at.row (namespace_tests rows namespace).ascending at.there
      ∙ ap (λ its. sum_files c rows + c (option_map f its)) at.file)

  quiet_sum : (c : Count) → c (Some at.its) ≡ 0 → sum_files c left ≡ sum_files c rows + c (Some (f at.its))
  quiet_sum c quiet = sum (sum_files c left) (c (Some at.its)) (sum_files c rows + c (Some (f at.its))) (file_sum c) quiet
    where
      sum : (a b d : ℕ) → a + b ≡ d → b ≡ 0 → a ≡ d
      sum a b d h k = omega (arith, h, k)

  -- and has the path still
  found_edited : IsFileAt path left
  found_edited = record {
    row = file_edited f at.row;
    its = f at.its;
    there =
        row_at_map (anew path (file_edited f)) (λ row. by row (same_path path row.path)) path rows
        ∙ (ap (option_map (anew path (file_edited f))) at.there ∙ ap (λ b. Some (cond b (file_edited f at.row) at.row)) (first_found (λ row. same_path path row.path) rows at.row at.there));
    file = ap (option_map f) at.file;
  }
    where
      by : (row : Row) (b : Bool) → (cond b (file_edited f row) row).path ≡ row.path
      by row true = refl
      by row false = refl

  quiet_same : (c : Count) → c (Some at.its) ≡ 0 → c (Some (f at.its)) ≡ 0 → sum_files c left ≡ sum_files c rows
  quiet_same c before after = sum (sum_files c left) (sum_files c rows) (c (Some (f at.its))) (quiet_sum c before) after
    where
      sum : (a b d : ℕ) → a ≡ b + d → d ≡ 0 → a ≡ b
      sum a b d h k = omega (arith, h, k)

-- ---- each operation

module _ (facts : Facts) (caller : List ℕ) (rows : List Row) (users : Users) (namespace : IsNamespace rows) (sound : IsSound facts.blocks.known) (agree : Agree (told facts.blocks.known) rows) (recover : Recover facts.blocks.known rows) where
  abbrev before : KnownBlocks
  before = facts.blocks.known

  abbrev after : Op → KnownBlocks
  after what = (blocks_after facts what caller rows facts.blocks).known

  abbrev Stays : KnownBlocks → List Row → Type 0
  Stays later left = Recover later left

  rows_alone : (left : List Row) → AreKept rows left → Stays before left
  rows_alone left same = recover_same before before rows left recover (λ number v. refl) (λ number v. same (in_file number v) refl) (same amiss refl ∙ recover.right)

  facts_alone : (later : KnownBlocks) → ((number : ℕ) → seen run_of later number ≡ seen run_of before number) → Stays later rows
  facts_alone later same = recover_same before later rows rows recover (λ number v. ap (worth v) (same number)) (λ number v. refl) recover.right

  gone : (path : List (List ℕ)) (left : List Row) → Agree (told (known.without_each_block before (blocks_in (rows_under path rows)))) left
      → ((c : Count) → c None ≡ 0 → ((replication : ℕ) → c (Some (new_file replication caller)) ≡ 0) → sum_files c left + sum_files c (rows_under path rows) ≡ sum_files c rows)
      → Stays (known.without_each_block before (blocks_in (rows_under path rows))) left
  gone path left stays parts =
      let later = known.without_each_block before (blocks_in (rows_under path rows)) in
      recover_taken before later rows left recover (rows_under path rows) (told later) stays
      (λ number is. seen_removed committed_of (blocks_in (rows_under path rows)) before sound.once number ∙ ap (λ b. cond b None (told before number)) is)
      (seen_removed run_of (blocks_in (rows_under path rows)) before sound.once)
      (λ number v. parts (in_file number v) refl (λ replication. refl)) (parts amiss refl (λ replication. refl))

  -- a writer asks for a block, or completes his file, which isn't in recovery
  module _ (path : List (List ℕ)) where
    committed_states : (last : Option LastBlock) (some : List Row) (number : ℕ) (v : RunWeight) → sum_files (in_file number v) (last_committed path last some) ≡ sum_files (in_file number v) some
    committed_states None some number v = refl
    committed_states (Some last) some number v =
        sum_rewritten (in_file number v) path (change.Committed last.block last.length) (λ row. edited_state (committed_at last.block last.length) (λ its. refl) number v row.file) some

    committed_right : (last : Option LastBlock) (some : List Row) → IsNamespace some → (at : IsFileAt path some) → is_recovery at.its.state ≡ false → sum_files amiss some ≡ 0 → sum_files amiss (last_committed path last some) ≡ 0
    committed_right None some names at quiet right = right
    committed_right (Some last) some names at quiet right =
        quiet_same path some names at (committed_at last.block last.length) amiss (right_state (unfinished_block at.its.blocks) at.its.state quiet)
        (right_state (unfinished_block (committed_at last.block last.length at.its).blocks) at.its.state quiet)
        ∙ right

    asked : (last : Option LastBlock) (at : IsFileAt path rows) → is_recovery at.its.state ≡ false → refused_last facts.blocks last ≡ None → IsNamespace (block_added path before.next_block rows)
        → Stays (file_extended last facts.now (replication_at (row_at path rows)) facts.blocks).known (with_block_at path last before.next_block rows)
    unfolding found_edited
    asked last at quiet h names =
        let longer = block_added path before.next_block rows in
        recover_same before (file_extended last facts.now (replication_at (row_at path rows)) facts.blocks).known rows (with_block_at path last before.next_block rows) recover
        (count_extended facts.blocks facts.now sound last (replication_at (row_at path rows)) h)
        (λ number v. committed_states last longer number v ∙ sum_map (in_file number v) (anew path (file_edited (with_block before.next_block))) (λ row. edited_anew path (with_block before.next_block) (λ its. refl) number v row) rows)
        (committed_right last longer names (found_edited path rows namespace at (with_block before.next_block)) quiet
        (quiet_same path rows namespace at (with_block before.next_block) amiss (right_state (unfinished_block at.its.blocks) at.its.state quiet)
        (right_state (unfinished_block (with_block before.next_block at.its).blocks) at.its.state quiet) ∙ recover.right))

    closed : (last : Option LastBlock) (at : IsFileAt path rows) → is_recovery at.its.state ≡ false → IsNamespace (row_rewritten path (change.State Closed) rows)
        → Stays (file_ended last facts.blocks).known (ended_at path last rows)
    unfolding found_edited
    closed last at quiet names =
        let left = row_rewritten path (change.State Closed) rows in
        recover_same before (file_ended last facts.blocks).known rows (ended_at path last rows) recover (count_ended facts.blocks facts.now sound last)
        (λ number v. committed_states last left number v ∙ quiet_same path rows namespace at (with_state Closed) (in_file number v) (quiet_state number v at.its.state quiet) refl)
        (committed_right last left names (found_edited path rows namespace at (with_state Closed)) refl
        (quiet_same path rows namespace at (with_state Closed) amiss (right_state (unfinished_block at.its.blocks) at.its.state quiet) refl ∙ recover.right))

    -- ---- a file is opened, or taken

    given : (state : FileState) (at : IsFileAt path rows) → is_recovery at.its.state ≡ false → (number : ℕ) (v : RunWeight)
        → sum_files (in_file number v) (row_rewritten path (change.State state) rows) ≡ sum_files (in_file number v) rows + in_state number v state
    given state at quiet number v = quiet_sum path rows namespace at (with_state state) (in_file number v) (quiet_state number v at.its.state quiet)

    given_right : (state : FileState) (at : IsFileAt path rows) → is_recovery at.its.state ≡ false → amiss_state (unfinished_block at.its.blocks) state ≡ 0 → sum_files amiss (row_rewritten path (change.State state) rows) ≡ 0
    given_right state at quiet right =
        quiet_same path rows namespace at (with_state state) amiss (right_state (unfinished_block at.its.blocks) at.its.state quiet) right ∙ recover.right

    opened : (state : FileState) (at : IsFileAt path rows) → is_recovery at.its.state ≡ false → is_recovery state ≡ false → Stays before (row_rewritten path (change.State state) rows)
    opened state at quiet calm =
        recover_same before before rows (row_rewritten path (change.State state) rows) recover (λ number v. refl)
        (λ number v. given state at quiet number v ∙ nothing (sum_files (in_file number v) rows) (in_state number v state) (quiet_state number v state calm))
        (given_right state at quiet (right_state (unfinished_block at.its.blocks) state calm))
      where
        nothing : (a b : ℕ) → b ≡ 0 → a + b ≡ a
        nothing a b h = omega (arith, h)

    recovering : (block : ℕ) (at : IsFileAt path rows) → is_recovery at.its.state ≡ false → unfinished_block at.its.blocks ≡ Some block
        → Stays (with_recovery_begun facts.blocks block facts.now).known (row_rewritten path (change.State (Recovering block before.next_stamp facts.now)) rows)
    recovering block at quiet last = record {
      runs = λ number v. given state at quiet number v ∙ by number v (block == number) refl;
      right = given_right state at quiet (ap (λ o. bit (not (is_block block o))) last ∙ ap (λ b. bit (not b)) (eq-eqb block block refl));
    }
      where
        state : FileState
        state = Recovering block before.next_stamp facts.now

        later : KnownBlocks
        later = (with_recovery_begun facts.blocks block facts.now).known

        its_has : 1 ≤ by_blocks (has block) at.row.file
        its_has = subst (λ its. 1 ≤ by_blocks (has block) its) (sym at.file) (has_last block at.its.blocks last)

        few : sum_files (by_blocks (has block)) rows ≤ 1
        few = subst (λ n. n ≤ 1) (sym (agree.once block)) (bit_few (is_some (told before block)))

        -- the block stands in a file, and so is known
        there : is_some (block_of before block) ≡ true
        there = some (block_of before block) refl
          where
            apart : (rows own : ℕ) → 1 ≤ own → own ≤ rows → rows ≡ 0 → ⊥
            apart rows own h le none = omega (arith, h, le, none)

            some : (found : Option BlockRecord) → block_of before block ≡ found → is_some found ≡ true
            some None is =
                absurd (apart (sum_files (by_blocks (has block)) rows) (by_blocks (has block) at.row.file) its_has (part (by_blocks (has block)) path rows at.row at.there)
                (agree.once block ∙ ap (λ (found : Option BlockRecord). bit (is_some (option_map (λ (own : BlockRecord). own.committed) found))) is))
            some (Some own) is = refl

        none_before : (v : RunWeight) → sum_files (in_file block v) rows ≡ 0
        none_before v = none_elsewhere block v path rows at.row recover.right few at.there (ap (in_file block one) at.file ∙ quiet_state block one at.its.state quiet) its_has

        run : (number : ℕ) → seen run_of later number ≡ cond (is_number block number) (Some (Some (before.next_stamp, facts.now))) (seen run_of before number)
        run number = run_begun before.next_stamp facts.now block number before.blocks there

        by : (number : ℕ) (v : RunWeight) (b : Bool) → (block == number) ≡ b
            → sum_files (in_file number v) rows + cond (block == number) (v before.next_stamp facts.now) 0 ≡ worth v (seen run_of later number)
        by number v true is =
            ap (λ b. sum_files (in_file number v) rows + cond b (v before.next_stamp facts.now) 0) is
            ∙ (nothing (sum_files (in_file number v) rows) (v before.next_stamp facts.now) (subst (λ n. sum_files (in_file n v) rows ≡ 0) (eqb-true block number is) (none_before v))
            ∙ sym (ap (worth v) (run number ∙ ap (λ b. cond b (Some (Some (before.next_stamp, facts.now))) (seen run_of before number)) (number_equal block number ∙ is))))
          where
            nothing : (a b : ℕ) → a ≡ 0 → a + b ≡ b
            nothing a b h = omega (arith, h)
        by number v false is =
            ap (λ b. sum_files (in_file number v) rows + cond b (v before.next_stamp facts.now) 0) is
            ∙ (nothing (sum_files (in_file number v) rows)
            ∙ (recover.runs number v ∙ sym (ap (worth v) (run number ∙ ap (λ b. cond b (Some (Some (before.next_stamp, facts.now))) (seen run_of before number)) (number_equal block number ∙ is)))))
          where
            nothing : (a : ℕ) → a + 0 ≡ a
            nothing a = omega arith

    appended_by : (at : IsFileAt path rows) → is_recovery at.its.state ≡ false → (holder : Option (List ℕ)) (block : Option ℕ) → unfinished_block at.its.blocks ≡ block
        → Stays (taken_over holder block facts.now facts.blocks).known (row_rewritten path (change.State (state_after_append facts.blocks facts.now caller holder block)) rows)
    appended_by at quiet None None last = opened (Open caller) at quiet refl
    appended_by at quiet None (Some block) last = opened (Open caller) at quiet refl
    appended_by at quiet (Some holder) None last = opened Closed at quiet refl
    appended_by at quiet (Some holder) (Some block) last = recovering block at quiet last

    appended : (at : IsFileAt path rows) → is_recovery at.its.state ≡ false → Stays (after (op.Append path)) (rows_after facts (op.Append path) caller rows)
    appended at quiet =
        appended_by at quiet (holder_at (row_at path rows)) (unfinished_at (row_at path rows)) (sym (ap unfinished_at at.there ∙ ap unfinished_of at.file))

  pub recover_stays : (what : Op) → first_refusal facts caller what rows users ≡ None → Stays (after what) (rows_after facts what caller rows)
  recover_stays (op.Mkdirs path mode) h = rows_alone (made_at path mode caller (row_at path rows) rows) (made_keeps rows namespace path mode caller (row_at path rows) refl)
  recover_stays (op.Delete path recursive) h =
      gone path (without path rows) (agree_stays facts caller rows users namespace sound agree recover (op.Delete path recursive) h) (λ c none new. without_sum path rows c)
  recover_stays (op.Rename from to) h =
      rows_alone (rows_after facts (op.Rename from to) caller rows) (λ c none. sum_moved c from to rows namespace (renamed_to_free facts caller from to rows users h).missing)
  recover_stays (op.SetMode path mode) h = rows_alone (with_mode_at path mode (row_at path rows) rows) (mode_keeps rows path mode (row_at path rows))
  recover_stays (op.SetOwner path owner group) h = rows_alone (with_owner_at path owner group (row_at path rows) rows) (owner_keeps rows path owner group (row_at path rows))
  recover_stays (op.SetAcl path form) h = rows_alone (with_acl_at path form (row_at path rows) rows) (list_keeps rows path form (row_at path rows))
  recover_stays (op.Create path mode replication over) h =
      gone path (with_new path mode (Some (new_file replication caller)) caller (ancestor path rows) rows) (agree_stays facts caller rows users namespace sound agree recover (op.Create path mode replication over) h)
      (λ c none new. created_sum rows namespace path mode replication caller (created_on_no_directory facts caller path rows users mode replication over h) c none (new replication))
  recover_stays (op.Append path) h = let parts = file_appended facts caller path rows users namespace h in appended path parts.0 parts.1
  recover_stays (op.AddBlock path last) h =
      let parts = block_asked facts caller path last rows users namespace h in
      asked path last parts.0.at parts.0.quiet parts.1 (added_namespace path before.next_block rows namespace)
  recover_stays (op.Complete path last) h =
      let parts = file_completed facts caller path last rows users namespace h in
      closed path last parts.0.at parts.0.quiet (edited_namespace (with_state Closed) (λ row. same_path path row.path) rows namespace)
  recover_stays (op.SetReplication path replication) h =
      recover_same before (after (op.SetReplication path replication)) rows (row_rewritten path (change.Replication replication) rows) recover
      (λ number v. ap (worth v) (same_replicated run_of runs_ignore replication (ids_at (row_at path rows)) facts.blocks number))
      (λ number v. sum_rewritten (in_file number v) path (change.Replication replication) (λ row. replicated_state number v replication row.file) rows)
      (sum_rewritten amiss path (change.Replication replication) (λ row. replicated_right replication row.file) rows ∙ recover.right)
  recover_stays op.Tick h = recover_ticked facts rows agree recover
  recover_stays op.Heartbeat h = facts_alone (after op.Heartbeat) (same_heard run_of runs_ignore facts.blocks (node_of caller) facts.now)
  recover_stays (op.Reported replica) h = facts_alone (after (op.Reported replica)) (same_reported_of run_of runs_ignore facts.blocks (node_of caller) replica)
  recover_stays (op.CommitRecovery own) h = recover_ended own.block own.length before rows agree recover own.stamp (recovery_ran facts caller own rows users h) own.nodes
  recover_stays _ h = recover

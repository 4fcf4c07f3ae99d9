-- Who has a file open behind an attempt had it open before, or asks for it.
use Rattle.std.proofs.Common.{◌≡◌, ℕ, Bool, true, false, ◌&&◌, ◌||◌, not, List, [], ◌∷◌, ◌++◌, Option, Some, None, option_map, map, length, drop, append_assoc, refl, sym, ap, ◌∙◌, cond}
use Rattle.std.specs.Prelude.{unwrap_or, Result, Ok, Err}
use Rattle.std.specs.List.{list_all}
use Rattle.std.proofs.lemmas.List.{take-append-drop}
use Rattle.hdfs_values.specs.Text.{same}
use Rattle.file_paths.specs.Path.{is_prefix}
use Rattle.file_paths.specs.PathOrder.{same_path}
use Rattle.file_states.specs.declared.state.FileState.{FileState}
use Rattle.file_states.specs.declared.state.FileState.TheVariants.{Closed, Recovering}
use Rattle.hdfs_types.specs.declared.op.Op.{Op}
use Rattle.hdfs_types.specs.declared.op.Op.TheVariants as op
use Rattle.refusals.specs.declared.refusal.Refusal.{Refusal}
use Rattle.acl_entries.specs.Acl.{Acl}
use Rattle.partial_acl.specs.AclChange.{acl_change, with_mode}
use Rattle.block_records.specs.declared.last_block.LastBlock.{LastBlock}
use Rattle.recovery_queue.specs.declared.begun.BegunRecovery.{BegunRecovery}
use Rattle.namespace_rows.specs.declared.file_row.FileRow.{FileRow}
use Rattle.namespace_rows.specs.declared.row.Row.{Row}
use Rattle.namespace_rows.specs.declared.row.Change.{Change}
use Rattle.namespace_rows.specs.declared.row.Change.TheVariants as change
use Rattle.namespace_rows.specs.Files.{new_file, with_state, with_block, committed_at, completed_at, recovered_at, state_recovers, with_file_replication, holder_of, is_client, holder_of_file, is_open_by}
use Rattle.namespace_rows.specs.Rows.{row_at, ancestor, with_sub_tree}
use Rattle.namespace_rows.specs.Changes.{row_rewritten, block_added, with_change, file_edited, without}
use Rattle.namespace_rows.proofs.Tests.{and}
use Rattle.flat_rows.specs.BlockOutcome.{last_committed}
use Rattle.flat_rows.specs.FileOutcome.{holder_at}
use Rattle.flat_rows.specs.Takeover.{unfinished_at, state_after_append, stamp_in, recovering_from, with_begun, taken_row, sought_in, begun_in, row_ticked}
use Rattle.flat_rows.specs.declared.takeover.Sought.{Sought}
use Rattle.flat_rows.specs.Facts.{Facts}
use Rattle.flat_rows.specs.Outcome.{rows_after, with_new, made_at, new_row, new_rows, mode_of_new, file_of_new, with_mode_at, with_owner_at, with_acl_at, with_list_at}
use Rattle.flat_rows.proofs.Firsts.{first_passes}
use Rattle.flat_rows.proofs.Changes.{same_self}
use Rattle.flat_rows.proofs.NewDirectories.{starts_self, beneath_parts, ancestor_above}
use Rattle.permission_laws.proofs.Deciding.{path_of_row}
use Rattle.permission_laws.proofs.RowsAt.{at_map, at_new, at_replaced, same_back}
use Rattle.permission_laws.proofs.Elsewhere.{made_inside, rewritten_elsewhere, without_elsewhere, without_there}
use Rattle.outcome_laws.specs.Laws.{is_rename, has_open, asks_to_write}

differ : true ≡ false → ⊥
differ e = cc

-- ---- the paths of rows that are given anew

pub paths_same : (top : List (List ℕ)) (f : Row → Row) → ((row : Row) → (f row).path ≡ row.path) → (row : Row) → (cond (same_path top row.path) (f row) row).path ≡ row.path
paths_same top f paths row = by (same_path top row.path)
  where
    by : (b : Bool) → (cond b (f row) row).path ≡ row.path
    by true = paths row
    by false = refl

pub ticked_path : (facts : Facts) (begun : List BegunRecovery) (row : Row) → (row_ticked facts begun row).path ≡ row.path
ticked_path facts begun row = by (sought_in facts row)
  where
    by_stamp : (block : ℕ) (stamp : Option ℕ) → (recovering_from facts.now block stamp row).path ≡ row.path
    by_stamp block None = refl
    by_stamp block (Some stamp) = refl

    by_block : (block : Option ℕ) → (with_begun begun facts.now block row).path ≡ row.path
    by_block None = refl
    by_block (Some block) = by_stamp block (stamp_in begun block)

    by : (sought : Option Sought) → (taken_row begun facts.now sought row).path ≡ row.path
    by None = refl
    by (Some sought) = by_block sought.block

-- ---- what comes to be open

module _ (client : List ℕ) where
  -- it gives nobody a file who is this client, but who had it
  abbrev Keeps : (Row → Row) → Type 0
  Keeps f = (row : Row) → is_open_by client (f row) ≡ true → is_open_by client row ≡ true

  edited : (edit : FileRow → FileRow) → ((file : FileRow) → is_client client (holder_of (edit file).state) ≡ true → is_client client (holder_of file.state) ≡ true) → Keeps (file_edited edit)
  edited edit keeps row h = by row.file h
    where
      by : (file : Option FileRow) → is_client client (holder_of_file (option_map edit file)) ≡ true → is_client client (holder_of_file file) ≡ true
      by None k = k
      by (Some file) k = keeps file k

  -- a state that isn't this client's
  given_state : (state : FileState) → is_client client (holder_of state) ≡ false → Keeps (with_change (change.State state))
  given_state state other = edited (with_state state) (λ file h. absurd (differ (sym h ∙ other)))

  where_same : (top : List (List ℕ)) (f : Row → Row) → Keeps f → Keeps (λ row. cond (same_path top row.path) (f row) row)
  where_same top f keeps row h = by (same_path top row.path) h
    where
      by : (b : Bool) → is_open_by client (cond b (f row) row) ≡ true → is_open_by client row ≡ true
      by true k = keeps row k
      by false k = k

  module _ (path : List (List ℕ)) where
    abbrev KeepsRows : List Row → List Row → Type 0
    KeepsRows rows after = has_open client (row_at path after) ≡ true → has_open client (row_at path rows) ≡ true

    mapped : (f : Row → Row) → ((row : Row) → (f row).path ≡ row.path) → Keeps f → (rows : List Row) → KeepsRows rows (map f rows)
    mapped f paths keeps rows h = by (row_at path rows) (ap (has_open client) (sym (at_map path f paths rows)) ∙ h)
      where
        by : (o : Option Row) → has_open client (option_map f o) ≡ true → has_open client o ≡ true
        by None k = k
        by (Some row) k = keeps row k

    rewritten : (top : List (List ℕ)) (given : Change) → ((row : Row) → (with_change given row).path ≡ row.path) → Keeps (with_change given) → (rows : List Row) → KeepsRows rows (row_rewritten top given rows)
    rewritten top given paths keeps rows = mapped (λ row. cond (same_path top row.path) (with_change given row) row) (paths_same top (with_change given) paths) (where_same top (with_change given) keeps) rows

    committed : (top : List (List ℕ)) (last : Option LastBlock) (rows : List Row) → KeepsRows rows (last_committed top last rows)
    committed top None rows h = h
    committed top (Some last) rows h = rewritten top (change.Committed last.block last.length) (λ row. refl) (edited (committed_at last.block last.length) (λ file k. k)) rows h

    added : (top : List (List ℕ)) (block : ℕ) (rows : List Row) → KeepsRows rows (block_added top block rows)
    added top block rows =
        mapped (λ row. cond (same_path top row.path) (file_edited (with_block block) row) row) (paths_same top (file_edited (with_block block)) (λ row. refl)) (where_same top (file_edited (with_block block)) (edited (with_block block) (λ file k. k))) rows

    recovered : (block bytes : ℕ) (rows : List Row) → KeepsRows rows (map (file_edited (recovered_at block bytes)) rows)
    recovered block bytes rows = mapped (file_edited (recovered_at block bytes)) (λ row. refl) (edited (recovered_at block bytes) keeps) rows
      where
        keeps : (file : FileRow) → is_client client (holder_of (recovered_at block bytes file).state) ≡ true → is_client client (holder_of file.state) ≡ true
        keeps file h = by (state_recovers block file.state) h
          where
            by : (b : Bool) → is_client client (holder_of (cond b (completed_at block bytes file) file).state) ≡ true → is_client client (holder_of file.state) ≡ true
            by true k = cc
            by false k = k

    ticked : (facts : Facts) (begun : List BegunRecovery) (rows : List Row) → KeepsRows rows (map (row_ticked facts begun) rows)
    ticked facts begun rows = mapped (row_ticked facts begun) (ticked_path facts begun) (λ row h. keeps row (sought_in facts row) h) rows
      where
        from_keeps : (row : Row) (block : ℕ) (stamp : Option ℕ) → is_open_by client (recovering_from facts.now block stamp row) ≡ true → is_open_by client row ≡ true
        from_keeps row block None h = h
        from_keeps row block (Some stamp) h = given_state (Recovering block stamp facts.now) refl row h

        begun_keeps : (row : Row) (block : Option ℕ) → is_open_by client (with_begun begun facts.now block row) ≡ true → is_open_by client row ≡ true
        begun_keeps row None h = given_state Closed refl row h
        begun_keeps row (Some block) h = from_keeps row block (stamp_in begun block) h

        keeps : (row : Row) (sought : Option Sought) → is_open_by client (taken_row begun facts.now sought row) ≡ true → is_open_by client row ≡ true
        keeps row None h = h
        keeps row (Some sought) h = begun_keeps row sought.block h

    listed : (top : List (List ℕ)) (acl : Acl) (rows : List Row) → KeepsRows rows (row_rewritten top (change.List acl) rows)
    listed top acl rows = rewritten top (change.List acl) (λ row. refl) (λ row h. h) rows

    -- ---- what is made

    module _ (caller : List ℕ) where
      unopened : (above : Row) (mode : ℕ) (file : Option FileRow) → is_client client (holder_of_file file) ≡ false → (names : List (List ℕ)) → list_all (λ row. not (is_open_by client row)) (new_rows above caller mode file names) ≡ true
      unopened above mode file none [] = refl
      unopened above mode file none (name ∷ names) =
          and _ _ (ap not (by names)) (unopened (new_row above caller (mode_of_new mode names) (file_of_new file names) name) mode file none names)
        where
          by : (names : List (List ℕ)) → is_client client (holder_of_file (file_of_new file names)) ≡ false
          by [] = none
          by (n ∷ ns) = refl

      inside : (above : Row) (mode : ℕ) (file : Option FileRow) (name : List ℕ) (names : List (List ℕ)) → list_all (λ row. is_prefix (above.path ++ name ∷ []) row.path) (new_rows above caller mode file (name ∷ names)) ≡ true
      inside above mode file name names =
          let top : List (List ℕ) = above.path ++ name ∷ [] in
          and _ _ (starts_self top) (made_inside caller mode file top (new_row above caller (mode_of_new mode names) (file_of_new file names) name) names (starts_self top))

      put : (above : Row) (mode : ℕ) (file : Option FileRow) → is_client client (holder_of_file file) ≡ false → (names : List (List ℕ)) (rows : List Row) → KeepsRows rows (with_sub_tree rows (new_rows above caller mode file names))
      put above mode file none [] rows h = h
      put above mode file none (name ∷ names) rows h = by (is_prefix top path) refl
        where
          top : List (List ℕ)
          top = above.path ++ name ∷ []

          of_new : (o : Option Row) → row_at path (new_rows above caller mode file (name ∷ names)) ≡ o → has_open client o ≡ true → ⊥
          of_new None e k = cc
          of_new (Some row) e k =
              differ (sym (first_passes (λ r. same_path path r.path) (λ r. not (is_open_by client r)) (new_rows above caller mode file (name ∷ names)) row (unopened above mode file none (name ∷ names)) e) ∙ ap not k)

          by : (b : Bool) → is_prefix top path ≡ b → has_open client (row_at path rows) ≡ true
          by true e = absurd (of_new (row_at path (new_rows above caller mode file (name ∷ names))) refl (ap (has_open client) (sym (at_new path top (new_rows above caller mode file (name ∷ names)) rows e)) ∙ h))
          by false e = ap (has_open client) (sym (at_replaced path top (new_rows above caller mode file (name ∷ names)) rows e (inside above mode file name names))) ∙ h

      made : (mode : ℕ) (file : Option FileRow) → is_client client (holder_of_file file) ≡ false → (top : List (List ℕ)) (o : Option Row) (rows : List Row) → KeepsRows rows (with_new top mode file caller o rows)
      made mode file none top None rows h = h
      made mode file none top (Some above) rows h = put above mode file none (drop (length above.path) top) rows h

      -- ---- and what is made on the way to another path

      module _ (mode : ℕ) (file : Option FileRow) (whole : List (List ℕ)) where
        -- of what is made only the last is open
        last_alone : (above : Row) (names : List (List ℕ)) → above.path ++ names ≡ whole → list_all (λ row. not (is_open_by client row) || same_path whole row.path) (new_rows above caller mode file names) ≡ true
        last_alone above [] is = refl
        last_alone above (name ∷ names) is =
            let made : Row = new_row above caller (mode_of_new mode names) (file_of_new file names) name in
            and _ _ (by names is) (last_alone made names (append_assoc above.path (name ∷ []) names ∙ is))
          where
            or_true : (b : Bool) → (b || true) ≡ true
            or_true true = refl
            or_true false = refl

            by : (names : List (List ℕ)) → above.path ++ name ∷ names ≡ whole
                → (not (is_client client (holder_of_file (file_of_new file names))) || same_path whole (above.path ++ name ∷ [])) ≡ true
            by [] e = ap (λ b. not (is_client client (holder_of_file file)) || b) (ap (same_path whole) e ∙ same_self whole) ∙ or_true (not (is_client client (holder_of_file file)))
            by (n ∷ ns) e = refl

        put_elsewhere : (above : Row) (names : List (List ℕ)) → above.path ++ names ≡ whole → same_path path whole ≡ false → (rows : List Row) → KeepsRows rows (with_sub_tree rows (new_rows above caller mode file names))
        put_elsewhere above [] is apart rows h = h
        put_elsewhere above (name ∷ names) is apart rows h = by (is_prefix top path) refl
          where
            top : List (List ℕ)
            top = above.path ++ name ∷ []

            left_true : (a b : Bool) → b ≡ false → (a || b) ≡ true → a ≡ true
            left_true true b e k = refl
            left_true false b e k = absurd (differ (sym k ∙ e))

            of_new : (o : Option Row) → row_at path (new_rows above caller mode file (name ∷ names)) ≡ o → has_open client o ≡ true → ⊥
            of_new None e k = cc
            of_new (Some row) e k =
                let here : path ≡ row.path = path_of_row path (new_rows above caller mode file (name ∷ names)) row e in
                let another : same_path whole row.path ≡ false = ap (same_path whole) (sym here) ∙ same_back path whole apart in
                let one = first_passes (λ r. same_path path r.path) (λ r. not (is_open_by client r) || same_path whole r.path) (new_rows above caller mode file (name ∷ names)) row (last_alone above (name ∷ names) is) e in
                differ (sym (left_true (not (is_open_by client row)) (same_path whole row.path) another one) ∙ ap not k)

            by : (b : Bool) → is_prefix top path ≡ b → has_open client (row_at path rows) ≡ true
            by true e = absurd (of_new (row_at path (new_rows above caller mode file (name ∷ names))) refl (ap (has_open client) (sym (at_new path top (new_rows above caller mode file (name ∷ names)) rows e)) ∙ h))
            by false e = ap (has_open client) (sym (at_replaced path top (new_rows above caller mode file (name ∷ names)) rows e (inside above mode file name names))) ∙ h

        made_elsewhere : same_path path whole ≡ false → (rows : List Row) (o : Option Row) → ancestor whole rows ≡ o → KeepsRows rows (with_new whole mode file caller o rows)
        made_elsewhere apart rows None e h = h
        made_elsewhere apart rows (Some above) e h =
            let parts = beneath_parts whole above.path (ancestor_above whole rows above e) in
            put_elsewhere above (drop (length above.path) whole)
            (ap (λ t. t ++ drop (length above.path) whole) (sym parts.front) ∙ take-append-drop (length above.path) whole) apart rows h

      -- ---- of each operation

      module _ (facts : Facts) (rows : List Row) where
        appended : same client caller ≡ false → (holder : Option (List ℕ)) (block : Option ℕ) → is_client client (holder_of (state_after_append facts.blocks facts.now caller holder block)) ≡ false
        appended other None block = other
        appended other (Some holder) None = refl
        appended other (Some holder) (Some block) = refl

        taken : (top : List (List ℕ)) → KeepsRows rows (without top rows)
        taken top h = by (is_prefix top path) refl
          where
            by : (b : Bool) → is_prefix top path ≡ b → has_open client (row_at path rows) ≡ true
            by true e = absurd (differ (sym h ∙ ap (has_open client) (without_there rows path top e)))
            by false e = ap (has_open client) (sym (without_elsewhere rows path top e)) ∙ h

        pub open_before : (what : Op) → is_rename what ≡ false → (same client caller && asks_to_write what path) ≡ false → KeepsRows rows (rows_after facts what caller rows)
        open_before (op.Mkdirs top mode) plain unasked h = by (row_at top rows) h
          where
            by : (o : Option Row) → KeepsRows rows (made_at top mode caller o rows)
            by None k = made mode None refl top (ancestor top rows) rows k
            by (Some row) k = k
        open_before (op.Create top mode replication over) plain unasked h = by (same client caller) refl unasked
          where
            by : (b : Bool) → same client caller ≡ b → (b && same_path path top) ≡ false → has_open client (row_at path rows) ≡ true
            by false e k = made mode (Some (new_file replication caller)) e top (ancestor top rows) rows h
            by true e k = made_elsewhere mode (Some (new_file replication caller)) top k rows (ancestor top rows) refl h
        open_before (op.Delete top recursive) plain unasked h = taken top h
        open_before (op.Rename from to) plain unasked h = cc
        open_before (op.SetMode top mode) plain unasked h = by (row_at top rows) h
          where
            by : (o : Option Row) → KeepsRows rows (with_mode_at top mode o rows)
            by None k = k
            by (Some row) k = listed top (with_mode mode row.kind row.acl) rows k
        open_before (op.SetOwner top owner group) plain unasked h = by (row_at top rows) h
          where
            by : (o : Option Row) → KeepsRows rows (with_owner_at top owner group o rows)
            by None k = k
            by (Some row) k = rewritten top (change.Owner (unwrap_or owner row.owner) (unwrap_or group row.group)) (λ r. refl) (λ r k. k) rows k
        open_before (op.SetAcl top form) plain unasked h = by (row_at top rows) h
          where
            by_made : (one : Result Acl Refusal) → KeepsRows rows (with_list_at top one rows)
            by_made (Ok acl) k = listed top acl rows k
            by_made (Err refusal) k = k

            by : (o : Option Row) → KeepsRows rows (with_acl_at top form o rows)
            by None k = k
            by (Some row) k = by_made (acl_change form row.kind row.acl) k
        open_before (op.Append top) plain unasked h = by (same client caller) refl unasked
          where
            state : FileState
            state = state_after_append facts.blocks facts.now caller (holder_at (row_at top rows)) (unfinished_at (row_at top rows))

            by : (b : Bool) → same client caller ≡ b → (b && same_path path top) ≡ false → has_open client (row_at path rows) ≡ true
            by false e k = rewritten top (change.State state) (λ row. refl) (given_state state (appended e (holder_at (row_at top rows)) (unfinished_at (row_at top rows)))) rows h
            by true e k = ap (has_open client) (sym (rewritten_elsewhere rows path top (change.State state) (ap (λ b. b || false) k))) ∙ h
        open_before (op.AddBlock top last) plain unasked h = added top facts.blocks.known.next_block rows (committed top last (block_added top facts.blocks.known.next_block rows) h)
        open_before (op.Complete top last) plain unasked h =
            rewritten top (change.State Closed) (λ row. refl) (given_state Closed refl) rows (committed top last (row_rewritten top (change.State Closed) rows) h)
        open_before (op.SetReplication top replication) plain unasked h = rewritten top (change.Replication replication) (λ row. refl) (edited (with_file_replication replication) (λ file k. k)) rows h
        open_before op.Tick plain unasked h = ticked facts (begun_in facts rows) rows h
        open_before (op.CommitRecovery own) plain unasked h = recovered own.block own.length rows h
        open_before _ plain unasked h = h

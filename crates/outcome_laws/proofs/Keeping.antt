-- Who has a file open, and whose lease is live, has it open behind what others ask for.
use Rattle.std.proofs.Common.{◌≡◌, ℕ, Bool, true, false, ◌||◌, not, List, [], ◌∷◌, Option, Some, None, option_map, map, refl, sym, ap, ◌∙◌, cond}
use Rattle.std.specs.Prelude.{unwrap_or, Result, Ok, Err}
use Rattle.hdfs_values.specs.Text.{same}
use Rattle.hdfs_values.proofs.Texts.{same_is}
use Rattle.file_paths.specs.Path.{is_prefix}
use Rattle.file_paths.specs.PathOrder.{same_path}
use Rattle.file_states.specs.declared.state.FileState.{FileState}
use Rattle.file_states.specs.declared.state.FileState.TheVariants.{Closed, Open, Recovering}
use Rattle.hdfs_types.specs.declared.op.Op.{Op}
use Rattle.hdfs_types.specs.declared.op.Op.TheVariants as op
use Rattle.refusals.specs.declared.refusal.Refusal.{Refusal}
use Rattle.refusals.specs.declared.refusal.Refusal.TheVariants.{LeaseHeld, NoLease}
use Rattle.acl_entries.specs.Acl.{Acl}
use Rattle.partial_acl.specs.AclChange.{acl_change, with_mode}
use Rattle.block_records.specs.declared.last_block.LastBlock.{LastBlock}
use Rattle.recovery_queue.specs.declared.begun.BegunRecovery.{BegunRecovery}
use Rattle.principals.specs.Users.{Users}
use Rattle.namespace_rows.specs.declared.file_row.FileRow.{FileRow}
use Rattle.namespace_rows.specs.declared.row.Row.{Row}
use Rattle.namespace_rows.specs.declared.row.Change.{Change}
use Rattle.namespace_rows.specs.declared.row.Change.TheVariants as change
use Rattle.namespace_rows.specs.Files.{with_block, committed_at, completed_at, recovered_at, state_recovers, with_file_replication, holder_of, is_client, holder_of_file, is_open_by}
use Rattle.namespace_rows.specs.Namespace.{IsNamespace}
use Rattle.namespace_rows.specs.Rows.{is_none, row_at}
use Rattle.namespace_rows.specs.Changes.{row_rewritten, block_added, with_change, file_edited}
use Rattle.namespace_rows.proofs.PathOrders.{same_path_is}
use Rattle.file_blocks.specs.Blocks.{unfinished_block}
use Rattle.flat_rows.specs.BlockOutcome.{last_committed, refused_unless_last, refused_end}
use Rattle.flat_rows.specs.FileOutcome.{directory_there, of_file, if_some_file, refused_write, refused_by_state}
use Rattle.flat_rows.specs.Takeover.{refused_append, refused_state, refused_taking, taken_row, sought_in, begun_in, row_ticked, sought_by_state, sought_of, is_overdue}
use Rattle.flat_rows.specs.declared.takeover.Sought.{Sought}
use Rattle.flat_rows.specs.Facts.{Facts}
use Rattle.flat_rows.specs.Verdicts.{is_done}
use Rattle.flat_rows.specs.Outcome.{step, first_refusal, first_some, beneath_file, nothing_at, rows_after, made_at, with_mode_at, with_owner_at, with_acl_at, with_list_at}
use Rattle.flat_rows.proofs.Firsts.{first_passes}
use Rattle.flat_rows.proofs.Holders.{all_apart}
use Rattle.permission_laws.specs.Attempt.{concerns}
use Rattle.permission_laws.proofs.Deciding.{or_none, path_of_row}
use Rattle.permission_laws.proofs.Endings.{done, unchanged}
use Rattle.permission_laws.proofs.RowsAt.{at_map}
use Rattle.permission_laws.proofs.Elsewhere.{stays}
use Rattle.outcome_laws.specs.Laws.{has_open, takes_away}
use Rattle.outcome_laws.proofs.Unrefused.{no_row_at_creation, no_row_at_target}
use Rattle.outcome_laws.proofs.Writing.{paths_same, ticked_path}

differ : true ≡ false → ⊥
differ e = cc

left_true : (a : Bool) → (a || false) ≡ true → a ≡ true
left_true true h = refl
left_true false h = cc

module _ (client : List ℕ) where
  -- a row that the client has open
  record OpenRow (o : Option Row) : Type 0 where
    row : Row
    file : FileRow
    there : o ≡ Some row
    has : row.file ≡ Some file
    opened : file.state ≡ Open client

  open_row : (o : Option Row) → has_open client o ≡ true → OpenRow o
  open_row None h = cc
  open_row (Some row) h = by_file row.file refl h
    where
      by_state : (file : FileRow) → row.file ≡ Some file → (state : FileState) → file.state ≡ state → is_client client (holder_of state) ≡ true → OpenRow (Some row)
      by_state file is Closed e k = cc
      by_state file is (Open holder) e k = record { row = row; file = file; there = refl; has = is; opened = e ∙ ap (λ h. Open h) (sym (same_is client holder k)) }
      by_state file is (Recovering block stamp begun) e k = cc

      by_file : (file : Option FileRow) → row.file ≡ file → is_client client (holder_of_file file) ≡ true → OpenRow (Some row)
      by_file None e k = cc
      by_file (Some file) e k = by_state file e file.state refl k

  -- it takes no file from the client
  abbrev Keeps : (Row → Row) → Type 0
  Keeps f = (row : Row) → is_open_by client row ≡ true → is_open_by client (f row) ≡ true

  edited : (edit : FileRow → FileRow) → ((file : FileRow) → is_client client (holder_of file.state) ≡ true → is_client client (holder_of (edit file).state) ≡ true) → Keeps (file_edited edit)
  edited edit keeps row h = by row.file h
    where
      by : (file : Option FileRow) → is_client client (holder_of_file file) ≡ true → is_client client (holder_of_file (option_map edit file)) ≡ true
      by None k = k
      by (Some file) k = keeps file k

  where_same : (top : List (List ℕ)) (f : Row → Row) → Keeps f → Keeps (λ row. cond (same_path top row.path) (f row) row)
  where_same top f keeps row h = by (same_path top row.path)
    where
      by : (b : Bool) → is_open_by client (cond b (f row) row) ≡ true
      by true = keeps row h
      by false = h

  module _ (caller : List ℕ) (other : same caller client ≡ false) (path : List (List ℕ)) where
    abbrev KeepsRows : List Row → List Row → Type 0
    KeepsRows rows after = has_open client (row_at path rows) ≡ true → has_open client (row_at path after) ≡ true

    mapped : (f : Row → Row) → ((row : Row) → (f row).path ≡ row.path) → Keeps f → (rows : List Row) → KeepsRows rows (map f rows)
    mapped f paths keeps rows h = ap (has_open client) (at_map path f paths rows) ∙ by (row_at path rows) h
      where
        by : (o : Option Row) → has_open client o ≡ true → has_open client (option_map f o) ≡ true
        by None k = k
        by (Some row) k = keeps row k

    rewritten : (top : List (List ℕ)) (given : Change) → ((row : Row) → (with_change given row).path ≡ row.path) → Keeps (with_change given) → (rows : List Row) → KeepsRows rows (row_rewritten top given rows)
    rewritten top given paths keeps rows = mapped (λ row. cond (same_path top row.path) (with_change given row) row) (paths_same top (with_change given) paths) (where_same top (with_change given) keeps) rows

    committed : (top : List (List ℕ)) (last : Option LastBlock) (rows : List Row) → KeepsRows rows (last_committed top last rows)
    committed top None rows h = h
    committed top (Some last) rows h = rewritten top (change.Committed last.block last.length) (λ row. refl) (edited (committed_at last.block last.length) (λ file k. k)) rows h

    added : (top : List (List ℕ)) (block : ℕ) (rows : List Row) → KeepsRows rows (block_added top block rows)
    added top block rows =
        mapped (λ row. cond (same_path top row.path) (file_edited (with_block block) row) row) (paths_same top (file_edited (with_block block)) (λ row. refl)) (where_same top (file_edited (with_block block)) (edited (with_block block) (λ file k. k))) rows

    recovered : (block bytes : ℕ) (rows : List Row) → KeepsRows rows (map (file_edited (recovered_at block bytes)) rows)
    recovered block bytes rows = mapped (file_edited (recovered_at block bytes)) (λ row. refl) (edited (recovered_at block bytes) (λ file k. keeps file file.state refl k)) rows
      where
        keeps : (file : FileRow) (state : FileState) → file.state ≡ state → is_client client (holder_of state) ≡ true → is_client client (holder_of (recovered_at block bytes file).state) ≡ true
        keeps file Closed e k = cc
        keeps file (Open holder) e k = ap (λ s. is_client client (holder_of (cond (state_recovers block s) (completed_at block bytes file) file).state)) e ∙ ap (λ s. is_client client (holder_of s)) e ∙ k
        keeps file (Recovering own stamp begun) e k = cc

    module _ (facts : Facts) (live : facts.leases.is_live client ≡ true) (fresh : facts.leases.is_past_hard client ≡ false) where
      ticked : (begun : List BegunRecovery) (rows : List Row) → KeepsRows rows (map (row_ticked facts begun) rows)
      ticked begun rows = mapped (row_ticked facts begun) (ticked_path facts begun) keeps rows
        where
          keeps : Keeps (row_ticked facts begun)
          keeps row h =
              let own = open_row (Some row) h in
              let spared : sought_in facts row ≡ None = ap (sought_of facts.leases.is_past_hard (is_overdue facts)) (same_file own) ∙ by_state own ∙ by_lease own.file in
              ap (λ s. is_open_by client (taken_row begun facts.now s row)) spared ∙ h
            where
              same_file : (own : OpenRow (Some row)) → row.file ≡ Some own.file
              same_file own = ap (λ (r : Row). r.file) (inner own.there) ∙ own.has
                where
                  inner : {x y : Row} → Some x ≡ Some y → x ≡ y
                  inner e = cc

              taken : FileRow → Option Sought
              taken file = Some (record { holder = Some client; block = unfinished_block file.blocks })

              by_state : (own : OpenRow (Some row)) → sought_of facts.leases.is_past_hard (is_overdue facts) (Some own.file) ≡ cond (facts.leases.is_past_hard client) (taken own.file) None
              by_state own = ap (sought_by_state facts.leases.is_past_hard (is_overdue facts) (unfinished_block own.file.blocks)) own.opened

              by_lease : (file : FileRow) → cond (facts.leases.is_past_hard client) (taken file) None ≡ None
              by_lease file = ap (λ b. cond b (taken file) None) fresh

      -- ---- of each operation

      module _ (rows : List Row) (users : Users) (namespace : IsNamespace rows) (held : has_open client (row_at path rows) ≡ true) where
        abbrev Kept : List Row → Type 0
        Kept after = has_open client (row_at path after) ≡ true

        mine : OpenRow (row_at path rows)
        mine = open_row (row_at path rows) held

        at_top : (top : List (List ℕ)) → (same_path path top || false) ≡ true → row_at top rows ≡ Some mine.row
        at_top top h = ap (λ p. row_at p rows) (sym (same_path_is path top (left_true (same_path path top) h))) ∙ mine.there

        -- what refuses a file that the client has open
        of_mine : (refused : FileRow → Option Refusal) (top : List (List ℕ)) → (same_path path top || false) ≡ true → of_file refused (row_at top rows) ≡ refused mine.file
        of_mine refused top h = ap (of_file refused) (at_top top h) ∙ ap (if_some_file refused) mine.has

        taken_from_me : refused_append facts caller mine.file ≡ None → ⊥
        taken_from_me h = by_live (same caller client) (sym by_state ∙ h)
          where
            block : Option ℕ
            block = unfinished_block mine.file.blocks

            by_state : refused_append facts caller mine.file ≡ cond (same caller client || facts.leases.is_live client) (Some (LeaseHeld client)) (refused_taking facts.blocks facts.now block)
            by_state = ap (refused_state facts caller block) mine.opened

            by_live : (b : Bool) → cond (b || facts.leases.is_live client) (Some (LeaseHeld client)) (refused_taking facts.blocks facts.now block) ≡ None → ⊥
            by_live true k = cc
            by_live false k = no (ap (λ b. cond b (Some (LeaseHeld client)) (refused_taking facts.blocks facts.now block)) (sym live) ∙ k)
              where
                no : Some (LeaseHeld client) ≡ None → ⊥
                no e = cc

        written_by_another : refused_write caller mine.file ≡ None → ⊥
        written_by_another h = no (ap (λ b. cond b None (Some NoLease)) (sym other) ∙ sym (ap (refused_by_state caller) mine.opened) ∙ h)
          where
            no : Some NoLease ≡ None → ⊥
            no e = cc

        fourth : (a b c d : Option Refusal) (more : List (Option Refusal)) → first_some (a ∷ b ∷ c ∷ d ∷ more) ≡ None → d ≡ None
        fourth a b c d more h =
            let behind_one = (or_none a (first_some (b ∷ c ∷ d ∷ more)) h).1 in
            let behind_two = (or_none b (first_some (c ∷ d ∷ more)) behind_one).1 in
            let behind_three = (or_none c (first_some (d ∷ more)) behind_two).1 in
            (or_none d (first_some more) behind_three).0

        listed : (top : List (List ℕ)) (acl : Acl) → Kept (row_rewritten top (change.List acl) rows)
        listed top acl = rewritten top (change.List acl) (λ row. refl) (λ row h. h) rows held

        no_row : None ≡ Some mine.row → ⊥
        no_row e = cc

        -- what is renamed comes to where nothing is
        none_at_target : (to : List (List ℕ)) → row_at to rows ≡ None → is_prefix to path ≡ true → ⊥
        none_at_target to free inside =
            differ (sym (first_passes (λ r. same_path path r.path) (λ r. not (is_prefix to r.path)) rows mine.row (all_apart to rows namespace (ap is_none free)) mine.there)
            ∙ ap (λ p. not (is_prefix to p)) (sym (path_of_row path rows mine.row mine.there)) ∙ ap not inside)

        named : (what : Op) → first_refusal facts caller what rows users ≡ None → takes_away what path ≡ false → concerns what path ≡ true → Kept (rows_after facts what caller rows)
        named (op.Mkdirs top mode) h stands about = ap (λ o. has_open client (row_at path (made_at top mode caller o rows))) (at_top top about) ∙ held
        named (op.Create top mode replication true) h stands about = absurd (differ (sym (left_true (same_path path top) about) ∙ stands))
        named (op.Create top mode replication false) h stands about = absurd (no_row (sym (no_row_at_creation facts caller rows users top mode replication h) ∙ at_top top about))
        named (op.Delete top recursive) h stands about = absurd (differ (sym about ∙ stands))
        named (op.Rename from to) h stands about =
            absurd (none_at_target to (no_row_at_target facts caller rows users from to h) (ap (λ b. b || is_prefix to path) (sym stands) ∙ about))
        named (op.SetMode top mode) h stands about = by (row_at top rows)
          where
            by : (o : Option Row) → Kept (with_mode_at top mode o rows)
            by None = held
            by (Some row) = listed top (with_mode mode row.kind row.acl)
        named (op.SetOwner top owner group) h stands about = by (row_at top rows)
          where
            by : (o : Option Row) → Kept (with_owner_at top owner group o rows)
            by None = held
            by (Some row) = rewritten top (change.Owner (unwrap_or owner row.owner) (unwrap_or group row.group)) (λ r. refl) (λ r k. k) rows held
        named (op.SetAcl top form) h stands about = by (row_at top rows)
          where
            by_made : (made : Result Acl Refusal) → Kept (with_list_at top made rows)
            by_made (Ok acl) = listed top acl
            by_made (Err refusal) = held

            by : (o : Option Row) → Kept (with_acl_at top form o rows)
            by None = held
            by (Some row) = by_made (acl_change form row.kind row.acl)
        named (op.Append top) h stands about =
            absurd (taken_from_me (sym (of_mine (refused_append facts caller) top about)
            ∙ fourth (beneath_file top rows) (nothing_at (row_at top rows)) (directory_there (row_at top rows)) (of_file (refused_append facts caller) (row_at top rows)) [] h))
        named (op.AddBlock top last) h stands about = committed top last (block_added top facts.blocks.known.next_block rows) (added top facts.blocks.known.next_block rows held)
        named (op.Complete top last) h stands about =
            absurd (written_by_another (sym (of_mine (refused_write caller) top about)
            ∙ fourth (beneath_file top rows) (nothing_at (row_at top rows)) (directory_there (row_at top rows)) (of_file (refused_write caller) (row_at top rows))
            (of_file (refused_unless_last last) (row_at top rows) ∷ refused_end facts.blocks last ∷ []) h))
        named (op.SetReplication top replication) h stands about = rewritten top (change.Replication replication) (λ row. refl) (edited (with_file_replication replication) (λ file k. k)) rows held
        named op.Tick h stands about = ticked (begun_in facts rows) rows held
        named (op.CommitRecovery own) h stands about = recovered own.block own.length rows held
        named (op.Open top) h stands about = held
        named (op.Stat top) h stands about = held
        named (op.List top) h stands about = held
        named (op.Summary top) h stands about = held
        named (op.GetAcl top) h stands about = held
        named _ h stands about = held

        pub open_behind : (what : Op) → takes_away what path ≡ false → Kept (step facts rows users caller what).rows
        open_behind what stands = by (is_done (step facts rows users caller what).verdict) refl
          where
            by_concern : (b : Bool) → concerns what path ≡ b → first_refusal facts caller what rows users ≡ None → Kept (rows_after facts what caller rows)
            by_concern true e h = named what h stands e
            by_concern false e h = ap (has_open client) (stays rows path facts users caller namespace what mine.row h e mine.there) ∙ ap (has_open client) (sym mine.there) ∙ held

            by : (b : Bool) → is_done (step facts rows users caller what).verdict ≡ b → Kept (step facts rows users caller what).rows
            by true e = let ended = done facts rows users caller what e in ap (λ some. has_open client (row_at path some)) ended.left ∙ by_concern (concerns what path) refl ended.unrefused
            by false e = ap (λ some. has_open client (row_at path some)) (unchanged facts rows users caller what e) ∙ held

-- The rows that an operation leaves are a namespace where those before it are.
use Rattle.std.proofs.Common.{◌≡◌, ℕ, Bool, true, false, ◌||◌, ◌&&◌, List, [], ◌∷◌, length, take, drop, filter, Option, Some, None, Result, Ok, Err, refl, sym, ap, ◌∙◌, cond}
use Rattle.std.specs.Prelude.{unwrap_or}
use Rattle.file_paths.specs.PathOrder.{same_path}
use Rattle.hdfs_values.proofs.Texts.{same_self}
use Rattle.permission_specs.specs.declared.acl_change.AclChange.{AclChange}
use Rattle.file_states.specs.declared.state.FileState.TheVariants.{Closed}
use Rattle.hdfs_types.specs.declared.op.Op.{Op}
use Rattle.hdfs_types.specs.declared.op.Op.TheVariants as op
use Rattle.refusals.specs.declared.refusal.Refusal.{Refusal}
use Rattle.block_records.specs.declared.last_block.LastBlock.{LastBlock}
use Rattle.acl_entries.specs.Acl.{Acl}
use Rattle.partial_acl.specs.AclChange.{acl_change, with_mode}
use Rattle.principals.specs.Users.{Users}
use Rattle.namespace_rows.specs.declared.file_row.FileRow.{FileRow}
use Rattle.namespace_rows.specs.declared.row.Row.{Row}
use Rattle.namespace_rows.specs.declared.row.Change.{Change}
use Rattle.namespace_rows.specs.declared.row.Change.TheVariants as change
use Rattle.namespace_rows.specs.First.{first}
use Rattle.namespace_rows.specs.Files.{with_block, new_file, recovered_at}
use Rattle.namespace_rows.specs.Rows.{is_directory, is_none, row_at, file_above, ancestor, if_directory, directory_of}
use Rattle.namespace_rows.specs.Namespace.{IsNamespace, is_child, has_parent, suits_kind}
use Rattle.namespace_rows.proofs.Tests.{or_right}
use Rattle.namespace_rows.proofs.PathOrders.{same_path_is}
use Rattle.namespace_rows.proofs.Namespaces.{namespace_tests, with_sub_tree_namespace}
use Rattle.flat_rows.specs.BlockOutcome.{last_committed}
use Rattle.namespace_rows.specs.Changes.{row_rewritten, suits_change, block_added}
use Rattle.flat_rows.specs.FileOutcome.{directory_there, file_there, holder_at}
use Rattle.flat_rows.specs.Takeover.{unfinished_at, state_after_append, begun_in}
use Rattle.flat_rows.specs.Facts.{Facts}
use Rattle.flat_rows.specs.Outcome.{first_refusal, file_at, rows_after, with_new, made_at, new_rows, with_mode_at, with_owner_at, with_acl_at, with_list_at}
use Rattle.flat_rows.proofs.Changes.{without_namespace, rewritten_namespace, edited_namespace}
use Rattle.flat_rows.proofs.Firsts.{first_passes}
use Rattle.flat_rows.proofs.Moves.{moved_namespace}
use Rattle.flat_rows.proofs.NewDirectories.{missing_fit}
use Rattle.flat_rows.proofs.Takeovers.{ticked_namespace}
use Rattle.block_laws.proofs.Suiting.{list_of_mode_suits, changed_list_suits}
use Rattle.block_laws.proofs.Unrefused.{made_above, deleted_below_root, renamed_to_free}

-- ---- the directory of a path

child_of_parent : (name : List ℕ) (names : List (List ℕ)) → is_child (name ∷ names) (take (length names) (name ∷ names)) ≡ true
child_of_parent name [] = refl
child_of_parent name (other ∷ names) = ap (λ b. b && is_child (other ∷ names) (take (length names) (other ∷ names))) (same_self name) ∙ child_of_parent other names

module _ (path above : List (List ℕ)) (child : is_child path above ≡ true) where
  held_by : (rows : List Row) → is_none (if_directory (first (filter (λ row. same_path above row.path) rows))) ≡ false → has_parent path rows ≡ true
  held_by [] h = cc
  held_by (row ∷ rows) h = by (same_path above row.path) refl h (held_by rows)
    where
      is_held : same_path above row.path ≡ true → (d : Bool) → is_directory row ≡ d → is_none (cond d (Some row) None) ≡ false → (is_child path row.path && is_directory row) ≡ true
      is_held e true dir k = rw dir (ap (λ c. c && true) (ap (is_child path) (sym (same_path_is above row.path e)) ∙ child))
      is_held e false dir k = cc

      by : (b : Bool) → same_path above row.path ≡ b → is_none (if_directory (first (cond b (row ∷ filter (λ other. same_path above other.path) rows) (filter (λ other. same_path above other.path) rows)))) ≡ false
          → (is_none (if_directory (first (filter (λ other. same_path above other.path) rows))) ≡ false → has_parent path rows ≡ true) → has_parent path (row ∷ rows) ≡ true
      by true e k others = ap (λ c. c || has_parent path rows) (is_held e (is_directory row) refl k)
      by false e k others = or_right (is_child path row.path && is_directory row) (has_parent path rows) (others k)

parent_there : (path : List (List ℕ)) (rows : List Row) → is_none (directory_of path rows) ≡ false → has_parent path rows ≡ true
parent_there [] rows h = cc
parent_there (name ∷ names) rows h = held_by (name ∷ names) (take (length names) (name ∷ names)) (child_of_parent name names) rows h

-- ---- each change

module _ (rows : List Row) (namespace : IsNamespace rows) where
  row_suits : (path : List (List ℕ)) (row : Row) → row_at path rows ≡ Some row → suits_kind row ≡ true
  row_suits path row at = first_passes (λ r. same_path path r.path) suits_kind rows row (namespace_tests rows namespace).suit at

  new_namespace : (path : List (List ℕ)) (mode : ℕ) (file : Option FileRow) (owner : List ℕ) → file_above path rows ≡ None → IsNamespace (with_new path mode file owner (ancestor path rows) rows)
  new_namespace path mode file owner clear = by (ancestor path rows) refl
    where
      by : (above : Option Row) → ancestor path rows ≡ above → IsNamespace (with_new path mode file owner above rows)
      by None e = namespace
      by (Some above) e = with_sub_tree_namespace rows (new_rows above owner mode file (drop (length above.path) path)) namespace (missing_fit owner mode file path rows above e clear)

  made_namespace : (path : List (List ℕ)) (mode : ℕ) (owner : List ℕ) (at : Option Row) → file_above path rows ≡ None → IsNamespace (made_at path mode owner at rows)
  made_namespace path mode owner None clear = new_namespace path mode None owner clear
  made_namespace path mode owner (Some row) clear = namespace

  mode_namespace : (path : List (List ℕ)) (mode : ℕ) (at : Option Row) → row_at path rows ≡ at → IsNamespace (with_mode_at path mode at rows)
  mode_namespace path mode None e = namespace
  mode_namespace path mode (Some row) e =
      let list = with_mode mode row.kind row.acl in
      rewritten_namespace path (change.List list) rows namespace (ap (suits_change (change.List list)) e ∙ list_of_mode_suits mode row (row_suits path row e))

  any_suits : (at : Option Row) (owner group : List ℕ) → suits_change (change.Owner owner group) at ≡ true
  any_suits None owner group = refl
  any_suits (Some row) owner group = refl

  owner_namespace : (path : List (List ℕ)) (owner group : Option (List ℕ)) (at : Option Row) → IsNamespace (with_owner_at path owner group at rows)
  owner_namespace path owner group None = namespace
  owner_namespace path owner group (Some row) =
      rewritten_namespace path (change.Owner (unwrap_or owner row.owner) (unwrap_or group row.group)) rows namespace (any_suits (row_at path rows) (unwrap_or owner row.owner) (unwrap_or group row.group))

  list_namespace : (path : List (List ℕ)) (form : AclChange) (at : Option Row) → row_at path rows ≡ at → IsNamespace (with_acl_at path form at rows)
  list_namespace path form None e = namespace
  list_namespace path form (Some row) e = by (acl_change form row.kind row.acl) refl
    where
      by : (made : Result Acl Refusal) → acl_change form row.kind row.acl ≡ made → IsNamespace (with_list_at path made rows)
      by (Ok acl) made = rewritten_namespace path (change.List acl) rows namespace (ap (suits_change (change.List acl)) e ∙ changed_list_suits form row acl (row_suits path row e) made)
      by (Err refusal) made = namespace

-- a change that suits whatever stands there
always : (what : Change) → ((row : Row) → suits_change what (Some row) ≡ true) → (at : Option Row) → suits_change what at ≡ true
always what h None = refl
always what h (Some row) = h row

module _ (path : List (List ℕ)) where
  committed_namespace : (last : Option LastBlock) (rows : List Row) → IsNamespace rows → IsNamespace (last_committed path last rows)
  committed_namespace None rows namespace = namespace
  committed_namespace (Some last) rows namespace =
      rewritten_namespace path (change.Committed last.block last.length) rows namespace (always (change.Committed last.block last.length) (λ row. refl) (row_at path rows))

  pub added_namespace : (block : ℕ) (rows : List Row) → IsNamespace rows → IsNamespace (block_added path block rows)
  added_namespace block rows namespace = edited_namespace (with_block block) (λ row. same_path path row.path) rows namespace

-- ---- each operation

module _ (facts : Facts) (caller : List ℕ) (rows : List Row) (users : Users) (namespace : IsNamespace rows) where
  pub namespace_stays : (what : Op) → first_refusal facts caller what rows users ≡ None → IsNamespace (rows_after facts what caller rows)
  namespace_stays (op.Mkdirs path mode) h = made_namespace rows namespace path mode caller (row_at path rows) (made_above facts caller path rows users (file_at (row_at path rows) ∷ []) h)
  namespace_stays (op.Delete path recursive) h = without_namespace path rows (deleted_below_root facts caller path rows users recursive h) namespace
  namespace_stays (op.Rename from to) h =
      let free = renamed_to_free facts caller from to rows users h in
      moved_namespace from to rows free.beside (parent_there to rows free.parent) namespace
  namespace_stays (op.SetMode path mode) h = mode_namespace rows namespace path mode (row_at path rows) refl
  namespace_stays (op.SetOwner path owner group) h = owner_namespace rows namespace path owner group (row_at path rows)
  namespace_stays (op.SetAcl path form) h = list_namespace rows namespace path form (row_at path rows) refl
  namespace_stays (op.Create path mode replication over) h =
      new_namespace rows namespace path mode (Some (new_file replication caller)) caller
      (made_above facts caller path rows users (directory_there (row_at path rows) ∷ file_there over (row_at path rows) ∷ []) h)
  namespace_stays (op.Append path) h =
      let state = state_after_append facts.blocks facts.now caller (holder_at (row_at path rows)) (unfinished_at (row_at path rows)) in
      rewritten_namespace path (change.State state) rows namespace (always (change.State state) (λ row. refl) (row_at path rows))
  namespace_stays (op.AddBlock path last) h =
      let block = facts.blocks.known.next_block in
      committed_namespace path last (block_added path block rows) (added_namespace path block rows namespace)
  namespace_stays (op.Complete path last) h =
      committed_namespace path last (row_rewritten path (change.State Closed) rows)
      (rewritten_namespace path (change.State Closed) rows namespace (always (change.State Closed) (λ row. refl) (row_at path rows)))
  namespace_stays (op.SetReplication path replication) h = rewritten_namespace path (change.Replication replication) rows namespace (always (change.Replication replication) (λ row. refl) (row_at path rows))
  namespace_stays op.Tick h = ticked_namespace facts (begun_in facts rows) rows namespace
  namespace_stays (op.CommitRecovery own) h = edited_namespace (recovered_at own.block own.length) (λ row. true) rows namespace
  namespace_stays _ h = namespace

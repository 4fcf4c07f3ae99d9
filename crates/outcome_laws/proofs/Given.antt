-- What a row is given at a path stands there.
use Rattle.std.proofs.Common.{◌≡◌, ℕ, Bool, true, false, List, Option, Some, None, Result, Ok, Err, option_map, refl, sym, ap, ◌∙◌, cond}
use Rattle.std.specs.Result.{result_err}
use Rattle.std.specs.Prelude.{IsTrue, unwrap_or}
use Rattle.permission_bits.specs.Mode.{is_mode, without_sticky}
use Rattle.file_paths.specs.PathOrder.{same_path}
use Rattle.file_states.specs.declared.kind.ObjectKind.{ObjectKind}
use Rattle.file_states.specs.declared.kind.ObjectKind.TheVariants.{File, Directory}
use Rattle.acl_entries.specs.Acl.{Acl, shown_mode}
use Rattle.permission_specs.specs.declared.acl_change.AclChange.{AclChange}
use Rattle.refusals.specs.declared.refusal.Refusal.{Refusal}
use Rattle.partial_acl.specs.AclChange.{acl_change, with_mode}
use Rattle.namespace_rows.specs.declared.file_row.FileRow.{FileRow}
use Rattle.namespace_rows.specs.declared.row.Row.{Row}
use Rattle.namespace_rows.specs.declared.row.Change.{Change}
use Rattle.namespace_rows.specs.declared.row.Change.TheVariants as change
use Rattle.namespace_rows.specs.Files.{with_file_replication}
use Rattle.namespace_rows.specs.Rows.{is_directory, is_directory_kind, row_at}
use Rattle.namespace_rows.specs.Changes.{row_rewritten, with_change}
use Rattle.flat_rows.specs.Outcome.{refused_change, with_acl_at, with_list_at, with_mode_at, with_owner_at}
use Rattle.flat_rows.proofs.Firsts.{first_found}
use Rattle.permission_laws.proofs.RowsAt.{at_map}
use Rattle.outcome_laws.proofs.Modes.{changed_directory, changed_file}

module _ (path : List (List ℕ)) (rows : List Row) where
  pub rewritten_at : (given : Change) → ((row : Row) → (with_change given row).path ≡ row.path) → (row : Row) → row_at path rows ≡ Some row → row_at path (row_rewritten path given rows) ≡ Some (with_change given row)
  rewritten_at given paths row at =
      at_map path (λ r. cond (same_path path r.path) (with_change given r) r) keeps rows ∙ ap (option_map (λ r. cond (same_path path r.path) (with_change given r) r)) at
      ∙ ap (λ b. Some (cond b (with_change given row) row)) (first_found (λ r. same_path path r.path) rows row at)
    where
      keeps : (r : Row) → (cond (same_path path r.path) (with_change given r) r).path ≡ r.path
      keeps r = by (same_path path r.path)
        where
          by : (b : Bool) → (cond b (with_change given r) r).path ≡ r.path
          by true = paths r
          by false = refl

  pub none_rewritten : (given : Change) → ((row : Row) → (with_change given row).path ≡ row.path) → row_at path rows ≡ None → row_at path (row_rewritten path given rows) ≡ None
  none_rewritten given paths at =
      at_map path (λ r. cond (same_path path r.path) (with_change given r) r) keeps rows ∙ ap (option_map (λ r. cond (same_path path r.path) (with_change given r) r)) at
    where
      keeps : (r : Row) → (cond (same_path path r.path) (with_change given r) r).path ≡ r.path
      keeps r = by (same_path path r.path)
        where
          by : (b : Bool) → (cond b (with_change given r) r).path ≡ r.path
          by true = paths r
          by false = refl

  pub owner_given : (owner group : Option (List ℕ)) (row later : Row) → row_at path rows ≡ Some row → row_at path (with_owner_at path owner group (row_at path rows) rows) ≡ Some later
      → (later.owner ≡ unwrap_or owner row.owner) × (later.group ≡ unwrap_or group row.group)
  owner_given owner group row later at after =
      let given : Change = change.Owner (unwrap_or owner row.owner) (unwrap_or group row.group) in
      let is : Some later ≡ Some (with_change given row) = sym after ∙ ap (λ o. row_at path (with_owner_at path owner group o rows)) at ∙ rewritten_at given (λ r. refl) row at in
      by later is
    where
      by : (r : Row) → Some r ≡ Some (with_change (change.Owner (unwrap_or owner row.owner) (unwrap_or group row.group)) row) → (r.owner ≡ unwrap_or owner row.owner) × (r.group ≡ unwrap_or group row.group)
      by r is = (ap (λ (x : Row). x.owner) (one is), ap (λ (x : Row). x.group) (one is))
        where
          one : {x y : Row} → Some x ≡ Some y → x ≡ y
          one e = cc

  pub list_given : (asked : AclChange) (row later : Row) → row_at path rows ≡ Some row → refused_change asked (row_at path rows) ≡ None → row_at path (with_acl_at path asked (row_at path rows) rows) ≡ Some later
      → acl_change asked row.kind row.acl ≡ Ok later.acl
  list_given asked row later at unrefused after = by (acl_change asked row.kind row.acl) refl (ap (refused_change asked) (sym at) ∙ unrefused)
    where
      one : {x y : Row} → Some x ≡ Some y → x ≡ y
      one e = cc

      by : (due : Result Acl Refusal) → acl_change asked row.kind row.acl ≡ due → result_err due ≡ None → acl_change asked row.kind row.acl ≡ Ok later.acl
      by (Ok acl) is none =
          let stands : later ≡ with_change (change.List acl) row =
          one (sym after ∙ ap (λ o. row_at path (with_acl_at path asked o rows)) at ∙ ap (λ due. row_at path (with_list_at path due rows)) is ∙ rewritten_at (change.List acl) (λ r. refl) row at) in
          is ∙ ap (λ (r : Row). Ok r.acl) (sym stands)
      by (Err refusal) is none = cc

  pub replication_given : (replication : ℕ) (later : Row) (file : FileRow) → row_at path (row_rewritten path (change.Replication replication) rows) ≡ Some later → later.file ≡ Some file → file.replication ≡ replication
  replication_given replication later file after is = by (row_at path rows) refl
    where
      given : Change
      given = change.Replication replication

      one : {x y : Row} → Some x ≡ Some y → x ≡ y
      one e = cc

      by_file : (own : Option FileRow) → option_map (with_file_replication replication) own ≡ Some file → file.replication ≡ replication
      by_file None k = cc
      by_file (Some own) k = ap (λ (x : FileRow). x.replication) (sym (same k))
        where
          same : {x y : FileRow} → Some x ≡ Some y → x ≡ y
          same e = cc

      by : (o : Option Row) → row_at path rows ≡ o → file.replication ≡ replication
      by None e = absurd (no (sym (none_rewritten given (λ r. refl) e) ∙ after))
        where
          no : None ≡ Some later → ⊥
          no h = cc
      by (Some row) e = by_file row.file (ap (λ (x : Row). x.file) (one (sym (rewritten_at given (λ r. refl) row e) ∙ after)) ∙ is)

  pub mode_given : (mode : ℕ) (later : Row) → IsTrue (is_mode mode) → row_at path (with_mode_at path mode (row_at path rows) rows) ≡ Some later
      → shown_mode later.acl ≡ cond (is_directory later) mode (without_sticky mode)
  mode_given mode later valid after = by (row_at path rows) refl
    where
      one : {x y : Row} → Some x ≡ Some y → x ≡ y
      one e = cc

      by_kind : (kind : ObjectKind) (acl : Acl) → shown_mode (with_mode mode kind acl) ≡ cond (is_directory_kind kind) mode (without_sticky mode)
      by_kind Directory acl = changed_directory mode acl valid
      by_kind File acl = changed_file mode acl valid

      by : (o : Option Row) → row_at path rows ≡ o → shown_mode later.acl ≡ cond (is_directory later) mode (without_sticky mode)
      by None e = absurd (no (sym (ap (λ o. row_at path (with_mode_at path mode o rows)) e ∙ e) ∙ after))
        where
          no : None ≡ Some later → ⊥
          no h = cc
      by (Some row) e =
          let is : later ≡ with_change (change.List (with_mode mode row.kind row.acl)) row =
          one (sym after ∙ ap (λ o. row_at path (with_mode_at path mode o rows)) e ∙ rewritten_at (change.List (with_mode mode row.kind row.acl)) (λ r. refl) row e) in
          ap (λ (r : Row). shown_mode r.acl) is ∙ by_kind row.kind row.acl ∙ ap (λ (r : Row). cond (is_directory r) mode (without_sticky mode)) (sym is)

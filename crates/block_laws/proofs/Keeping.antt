-- Operations that leave files as they are, or take some away: each sum over files.
use Rattle.std.proofs.Common.{◌≡◌, ℕ, ◌+◌, List, [], Option, Some, None, Result, Ok, Err, refl, sym, ap, ◌∙◌, arith}
use Rattle.std.specs.Prelude.{unwrap_or}
use Rattle.permission_specs.specs.declared.acl_change.AclChange.{AclChange}
use Rattle.refusals.specs.declared.refusal.Refusal.{Refusal}
use Rattle.refusals.specs.declared.refusal.Refusal.TheVariants.{IsDirectory}
use Rattle.acl_entries.specs.Acl.{Acl}
use Rattle.partial_acl.specs.AclChange.{acl_change, with_mode}
use Rattle.namespace_rows.specs.declared.row.Row.{Row}
use Rattle.namespace_rows.specs.declared.row.Change.TheVariants as change
use Rattle.namespace_rows.specs.Files.{new_file}
use Rattle.namespace_rows.specs.Namespace.{IsNamespace}
use Rattle.namespace_rows.specs.Rows.{is_none, row_at, ancestor}
use Rattle.namespace_rows.specs.Changes.{rows_under, without}
use Rattle.flat_rows.specs.FileOutcome.{directory_there}
use Rattle.flat_rows.specs.Outcome.{with_new, made_at, with_mode_at, with_owner_at, with_acl_at, with_list_at}
use Rattle.history.proofs.Apart.{missing_apart, none_under, no_ancestor}
use Rattle.block_laws.proofs.Sums.{Count, sum_files, sum_rewritten, sum_new, sum_without}

-- each sum over files is as before
abbrev pub AreKept : List Row → List Row → Type 0
AreKept rows left = (c : Count) → c None ≡ 0 → sum_files c left ≡ sum_files c rows

module _ (rows : List Row) where
  pub mode_keeps : (path : List (List ℕ)) (mode : ℕ) (at : Option Row) → AreKept rows (with_mode_at path mode at rows)
  mode_keeps path mode None c none = refl
  mode_keeps path mode (Some row) c none = sum_rewritten c path (change.List (with_mode mode row.kind row.acl)) (λ r. refl) rows

  pub owner_keeps : (path : List (List ℕ)) (owner group : Option (List ℕ)) (at : Option Row) → AreKept rows (with_owner_at path owner group at rows)
  owner_keeps path owner group None c none = refl
  owner_keeps path owner group (Some row) c none = sum_rewritten c path (change.Owner (unwrap_or owner row.owner) (unwrap_or group row.group)) (λ r. refl) rows

  pub list_keeps : (path : List (List ℕ)) (form : AclChange) (at : Option Row) → AreKept rows (with_acl_at path form at rows)
  list_keeps path form None c none = refl
  list_keeps path form (Some row) c none = by (acl_change form row.kind row.acl)
    where
      by : (made : Result Acl Refusal) → sum_files c (with_list_at path made rows) ≡ sum_files c rows
      by (Ok acl) = sum_rewritten c path (change.List acl) (λ r. refl) rows
      by (Err refusal) = refl

  module _ (namespace : IsNamespace rows) where
    -- a directory is made where nothing is
    pub made_keeps : (path : List (List ℕ)) (mode : ℕ) (owner : List ℕ) (at : Option Row) → row_at path rows ≡ at → AreKept rows (made_at path mode owner at rows)
    made_keeps path mode owner (Some row) e c none = refl
    made_keeps path mode owner None e c none = by (ancestor path rows) refl
      where
        sum : (a b c d : ℕ) → a + b ≡ d + c → d ≡ 0 → b ≡ 0 → a ≡ c
        sum a b c d h i k = omega (arith, h, i, k)

        free : rows_under path rows ≡ []
        free = none_under path rows (missing_apart rows path namespace (ap is_none e))

        by : (above : Option Row) → ancestor path rows ≡ above → sum_files c (with_new path mode None owner above rows) ≡ sum_files c rows
        by None k = refl
        by (Some above) k =
            sum (sum_files c (with_new path mode None owner (Some above) rows)) (sum_files c (rows_under path rows)) (sum_files c rows) (c None)
            (sum_new c none path mode None owner rows above namespace k) none (ap (sum_files c) free)

    -- a new file takes the place of what is there
    pub created_sum : (path : List (List ℕ)) (mode replication : ℕ) (caller : List ℕ) → directory_there (row_at path rows) ≡ None → (c : Count) → c None ≡ 0 → c (Some (new_file replication caller)) ≡ 0
        → sum_files c (with_new path mode (Some (new_file replication caller)) caller (ancestor path rows) rows) + sum_files c (rows_under path rows) ≡ sum_files c rows
    created_sum path mode replication caller plain c none new = by (ancestor path rows) refl
      where
        nothing : (m n : ℕ) → m ≡ 0 → m + n ≡ n
        nothing m n h = omega (arith, h)

        apart : Some IsDirectory ≡ None → ⊥
        apart e = cc

        by : (above : Option Row) → ancestor path rows ≡ above → sum_files c (with_new path mode (Some (new_file replication caller)) caller above rows) + sum_files c (rows_under path rows) ≡ sum_files c rows
        by None k = absurd (apart (sym (no_ancestor path rows namespace k) ∙ plain))
        by (Some above) k =
            sum_new c none path mode (Some (new_file replication caller)) caller rows above namespace k ∙ nothing (c (Some (new_file replication caller))) (sum_files c rows) new

pub without_sum : (path : List (List ℕ)) (rows : List Row) (c : Count) → sum_files c (without path rows) + sum_files c (rows_under path rows) ≡ sum_files c rows
without_sum path rows c = turned (sum_files c (rows_under path rows)) (sum_files c (without path rows)) (sum_files c rows) (sum_without c path rows)
  where
    turned : (a b c : ℕ) → a + b ≡ c → b + a ≡ c
    turned a b c h = omega (arith, h)

-- An operation that keeps leases leaves each client's files open as they were.
use Rattle.std.proofs.Common.{◌≡◌, ℕ, ◌+◌, true, false, List, [], ◌∷◌, Option, Some, None, refl, sym, ap, ◌∙◌, arith}
use Rattle.std.specs.Prelude.{◌||◌, not, Result, Ok, Err, unwrap_or}
use Rattle.std.specs.Option.{option_or}
use Rattle.hdfs_types.specs.Request.{keeps_leases}
use Rattle.hdfs_types.specs.declared.op.Op.{Op}
use Rattle.hdfs_types.specs.declared.op.Op.TheVariants as op
use Rattle.permission_specs.specs.declared.acl_change.AclChange.{AclChange}
use Rattle.refusals.specs.declared.refusal.Refusal.{Refusal}
use Rattle.refusals.specs.declared.refusal.Refusal.TheVariants.{BadPath, NotFound, IsRoot, UnderItself}
use Rattle.file_paths.specs.Path.{is_prefix}
use Rattle.acl_entries.specs.Acl.{Acl}
use Rattle.partial_acl.specs.AclChange.{acl_change, with_mode}
use Rattle.principals.specs.Users.{Users}
use Rattle.namespace_rows.specs.declared.row.Row.{Row}
use Rattle.namespace_rows.specs.declared.row.Change.TheVariants as change
use Rattle.namespace_rows.specs.Rows.{row_at, is_none, directory_of, ancestor}
use Rattle.namespace_rows.specs.Namespace.{IsNamespace, is_root}
use Rattle.namespace_rows.specs.Changes.{row_rewritten, are_paths}
use Rattle.flat_rows.specs.Denial as denied
use Rattle.flat_rows.specs.Decision.{decision}
use Rattle.namespace_rows.specs.Files.{is_open_by, with_file_replication}
use Rattle.flat_rows.specs.Facts.{Facts}
use Rattle.flat_rows.specs.Outcome.{step, denied_or_outcome, refused_or_done, first_refusal, first_some, something_at, nothing_at, beneath_file, refused_where, rows_moved, rows_after, made_at, with_new, with_mode_at, with_owner_at, with_acl_at, with_list_at}
use Rattle.flat_rows.proofs.Holders.{tally, tally_rewritten, tally_moved, kept_file}
use Rattle.flat_rows.proofs.Making.{tally_made}

none_first : (a b : Option Refusal) → option_or a b ≡ None → a ≡ None
none_first None b h = refl
none_first (Some x) b h = cc

none_then : (a b : Option Refusal) → option_or a b ≡ None → b ≡ None
none_then None b h = h
none_then (Some x) b h = cc

sixth : (a b c d e f : Option Refusal) (rest : List (Option Refusal)) → first_some (a ∷ b ∷ c ∷ d ∷ e ∷ f ∷ rest) ≡ None → f ≡ None
sixth a b c d e f rest h =
    let h1 = none_then a (first_some (b ∷ c ∷ d ∷ e ∷ f ∷ rest)) h in
    let h2 = none_then b (first_some (c ∷ d ∷ e ∷ f ∷ rest)) h1 in
    let h3 = none_then c (first_some (d ∷ e ∷ f ∷ rest)) h2 in
    let h4 = none_then d (first_some (e ∷ f ∷ rest)) h3 in
    let h5 = none_then e (first_some (f ∷ rest)) h4 in
    none_first f (first_some rest) h5

nothing : (at : Option Row) → something_at at ≡ None → is_none at ≡ true
nothing None h = refl
nothing (Some row) h = cc

module _ (client : List ℕ) (rows : List Row) (namespace : IsNamespace rows) where
  abbrev count : List Row → ℕ
  count all = tally (is_open_by client) all

  kept_made : (path : List (List ℕ)) (mode : ℕ) (caller : List ℕ) (at : Option Row) → row_at path rows ≡ at → count (made_at path mode caller at rows) ≡ count rows
  kept_made path mode caller (Some row) e = refl
  kept_made path mode caller None e = by (ancestor path rows) refl
    where
      zeroed : (n : ℕ) → 0 + n ≡ n
      zeroed n = omega arith

      by : (above : Option Row) → ancestor path rows ≡ above → count (with_new path mode None caller above rows) ≡ count rows
      by None k = refl
      by (Some above) k = ap (λ a. count (with_new path mode None caller a rows)) (sym k) ∙ tally_made client caller mode None path rows above namespace (ap is_none e) k ∙ zeroed (count rows)

  kept_mode : (path : List (List ℕ)) (mode : ℕ) (at : Option Row) → count (with_mode_at path mode at rows) ≡ count rows
  kept_mode path mode None = refl
  kept_mode path mode (Some row) = tally_rewritten client path (change.List (with_mode mode row.kind row.acl)) (λ r. refl) rows

  kept_owner : (path : List (List ℕ)) (owner group : Option (List ℕ)) (at : Option Row) → count (with_owner_at path owner group at rows) ≡ count rows
  kept_owner path owner group None = refl
  kept_owner path owner group (Some row) = tally_rewritten client path (change.Owner (unwrap_or owner row.owner) (unwrap_or group row.group)) (λ r. refl) rows

  kept_acl : (path : List (List ℕ)) (form : AclChange) (at : Option Row) → count (with_acl_at path form at rows) ≡ count rows
  kept_acl path form None = refl
  kept_acl path form (Some row) = by (acl_change form row.kind row.acl)
    where
      by : (made : Result Acl Refusal) → count (with_list_at path made rows) ≡ count rows
      by (Ok acl) = tally_rewritten client path (change.List acl) (λ r. refl) rows
      by (Err refusal) = refl

  -- another replication leaves each client's files open as they were
  pub kept_replication : (path : List (List ℕ)) (replication : ℕ) → count (row_rewritten path (change.Replication replication) rows) ≡ count rows
  kept_replication path replication = tally_rewritten client path (change.Replication replication) (λ row. kept_file client (with_file_replication replication) (λ file. refl) row.file) rows

  module _ (facts : Facts) (users : Users) (caller : List ℕ) where
    kept_done : (what : Op) → keeps_leases what ≡ true → first_refusal facts caller what rows users ≡ None → count (rows_after facts what caller rows) ≡ count rows
    kept_done (op.Mkdirs path mode) k e = kept_made path mode caller (row_at path rows) refl
    kept_done (op.Rename from to) k e =
        let free =
        sixth (refused_where (is_root from || is_root to) IsRoot) (beneath_file from rows) (nothing_at (row_at from rows)) (beneath_file to rows) (refused_where (is_prefix from to) UnderItself) (something_at (row_at to rows))
        (refused_where (is_none (directory_of to rows)) NotFound ∷ refused_where (not (are_paths (rows_moved from to rows))) BadPath ∷ []) e in
        tally_moved client from to rows namespace (nothing (row_at to rows) free)
    kept_done (op.SetMode path mode) k e = kept_mode path mode (row_at path rows)
    kept_done (op.SetOwner path owner group) k e = kept_owner path owner group (row_at path rows)
    kept_done (op.SetAcl path form) k e = kept_acl path form (row_at path rows)
    kept_done (op.Stat path) k e = refl
    kept_done (op.List path) k e = refl
    kept_done (op.Summary path) k e = refl
    kept_done (op.GetAcl path) k e = refl
    kept_done (op.AddUser user groups) k e = refl
    kept_done (op.SetGroups user groups) k e = refl
    kept_done (op.SetChecking on) k e = refl
    kept_done (op.Open path) k e = cc
    kept_done (op.SetReplication path replication) k e = cc
    kept_done (op.Create path mode replication over) k e = cc
    kept_done (op.Append path) k e = cc
    kept_done (op.AddBlock path last) k e = cc
    kept_done (op.Complete path last) k e = cc
    kept_done (op.Delete path recursive) k e = cc
    kept_done (op.RollKey key) k e = cc
    kept_done op.Renew k e = cc
    kept_done op.Tick k e = cc
    kept_done op.Heartbeat k e = cc
    kept_done (op.Reported replica) k e = cc
    kept_done (op.CommitRecovery recovered) k e = cc

    pub kept_open : (what : Op) → keeps_leases what ≡ true → count (step facts rows users caller what).rows ≡ count rows
    kept_open what k = by_decision (decision rows users caller what)
      where
        by_refusal : (refusal : Option Refusal) → first_refusal facts caller what rows users ≡ refusal → count (refused_or_done facts rows users caller what refusal).rows ≡ count rows
        by_refusal None e = kept_done what k e
        by_refusal (Some refusal) e = refl

        by_decision : (denial : Option denied.Denial) → count (denied_or_outcome facts rows users caller what denial).rows ≡ count rows
        by_decision None = by_refusal (first_refusal facts caller what rows users) refl
        by_decision (Some denial) = refl

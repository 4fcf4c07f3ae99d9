-- What an operation leaves, from what its calls leave.
use Rattle.std.proofs.Common.{◌≡◌, ℕ, Bool, List, Option, Some, None, ap, ◌∙◌, subst, Result, Ok, Err, OnOk}
use Rattle.hdfs_types.specs.declared.op.Op.TheVariants as op
use Rattle.block_records.specs.declared.last_block.LastBlock.{LastBlock}
use Rattle.file_states.specs.declared.state.FileState.{FileState}
use Rattle.hdfs_values.specs.Text.{same}
use Rattle.lease_manager.specs.Leases.{Leases, renewals_with}
use Rattle.principals.specs.Users.{Users}
use Rattle.namespace_rows.specs.declared.row.Row.{Row}
use Rattle.namespace_rows.specs.declared.row.Change.TheVariants as change
use Rattle.namespace_rows.specs.Rows.{row_at, ancestor}
use Rattle.namespace_rows.specs.Namespace.{IsNamespace}
use Rattle.namespace_rows.specs.Files.{new_file, holder_of, holders}
use Rattle.flat_rows.specs.FileOutcome.{holder_at}
use Rattle.flat_rows.specs.BlockOutcome.{ended_at}
use Rattle.flat_rows.specs.Outcome.{with_new}
use Rattle.namespace_rows.specs.Changes.{rows_under, row_rewritten, without}
use Rattle.lease_manager.specs.declared.writers.Writers.{Writers}
use Rattle.lease_manager.specs.Writers.{count_of, IsLeased, renewed_at}
use Rattle.file_effects.specs.Effected.{IsCreated, IsExact, IsFree, IsEffected}
use Rattle.lease_manager.proofs.Leasing.{leased_open, more_after}
use Rattle.file_effects.proofs.Effects.{OneMore, OneLess, EachLess, free_create, counted_create, counted_close, counted_delete}

abbrev pub KeepsLeased : Writers → Writers → Type 0
KeepsLeased before after = (last : List ℕ → Option ℕ) → IsLeased last before → IsLeased last after

abbrev pub KeepsExact : List Row → Writers → List Row → Writers → Type 0
KeepsExact rows before left after = (last : List ℕ → Option ℕ) → IsExact last rows before → IsExact last left after

less_of : (clients others : List (List ℕ)) (before after : Writers) → clients ≡ others → EachLess clients before after → EachLess others before after
less_of clients others before after is less = subst (λ some. EachLess some before after) is less

-- room for one more file of a client is no file
pub created_with_room : (path : List (List ℕ)) (mode replication : ℕ) (caller : List ℕ) (now : ℕ) (rows left : List Row) (before between after : Writers) → between.leases ≡ before.leases
    → ((other : List ℕ) → count_of between.files other ≡ count_of before.files other) → IsCreated path mode replication caller now rows between left after → IsCreated path mode replication caller now rows before left after
created_with_room path mode replication caller now rows left before between after leases counts created =
    record {
      tree = created.tree;
      files = λ other. more_after _ _ _ _ _ (same caller other) (created.files other) (counts caller) (counts other);
      renewals = created.renewals ∙ ap (λ (l : Leases). renewals_with caller now l.renewals) leases;
      latest = created.latest;
    }

pub effected_create : (path : List (List ℕ)) (mode replication : ℕ) (over : Bool) (caller : List ℕ) (now : ℕ) (rows left : List Row) (clients : List (List ℕ)) (before between after : Writers) (users : Users)
    → IsNamespace rows → IsFree (op.Create path mode replication over) caller rows users → left ≡ with_new path mode (Some (new_file replication caller)) caller (ancestor path rows) rows
    → between.leases.renewals ≡ renewals_with caller now before.leases.renewals → OneMore caller before between → clients ≡ holders (rows_under path rows) → EachLess clients between after → KeepsLeased between after
    → IsEffected (op.Create path mode replication over) caller now rows before left after
effected_create path mode replication over caller now rows left clients before between after users namespace free made renewals more is less kept =
    record {
      tree = λ leases. made;
      exact = λ leases last exact. record {
        files = counted_create path mode replication caller rows left before between after namespace (free_create path mode replication over caller rows users free).1 made exact.files more (less_of clients (holders (rows_under path rows)) between after is less);
        leased = kept (renewed_at caller now last) (leased_open before between caller now last renewals more exact.leased);
      };
    }

pub effected_complete : (path : List (List ℕ)) (stated : Option LastBlock) (caller : List ℕ) (now : ℕ) (rows left : List Row) (before after : Writers)
    → left ≡ ended_at path stated rows → KeepsExact rows before left after → IsEffected (op.Complete path stated) caller now rows before left after
effected_complete path stated caller now rows left before after made kept = record { tree = λ leases. made; exact = λ leases last exact. kept last exact }

-- the same of a call that may fail
pub effected_completion : {T E : Type 0} (result : Result T E) (path : List (List ℕ)) (stated : Option LastBlock) (caller : List ℕ) (now : ℕ) (rows left : List Row) (before after : Writers)
    → OnOk result (left ≡ ended_at path stated rows) → OnOk result (KeepsExact rows before left after) → OnOk result (IsEffected (op.Complete path stated) caller now rows before left after)
effected_completion (Ok value) path stated caller now rows left before after made kept = effected_complete path stated caller now rows left before after made kept
effected_completion (Err error) path stated caller now rows left before after made kept = tt

pub effected_delete : (path : List (List ℕ)) (recursive : Bool) (caller : List ℕ) (now : ℕ) (rows left : List Row) (clients : List (List ℕ)) (before after : Writers)
    → left ≡ without path rows → clients ≡ holders (rows_under path rows) → EachLess clients before after → KeepsLeased before after → IsEffected (op.Delete path recursive) caller now rows before left after
effected_delete path recursive caller now rows left clients before after made is less kept =
    record {
      tree = λ leases. made;
      exact = λ leases last exact. record { files = counted_delete path rows left before after made exact.files (less_of clients (holders (rows_under path rows)) before after is less); leased = kept last exact.leased };
    }

pub exact_close : (path : List (List ℕ)) (state : FileState) (holder : List ℕ) (rows left : List Row) (before after : Writers) → IsNamespace rows → holder_at (row_at path rows) ≡ Some holder → holder_of state ≡ None
    → left ≡ row_rewritten path (change.State state) rows
    → OneLess holder before after → KeepsLeased before after → KeepsExact rows before left after
exact_close path state holder rows left before after namespace held unheld made less kept last exact =
    record { files = counted_close path state holder rows left before after namespace held unheld made exact.files less; leased = kept last exact.leased }

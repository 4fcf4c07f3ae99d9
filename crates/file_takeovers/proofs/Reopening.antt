-- A closed file that a client opens: his open files and his lease are known behind it.
use Rattle.std.proofs.Common.{◌≡◌, ℕ, true, List, Option, ap, ◌∙◌}
use Rattle.file_states.specs.declared.state.FileState.TheVariants.{Open}
use Rattle.namespace_rows.specs.declared.row.Row.{Row}
use Rattle.namespace_rows.specs.declared.row.Change.TheVariants as change
use Rattle.namespace_rows.specs.Namespace.{IsNamespace}
use Rattle.namespace_rows.specs.Files.{holder_of, holder_of_file}
use Rattle.flat_rows.specs.FileOutcome.{holder_at}
use Rattle.namespace_rows.specs.Changes.{row_rewritten}
use Rattle.lease_manager.specs.declared.writers.Writers.{Writers}
use Rattle.lease_manager.specs.Writers.{IsLeased, renewed_at}
use Rattle.file_effects.specs.Effected.{IsExact, renewed_where}
use Rattle.file_effects.proofs.Effects.{OneMore, counted_reopen}
use Rattle.file_takeovers.specs.Taken.{IsClosedFile}

pub exact_reopen : (path : List (List ℕ)) (client caller : List ℕ) (now : ℕ) (rows left : List Row) (before after : Writers) → IsNamespace rows → IsClosedFile path rows
    → client ≡ caller → left ≡ row_rewritten path (change.State (Open client)) rows → OneMore caller before after
    → ((last : List ℕ → Option ℕ) → IsLeased last before → IsLeased (renewed_at caller now last) after) → (last : List ℕ → Option ℕ) → IsExact last rows before → IsExact (renewed_where true caller now last) left after
exact_reopen path client caller now rows left before after namespace found is made more renews last exact =
    record {
      files = counted_reopen path caller rows left before after namespace (record { row = found.row; file = found.file; at = found.at; has = found.has })
          (ap holder_at found.at ∙ (ap holder_of_file found.has ∙ ap holder_of found.closed)) (made ∙ ap (λ who. row_rewritten path (change.State (Open who)) rows) is) exact.files more;
      leased = renews last exact.leased;
    }

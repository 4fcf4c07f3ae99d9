-- One client at a time has a file open, and keeps it while its lease is live.
use Rattle.std.proofs.Common.{◌≡◌, ℕ, Bool, true, false, ◌&&◌, ◌||◌, List, [], ◌∷◌, Option, Some, None, refl, sym, ap, ◌∙◌, cond}
use Rattle.std.specs.Option.{option_map}
use Rattle.std.specs.Ordering.{is_lt, is_eq}
use Rattle.hdfs_values.specs.Text.{same}
use Rattle.hdfs_values.proofs.Texts.{same_is}
use Rattle.file_paths.specs.PathOrder.{path_cmp, same_path}
use Rattle.hdfs_types.specs.declared.op.Op.{Op}
use Rattle.hdfs_types.specs.declared.op.Op.TheVariants as op
use Rattle.file_states.specs.declared.state.FileState.{FileState}
use Rattle.file_states.specs.declared.state.FileState.TheVariants.{Closed, Open, Recovering}
use Rattle.refusals.specs.declared.refusal.Refusal.{Refusal}
use Rattle.refusals.specs.declared.refusal.Refusal.TheVariants.{LeaseHeld, NotDirectory, IsDirectory}
use Rattle.principals.specs.Users.{Users}
use Rattle.namespace_rows.specs.declared.file_row.FileRow.{FileRow}
use Rattle.namespace_rows.specs.declared.row.Row.{Row}
use Rattle.flat_rows.specs.declared.verdict.Verdict.{Verdict}
use Rattle.flat_rows.specs.declared.verdict.Verdict.TheVariants.{Refused}
use Rattle.flat_rows.specs.Denial as denied
use Rattle.flat_rows.specs.Decision.{decision}
use Rattle.namespace_rows.specs.Rows.{row_at, file_above, is_directory}
use Rattle.namespace_rows.specs.Namespace.{is_ascending, is_before_all}
use Rattle.file_blocks.specs.Blocks.{unfinished_block}
use Rattle.namespace_rows.specs.Files.{holder_of, holder_of_file, is_open_by, is_client}
use Rattle.flat_rows.specs.FileOutcome.{directory_there, if_some_file, of_file, holder_at}
use Rattle.flat_rows.specs.Takeover.{refused_taking, refused_state, refused_append}
use Rattle.flat_rows.specs.Facts.{Facts}
use Rattle.flat_rows.specs.Outcome.{beneath_file, nothing_at, first_some, denied_or_outcome, refused_or_done, step}
use Rattle.namespace_rows.proofs.Tests.{both}
use Rattle.namespace_rows.proofs.PathOrders.{same_path_is, less_is}
use Rattle.flat_rows.specs.Verdicts.{is_done}
use Rattle.history.specs.Laws.{writes}

-- ---- one writer

-- behind the row of a path there is none other of it
behind : (path : List (List ℕ)) (client : List ℕ) (row : Row) (rows : List Row) → same_path path row.path ≡ true → is_before_all row rows ≡ true → writes path client rows ≡ false
behind path client row [] at low = refl
behind path client row (other ∷ rows) at low =
    let lows = both (is_lt (path_cmp row.path other.path)) (is_before_all row rows) low in
    let apart : same_path path other.path ≡ false = ap (λ p. same_path p other.path) (same_path_is path row.path at) ∙ ap is_eq (less_is _ lows.0) in
    ap (λ b. (b && is_open_by client other) || writes path client rows) apart ∙ behind path client row rows at lows.1

holder_is : (client other : List ℕ) (holder : Option (List ℕ)) → is_client client holder ≡ true → is_client other holder ≡ true → client ≡ other
holder_is client other None h k = cc
holder_is client other (Some holder) h k = same_is client holder h ∙ sym (same_is other holder k)

first_only : (a b : Bool) → b ≡ false → (a || b) ≡ true → a ≡ true
first_only true b none h = refl
first_only false b none h = absurd (differ (sym h ∙ none))
  where
    differ : true ≡ false → ⊥
    differ e = cc

pub one_writer : (rows : List Row) (path : List (List ℕ)) (client other : List ℕ) → is_ascending rows ≡ true → writes path client rows ≡ true → writes path other rows ≡ true → client ≡ other
one_writer [] path client other up h k = cc
one_writer (row ∷ rows) path client other up h k =
    let ups = both (is_before_all row rows) (is_ascending rows) up in
    by (same_path path row.path) refl (λ at who. behind path who row rows at ups.0) (λ h k. one_writer rows path client other ups.1 h k) h k
  where
    by : (b : Bool) → same_path path row.path ≡ b → (same_path path row.path ≡ true → (who : List ℕ) → writes path who rows ≡ false)
        → (writes path client rows ≡ true → writes path other rows ≡ true → client ≡ other)
        → ((b && is_open_by client row) || writes path client rows) ≡ true → ((b && is_open_by other row) || writes path other rows) ≡ true → client ≡ other
    by true at none rest h k = holder_is client other (holder_of_file row.file) (first_only (is_open_by client row) (writes path client rows) (none at client) h) (first_only (is_open_by other row) (writes path other rows) (none at other) k)
    by false at none rest h k = rest h k

-- ---- a writer whose lease is live

one_of : (a b : List ℕ) → Some a ≡ Some b → a ≡ b
one_of a b e = cc

held_by_state : (facts : Facts) (caller writer : List ℕ) (block : Option ℕ) (state : FileState) → holder_of state ≡ Some writer → facts.leases.is_live writer ≡ true
    → refused_state facts caller block state ≡ Some (LeaseHeld writer)
held_by_state facts caller writer block Closed h live = cc
held_by_state facts caller writer block (Recovering own stamp begun) h live = cc
held_by_state facts caller writer block (Open holder) h live =
    let is : holder ≡ writer = one_of holder writer h in
    by (same caller holder) (facts.leases.is_live holder) (ap facts.leases.is_live is ∙ live) ∙ ap (λ w. Some (LeaseHeld w)) is
  where
    by : (b c : Bool) → c ≡ true → cond (b || c) (Some (LeaseHeld holder)) (refused_taking facts.blocks facts.now block) ≡ Some (LeaseHeld holder)
    by true c e = refl
    by false c e = ap (λ d. cond d (Some (LeaseHeld holder)) (refused_taking facts.blocks facts.now block)) e

held_by_file : (facts : Facts) (caller writer : List ℕ) (file : Option FileRow) → holder_of_file file ≡ Some writer → facts.leases.is_live writer ≡ true
    → if_some_file (refused_append facts caller) file ≡ Some (LeaseHeld writer)
held_by_file facts caller writer None h live = cc
held_by_file facts caller writer (Some file) h live = held_by_state facts caller writer (unfinished_block file.blocks) file.state h live

held : (facts : Facts) (caller writer : List ℕ) (at : Option Row) → holder_at at ≡ Some writer → facts.leases.is_live writer ≡ true
    → of_file (refused_append facts caller) at ≡ Some (LeaseHeld writer)
held facts caller writer None h live = cc
held facts caller writer (Some row) h live = held_by_file facts caller writer row.file h live

module _ (facts : Facts) (rows : List Row) (users : Users) (caller : List ℕ) (path : List (List ℕ)) where
  abbrev append : Op
  append = op.Append path

  abbrev after : Option denied.Denial → Verdict
  after denial = (denied_or_outcome facts rows users caller append denial).verdict

  abbrev under : Option Refusal → Verdict
  under refusal = (refused_or_done facts rows users caller append refusal).verdict

  last_applies : (a b c d : Option Refusal) (refusal : Refusal) → d ≡ Some refusal → is_done (under (first_some (a ∷ b ∷ c ∷ d ∷ []))) ≡ false
  last_applies (Some a) b c d refusal is = refl
  last_applies None (Some b) c d refusal is = refl
  last_applies None None (Some c) d refusal is = refl
  last_applies None None None None refusal is = cc
  last_applies None None None (Some d) refusal is = refl

  pub turned_away : (writer : List ℕ) → holder_at (row_at path rows) ≡ Some writer → facts.leases.is_live writer ≡ true → is_done (step facts rows users caller append).verdict ≡ false
  turned_away writer at live = by (decision rows users caller append)
    where
      by : (denial : Option denied.Denial) → is_done (after denial) ≡ false
      by (Some denial) = refl
      by None = last_applies (beneath_file path rows) (nothing_at (row_at path rows)) (directory_there (row_at path rows)) (of_file (refused_append facts caller) (row_at path rows)) (LeaseHeld writer) (held facts caller writer (row_at path rows) at live)

  pub named : (row : Row) (writer : List ℕ) → row_at path rows ≡ Some row → is_directory row ≡ false → holder_at (Some row) ≡ Some writer → file_above path rows ≡ None
      → decision rows users caller append ≡ None → facts.leases.is_live writer ≡ true → (step facts rows users caller append).verdict ≡ Refused (LeaseHeld writer)
  named row writer at file holds clear granted live =
      ap after granted
      ∙ ap (λ o. under (first_some (beneath_file path rows ∷ nothing_at o ∷ directory_there o ∷ of_file (refused_append facts caller) o ∷ []))) at
      ∙ ap (λ a. under (first_some (option_map (λ file. NotDirectory file.path) a ∷ None ∷ directory_there (Some row) ∷ of_file (refused_append facts caller) (Some row) ∷ []))) clear
      ∙ ap (λ b. under (first_some (None ∷ None ∷ cond b (Some IsDirectory) None ∷ of_file (refused_append facts caller) (Some row) ∷ []))) file
      ∙ ap (λ o. under (first_some (None ∷ None ∷ None ∷ o ∷ []))) (held facts caller writer (Some row) holds live)

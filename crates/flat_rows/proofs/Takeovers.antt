-- A namespace whose files a tick takes is a namespace.
use Rattle.std.proofs.Common.{◌≡◌, ℕ, true, List, [], ◌∷◌, map, Option, Some, None, refl, ap}
use Rattle.std.specs.List.{list_all}
use Rattle.file_states.specs.declared.state.FileState.TheVariants.{Closed, Recovering}
use Rattle.recovery_queue.specs.declared.begun.BegunRecovery.{BegunRecovery}
use Rattle.namespace_rows.specs.declared.row.Row.{Row}
use Rattle.namespace_rows.specs.declared.row.Change.TheVariants as change
use Rattle.namespace_rows.specs.Rows.{is_directory}
use Rattle.namespace_rows.specs.Namespace.{IsNamespace, suits_kind}
use Rattle.namespace_rows.proofs.Tests.{both, and}
use Rattle.namespace_rows.proofs.Namespaces.{namespace_tests}
use Rattle.flat_rows.specs.Facts.{Facts}
use Rattle.flat_rows.specs.Takeover.{stamp_in, recovering_from, with_begun, taken_row, sought_in, row_ticked}
use Rattle.flat_rows.specs.declared.takeover.Sought.{Sought}
use Rattle.flat_rows.proofs.Changes.{changed_suits, map_namespace}

module _ (begun : List BegunRecovery) (now : ℕ) where
  -- nothing but the file of a row changes
  recovering_edits : (block : ℕ) (stamp : Option ℕ) (row : Row) → recovering_from now block stamp row ≡ record row { file = (recovering_from now block stamp row).file }
  recovering_edits block None row = refl
  recovering_edits block (Some stamp) row = refl

  begun_edits : (block : Option ℕ) (row : Row) → with_begun begun now block row ≡ record row { file = (with_begun begun now block row).file }
  begun_edits None row = refl
  begun_edits (Some block) row = recovering_edits block (stamp_in begun block) row

  pub taken_edits : (sought : Option Sought) (row : Row) → taken_row begun now sought row ≡ record row { file = (taken_row begun now sought row).file }
  taken_edits None row = refl
  taken_edits (Some file) row = begun_edits file.block row

  recovering_suits : (block : ℕ) (stamp : Option ℕ) (row : Row) → suits_kind row ≡ true → suits_kind (recovering_from now block stamp row) ≡ true
  recovering_suits block None row h = h
  recovering_suits block (Some stamp) row h = changed_suits (change.State (Recovering block stamp now)) row h refl

  begun_suits : (block : Option ℕ) (row : Row) → suits_kind row ≡ true → suits_kind (with_begun begun now block row) ≡ true
  begun_suits None row h = changed_suits (change.State Closed) row h refl
  begun_suits (Some block) row h = recovering_suits block (stamp_in begun block) row h

  taken_suits : (sought : Option Sought) (row : Row) → suits_kind row ≡ true → suits_kind (taken_row begun now sought row) ≡ true
  taken_suits None row h = h
  taken_suits (Some file) row h = begun_suits file.block row h

module _ (facts : Facts) (begun : List BegunRecovery) where
  all_suit : (rows : List Row) → list_all suits_kind rows ≡ true → list_all suits_kind (map (row_ticked facts begun) rows) ≡ true
  all_suit [] h = refl
  all_suit (row ∷ rows) h =
      let parts = both (suits_kind row) (list_all suits_kind rows) h in
      and _ _ (taken_suits begun facts.now (sought_in facts row) row parts.0) (all_suit rows parts.1)

  pub ticked_namespace : (rows : List Row) → IsNamespace rows → IsNamespace (map (row_ticked facts begun) rows)
  ticked_namespace rows namespace =
      map_namespace (row_ticked facts begun) (λ row. ap (λ (r : Row). r.path) (edits row)) (λ row. ap is_directory (edits row)) rows namespace
      (all_suit rows (namespace_tests rows namespace).suit)
    where
      edits : (row : Row) → row_ticked facts begun row ≡ record row { file = (row_ticked facts begun row).file }
      edits row = taken_edits begun facts.now (sought_in facts row) row

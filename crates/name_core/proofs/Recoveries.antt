-- What is known of recoveries where a history is kept.
use Rattle.std.proofs.Common.{◌≡◌, ◌≤◌, ℕ, true, List, Option, Some, None, arith, refl, sym, subst}
use Rattle.namespace_rows.specs.declared.row.Row.{Row}
use Rattle.namespace_rows.specs.Rows.{row_at}
use Rattle.namespace_rows.specs.Changes.{recovers_nowhere_else}
use Rattle.history.specs.State.{rows_of}
use Rattle.block_laws.proofs.Overdue.{one_file_recovers, overdue_are_due}
use Rattle.namesystem.specs.Performed.{KnowsRecoveries, recovers_at}
use Rattle.name_core.specs.declared.namenode.NameCore.TheInside.{Inside}
use Rattle.name_core.specs.Kept.{IsKept, entries_of, opening_of}

no_more : (n m : ℕ) → n ≡ m → n ≤ m
no_more n m h = omega (arith, h)

pub known : (a : Inside) (now : ℕ) → IsKept a → KnowsRecoveries now a.system.tree a.system.blocks
known a now k =
    let opening = opening_of a in
    let entries = entries_of a in
    subst (λ rows. KnowsRecoveries now rows a.system.blocks) (sym k.tree)
    (subst (KnowsRecoveries now (rows_of opening entries)) (sym k.blocks)
    (record { due = no_more _ _ (overdue_are_due opening entries now k.legal); once = λ block path recovers. by block path (row_at path (rows_of opening entries)) refl recovers }))
  where
    by : (block : ℕ) (path : List (List ℕ)) (at : Option Row) → row_at path (rows_of (opening_of a) (entries_of a)) ≡ at → recovers_at block at ≡ true → recovers_nowhere_else path block (rows_of (opening_of a) (entries_of a)) ≡ true
    by block path None e h = absurd cc
    by block path (Some row) e h = one_file_recovers (opening_of a) (entries_of a) path row block k.legal e h

-- The ledger's rows of commands.
use Rattle.std.proofs.Common.{◌≡◌, ℕ, List, [], ◌∷◌, ◌++◌, map, refl, sym, ap, ◌∙◌}
use Rattle.block_answers.specs.Commands.{Commands}
use Rattle.block_answers.specs.declared.commands.Recover.{Recover}
use Rattle.block_answers.specs.declared.commands.CopyOrder.{CopyOrder}
use Rattle.block_tokens.specs.Ring.{KeyRing}
use Rattle.grant_ledger.specs.declared.ledger.LedgerRow.{LedgerRow}
use Rattle.block_changes.specs.declared.transfer.Transfer.{Transfer}
use Rattle.block_changes.specs.declared.recovery.Recovery.{Recovery}
use Rattle.flat_rows.specs.NodeOutcome.{recover_command, copy_command}
use Rattle.history.specs.Grants.{BlockModes, ledger_row, granted_with}
use Rattle.node_commands.specs.Granted.{tokens_of, recovery_row, copy_row}

map_joined : {A B : Type 0} (f : A → B) (xs ys : List A) → map f (xs ++ ys) ≡ map f xs ++ map f ys
map_joined f [] ys = refl
map_joined f (x ∷ xs) ys = ap (λ l. f x ∷ l) (map_joined f xs ys)

map_twice : {A B C : Type 0} (f : B → C) (g : A → B) (xs : List A) → map f (map g xs) ≡ map (λ x. f (g x)) xs
map_twice f g [] = refl
map_twice f g (x ∷ xs) = ap (λ l. f (g x) ∷ l) (map_twice f g xs)

abbrev to_recover : Recover → BlockModes
to_recover recovery = record { block = recovery.block; modes = record { 0 = 2 } }

abbrev to_copy : CopyOrder → BlockModes
to_copy copy = record { block = copy.block; modes = record { 0 = 3 } }

module _ (place : ℕ) (ring : KeyRing) (now : ℕ) (principal : List ℕ) where
  of_recoveries : (recoveries : List Recovery) → map (ledger_row place ring now principal) (map to_recover (map (recover_command (tokens_of ring now) principal) recoveries)) ≡ map (recovery_row place ring now principal) recoveries
  of_recoveries recoveries =
      ap (map (ledger_row place ring now principal)) (map_twice to_recover (recover_command (tokens_of ring now) principal) recoveries)
      ∙ map_twice (ledger_row place ring now principal) (λ recovery. to_recover (recover_command (tokens_of ring now) principal recovery)) recoveries

  of_copies : (copies : List Transfer) → map (ledger_row place ring now principal) (map to_copy (map (copy_command (tokens_of ring now) principal) copies)) ≡ map (copy_row place ring now principal) copies
  of_copies copies =
      ap (map (ledger_row place ring now principal)) (map_twice to_copy (copy_command (tokens_of ring now) principal) copies)
      ∙ map_twice (ledger_row place ring now principal) (λ copy. to_copy (copy_command (tokens_of ring now) principal copy)) copies

  -- first those of recoveries, and then those of copies
  pub rows_are : (recoveries : List Recovery) (copies : List Transfer) (commands : Commands)
      → commands.recoveries ≡ map (recover_command (tokens_of ring now) principal) recoveries → commands.copies ≡ map (copy_command (tokens_of ring now) principal) copies
      → map (recovery_row place ring now principal) recoveries ++ map (copy_row place ring now principal) copies ≡ map (ledger_row place ring now principal) (granted_with commands)
  rows_are recoveries copies commands p q =
      sym (map_joined (ledger_row place ring now principal) (map to_recover commands.recoveries) (map to_copy commands.copies)
      ∙ (ap (λ l. map (ledger_row place ring now principal) (map to_recover l) ++ map (ledger_row place ring now principal) (map to_copy commands.copies)) p
      ∙ (ap (λ l. map (ledger_row place ring now principal) (map to_recover (map (recover_command (tokens_of ring now) principal) recoveries)) ++ map (ledger_row place ring now principal) (map to_copy l)) q
      ∙ (ap (λ l. l ++ map (ledger_row place ring now principal) (map to_copy (map (copy_command (tokens_of ring now) principal) copies))) (of_recoveries recoveries)
      ∙ ap (λ l. map (recovery_row place ring now principal) recoveries ++ l) (of_copies copies)))))

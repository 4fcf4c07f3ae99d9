-- Lines with another number of words than any verb wants.
use Rattle.std.proofs.Common.{◌≡◌, ◌≢◌, ℕ, ◌<◌, List, [], ◌∷◌, Bor, Result, length, map, get_or, Err, refl, arith}
use Rattle.grant_ledger.specs.declared.ledger.LedgerRow.{LedgerRow}
use Rattle.hdfs_values.specs.declared.fault.IllFormed.{IllFormed}
use Rattle.hdfs_values.specs.declared.fault.IllFormed.TheVariants.{BadLine}
use Rattle.cluster_trace.specs.DataCall.{DataCall}
use Rattle.cluster_text.specs.EventLine.{data_call_of, packet_of, event_of}
use Rattle.cluster_text.specs.declared.event_line.NodeAsker.{NodeAsker}

abbrev now : Bor (List ℕ) → List ℕ
now word = word.now

pub no_verb : (ledger : List LedgerRow) (words : List (Bor (List ℕ))) → length words < 3 → event_of ledger (map now words) ≡ Err BadLine
no_verb ledger [] few = refl
no_verb ledger (a ∷ []) few = refl
no_verb ledger (a ∷ b ∷ []) few = refl
no_verb ledger (a ∷ b ∷ c ∷ words) few = absurd (omega arith)

-- no call of a DataNode has any other number of words behind its verb
module _ (ledger : List LedgerRow) (asker : NodeAsker) (verb : List ℕ) where
  pub no_call : (words : List (Bor (List ℕ))) → length words ≢ 2 → length words ≢ 4 → length words ≢ 5 → length words ≢ 6 → data_call_of ledger asker verb (map now words) ≡ Err BadLine
  no_call [] two four five six = refl
  no_call (a ∷ []) two four five six = refl
  no_call (a ∷ b ∷ []) two four five six = absurd (two refl)
  no_call (a ∷ b ∷ c ∷ []) two four five six = refl
  no_call (a ∷ b ∷ c ∷ d ∷ []) two four five six = absurd (four refl)
  no_call (a ∷ b ∷ c ∷ d ∷ e ∷ []) two four five six = absurd (five refl)
  no_call (a ∷ b ∷ c ∷ d ∷ e ∷ f ∷ []) two four five six = absurd (six refl)
  no_call (a ∷ b ∷ c ∷ d ∷ e ∷ f ∷ g ∷ more) two four five six = refl

  -- six words are those of a packet
  pub six_words : (Holds : Result DataCall IllFormed → Type 0) (words : List (Bor (List ℕ))) (other : Bor (List ℕ)) → length words ≡ 6
      → Holds (packet_of ledger asker.caller (now (get_or words 0 other)) (now (get_or words 1 other)) (now (get_or words 2 other)) (now (get_or words 3 other)) (now (get_or words 4 other)) (now (get_or words 5 other)))
      → Holds (data_call_of ledger asker verb (map now words))
  six_words Holds [] other six h = cc
  six_words Holds (a ∷ []) other six h = cc
  six_words Holds (a ∷ b ∷ []) other six h = cc
  six_words Holds (a ∷ b ∷ c ∷ []) other six h = cc
  six_words Holds (a ∷ b ∷ c ∷ d ∷ []) other six h = cc
  six_words Holds (a ∷ b ∷ c ∷ d ∷ e ∷ []) other six h = cc
  six_words Holds (a ∷ b ∷ c ∷ d ∷ e ∷ f ∷ []) other six h = h
  six_words Holds (a ∷ b ∷ c ∷ d ∷ e ∷ f ∷ g ∷ more) other six h = absurd (omega (arith, six))

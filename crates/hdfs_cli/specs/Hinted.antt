-- The lines of a script that get a hint: those that are answered `bad`, and each a hint for the answer that it gets.
use Rattle.std.specs.Prelude.{ℕ, List, [], ◌∷◌, Option, Some, None, Result, Ok, Err}
use Rattle.std.specs.List.{filter_map}
use Rattle.hdfs_values.specs.declared.fault.IllFormed.{IllFormed}
use Rattle.script_hints.specs.Hints.{fault_of}
use Rattle.cluster_text.specs.ToldText.{Told}
use Rattle.cluster_runs.specs.Output.{Numbered}
use Rattle.hdfs_cli.specs.declared.hints.NumberedHint.{NumberedHint}

-- the number of an ill-formed line, and how it is ill-formed
pub record NumberedFault : Type 0 where
  pub number : ℕ
  pub fault : IllFormed

abbrev pub numbered_fault : NumberedHint → NumberedFault
numbered_fault numbered = record { number = numbered.number; fault = fault_of numbered.hint }

-- the line of this number, where it is ill-formed
abbrev pub faults_at : ℕ → Option IllFormed → List NumberedFault
faults_at number None = []
faults_at number (Some fault) = record { number = number; fault = fault } ∷ []

abbrev pub bad_at : ℕ → Result Told IllFormed → Option NumberedFault
bad_at number (Err fault) = Some (record { number = number; fault = fault })
bad_at number (Ok told) = None

-- the answers that call a line ill-formed: the number of the line, and how it is
abbrev pub bad_answers : List Numbered → List NumberedFault
bad_answers answers = filter_map (λ numbered. bad_at numbered.number numbered.answer) answers

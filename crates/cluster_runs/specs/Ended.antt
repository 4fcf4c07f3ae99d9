-- What is written of a script that was not run to its end.
use Rattle.std.specs.Prelude.{◌≡◌, ◌<◌, ℕ, List, length, Option}
use Rattle.std.specs.Io.KnownBytes.{Appends}
use Rattle.script_words.specs.Words.{lines_of}
use Rattle.cluster_runs.specs.Output.{text_of, answers_of_first}

-- the answers of so many first lines of the script, which has more
pub record IsAnswersOfFirst (served : ℕ) (script text : List ℕ) : Type 0 where
  pub within : served < length (lines_of script)
  pub is : text ≡ text_of (answers_of_first served script)

-- they were written, all of them, and nothing else
pub record AppendsAnswersOfFirst (served : ℕ) (old new : Option (List ℕ)) (script : List ℕ) : Type 0 where
  pub within : served < length (lines_of script)
  pub written : Appends old new (text_of (answers_of_first served script))

-- How the state of a file is printed.
use Rattle.std.specs.Prelude.{ℕ, List, ◌++◌, codes}
use Rattle.file_states.specs.declared.state.FileState.{FileState}
use Rattle.file_states.specs.declared.state.FileState.TheVariants.{Closed, Open, Recovering}

abbrev pub state_text : FileState → List ℕ
state_text Closed = codes "closed"
state_text (Open client) = codes "open:" ++ client
state_text (Recovering block stamp begun) = codes "recovering"

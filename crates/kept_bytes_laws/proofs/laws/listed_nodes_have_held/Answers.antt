use Rattle.kept_bytes_laws.proofs.Listed.{listed_held}
use Rattle.kept_bytes_laws.proofs.laws.listed_nodes_have_held.Goals as goal

pub returns : goal.returns
returns c = record { held = listed_held }

-- The names are compared in turn.
use Rattle.file_paths.specs.PathOrder.{same_path}
use Rattle.file_paths.proofs.Alike.{path_decides, decided_alike}
use Rattle.file_paths.proofs.path.is_same.Goals as goal

pub returns : goal.returns
returns c = decided_alike c.are_same_names.result (same_path c.args.names.now c.args.others.now) c.are_same_names.ensures (path_decides c.args.names.now c.args.others.now)

use Rattle.file_paths.proofs.Fronts.{front_path}
use Rattle.perm_walk.proofs.reach.stopped.Goals as goal

pub new-requires : goal.new-requires
new-requires c = front_path c.args.path.now c.args.depth c.requires.path

pub new-requires-2 : goal.new-requires-2
new-requires-2 c = front_path c.args.path.now c.args.depth c.requires.path

pub new-requires-in-Directory : goal.new-requires-in-Directory
new-requires-in-Directory c = front_path c.args.path.now c.args.depth c.requires.path

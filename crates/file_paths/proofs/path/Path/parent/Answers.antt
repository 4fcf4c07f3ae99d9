use Rattle.std.proofs.Common.{◌<◌, length, rules}
use Rattle.file_paths.proofs.Fronts.{parent_front}
use Rattle.file_paths.proofs.path.Path.parent.Goals as goal

pub returns : goal.returns
returns c =
    let some : 0 < length c.args.self.now = search rules in
    rw (c.in_ok-front.ensures, c.depth-depth.ensures) (parent_front c.args.self.now some)

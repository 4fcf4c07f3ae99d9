use Rattle.file_paths.proofs.Fronts.{front_path}
use Rattle.file_paths.proofs.path.Path.front.Goals as goal

pub invariant_of-result : goal.invariant_of-result
invariant_of-result c = rw (c.in_ok-copied_front.ensures, c.deref.ensures.value) (front_path _ c.args.depth c.self.invariant)

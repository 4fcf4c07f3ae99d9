use Rattle.std.proofs.Common.{ap, ◌∙◌, ◌+◌, refl, arith}
use Rattle.lease_manager.proofs.Counts.{set_more, count_found, absent_more}
use Rattle.lease_manager.proofs.open_files.OpenFiles.add.Goals.{in-Some, in_default}
use Rattle.lease_manager.proofs.open_files.OpenFiles.add.Goals as goal

pub overflow_add-count : goal.overflow_add-count
overflow_add-count c = omega (arith, c.requires.fits, count_found c.args.self.now c.self.inside.counts.entries c.args.client.now c.in-Some.count.now c.self.view_is c.in-Some.ensures.value)

pub returns : goal.returns
returns c = λ other. elim c.match-get_mut.branch [
  | in-Some w ↦ set_more c.args.self.now c.self.inside.counts.entries _ c.args.client.now other w.in-Some.count.now (w.in-Some.count.now + 1) c.self.view_is
      (count_found c.args.self.now c.self.inside.counts.entries c.args.client.now w.in-Some.count.now c.self.view_is w.in-Some.ensures.value) refl
      (ap (λ inside. inside.counts.entries) w.self-inside-is ∙ (c.get_mut.follows.holds (w.in-Some.count.now + 1)).0) c.requires
  | in_default w ↦ absent_more c.args.self.now c.self.inside.counts.entries c.args.client.now c.self.view_is w.in_default.ensures.value c.requires
]

use Rattle.std.proofs.Common.{refl}
use Rattle.hdfs_types.specs.Verb.{read_op}
use Rattle.namesystem.proofs.LeasesKept.{read_keeps}
use Rattle.namesystem.proofs.Performing.{performed_kept, undone_same, given_all}
use Rattle.namesystem.proofs.namesystem.perform_read.Goals as goal

pub returns : goal.returns
returns c = λ last now exact.
    given_all c.answer.result _ _
    (λ verdict all. performed_kept last now c.args.caller.now (read_op c.args.read) c.args.system.now c.args.system.now verdict (read_keeps c.args.read) c.requires.namespace refl refl refl all (λ h. undone_same c.args.system.now) exact)
    c.answer.ensures

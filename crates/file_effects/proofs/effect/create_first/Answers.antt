use Rattle.std.proofs.Common.{ap, refl, true}
use Rattle.lease_manager.specs.Leases.{Leases}
use Rattle.lease_manager.proofs.Moments.{undone_leases}
use Rattle.flat_rows.proofs.AnyFacts.{no_facts}
use Rattle.file_effects.proofs.effect.create_first.Goals as goal

pub returns-in_default-clause-err : goal.returns-in_default-clause-err
returns-in_default-clause-err c =
    (c.in_default.ensures.err.0, undone_leases c.args.writers.now.leases c.take.new.self c.release.new.self c.args.caller.now c.args.now c.in_ok-take.ensures.ok c.release.ensures.released c.requires.absent, refl)

pub returns-clause-ok : goal.returns-clause-ok
returns-clause-ok c =
    record { tree = c.in-Ok.ensures.ok no_facts true; files = c.add.ensures; renewals = ap (λ (l : Leases). l.renewals) c.in_ok-take.ensures.ok; latest = c.in_ok-take.ensures.latest }

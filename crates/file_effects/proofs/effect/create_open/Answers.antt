use Rattle.std.proofs.Common.{ap, refl, true}
use Rattle.std.proofs.lemmas.Result.{on_ok_weaker}
use Rattle.lease_manager.specs.Leases.{Leases}
use Rattle.flat_rows.proofs.AnyFacts.{no_facts}
use Rattle.file_effects.proofs.Effected.{created_with_room}
use Rattle.file_effects.proofs.effect.create_open.Goals as goal

pub returns-then-is_none-clause-ok : goal.returns-then-is_none-clause-ok
returns-then-is_none-clause-ok c =
    on_ok_weaker c.create_first.result
    (created_with_room c.args.path.now c.args.mode c.args.replication c.args.caller.now c.args.now c.args.tree.now c.create_first.new.tree c.args.writers.now (record { leases = c.args.writers.now.leases; files = c.make_room.new.self }) c.create_first.new.writers
    refl c.in_ok-make_room.ensures.counts)
    c.create_first.ensures.ok

pub returns-clause-ok : goal.returns-clause-ok
returns-clause-ok c =
    created_with_room c.args.path.now c.args.mode c.args.replication c.args.caller.now c.args.now c.args.tree.now c.make_file.new.tree c.args.writers.now (record { leases = c.args.writers.now.leases; files = c.make_room.new.self }) (record { leases = c.take.new.self; files = c.add.new.self })
    refl c.in_ok-make_room.ensures.counts
    (record { tree = c.in_ok-place.ensures.ok no_facts true; files = c.add.ensures; renewals = ap (λ (l : Leases). l.renewals) c.in-Ok.ensures.ok; latest = c.in-Ok.ensures.latest })

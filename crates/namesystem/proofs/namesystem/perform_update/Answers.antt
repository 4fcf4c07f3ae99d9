use Rattle.std.proofs.Common.{refl}
use Rattle.namesystem.specs.declared.namesystem.Namesystem.{Namesystem}
use Rattle.namesystem.proofs.Performing.{performed_update}
use Rattle.namesystem.proofs.namesystem.perform_update.Goals as goal

pub returns-clause-ok : goal.returns-clause-ok
returns-clause-ok c = λ last now exact.
    let new : Namesystem = record (c.args.system.now) { tree = c.apply_update.new.tree; users = c.apply_update.new.users } in
    performed_update last now c.args.caller.now c.args.update.now c.args.system.now new c.in_ok-verdict.verdict c.requires.namespace refl refl refl c.in_ok-verdict.ensures.ok exact

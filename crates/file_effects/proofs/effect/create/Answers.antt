use Rattle.std.proofs.Common.{◌∙◌}
use Rattle.file_effects.proofs.Effected.{effected_create}
use Rattle.file_effects.proofs.effect.create.Goals as goal

pub returns-clause-ok : goal.returns-clause-ok
returns-clause-ok c =
    let done = c.in_ok-place.ensures.ok in
    effected_create c.args.path.now c.args.mode c.args.replication c.args.over c.args.caller.now c.args.now c.args.tree.now c.create_open.new.tree c.deref-2.result.now c.args.writers.now c.create_open.new.writers c.close_each.new.self c.requires.free.0
    c.requires.namespace c.requires.free.1 done.tree done.renewals done.files (c.deref-2.ensures.value ∙ c.in_ok-clients.ensures) c.close_each.ensures.files c.close_each.ensures.leased

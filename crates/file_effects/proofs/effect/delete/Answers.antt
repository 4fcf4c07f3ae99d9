use Rattle.std.proofs.Common.{◌∙◌}
use Rattle.file_effects.proofs.Effected.{effected_delete}
use Rattle.file_effects.proofs.effect.delete.Goals as goal

pub returns-clause-ok : goal.returns-clause-ok
returns-clause-ok c = λ recursive caller now.
    effected_delete c.args.path.now recursive caller now c.args.tree.now c.remove.new.self c.deref-2.result.now c.args.writers.now c.close_each.new.self
    c.remove.ensures (c.deref-2.ensures.value ∙ c.in_ok-clients.ensures.clients) c.close_each.ensures.files c.close_each.ensures.leased

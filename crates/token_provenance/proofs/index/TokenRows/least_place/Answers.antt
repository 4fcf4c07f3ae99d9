use Rattle.std.proofs.Common.{arith, ◌∙◌}
use Rattle.token_provenance.proofs.Places.{least_step}
use Rattle.token_provenance.proofs.index.TokenRows.least_place.Goals as goal

pub loop-row-preserved : goal.loop-row-preserved
loop-row-preserved c =
    c.lesser-least.ensures
    ∙ least_step c.deref-row-items.result.now c.loop-row.row-index c.row-item.result c.args.entry.now c.loop-row.least c.place_of.result (omega arith) c.row-item.is c.loop-row.invariant c.place_of.ensures

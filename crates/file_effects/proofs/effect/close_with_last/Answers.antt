use Rattle.std.proofs.Common.{refl}
use Rattle.file_states.specs.declared.state.FileState.TheVariants.{Closed}
use Rattle.namespace_rows.specs.declared.row.Change.TheVariants as change
use Rattle.namespace_rows.specs.Changes.{row_rewritten}
use Rattle.file_effects.proofs.BlockChanges.{exact_committed}
use Rattle.file_effects.proofs.Effected.{exact_close}
use Rattle.file_effects.proofs.effect.close_with_last.Goals as goal

pub returns-clause-exact : goal.returns-clause-exact
returns-clause-exact c =
    let rows = row_rewritten c.args.path.now (change.State Closed) c.args.tree.now in
    λ last exact. exact_committed last c.args.path.now c.args.last.block c.args.last.length rows c.complete-place.new.self c.close.new.self c.complete-place.ensures
    (exact_close c.args.path.now Closed c.args.client.now c.args.tree.now rows c.args.writers.now c.close.new.self c.requires.namespace c.requires.held refl refl c.close.ensures.files c.close.ensures.leased last exact)

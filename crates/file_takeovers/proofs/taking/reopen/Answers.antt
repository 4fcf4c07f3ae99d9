use Rattle.std.proofs.Common.{◌∙◌, ap}
use Rattle.file_states.specs.declared.state.FileState.TheVariants as state
use Rattle.namespace_rows.specs.declared.row.Change.TheVariants as change
use Rattle.namespace_rows.specs.Changes.{row_rewritten}
use Rattle.file_takeovers.proofs.Reopening.{exact_reopen}
use Rattle.file_takeovers.proofs.taking.reopen.Goals as goal

pub returns-clause-tree : goal.returns-clause-tree
returns-clause-tree c = c.set_state-place.ensures ∙ ap (λ who. row_rewritten c.args.path.now (change.State (state.Open who)) c.args.tree.now) c.in_ok-client.ensures.cases

pub returns-clause-exact : goal.returns-clause-exact
returns-clause-exact c = λ last exact.
    exact_reopen c.args.path.now c.in_ok-client.client c.args.caller.now c.args.now c.args.tree.now c.set_state-place.new.self c.args.writers.now c.open.new.self c.requires.namespace c.requires.closed c.in_ok-client.ensures.cases c.set_state-place.ensures
    c.in_ok-open.ensures.files c.in_ok-open.ensures.leased last exact

use Rattle.std.proofs.Common.{◌≡◌, ℕ, Bool, true, false, ◌&&◌, not, List, is_some, ap, sym, ◌∙◌}
use Rattle.file_states.specs.declared.state.FileState.{FileState}
use Rattle.file_states.specs.declared.state.FileState.TheVariants.{Open}
use Rattle.file_blocks.specs.Blocks.{unfinished_block}
use Rattle.namespace_rows.specs.declared.file_row.FileRow.{FileRow}
use Rattle.namespace_rows.specs.Files.{holder_of, is_client}
use Rattle.file_table.specs.Finished.{is_finished_for}
use Rattle.file_table.proofs.table.is_finished.Goals as goal

in_state : (client : List ℕ) (file : FileRow) (state : FileState) → file.state ≡ state → is_finished_for client file ≡ (is_client client (holder_of state) && not (is_some (unfinished_block file.blocks)))
in_state client file state is = ap (λ s. is_client client (holder_of s) && not (is_some (unfinished_block file.blocks))) is

flipped : (b d : Bool) → d ≡ not b → b ≡ not d
flipped true d h = sym (ap not h)
flipped false d h = sym (ap not h)

pub returns-then-eq : goal.returns-then-eq
returns-then-eq c =
    flipped c.is_none.result _ c.is_none.ensures ∙ ap (λ found. not (is_some found)) c.unfinished.ensures
    ∙ sym (in_state c.args.client.now c.args.file.now (Open c.in-Open.holder) c.in-Open.is ∙ ap (λ b. b && not (is_some (unfinished_block c.args.file.now.blocks))) (sym c.eq.ensures ∙ c.if-eq.true))

pub returns-else-eq : goal.returns-else-eq
returns-else-eq c =
    c.if-eq.false ∙ sym (in_state c.args.client.now c.args.file.now (Open c.in-Open.holder) c.in-Open.is ∙ ap (λ b. b && not (is_some (unfinished_block c.args.file.now.blocks))) (sym c.eq.ensures ∙ c.if-eq.false))

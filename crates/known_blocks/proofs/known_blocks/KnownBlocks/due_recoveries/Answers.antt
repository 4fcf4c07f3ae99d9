use Rattle.std.proofs.Common.{◌≡◌, ◌∙◌, ap, sym, subst, filter, IfOk}
use Rattle.known_blocks.specs.Known.{KnownBlocks, block_of, is_due_by, due_blocks}
use Rattle.known_blocks.proofs.Listed.{due_listed}
use Rattle.known_blocks.proofs.known_blocks.KnownBlocks.due_recoveries.Goals as goal

pub returns : goal.returns
returns c =
    let retry = c.args.retry in
    let now = c.args.now in
    subst
    (λ own. IfOk c.due_among.result (λ blocks. blocks.items ≡ own))
    (ap (filter (λ block. is_due_by retry now (block_of c.args.self.now block))) (c.deref.ensures.value ∙ c.in_ok-running.ensures.blocks)
    ∙ (ap (λ (known : KnownBlocks). filter (λ block. is_due_by retry now (block_of known block)) c.self.inside.running) (sym c.self.view_is)
    ∙ (due_listed retry now c.self.inside.table c.self.inside.running c.self.invariant.1 c.len-count.ensures.ascending c.to_vec.ensures.ascending
    ∙ ap (λ (known : KnownBlocks). due_blocks known retry now) c.self.view_is)))
    c.due_among.ensures

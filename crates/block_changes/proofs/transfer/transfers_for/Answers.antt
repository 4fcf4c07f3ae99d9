use Rattle.std.proofs.Common.{◌≡◌, ◌∙◌, ap, subst, IfOk}
use Rattle.std.specs.List.{filter_map}
use Rattle.block_records.specs.Numbers.{entry_at}
use Rattle.block_tables.specs.Kept.{load}
use Rattle.block_changes.specs.Copies.{transfer_by}
use Rattle.block_changes.proofs.Listed.{covered}
use Rattle.block_changes.proofs.transfer.transfers_for.Goals as goal

pub returns : goal.returns
returns c = subst
    (λ own. IfOk c.transfers_of.result (λ transfers. transfers.items ≡ own))
    (ap (filter_map (λ block. transfer_by (load c.args.known.now.blocks) c.args.at.now c.args.node block (entry_at block c.args.known.now.blocks))) c.deref.ensures.value
    ∙ covered c.args.known.now.blocks c.args.at.now c.args.node c.in_ok-blocks.blocks.items c.candidates.ensures.known c.in_ok-blocks.ensures.ascending c.in_ok-blocks.ensures.covers)
    c.transfers_of.ensures

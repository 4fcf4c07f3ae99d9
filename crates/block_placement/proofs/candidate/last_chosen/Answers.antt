use Rattle.std.proofs.Common.{◌≡◌, ◌-◌, ◌∙◌, ap, sym}
use Rattle.std.specs.List.{slice_get}
use Rattle.block_placement.proofs.Chosen.{chosen, item_at}
use Rattle.block_placement.proofs.candidate.last_chosen.Goals as goal

pub returns : goal.returns
returns c = λ own.
    let there : slice_get c.sort_unstable.new.self.items (c.args.count - 1) ≡ c.copied.result =
    ap (λ xs. slice_get xs (c.args.count - 1)) (sym c.deref.ensures.value) ∙ (item_at c.get.result c.deref.result.now (c.args.count - 1) c.get.ensures.lookup ∙ sym c.copied.ensures) in
    chosen own c.args.candidates.items c.sort_unstable.new.self.items c.args.count c.copied.result c.requires c.sort_unstable.ensures.permutation c.sort_unstable.ensures.sorted there

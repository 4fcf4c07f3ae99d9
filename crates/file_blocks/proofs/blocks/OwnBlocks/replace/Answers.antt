use Rattle.std.proofs.Common.{◌+◌, ◌<◌, length, ◌∙◌, ap, sym, subst, arith}
use Rattle.file_blocks.specs.Blocks.{length_of, told_length, but_last}
use Rattle.file_blocks.proofs.Lengths.{front_grows, get_is, length_stays}
use Rattle.file_blocks.proofs.blocks.OwnBlocks.replace.Goals as goal

pub invariant_of-self-2 : goal.invariant_of-self-2
invariant_of-self-2 c =
    let within : c.args.place < length c.self.inside.list.items = subst (λ l. c.args.place < length l) (sym c.self.view_is) c.requires in
    let before_last : c.args.place + 1 < length c.self.inside.list.items = grind (arith, within, c.if-place-len.false, c.len.ensures, length_stays c.args.block c.self.inside.list.items c.args.place) in
    c.with_more-self-inside.ensures (length_of (but_last c.self.inside.list.items)) c.self.invariant
    ∙ ap (λ n. told_length (length_of (but_last c.self.inside.list.items) + n)) c.bytes.ensures
    ∙ ap told_length (sym (front_grows c.self.inside.list.items c.args.place c.args.block c.index-2.result.now before_last (get_is c.self.inside.list.items c.args.place c.index-2.result.now within c.index-2.ensures) c.in-None.is))

use Rattle.std.proofs.Common.{◌≡◌, ◌≤◌, ◌∙◌, length, ap, sym, arith}
use Rattle.known_blocks.specs.Known.{KnownBlocks, with_stamps}
use Rattle.known_blocks.proofs.Begun.{below_begun, listed_too, listed_all, all_listed, stamps_fit}
use Rattle.known_blocks.proofs.known_blocks.KnownBlocks.begin_all.Goals as goal

pub overflow_add-self : goal.overflow_add-self
overflow_add-self c =
    let small : c.self.inside.next_stamp ≤ 18446744073709551615 = omega arith in
    let fit = stamps_fit c.self.inside.next_stamp c.requires.0 small in
    let same : length c.args.begun.now ≡ length (with_stamps c.self.inside.next_stamp c.requires.0) =
    ap length (c.requires.1 ∙ ap (λ (known : KnownBlocks). with_stamps known.next_stamp c.requires.0) (sym c.self.view_is))
    in
    omega arith

pub invariant_of-self-2 : goal.invariant_of-self-2
invariant_of-self-2 c =
    let table = c.self.inside.table in
    let running = c.list_each.new.running in (
      below_begun c.args.now c.self.inside.next_block c.args.begun.now table c.begin_each.new.table c.begin_each.ensures c.self.invariant.0,
      listed_all c.args.now c.args.begun.now table c.begin_each.new.table running c.begin_each.ensures
          (all_listed c.args.begun.now c.self.inside.running running c.in_ok-list_each.ensures.ok)
          (listed_too table c.self.inside.running running c.list_each.ensures.more c.self.invariant.1),
    )

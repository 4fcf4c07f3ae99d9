use Rattle.std.proofs.Common.{◌≡◌, ◌<◌, ◌∙◌, Some, length, refl, sym, ap, arith, slice_get}
use Rattle.std.proofs.lemmas.Option.{slice_get_within, slice_get_read}
use Rattle.history.specs.declared.entry.Answer.{Answer}
use Rattle.history_replay.specs.Placing.{PlacedAt}
use Rattle.history_replay.proofs.Stepping.{below_step}
use Rattle.history_replay.proofs.Placing.{bound_next, placed_here}
use Rattle.history_replay.proofs.placed.find_misplaced_in.Goals as goal

pub loop-i-preserved : goal.loop-i-preserved
loop-i-preserved c =
    let there : slice_get c.args.answers.now c.loop-i.i ≡ Some c.index-answers-i-in-loop-i.result = slice_get_read c.args.answers.now (length c.args.answers.now) c.loop-i.i c.index-answers-i-in-loop-i.result refl (omega arith) c.index-answers-i-in-loop-i.is in (
      ap (λ (a : Answer). a.place) (sym c.index-answers-i-in-loop-i.is) ∙ bound_next c.args.begun c.args.answers.now c.loop-i.i c.index-answers-i-in-loop-i.result there,
      below_step (PlacedAt c.args.begun c.args.history.now c.args.pass c.args.answers.now) c.loop-i.i c.loop-i.invariant.1
          (placed_here c.args.begun c.args.history.now c.args.pass c.args.answers.now c.loop-i.i c.loop-i.bound c.index-answers-i.result c.index-answers-i.is c.loop-i.invariant.0 (c.is_placed.ensures.0 c.if-not-is_placed.false)),
    )

pub returns : goal.returns
returns c = λ index answer at.
    let within : index < length c.args.answers.now = slice_get_within c.args.answers.now index answer at in
    c.loop-i.invariant.1 index (omega arith) answer at

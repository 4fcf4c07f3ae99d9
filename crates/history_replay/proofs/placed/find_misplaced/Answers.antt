use Rattle.std.proofs.Common.{◌≡◌, ◌<◌, ◌∙◌, ℕ, List, Some, length, sym, subst, arith, slice_get}
use Rattle.std.proofs.lemmas.Option.{slice_get_within, get_or_from_slice_get}
use Rattle.history.specs.declared.entry.Answer.{Answer}
use Rattle.history_replay.specs.Placing.{PlacedAt}
use Rattle.history_replay.proofs.Stepping.{below_step}
use Rattle.history_replay.proofs.Placing.{passed}
use Rattle.history_replay.proofs.placed.find_misplaced.Goals as goal

pub loop-i-preserved : goal.loop-i-preserved
loop-i-preserved c =
    below_step (λ (pass : ℕ). (answers : List Answer) → slice_get c.args.passes.now pass ≡ Some answers → (index : ℕ) → PlacedAt c.args.begun c.args.history.now pass answers index) c.loop-i.i c.loop-i.invariant
    (λ answers at index.
    subst (λ (xs : List Answer). PlacedAt c.args.begun c.args.history.now c.loop-i.i xs index)
    (c.as_slice.ensures ∙ (c.index-passes-i.is ∙ get_or_from_slice_get c.args.passes.now c.loop-i.i answers c.index-passes-i.result at))
    (passed c.args.begun c.args.history.now c.loop-i.i c.as_slice.result.now c.find_misplaced_in-found.result c.find_misplaced_in-found.ensures (sym c.is_some.ensures ∙ c.if-is_some.false) index))

pub returns : goal.returns
returns c = λ pass index answers answer there at.
    let within : pass < length c.args.passes.now = slice_get_within c.args.passes.now pass answers there in
    c.loop-i.invariant pass (omega arith) answers there index answer at

use Rattle.std.proofs.Common.{◌≡◌, List, sym, subst, arith, true}
use Rattle.std.specs.List.{list_any}
use Rattle.std.proofs.lemmas.List.{take_all}
use Rattle.history_replay.specs.declared.pair.Pair.{Pair}
use Rattle.history_replay.specs.Looking.{is_pair, ToldHere}
use Rattle.history_replay.proofs.Replaying.{untold_step}
use Rattle.history_replay.proofs.replay.find_untold.Goals as goal

pub loop-pair-preserved : goal.loop-pair-preserved
loop-pair-preserved c =
    untold_step (ToldHere c.args.core.now.opening c.args.core.now.entries c.args.passes.now) c.args.pairs.now c.loop-pair.pair-index (record { pass = 0; index = 0 }) (omega arith) (c.in_ok-told.ensures.0 c.if-not-told.false)
    c.loop-pair.invariant

pub returns : goal.returns
returns c = λ pass index any.
    c.loop-pair.invariant pass index (subst (λ (pairs : List Pair). list_any (is_pair pass index) pairs ≡ true) (sym (take_all c.loop-pair.pair-index c.args.pairs.now (omega arith))) any)

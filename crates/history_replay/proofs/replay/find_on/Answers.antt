use Rattle.std.proofs.Common.{◌≡◌, ◌∙◌, ℕ, [], List, refl, sym, ap, subst, arith, slice_index_or, length}
use Rattle.history_replay.specs.declared.pair.Pair.{Pair}
use Rattle.history_replay.specs.Looking.{FindsAmong, ToldHere}
use Rattle.std.specs.Result.{IfOk}
use Rattle.history_replay.specs.Replaying.{LegalFrom, TellsAt}
use Rattle.history_replay.proofs.Stepping.{below_step}
use Rattle.history_replay.proofs.Replaying.{below_none, advanced, legal_here, legal_step, none_untold, untold_found, illegal_fails, ended}
use Rattle.history_replay.proofs.replay.find_on.Goals as goal

pub loop-i-init : goal.loop-i-init
loop-i-init c = (
  (refl, c.requires.new),
  (below_none (LegalFrom c.args.core.now.opening c.args.begun c.args.history.now), below_none (TellsAt c.args.core.now.opening c.args.history.now c.args.passes.now)),
)

pub returns-then-is_some : goal.returns-then-is_some
returns-then-is_some c =
    untold_found c.args.core.now.opening c.args.begun c.args.history.now c.args.passes.now c.loop-i.i c.loop-i.core (omega arith) c.loop-i.invariant.0.0 c.loop-i.invariant.0.1
    c.at.result.now c.in_ok-untold.untold c.in_ok-untold.ensures (sym c.is_some.ensures ∙ c.if-is_some.true)

pub loop-i-preserved : goal.loop-i-preserved
loop-i-preserved c = (
  advanced c.args.core.now.opening c.args.history.now c.loop-i.i c.index-history-i.result c.loop-i.core c.append.new.core (omega arith) c.index-history-i.is c.loop-i.invariant.0.0 c.loop-i.invariant.0.1 c.in_ok-legal.ensures.new,
  (
    legal_step c.args.core.now.opening c.args.begun c.args.history.now c.loop-i.i c.index-history-i.result c.in_ok-legal.legal c.index-history-i.is
        (legal_here c.args.core.now.opening c.args.history.now c.loop-i.i c.index-history-i.result c.loop-i.core c.in_ok-legal.legal (omega arith) c.loop-i.invariant.0.0 c.loop-i.invariant.0.1 c.in_ok-legal.ensures.legal)
        (c.is_at_fault.ensures.fine c.if-is_at_fault.false) c.loop-i.invariant.1.0,
    below_step (TellsAt c.args.core.now.opening c.args.history.now c.args.passes.now) c.loop-i.i c.loop-i.invariant.1.1
        (none_untold c.args.core.now.opening c.args.begun c.args.history.now c.args.passes.now c.loop-i.i c.loop-i.core (omega arith) c.loop-i.invariant.0.0 c.loop-i.invariant.0.1 c.args.looks.now c.requires.len c.requires.looks
        c.in_ok-untold.untold (subst (λ (pairs : List Pair). FindsAmong pairs (ToldHere c.loop-i.core.opening c.loop-i.core.entries c.args.passes.now) c.in_ok-untold.untold) c.at.ensures c.in_ok-untold.ensures) (sym c.is_some.ensures ∙ c.if-is_some.false)),
  ),
)

pub returns-then-is_at_fault : goal.returns-then-is_at_fault
returns-then-is_at_fault c =
    illegal_fails c.args.core.now.opening c.args.begun c.args.history.now c.args.passes.now c.loop-i.i c.index-history-i.result c.index-history-i-then-is_at_fault.result c.in_ok-legal.legal c.named.result (omega arith)
    c.index-history-i.is c.index-history-i-then-is_at_fault.is c.named.ensures.pass c.named.ensures.index
    (legal_here c.args.core.now.opening c.args.history.now c.loop-i.i c.index-history-i.result c.loop-i.core c.in_ok-legal.legal (omega arith) c.loop-i.invariant.0.0 c.loop-i.invariant.0.1 c.in_ok-legal.ensures.legal)
    (c.is_at_fault.ensures.fault c.if-is_at_fault.true)

pub returns : goal.returns
returns c =
    let end : c.loop-i.i ≡ length c.args.history.now = omega arith in
    ended c.args.core.now.opening c.args.begun c.args.history.now c.args.passes.now c.loop-i.i c.loop-i.core (omega arith) c.loop-i.invariant.0.0 c.loop-i.invariant.0.1 c.args.looks.now c.requires.len c.requires.looks end
    c.loop-i.invariant.1.0 c.loop-i.invariant.1.1 c.find_untold-2.result
    (subst (λ (pairs : List Pair). IfOk c.find_untold-2.result (FindsAmong pairs (ToldHere c.loop-i.core.opening c.loop-i.core.entries c.args.passes.now)))
    (c.at-2.ensures ∙ ap (λ (n : ℕ). slice_index_or c.args.looks.now n []) (sym end)) c.find_untold-2.ensures)

use Rattle.std.proofs.Common.{◌∙◌, ap, sym, arith}
use Rattle.history_replay.specs.Agreement.{entry_at_place}
use Rattle.history_replay.proofs.Placing.{at_place}
use Rattle.history_replay.proofs.placed.entry_at.Goals as goal

pub returns-then-place-eq0 : goal.returns-then-place-eq0
returns-then-place-eq0 c = ap (λ place. entry_at_place c.args.history.now place) (sym c.if-place-eq0.true)

pub returns : goal.returns
returns c = c.entry_behind.ensures ∙ at_place c.args.history.now c.args.place (omega arith)

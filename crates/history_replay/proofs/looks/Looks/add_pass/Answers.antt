use Rattle.std.proofs.Common.{◌<◌, ◌∙◌, length, arith}
use Rattle.std.proofs.lemmas.Option.{slice_get_within}
use Rattle.history_replay.proofs.Looking.{looks_step}
use Rattle.history_replay.proofs.looks.Looks.add_pass.Goals as goal

pub loop-i-preserved : goal.loop-i-preserved
loop-i-preserved c = (
  c.in_ok-add_receipt.ensures.len ∙ c.loop-i.invariant.0,
  (
    looks_step c.loop-i.self c.add_receipt.new.self c.args.pass c.args.answers.now c.loop-i.i c.index-answers-i.result c.index-answers-i.is c.in_ok-add_receipt.ensures.len c.in_ok-add_receipt.ensures.kept c.in_ok-add_receipt.ensures.listed c.loop-i.invariant.1.0,
    λ place pass index listed. c.in_ok-add_receipt.ensures.kept place pass index (c.loop-i.invariant.1.1 place pass index listed),
  ),
)

pub returns-clause-listed : goal.returns-clause-listed
returns-clause-listed c = λ index answer at.
    let within : index < length c.args.answers.now = slice_get_within c.args.answers.now index answer at in
    c.loop-i.invariant.1.0 index (omega arith) answer at

use Rattle.std.proofs.Common.{◌<◌, ◌∙◌, length, arith}
use Rattle.std.proofs.lemmas.Option.{slice_get_within}
use Rattle.history_replay.proofs.Looking.{passes_step}
use Rattle.history_replay.proofs.looks.Looks.of.Goals as goal

pub loop-i-preserved : goal.loop-i-preserved
loop-i-preserved c = (
  c.in_ok-add_pass.ensures.len ∙ c.loop-i.invariant.0,
  passes_step c.loop-i.looks c.add_pass.new.self c.args.passes.now c.loop-i.i c.index-passes-i.result c.as_slice.result.now c.as_slice.ensures c.index-passes-i.is c.in_ok-add_pass.ensures.len c.in_ok-add_pass.ensures.kept c.in_ok-add_pass.ensures.listed c.loop-i.invariant.1,
)

pub returns-clause-looks : goal.returns-clause-looks
returns-clause-looks c = λ pass answers there.
    let within : pass < length c.args.passes.now = slice_get_within c.args.passes.now pass answers there in
    c.loop-i.invariant.1 pass (omega arith) answers there

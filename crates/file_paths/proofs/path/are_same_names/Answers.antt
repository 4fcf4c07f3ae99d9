use Rattle.std.proofs.Common.{[], sym, ◌∙◌, arith}
use Rattle.std.proofs.lemmas.List.{take_more_same, get_or_default}
use Rattle.file_paths.proofs.Alike.{not_unlike}
use Rattle.file_paths.proofs.path.are_same_names.Goals as goal

pub loop-i-preserved : goal.loop-i-preserved
loop-i-preserved c =
    take_more_same c.args.names.now c.args.others.now c.loop-i.i [] (omega arith) (omega arith) c.loop-i.invariant
    (get_or_default c.args.names.now c.loop-i.i [] c.index-names-i.result (omega arith)
    ∙ sym c.index-names-i.is
    ∙ not_unlike c.index-names-i.result c.index-others-i.result c.ne.result c.ne.ensures c.if-ne.false
    ∙ c.index-others-i.is
    ∙ get_or_default c.args.others.now c.loop-i.i c.index-others-i.result [] (omega arith))

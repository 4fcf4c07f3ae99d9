use Rattle.std.proofs.Common.{not, rules, tests}
use Rattle.std.proofs.lemmas.Iterator.Consumers.{YieldsList-at, YieldsList-from_filter, YieldsList-from_rest, count_from_yields_List}
use Rattle.std.specs.BTreeMap.{values}
use Rattle.std.specs.Option.{is_some}
use Rattle.flat_rows.specs.declared.takeover.Sought.{Sought}
use Rattle.file_takeovers.proofs.expiry.count_closed.Goals as goal

pub returns : goal.returns
returns c =
    count_from_yields_List c.filter.result c.count.result c.count.ensures.ran
    (YieldsList-from_filter _ (λ (file : Sought). not (is_some file.block)) (YieldsList-at c.filter.ensures.source (YieldsList-from_rest (values c.args.files.now) c.values.ensures.rest)) c.filter.ensures.closure
    (λ x r q k. search (rules, tests)))

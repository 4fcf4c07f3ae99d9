use Rattle.std.proofs.Common.{◌∙◌}
use Rattle.data_service.proofs.Finding.{all_logged, is_lacking}
use Rattle.data_service.proofs.check.compare.Goals as goal

pub returns-in-Some-clause-err : goal.returns-in-Some-clause-err
returns-in-Some-clause-err c =
    is_lacking c.args.log.now c.args.log_start c.args.receipts.now c.find_all.new.found c.in_default.ensures.found (c.find_all.ensures.len ∙ c.requires.len) c.in-Some.place
    c.in-Some.ensures.some.0 c.in-Some.ensures.some.1

pub returns-in-None-clause-ok : goal.returns-in-None-clause-ok
returns-in-None-clause-ok c =
    all_logged c.args.log.now c.args.log_start c.args.receipts.now c.find_all.new.found c.in_default.ensures.found (c.find_all.ensures.len ∙ c.requires.len) c.requires.start
    c.in-None.ensures.none

use Rattle.std.proofs.Common.{◌∙◌, sym}
use Rattle.hdfs_values.proofs.Numbers.{none_with_plus, number_read}
use Rattle.hdfs_values.proofs.number.number_of.Goals as goal

pub returns-then-has_plus : goal.returns-then-has_plus
returns-then-has_plus c = none_with_plus c.args.text.now (sym c.has_plus.ensures ∙ c.if-has_plus.true)

pub returns : goal.returns
returns c = c.ok.ensures.value ∙ number_read c.args.text.now c.parse.result (sym c.has_plus.ensures ∙ c.if-has_plus.false) c.parse.ensures.value.0

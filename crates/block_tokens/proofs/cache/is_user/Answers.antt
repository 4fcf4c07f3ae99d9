use Rattle.std.proofs.Common.{◌∙◌, ap}
use Rattle.std.specs.Cmp.Lexicographic.{texts_ties}
use Rattle.hdfs_values.specs.Text.{same}
use Rattle.block_tokens.proofs.cache.is_user.Goals as goal

pub returns : goal.returns
returns c = c.eq.ensures ∙ texts_ties c.args.user.now c.as_str.result.now ∙ ap (same c.args.user.now) c.as_str.ensures.text

-- Equal bytes are texts that compare as equal.
use Rattle.std.proofs.Common.{◌∙◌}
use Rattle.std.specs.Cmp.Lexicographic.{texts_ties}
use Rattle.script_words.proofs.words.is_word.Goals as goal

pub returns : goal.returns
returns c = c.eq.ensures ∙ texts_ties c.args.word.now c.args.text.now

use Rattle.std.proofs.lemmas.Str.Pattern.{strip_prefix_char}
use Rattle.cluster_text.proofs.Signs.{behind_is}
use Rattle.cluster_text.proofs.node_words.behind.Goals as goal

pub returns : goal.returns
returns c = behind_is c.args.sign c.args.word.now c.strip_prefix.result (strip_prefix_char c.args.sign c.args.word.now c.strip_prefix.result c.strip_prefix.ensures.cases c.requires)

use Rattle.std.proofs.Common.{lit<}
use Rattle.std.proofs.lemmas.Str.Pattern.{strip_prefix_char}
use Rattle.file_paths.proofs.path.behind_slash.Goals as goal

pub returns : goal.returns
returns c = strip_prefix_char 47 c.args.text.now c.strip_prefix.result c.strip_prefix.ensures.cases (lit< tt)

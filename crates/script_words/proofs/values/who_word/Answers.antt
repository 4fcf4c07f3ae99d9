use Rattle.script_words.proofs.Forming.{forms}
use Rattle.script_words.proofs.values.who_word.Goals as goal

pub returns : goal.returns
returns c = forms _ c.parse.result _ c.parse.ensures

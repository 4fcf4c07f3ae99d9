use Rattle.script_words.proofs.Returns.{stripped, unstripped}
use Rattle.script_words.proofs.words.without_return.Goals as goal

pub returns-in-Some : goal.returns-in-Some
returns-in-Some c = stripped c.args.line.now c.in-Some.front.now c.in-Some.ensures

pub returns-in-None : goal.returns-in-None
returns-in-None c = unstripped c.args.line.now c.in-None.ensures

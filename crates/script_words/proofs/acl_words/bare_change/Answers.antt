use Rattle.std.proofs.Common.{rules}
use Rattle.script_words.proofs.acl_words.bare_change.Goals as goal

pub returns-then-is_word : goal.returns-then-is_word
returns-then-is_word c = search rules

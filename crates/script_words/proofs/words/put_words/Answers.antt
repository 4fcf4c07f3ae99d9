use Rattle.std.proofs.Common.{◌∙◌, ◌++◌, Bor, List, ℕ, map, sym, ap}
use Rattle.std.specs.Prelude.{filter}
use Rattle.script_words.specs.Words.{is_filled}
use Rattle.script_words.proofs.Blanks.{words_are}
use Rattle.script_words.proofs.words.put_words.Goals as goal

pub returns : goal.returns
returns c =
    c.in_ok-push_filled-2.ensures
    ∙ ap (λ pieces. map {A = Bor (List ℕ)} {B = List ℕ} (λ word. word.now) c.loop-piece.words.items ++ filter is_filled pieces) (sym c.in_default.ensures.pieces)
    ∙ c.loop-piece.invariant.1
    ∙ sym (words_are c.args.line.now)

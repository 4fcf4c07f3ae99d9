use Rattle.std.proofs.Common.{◌∷◌, ◌++◌, ◌∙◌, ap}
use Rattle.std.specs.Prelude.{codes}
use Rattle.std.specs.Fmt.{decimal}
use Rattle.std.specs.String.{string_bytes}
use Rattle.script_text.proofs.answer.print_recovering.Goals as goal

pub returns : goal.returns
returns c =
    c.in_ok-write.ensures.bytes
    ∙ ap (λ n. string_bytes c.args.line.now ++ (codes "ok recovering " ++ (decimal n ++ (32 ∷ decimal c.get-stamp.result)))) c.get-block.ensures
    ∙ ap (λ n. string_bytes c.args.line.now ++ (codes "ok recovering " ++ (decimal c.args.block ++ (32 ∷ decimal n)))) c.get-stamp.ensures

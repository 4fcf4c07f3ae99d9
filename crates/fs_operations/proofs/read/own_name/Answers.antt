use Rattle.std.proofs.Common.{◌∙◌, [], ◌∷◌, sym, ap}
use Rattle.std.specs.Option.{option_copied, option_to_list}
use Rattle.flat_rows.specs.Outcome.{own_name}
use Rattle.fs_operations.proofs.Counting.{last_got}
use Rattle.fs_operations.proofs.read.own_name.Goals as goal

pub returns-in_ok-vec-in-Some : goal.returns-in_ok-vec-in-Some
returns-in_ok-vec-in-Some c =
    let found = ap option_to_list c.last.ensures.value ∙ last_got c.names.result.now ∙ ap own_name c.names.ensures.names in
    c.in_ok-vec-in-Some.ensures.items ∙ ap (λ name. name ∷ []) c.in_ok-clone-in-Some.ensures.cases ∙ ap (λ o. option_to_list (option_copied o)) (sym c.in-Some.is) ∙ found

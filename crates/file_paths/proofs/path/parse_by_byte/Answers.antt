use Rattle.std.proofs.Common.{◌≡◌, true, false, Some, refl, sym, ap, ◌∙◌, rules}
use Rattle.std.specs.List.{slice_split}
use Rattle.std.proofs.lemmas.Result.{err_from_is_err_and}
use Rattle.file_paths.specs.Path.{is_path, is_slash}
use Rattle.file_paths.proofs.Paths.{pieces_spelled}
use Rattle.file_paths.proofs.path.parse_by_byte.Goals as goal

pub returns-in_default : goal.returns-in_default
returns-in_default c =
    let rest = c.args.rest.now in
    let is : is_path (slice_split is_slash rest) ≡ false = search rules in
    (refl, pieces_spelled c.args.text.now rest c.requires.behind false c.requires.some is)

pub returns-in_err-names_in : goal.returns-in_err-names_in
returns-in_err-names_in c =
    let rest = c.args.rest.now in
    let is : is_path (slice_split is_slash rest) ≡ true = search rules in
    let p = err_from_is_err_and c.from_residual.result c.from_residual.ensures.1 in
    rw (p.1, p.2, pieces_spelled c.args.text.now rest c.requires.behind true c.requires.some is) refl

pub returns : goal.returns
returns c =
    let rest = c.args.rest.now in
    let is : is_path (slice_split is_slash rest) ≡ true = search rules in
    pieces_spelled c.args.text.now rest c.requires.behind true c.requires.some is ∙ ap (λ names. Some names) (sym c.in_ok-names_in.ensures)

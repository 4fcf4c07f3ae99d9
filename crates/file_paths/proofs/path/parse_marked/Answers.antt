use Rattle.std.proofs.Common.{◌<◌, true, length, Some, sym, ap, ◌∙◌, arith}
use Rattle.file_paths.specs.Path.{is_path}
use Rattle.file_paths.proofs.Marked.{few_path, some_matched}
use Rattle.file_paths.proofs.Paths.{pieces_spelled}
use Rattle.file_paths.proofs.path.parse_marked.Goals as goal

pub invariant_of-result : goal.invariant_of-result
invariant_of-result c =
    let names = some_matched _ _ c.in-Ok-Some.field-0 c.in-Ok-Some.names c.in-Ok-Some.field-0-is c.in-Ok-Some.ensures in
    let is = few_path c.args.text.now c.args.rest.now c.requires.behind c.requires.most names.0 in
    ap is_path names.1 ∙ is

pub returns-in-Ok-Some : goal.returns-in-Ok-Some
returns-in-Ok-Some c =
    let rest = c.args.rest.now in
    let names = some_matched _ _ c.in-Ok-Some.field-0 c.in-Ok-Some.names c.in-Ok-Some.field-0-is c.in-Ok-Some.ensures in
    let is = few_path c.args.text.now rest c.requires.behind c.requires.most names.0 in
    let some : 0 < length rest = omega (arith, c.requires.least) in
    pieces_spelled c.args.text.now rest c.requires.behind true some is ∙ ap (λ names. Some names) (sym names.1)

use Rattle.std.proofs.Common.{◌<◌, length, sym, ◌∙◌, arith}
use Rattle.std.specs.List.{list_all, slice_split}
use Rattle.file_paths.specs.Name.{is_name}
use Rattle.file_paths.specs.Path.{is_slash}
use Rattle.file_paths.proofs.FirstNames.{last_name, next_names, counted}
use Rattle.file_paths.proofs.path.name_count.Goals as goal

pub returns-then-end-rest : goal.returns-then-end-rest
returns-then-end-rest c =
    let name = c.in-Some.ensures.name in
    let names = slice_split is_slash c.args.text.now in
    let last = last_name c.loop-end.rest.now c.in-Some.end name.0 name.1 c.if-end-rest.true in
    let before = c.loop-end.invariant in
    counted (list_all is_name names) (length names) c.loop-end.count (sym before.0 ∙ last.0) (omega (arith, before.1, last.1))

pub loop-end-preserved : goal.loop-end-preserved
loop-end-preserved c =
    let name = c.in-Some.ensures.name in
    let bound = c.in-Some.ensures.bound in
    let lt : c.in-Some.end < length c.loop-end.rest.now = omega (arith, bound, c.if-end-rest.false) in
    let next = next_names c.loop-end.rest.now c.in-Some.end name.0 name.1 lt in
    let before = c.loop-end.invariant in
    (next.0 ∙ before.0, omega (arith, before.1, next.1), omega (arith, before.2, next.2))

use Rattle.std.proofs.Common.{◌≤◌, length, arith}
use Rattle.std.proofs.lemmas.Bool.Decides.{nat_tests}
use lib.Count.{count_trailing_zeros}
use Rattle.file_paths.proofs.FirstNames.{no_names, front_passes, ends_at_slash}
use Rattle.file_paths.proofs.Marked.{end_bound, end_names, end_stops}
use Rattle.file_paths.proofs.marks.first_marked.Goals as goal

pub bounds-bytes-end : goal.bounds-bytes-end
bounds-bytes-end c = end_bound c.args.bytes.now c.args.marks c.requires.marks c.requires.some c.requires.most

pub returns-then-bytes-end-eq47-clause-piece : goal.returns-then-bytes-end-eq47-clause-piece
returns-then-bytes-end-eq47-clause-piece c =
    let bytes = c.args.bytes.now in
    let end = count_trailing_zeros 64 c.args.marks in
    let bound : end ≤ length bytes = omega (arith, end_bound bytes c.args.marks c.requires.marks c.requires.some c.requires.most) in
    let names = end_names bytes c.args.marks c.requires.marks c.requires.some c.requires.most in
    (ends_at_slash bytes end bound names (λ _. grind (arith, nat_tests, c.if-bytes-end-eq47.true)), front_passes bytes end bound names)

pub returns-else-bytes-end-eq47-clause-piece : goal.returns-else-bytes-end-eq47-clause-piece
returns-else-bytes-end-eq47-clause-piece c =
    let bytes = c.args.bytes.now in
    no_names bytes (count_trailing_zeros 64 c.args.marks) (end_bound bytes c.args.marks c.requires.marks c.requires.some c.requires.most)
    (end_stops bytes c.args.marks c.requires.marks c.requires.some c.requires.most) (grind (arith, nat_tests, c.if-bytes-end-eq47.false))

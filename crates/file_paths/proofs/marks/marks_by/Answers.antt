use Rattle.std.proofs.Common.{◌≡◌, ◌≤◌, ◌+◌, ◌-◌, ◌/◌, ◌^◌, length, ap, ◌∙◌, arith}
use lib.Lanes.{chunk}
use Rattle.file_paths.specs.Marks.{marks_of}
use Rattle.file_paths.proofs.Marked.{more_marks, marks_fit, marks_behind, last_load}
use Rattle.file_paths.proofs.Slashes.{take_whole}
use Rattle.file_paths.proofs.marks.marks_by.Goals as goal

pub overflow_add-marks : goal.overflow_add-marks
overflow_add-marks g c =
    let n = g.row.N in
    let bytes = c.args.bytes.now in
    let room : c.loop-at.at + n ≤ length bytes = omega (arith, c.loop-at-test.true, c.requires.least) in
    let few : c.loop-at.at + n ≤ 64 = omega (arith, room, c.requires.most) in
    marks_fit bytes (c.loop-at.at + n) _ few (more_marks bytes c.loop-at.at n c.loop-at.marks c.marks_at.result room few c.loop-at.invariant.1 c.marks_at.ensures) room

pub loop-at-preserved : goal.loop-at-preserved
loop-at-preserved g c =
    let n = g.row.N in
    let bytes = c.args.bytes.now in
    let room : c.loop-at.at + n ≤ length bytes = omega (arith, c.loop-at-test.true, c.requires.least) in
    let few : c.loop-at.at + n ≤ 64 = omega (arith, room, c.requires.most) in
    (omega (arith, c.loop-at-test.true, c.requires.least), more_marks bytes c.loop-at.at n c.loop-at.marks c.marks_at.result room few c.loop-at.invariant.1 c.marks_at.ensures)

pub overflow_add-result : goal.overflow_add-result
overflow_add-result g c =
    let n = g.row.N in
    let bytes = c.args.bytes.now in
    let at = c.loop-at.at in
    let last = length bytes - n in
    let le : last ≤ at = omega (arith, c.loop-at-test.false) in
    let ends : last + n ≡ length bytes = omega (arith, c.requires.least) in
    let lt = c.loop-at.invariant.0 in
    let room : at + (length bytes - at) ≤ length bytes = omega (arith, lt) in
    let few : at + (length bytes - at) ≤ 64 = omega (arith, room, c.requires.most) in
    let more = ap (λ m. m / 2 ^ (at - last)) c.marks_at-2.ensures ∙ marks_behind (chunk last n bytes) (at - last) ∙ ap marks_of (last_load bytes n last at le ends lt) in
    marks_fit bytes (at + (length bytes - at)) _ few (more_marks bytes at (length bytes - at) c.loop-at.marks _ room few c.loop-at.invariant.1 more) room

pub returns : goal.returns
returns g c =
    let n = g.row.N in
    let bytes = c.args.bytes.now in
    let at = c.loop-at.at in
    let last = length bytes - n in
    let le : last ≤ at = omega (arith, c.loop-at-test.false) in
    let ends : last + n ≡ length bytes = omega (arith, c.requires.least) in
    let lt = c.loop-at.invariant.0 in
    let room : at + (length bytes - at) ≤ length bytes = omega (arith, lt) in
    let few : at + (length bytes - at) ≤ 64 = omega (arith, room, c.requires.most) in
    let all : length bytes ≤ at + (length bytes - at) = omega (arith, lt) in
    let more = ap (λ m. m / 2 ^ (at - last)) c.marks_at-2.ensures ∙ marks_behind (chunk last n bytes) (at - last) ∙ ap marks_of (last_load bytes n last at le ends lt) in
    more_marks bytes at (length bytes - at) c.loop-at.marks _ room few c.loop-at.invariant.1 more ∙ ap marks_of (take_whole bytes (at + (length bytes - at)) all)

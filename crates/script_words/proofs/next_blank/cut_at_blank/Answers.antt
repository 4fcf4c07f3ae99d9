use Rattle.std.proofs.Common.{◌-◌, length, subst, arith}
use Rattle.script_words.specs.Blanks.{IsNextBlank}
use Rattle.script_words.proofs.Blanks.{first_of_end, can_cut_behind, first_cut, no_cut}
use Rattle.script_words.proofs.next_blank.cut_at_blank.Goals as goal

pub returns-then-at-rest-clause-pieces : goal.returns-then-at-rest-clause-pieces
returns-then-at-rest-clause-pieces c =
    let line = c.args.line.now in
    let rest = c.args.rest.now in
    let next : IsNextBlank line (length line - length rest) c.next_blank.result = subst (λ text. IsNextBlank text (length line - length rest) c.next_blank.result) c.as_bytes.ensures.value c.next_blank.ensures in
    no_cut rest (c.next_blank.result - (length line - length rest)) (first_of_end line rest c.next_blank.result c.requires.fits c.requires.end next) c.if-at-rest.true

pub range_from-requires : goal.range_from-requires
range_from-requires c _ =
    let line = c.args.line.now in
    let rest = c.args.rest.now in
    let next : IsNextBlank line (length line - length rest) c.next_blank.result = subst (λ text. IsNextBlank text (length line - length rest) c.next_blank.result) c.as_bytes.ensures.value c.next_blank.ensures in
    can_cut_behind rest (c.next_blank.result - (length line - length rest)) c.utf8.rest (first_of_end line rest c.next_blank.result c.requires.fits c.requires.end next)
    (omega (arith, next.high, next.low, c.requires.fits, c.if-at-rest.false))

pub returns-clause-pieces : goal.returns-clause-pieces
returns-clause-pieces c =
    let line = c.args.line.now in
    let rest = c.args.rest.now in
    let next : IsNextBlank line (length line - length rest) c.next_blank.result = subst (λ text. IsNextBlank text (length line - length rest) c.next_blank.result) c.as_bytes.ensures.value c.next_blank.ensures in
    first_cut rest c.range.result.now c.range_from.result.now (c.next_blank.result - (length line - length rest)) (first_of_end line rest c.next_blank.result c.requires.fits c.requires.end next)
    (omega (arith, next.high, next.low, c.requires.fits, c.if-at-rest.false)) c.range.ensures.value c.range_from.ensures.value

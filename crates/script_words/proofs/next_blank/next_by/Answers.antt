use Rattle.std.proofs.Common.{◌≡◌, ◌+◌, ◌-◌, length, subst, arith}
use Rattle.script_words.proofs.Marks.{HasNone, none_more, none_marked, next_marked}
use Rattle.script_words.proofs.next_blank.next_by.Goals as goal

pub returns-then-blanks-ne0 : goal.returns-then-blanks-ne0
returns-then-blanks-ne0 o c =
    (next_marked c.args.line.now c.loop-at.at o.row.N c.blanks_at-blanks.result c.blanks_at-blanks.ensures.within c.blanks_at-blanks.ensures.no_more c.args.from c.lowest.result
    c.loop-at.invariant.0 (omega (arith, c.loop-at-test.true, c.requires.long)) c.loop-at.invariant.2 c.lowest.ensures.set c.lowest.ensures.below).1

pub loop-at-preserved : goal.loop-at-preserved
loop-at-preserved o c = (
  omega (arith, c.loop-at.invariant.0),
  omega (arith, c.loop-at-test.true, c.requires.long),
  none_more c.args.line.now c.args.from c.loop-at.at o.row.N c.loop-at.invariant.2
      (none_marked c.args.line.now c.loop-at.at o.row.N c.blanks_at-blanks.result c.blanks_at-blanks.ensures.within c.blanks_at-blanks.ensures.no_more c.if-blanks-ne0.false),
)

pub returns-then-blanks-eq0 : goal.returns-then-blanks-eq0
returns-then-blanks-eq0 o c =
    let line = c.args.line.now in
    let at = c.loop-at.at in
    let ended : at + (length line - at) ≡ length line = omega (arith, c.loop-at.invariant.1) in
    let none : HasNone line c.args.from (at + (length line - at)) =
    none_more line c.args.from at (length line - at) c.loop-at.invariant.2
    (none_marked line at (length line - at) c.last_blanks-blanks.result (λ k lt. c.last_blanks-blanks.ensures.within k (omega (arith, lt))) (λ k ge. c.last_blanks-blanks.ensures.no_more k (omega (arith, ge))) c.if-blanks-eq0.true) in
    record {
      low = c.requires.within;
      high = omega arith;
      passed = subst (λ end. HasNone line c.args.from end) ended none;
      there = λ lt. absurd (omega (arith, lt));
    }

pub returns : goal.returns
returns o c =
    let line = c.args.line.now in
    let at = c.loop-at.at in
    (next_marked line at (length line - at) c.last_blanks-blanks.result (λ k lt. c.last_blanks-blanks.ensures.within k (omega (arith, lt))) (λ k ge. c.last_blanks-blanks.ensures.no_more k (omega (arith, ge)))
    c.args.from c.lowest-2.result c.loop-at.invariant.0 (omega (arith, c.loop-at.invariant.1)) c.loop-at.invariant.2 c.lowest-2.ensures.set c.lowest-2.ensures.below).1

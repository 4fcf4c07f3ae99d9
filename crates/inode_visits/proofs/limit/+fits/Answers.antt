use Rattle.std.proofs.Common.{◌+◌, ap, refl, arith, length, ◌∙◌}
use Rattle.inode_visits.proofs.Visits.{shorter}
use Rattle.inode_visits.proofs.Limits.{fits_next, fits_not}
use Rattle.inode_visits.proofs.limit.+fits.Goals as goal

pub fits_in-returns-then-not-fits : goal.fits_in-returns-then-not-fits
fits_in-returns-then-not-fits t c =
    fits_not c.args.depth c.args.bytes c.loop-name.name-iterator c.next.new.self c.in-Some.name.now c.in-Some.child.now (c.args.depth + 1) (c.args.bytes + 1 + length c.as_str.result.now) c.fits.result c.in-Some.ensures.steps refl
    (ap (λ text. c.args.bytes + 1 + length text) c.as_str.ensures.text) c.fits.ensures c.if-not-fits.true
    ∙ c.loop-name.invariant.same

pub fits_in-loop-name-preserved : goal.fits_in-loop-name-preserved
fits_in-loop-name-preserved t c =
    let less = shorter c.loop-name.name-iterator c.next.new.self c.in-Some.name.now c.in-Some.child.now c.in-Some.ensures.steps in
    record {
      can_next = tt;
      is_finite = tt;
      same =
          fits_next c.args.depth c.args.bytes c.loop-name.name-iterator c.next.new.self c.in-Some.name.now c.in-Some.child.now (c.args.depth + 1) (c.args.bytes + 1 + length c.as_str.result.now) c.fits.result c.in-Some.ensures.steps refl
          (ap (λ text. c.args.bytes + 1 + length text) c.as_str.ensures.text) c.fits.ensures c.if-not-fits.false
          ∙ c.loop-name.invariant.same;
      left = omega (arith, less, c.loop-name.invariant.left);
    }

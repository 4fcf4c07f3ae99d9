use Rattle.std.proofs.Common.{◌≡◌, refl, sym, ap, subst, ◌∙◌, arith, length}
use Rattle.std.proofs.lemmas.Slice.Zip.{Zip-more, either_empty_from_Zip}
use Rattle.std.specs.List.{AllByRecursion}
use Rattle.file_takeovers.specs.Expiry.{finished_closed, finished_of, AreAtMost}
use Rattle.file_takeovers.proofs.ClosedFiles.{IsPart, are_parts, total_of, first_few, one_closed, none_behind, none_closed, none_finished}
use Rattle.file_takeovers.proofs.expiry.close_each.Goals as goal

pub loop-client-init : goal.loop-client-init
loop-client-init c =
    let first : c.into_iter-client-iterator.result.a.rest.now ≡ c.args.past.now = ap (λ z. z.a.rest.now) c.into_iter-client-iterator.ensures.into_iter_gives ∙ (ap (λ i. i.rest.now) c.zip-client-items.ensures.first ∙ c.iter.ensures.rest) in
    let second : c.into_iter-client-iterator.result.b.rest.now ≡ c.args.numbers.now = ap (λ z. z.b.rest.now) c.into_iter-client-iterator.ensures.into_iter_gives ∙ c.zip-client-items.ensures.second.0 in
    record {
      can_next = (tt, tt);
      is_finite = tt;
      parts = subst (AllByRecursion (IsPart c.args.past.now)) (sym first) (are_parts c.args.past.now);
      no_other = refl;
      at_most = λ h. subst (λ cs. AreAtMost c.args.tree.now cs c.into_iter-client-iterator.result.b.rest.now) (sym first) (subst (AreAtMost c.args.tree.now c.args.past.now) (sym second) h);
      closed = λ h. ap (λ cs. finished_closed cs c.args.tree.now) first;
      count = λ h fits. omega (arith, ap (λ cs. length (finished_of cs c.args.tree.now)) first);
      fits = λ h fits. omega (arith, ap total_of second);
      exact = λ last h exact. exact;
      limits = refl;
      latest = omega arith;
    }

pub loop-client-preserved : goal.loop-client-preserved
loop-client-preserved c =
    let shown = Zip-more c.loop-client.client-iterator c.next.new.self c.next.result (c.in-Some.client, c.in-Some.number) c.in-Some.is c.next.ensures.steps in
    let before = c.loop-client.client-iterator in
    let after = c.next.new.self in
    let kept = c.loop-client.invariant in
    let few = first_few c.loop-client.tree c.in-Some.client.now c.in-Some.number.now before.a.rest.now after.a.rest.now before.b.rest.now after.b.rest.now shown.0 shown.1 in
    let one = one_closed c.args.past.now c.loop-client.tree c.close_finished.new.tree c.in-Some.client.now c.in-Some.number.now before.a.rest.now after.a.rest.now before.b.rest.now after.b.rest.now c.loop-client.closed c.close_finished.result
    c.saturating_add-closed.result shown.0 shown.1 kept.parts c.close_finished.ensures.no_other c.close_finished.ensures.closed c.close_finished.ensures.count c.saturating_add-closed.ensures in
    record {
      can_next = (tt, tt);
      is_finite = tt;
      parts = one.parts;
      no_other = one.no_other ∙ kept.no_other;
      at_most = λ h. one.at_most (kept.at_most h);
      closed = λ h. one.closed_is (kept.at_most h) ∙ kept.closed h;
      count = λ h fits. one.count (kept.at_most h) (omega (arith, kept.fits h fits, fits)) ∙ kept.count h fits;
      fits = λ h fits. omega (arith, one.fits (kept.at_most h) (omega (arith, kept.fits h fits, fits)), kept.fits h fits);
      exact = λ last h exact. c.close_finished.ensures.exact last (few (kept.at_most h)) (kept.exact last h exact);
      limits = c.close_finished.ensures.limits ∙ kept.limits;
      latest = omega (arith, c.close_finished.ensures.latest, kept.latest);
    }

pub returns-clause-closed : goal.returns-clause-closed
returns-clause-closed c = λ h.
    let kept = c.loop-client.invariant in
    let end = none_behind c.loop-client.tree c.loop-client.client-iterator.a.rest.now c.loop-client.client-iterator.b.rest.now (either_empty_from_Zip c.loop-client.client-iterator c.next.new.self c.next.result c.in-None.is c.next.ensures.steps) (kept.at_most h) in
    sym (none_closed c.loop-client.tree) ∙ (ap (λ cs. finished_closed cs c.loop-client.tree) (sym end) ∙ kept.closed h)

pub returns-clause-count : goal.returns-clause-count
returns-clause-count c = λ h fits.
    let kept = c.loop-client.invariant in
    let end = none_behind c.loop-client.tree c.loop-client.client-iterator.a.rest.now c.loop-client.client-iterator.b.rest.now (either_empty_from_Zip c.loop-client.client-iterator c.next.new.self c.next.result c.in-None.is c.next.ensures.steps) (kept.at_most h) in
    omega (arith, kept.count h fits, ap (λ cs. length (finished_of cs c.loop-client.tree)) end, none_finished c.loop-client.tree)

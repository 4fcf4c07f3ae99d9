use Rattle.std.proofs.Common.{◌≡◌, refl, sym, ap, ◌∙◌, map, subst, arith}
use Rattle.std.specs.BTreeMap.{get}
use Rattle.std.specs.List.{AllByRecursion}
use Rattle.std.specs.List.Sorted.{IsStrictlySortedBy}
use Rattle.std.specs.Map.{keys_of}
use Rattle.std.specs.Ordering.{nat_cmp}
use Rattle.file_paths.specs.PathOrder.{path_cmp}
use Rattle.file_takeovers.specs.Expiry.{holder_in, rewritten_where}
use Rattle.file_takeovers.proofs.TakenFiles.{IsHeld, taken_by, unheld_behind, first_held, step_one, all_are_taken}
use Rattle.file_takeovers.proofs.expiry.take_each.Goals as goal

pub loop-path-init : goal.loop-path-init
loop-path-init c =
    let all : c.into_iter-path-iterator.result ≡ c.args.files.now.entries = c.into_iter-path-iterator.ensures.into_iter_gives ∙ c.iter-path-items.ensures.rest in
    record {
      can_next = tt;
      is_finite = tt;
      ordered = subst (λ es. IsStrictlySortedBy path_cmp (keys_of es)) (sym all) c.iter-path-items.ensures.ordered;
      held = subst (AllByRecursion (IsHeld c.args.tree.now)) (sym all) c.requires.held;
      namespace = c.requires.namespace;
      left = λ begun agree. ap (λ es. map (taken_by begun c.args.now es) c.args.tree.now) all;
      exact = λ last exact. exact;
      limits = refl;
      latest = omega arith;
    }

pub take_where-requires-clause-held : goal.take_where-requires-clause-held
take_where-requires-clause-held c = first_held c.loop-path.tree c.in-Some.path.now c.in-Some.file.now c.loop-path.path-iterator c.next.new.self c.in-Some.ensures.steps c.loop-path.invariant.held

pub take_where-requires-clause-unheld : goal.take_where-requires-clause-unheld
take_where-requires-clause-unheld c = ap holder_in c.state_behind-state.ensures ∙ unheld_behind (get nat_cmp c.args.stamps.now) c.args.now c.in-Some.file.now.block

pub loop-path-preserved : goal.loop-path-preserved
loop-path-preserved c =
    let one = step_one (get nat_cmp c.args.stamps.now) c.args.now c.in-Some.path.now c.in-Some.file.now c.loop-path.tree c.take_where.new.tree c.loop-path.path-iterator c.next.new.self c.in-Some.ensures.steps c.loop-path.invariant.namespace
    c.loop-path.invariant.ordered c.loop-path.invariant.held (c.take_where.ensures.tree ∙ ap (λ state. rewritten_where c.in-Some.path.now state c.loop-path.tree) c.state_behind-state.ensures) in
    record {
      can_next = tt;
      is_finite = tt;
      ordered = one.ordered;
      held = one.held;
      namespace = one.namespace;
      left = λ begun agree. one.left_is begun agree ∙ c.loop-path.invariant.left begun agree;
      exact = λ last exact. c.take_where.ensures.exact last (c.loop-path.invariant.exact last exact);
      limits = c.take_where.ensures.limits ∙ c.loop-path.invariant.limits;
      latest = omega (arith, c.take_where.ensures.latest, c.loop-path.invariant.latest);
    }

pub returns-clause-taken : goal.returns-clause-taken
returns-clause-taken c = λ expiry begun at agree all.
    all_are_taken begun expiry c.args.now c.args.tree.now c.loop-path.tree c.args.writers.now c.loop-path.writers c.args.files.now.entries c.loop-path.path-iterator at c.requires.namespace c.in-None.ensures.steps.0 all
    (c.loop-path.invariant.left begun agree) c.loop-path.invariant.exact

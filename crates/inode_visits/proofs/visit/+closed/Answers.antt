use Rattle.std.proofs.Common.{Some, None, ◌≡◌, ◌∙◌, ap, sym, refl, arith}
use Rattle.std.specs.Option.{option_map}
use Rattle.std.specs.Prelude.{filter}
use Rattle.namespace_rows.specs.First.{first}
use Rattle.inode_nodes.specs.Node.{rows}
use Rattle.inode_visits.specs.Visits.{is_closed, row_found}
use Rattle.inode_visits.proofs.Visits.{first_here, first_next, none_found, shorter}
use Rattle.inode_visits.proofs.visit.+closed.Goals as goal

pub first_closed_in-returns-in-Some-2 : goal.first_closed_in-returns-in-Some-2
first_closed_in-returns-in-Some-2 t c =
    ap Some c.in_ok-beneath.ensures
    ∙ sym (first_here (is_closed c.args.caller.now c.args.groups.now c.args.need) (λ n row. refl) c.loop-name.name-iterator c.next.new.self c.in-Some.name.now c.in-Some.child.now (row_found c.in-Some-2.found) c.in-Some.ensures.steps
    (sym c.in_ok-found.ensures ∙ ap (option_map row_found) c.in-Some-2.is))
    ∙ c.loop-name.invariant.same

pub first_closed_in-loop-name-preserved : goal.first_closed_in-loop-name-preserved
first_closed_in-loop-name-preserved t c =
    let less = shorter c.loop-name.name-iterator c.next.new.self c.in-Some.name.now c.in-Some.child.now c.in-Some.ensures.steps in
    let none : first (filter (is_closed c.args.caller.now c.args.groups.now c.args.need) (rows c.in-Some.child.now)) ≡ None = none_found c.in_ok-found.field-0 (first (filter (is_closed c.args.caller.now c.args.groups.now c.args.need) (rows c.in-Some.child.now))) c.in_ok-found.ensures c.in_default.is in
    record {
      can_next = tt;
      is_finite = tt;
      same =
          first_next (is_closed c.args.caller.now c.args.groups.now c.args.need) (λ n row. refl) c.loop-name.name-iterator c.next.new.self c.in-Some.name.now c.in-Some.child.now c.in-Some.ensures.steps none
          ∙ c.loop-name.invariant.same;
      left = omega (arith, less, c.loop-name.invariant.left);
    }

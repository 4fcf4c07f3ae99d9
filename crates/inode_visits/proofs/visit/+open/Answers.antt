use Rattle.std.proofs.Common.{ap, sym, refl, length, ◌||◌, ◌+◌, ◌∙◌, arith}
use Rattle.std.specs.List.{list_any}
use Rattle.inode_nodes.specs.Node.{flatten, rows}
use Rattle.inode_nodes.proofs.Filters.{Entries}
use Rattle.file_table.specs.Seen.{seen_rows}
use Rattle.inode_visits.specs.Holding.{has_files}
use Rattle.inode_visits.specs.SeenNode.{seen_branch}
use Rattle.inode_visits.specs.Visits.{is_closed, told_number}
use Rattle.inode_visits.proofs.Visits.{any_here, any_next, counted_all_open, counted_is, is_counted, is_not_counted, length_step, not_counted, shorter, seen_entries, seen_flatten, told_itself}
use Rattle.inode_visits.proofs.FileBlocks.{any_step, or_false}
use Rattle.inode_visits.proofs.visit.+open.Goals as goal

pub count_open_in-returns-in_err-counted : goal.count_open_in-returns-in_err-counted
count_open_in-returns-in_err-counted t c =
    let told = c.in_err-counted.ensures in
    let entries = seen_entries c.args.files.now in
    let closed = is_closed c.args.caller.now c.args.groups.now c.args.need in
    let child = seen_branch c.args.files.now c.in-Some.child.now in
    c.from_residual.ensures
    ∙ is_not_counted c.args.caller.now c.args.groups.now c.args.need (seen_rows c.args.files.now (flatten c.args.map.now.entries))
    (sym (ap (list_any closed) (seen_flatten c.args.files.now c.args.map.now.entries)) ∙ sym c.loop-name.invariant.granted
    ∙ any_here closed (λ n row. refl) (entries c.loop-name._name-iterator) (entries c.next.new.self) c.in-Some._name.now child (ap entries c.in-Some.ensures.steps)
    (not_counted c.args.caller.now c.args.groups.now c.args.need (rows child) (sym told)))

pub count_open_in-loop-name-preserved : goal.count_open_in-loop-name-preserved
count_open_in-loop-name-preserved t c =
    let less = shorter c.loop-name._name-iterator c.next.new.self c.in-Some._name.now c.in-Some.child.now c.in-Some.ensures.steps in
    let entries = seen_entries c.args.files.now in
    let child = seen_branch c.args.files.now c.in-Some.child.now in
    let steps = ap entries c.in-Some.ensures.steps in
    let closed = is_closed c.args.caller.now c.args.groups.now c.args.need in
    let told = sym c.in_ok-counted.ensures in
    let is = counted_is c.args.caller.now c.args.groups.now c.args.need (rows child) c.in_ok-counted.counted told in
    record {
      can_next = tt;
      is_finite = tt;
      granted =
          any_next closed (λ n row. refl) (entries c.loop-name._name-iterator) (entries c.next.new.self) c.in-Some._name.now child steps (counted_all_open c.args.caller.now c.args.groups.now c.args.need (rows child) c.in_ok-counted.counted told)
          ∙ c.loop-name.invariant.granted;
      number =
          length_step (entries c.loop-name._name-iterator) (entries c.next.new.self) c.in-Some._name.now child steps c.loop-name.number c.in_ok-counted.counted.number c.saturating_add-number.result (told_number (length (flatten (entries c.args.map.now.entries))))
          (ap (λ x. x.number) is) c.saturating_add-number.ensures c.loop-name.invariant.number;
      few = omega (arith, c.saturating_add-number.ensures);
      any =
          any_step (entries c.loop-name._name-iterator) (entries c.next.new.self) c.in-Some._name.now child c.loop-name.has_files (c.loop-name.has_files || c.in_ok-counted.counted.has_files) (has_files (flatten (entries c.args.map.now.entries))) steps
          (ap (λ x. c.loop-name.has_files || x.has_files) is) c.loop-name.invariant.any;
      left = omega (arith, less, c.loop-name.invariant.left);
    }

pub count_open_in-returns : goal.count_open_in-returns
count_open_in-returns t c =
    let entries = seen_entries c.args.files.now in
    let closed = is_closed c.args.caller.now c.args.groups.now c.args.need in
    let whole = seen_flatten c.args.files.now c.args.map.now.entries in
    let empty = ap entries c.in-None.ensures.steps.0 in
    is_counted c.args.caller.now c.args.groups.now c.args.need (seen_rows c.args.files.now (flatten c.args.map.now.entries)) _
    (sym (ap (λ (it : Entries). list_any closed (flatten it)) (sym empty) ∙ c.loop-name.invariant.granted ∙ ap (list_any closed) whole))
    (sym (told_itself c.loop-name.number c.loop-name.invariant.few) ∙ ap (λ (it : Entries). told_number (c.loop-name.number + length (flatten it))) (sym empty) ∙ c.loop-name.invariant.number ∙ ap (λ l. told_number (length l)) whole)
    (sym (or_false c.loop-name.has_files) ∙ ap (λ (it : Entries). c.loop-name.has_files || has_files (flatten it)) (sym empty) ∙ c.loop-name.invariant.any ∙ ap has_files whole)

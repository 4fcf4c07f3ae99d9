use Rattle.std.proofs.Common.{arith, ap, sym, ◌++◌, ◌∙◌}
use Rattle.std.proofs.lemmas.List.{append-nil}
use Rattle.std.specs.Prelude.{map}
use Rattle.inode_nodes.specs.Node.{flatten, row_placed}
use Rattle.inode_visits.specs.SeenNode.{seen_branch}
use Rattle.inode_nodes.proofs.Filters.{Entries}
use Rattle.inode_visits.proofs.Visits.{shorter, lower, paths_here, paths_next, added_next, seen_entries, seen_flatten}
use Rattle.inode_visits.proofs.visit.+rows.Goals as goal

pub push_rows_in-push_rows-requires : goal.push_rows_in-push_rows-requires
push_rows_in-push_rows-requires t c =
    let less = lower c.loop-name.name-iterator c.next.new.self c.in-Some.name.now c.in-Some.child.now c.in-Some.ensures.steps in (
      omega (arith, c.decreases, less, c.loop-name.invariant.left),
      paths_here c.args.path.now c.in_ok-beneath.beneath c.loop-name.name-iterator c.next.new.self c.in-Some.name.now c.in-Some.child.now c.in_ok-beneath.ensures c.in-Some.ensures.steps c.loop-name.invariant.within,
    )

pub push_rows_in-loop-name-preserved : goal.push_rows_in-loop-name-preserved
push_rows_in-loop-name-preserved t c =
    let less = shorter c.loop-name.name-iterator c.next.new.self c.in-Some.name.now c.in-Some.child.now c.in-Some.ensures.steps in
    let entries = seen_entries c.args.files.now in
    record {
      can_next = tt;
      is_finite = tt;
      added =
          added_next c.args.path.now c.in_ok-beneath.beneath (entries c.loop-name.name-iterator) (entries c.next.new.self) c.in-Some.name.now (seen_branch c.args.files.now c.in-Some.child.now) c.loop-name.found.items c.push_rows.new.found.items
          (c.args.found.now.items ++ map (row_placed c.args.path.now) (flatten (entries c.args.nodes.now.entries))) c.in_ok-beneath.ensures (ap entries c.in-Some.ensures.steps) c.in_ok-push_rows.ensures c.loop-name.invariant.added;
      within = paths_next c.args.path.now c.loop-name.name-iterator c.next.new.self c.in-Some.name.now c.in-Some.child.now c.in-Some.ensures.steps c.loop-name.invariant.within;
      left = omega (arith, less, c.loop-name.invariant.left);
    }

pub push_rows_in-returns : goal.push_rows_in-returns
push_rows_in-returns t c =
    sym (append-nil c.loop-name.found.items) ∙ ap (λ (it : Entries). c.loop-name.found.items ++ map (row_placed c.args.path.now) (flatten it)) (sym (ap (seen_entries c.args.files.now) c.in-None.ensures.steps.0)) ∙ c.loop-name.invariant.added
    ∙ ap (λ l. c.args.found.now.items ++ map (row_placed c.args.path.now) l) (seen_flatten c.args.files.now c.args.nodes.now.entries)

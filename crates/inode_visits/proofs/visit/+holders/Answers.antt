use Rattle.std.proofs.Common.{arith, ap, sym, map, ◌++◌, ◌∙◌}
use Rattle.std.proofs.lemmas.List.{append-nil}
use Rattle.namespace_rows.specs.Files.{holders}
use Rattle.inode_nodes.specs.Node.{flatten}
use Rattle.inode_visits.specs.SeenNode.{seen_branch}
use Rattle.inode_nodes.proofs.Filters.{Entries}
use Rattle.inode_visits.proofs.Visits.{shorter, held_next, seen_entries, seen_flatten}
use Rattle.inode_visits.proofs.visit.+holders.Goals as goal

pub push_holders_in-loop-name-preserved : goal.push_holders_in-loop-name-preserved
push_holders_in-loop-name-preserved t c =
    let less = shorter c.loop-name._name-iterator c.next.new.self c.in-Some._name.now c.in-Some.child.now c.in-Some.ensures.steps in
    let entries = seen_entries c.args.files.now in
    record {
      can_next = tt;
      is_finite = tt;
      added =
          held_next (entries c.loop-name._name-iterator) (entries c.next.new.self) c.in-Some._name.now (seen_branch c.args.files.now c.in-Some.child.now) (map (λ who. who.now) c.loop-name.found.items) (map (λ who. who.now) c.push_holders.new.found.items)
          (map (λ who. who.now) c.args.found.now.items ++ holders (flatten (entries c.args.nodes.now.entries))) (ap entries c.in-Some.ensures.steps) c.in_ok-push_holders.ensures c.loop-name.invariant.added;
      left = omega (arith, less, c.loop-name.invariant.left);
    }

pub push_holders_in-returns : goal.push_holders_in-returns
push_holders_in-returns t c =
    let found = map (λ who. who.now) c.loop-name.found.items in
    sym (append-nil found) ∙ ap (λ (it : Entries). found ++ holders (flatten it)) (sym (ap (seen_entries c.args.files.now) c.in-None.ensures.steps.0)) ∙ c.loop-name.invariant.added
    ∙ ap (λ l. map (λ who. who.now) c.args.found.now.items ++ holders l) (seen_flatten c.args.files.now c.args.nodes.now.entries)

use Rattle.std.proofs.Common.{arith, ap, sym, ◌++◌, ◌∙◌}
use Rattle.std.proofs.lemmas.List.{append-nil}
use Rattle.namespace_rows.specs.Files.{blocks_in}
use Rattle.inode_nodes.specs.Node.{flatten}
use Rattle.inode_nodes.proofs.Filters.{Entries}
use Rattle.inode_visits.specs.SeenNode.{seen_branch}
use Rattle.inode_visits.proofs.Visits.{shorter, seen_entries, seen_flatten}
use Rattle.inode_visits.proofs.FileBlocks.{blocks_next}
use Rattle.inode_visits.proofs.blocks.+blocks.Goals as goal

pub push_blocks_in-loop-name-preserved : goal.push_blocks_in-loop-name-preserved
push_blocks_in-loop-name-preserved t c =
    let less = shorter c.loop-name._name-iterator c.next.new.self c.in-Some._name.now c.in-Some.child.now c.in-Some.ensures.steps in
    let entries = seen_entries c.args.files.now in
    record {
      can_next = tt;
      is_finite = tt;
      added =
          blocks_next (entries c.loop-name._name-iterator) (entries c.next.new.self) c.in-Some._name.now (seen_branch c.args.files.now c.in-Some.child.now) c.loop-name.found.items c.push_blocks.new.found.items
          (c.args.found.now.items ++ blocks_in (flatten (entries c.args.nodes.now.entries))) (ap entries c.in-Some.ensures.steps) c.in_ok-push_blocks.ensures c.loop-name.invariant.added;
      left = omega (arith, less, c.loop-name.invariant.left);
    }

pub push_blocks_in-returns : goal.push_blocks_in-returns
push_blocks_in-returns t c =
    sym (append-nil c.loop-name.found.items) ∙ ap (λ (it : Entries). c.loop-name.found.items ++ blocks_in (flatten it)) (sym (ap (seen_entries c.args.files.now) c.in-None.ensures.steps.0)) ∙ c.loop-name.invariant.added
    ∙ ap (λ l. c.args.found.now.items ++ blocks_in l) (seen_flatten c.args.files.now c.args.nodes.now.entries)

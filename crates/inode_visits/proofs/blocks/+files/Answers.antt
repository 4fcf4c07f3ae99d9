use Rattle.std.proofs.Common.{arith, ap, sym, map, ◌++◌, ◌||◌, ◌∙◌}
use Rattle.std.proofs.lemmas.List.{append-nil}
use Rattle.namespace_rows.specs.Files.{blocks_in, holders}
use Rattle.inode_nodes.specs.Node.{flatten}
use Rattle.inode_nodes.proofs.Filters.{Entries}
use Rattle.inode_visits.specs.SeenNode.{seen_branch}
use Rattle.inode_visits.proofs.Visits.{shorter, held_next, seen_entries, seen_flatten}
use Rattle.inode_visits.specs.Holding.{has_files}
use Rattle.inode_visits.proofs.FileBlocks.{blocks_next, any_step, or_false}
use Rattle.inode_visits.proofs.blocks.+files.Goals as goal

pub push_files_in-loop-name-preserved-in-Continue-1 : goal.push_files_in-loop-name-preserved-in-Continue-1
push_files_in-loop-name-preserved-in-Continue-1 t c =
    let less = shorter c.loop-name._name-iterator c.next.new.self c.in-Some._name.now c.in-Some.child.now c.in-Some.ensures.steps in
    let entries = seen_entries c.args.files.now in
    record {
      can_next = tt;
      is_finite = tt;
      clients =
          held_next (entries c.loop-name._name-iterator) (entries c.next.new.self) c.in-Some._name.now (seen_branch c.args.files.now c.in-Some.child.now) (map (λ who. who.now) c.loop-name.clients.items) (map (λ who. who.now) c.push_files.new.clients.items)
          (map (λ who. who.now) c.args.clients.now.items ++ holders (flatten (entries c.args.nodes.now.entries))) (ap entries c.in-Some.ensures.steps) c.in_ok-push_files.ensures.clients c.loop-name.invariant.clients;
      blocks =
          blocks_next (entries c.loop-name._name-iterator) (entries c.next.new.self) c.in-Some._name.now (seen_branch c.args.files.now c.in-Some.child.now) c.loop-name.blocks.items c.push_files.new.blocks.items
          (c.args.blocks.now.items ++ blocks_in (flatten (entries c.args.nodes.now.entries))) (ap entries c.in-Some.ensures.steps) c.in_ok-push_files.ensures.blocks c.loop-name.invariant.blocks;
      any =
          any_step (entries c.loop-name._name-iterator) (entries c.next.new.self) c.in-Some._name.now (seen_branch c.args.files.now c.in-Some.child.now) c.loop-name.any c.push_files.new.any
          (c.args.any.now || has_files (flatten (entries c.args.nodes.now.entries))) (ap entries c.in-Some.ensures.steps) c.in_ok-push_files.ensures.any c.loop-name.invariant.any;
      left = omega (arith, less, c.loop-name.invariant.left);
    }

pub push_files_in-returns-clause-clients : goal.push_files_in-returns-clause-clients
push_files_in-returns-clause-clients t c =
    let found = map (λ who. who.now) c.loop-name.clients.items in
    sym (append-nil found) ∙ ap (λ (it : Entries). found ++ holders (flatten it)) (sym (ap (seen_entries c.args.files.now) c.in-None.ensures.steps.0)) ∙ c.loop-name.invariant.clients
    ∙ ap (λ l. map (λ who. who.now) c.args.clients.now.items ++ holders l) (seen_flatten c.args.files.now c.args.nodes.now.entries)

pub push_files_in-returns-clause-blocks : goal.push_files_in-returns-clause-blocks
push_files_in-returns-clause-blocks t c =
    sym (append-nil c.loop-name.blocks.items) ∙ ap (λ (it : Entries). c.loop-name.blocks.items ++ blocks_in (flatten it)) (sym (ap (seen_entries c.args.files.now) c.in-None.ensures.steps.0)) ∙ c.loop-name.invariant.blocks
    ∙ ap (λ l. c.args.blocks.now.items ++ blocks_in l) (seen_flatten c.args.files.now c.args.nodes.now.entries)

pub push_files_in-returns-clause-any : goal.push_files_in-returns-clause-any
push_files_in-returns-clause-any t c =
    sym (or_false c.loop-name.any) ∙ ap (λ (it : Entries). c.loop-name.any || has_files (flatten it)) (sym (ap (seen_entries c.args.files.now) c.in-None.ensures.steps.0)) ∙ c.loop-name.invariant.any
    ∙ ap (λ l. c.args.any.now || has_files l) (seen_flatten c.args.files.now c.args.nodes.now.entries)

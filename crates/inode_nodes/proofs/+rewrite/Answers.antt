use Rattle.std.proofs.Common.{arith, ap, ◌∙◌, BTreeMap, List, ℕ}
use Rattle.inode_nodes.specs.Node.{flatten, Node}
use Rattle.inode_nodes.specs.Change.{change_of}
use Rattle.inode_nodes.proofs.Through.{found_mut, missed_mut, no_names, held_sorted, rewrite_top, rewrite_through, rewrite_none}
use Rattle.namespace_rows.specs.Changes.{with_change}
use Rattle.inode_nodes.proofs.Levels.{changed_pathless}
use Rattle.inode_nodes.proofs.+rewrite.Goals as goal

pub node::Node::rewrite_by-rewrite_in-requires : goal.node::Node::rewrite_by-rewrite_in-requires
node::Node::rewrite_by-rewrite_in-requires t c = (omega (arith, c.decreases, c.in-Some.ensures.cases.1), held_sorted c.self.inside.held c.in-Directory.map c.in-Directory.is c.self.invariant)

pub node::Node::rewrite_by-returns-in-None : goal.node::Node::rewrite_by-returns-in-None
node::Node::rewrite_by-returns-in-None t c =
    let change = change_of c.args.given.now in
    rewrite_top (with_change change) (changed_pathless change) c.args.path.now c.args.self.now c.give.new.self (no_names _ c.in-None.ensures.cases) c.give.ensures.beneath c.give.ensures.given

pub change::rewrite_in-returns-in-Some-clause-rows : goal.change::rewrite_in-returns-in-Some-clause-rows
change::rewrite_in-returns-in-Some-clause-rows t c =
    let change = change_of c.args.given.now in
    let found = found_mut c.get_mut.result c.in-Some.child _ c.in-Some.is c.get_mut.ensures.value in
    rewrite_through (with_change change) (changed_pathless change) c.args.first.now c.args.rest.now _ c.rewrite_by.new.self c.args.map.now.entries _ c.requires found c.rewrite_by.ensures (c.get_mut.follows.holds c.rewrite_by.new.self).0

pub change::rewrite_in-returns-in-None-clause-rows : goal.change::rewrite_in-returns-in-None-clause-rows
change::rewrite_in-returns-in-None-clause-rows t c =
    let change = change_of c.args.given.now in
    let missed = missed_mut c.get_mut.result _ c.in-None.is c.get_mut.ensures.value in
    ap (λ (m : BTreeMap (List ℕ) Node). flatten m.entries) c.get_mut.follows.holds-at-none ∙ rewrite_none (with_change change) (changed_pathless change) c.args.first.now c.args.rest.now c.args.map.now.entries c.requires missed

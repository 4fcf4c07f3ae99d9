use Rattle.std.proofs.Common.{arith, ap, ◌∙◌, ◌∷◌, List, ℕ, BTreeMap, sym}
use Rattle.namespace_rows.specs.Changes.{without}
use Rattle.inode_nodes.specs.Node.{flatten, Node}
use Rattle.inode_nodes.proofs.Levels.{missing_entry, without-kept}
use Rattle.inode_nodes.proofs.Through.{found_mut, missed_mut, no_names, held_sorted, take_here, take_through, taken_here, taken_none, taken_through}
use Rattle.inode_nodes.proofs.+take.Goals as goal

pub node::Node::take-take_in-requires : goal.node::Node::take-take_in-requires
node::Node::take-take_in-requires t c = (omega (arith, c.decreases), held_sorted c.self.inside.held c.in-Directory.map c.in-Directory.is c.self.invariant)

pub change::take_in-returns-in-None-clause-rows : goal.change::take_in-returns-in-None-clause-rows
change::take_in-returns-in-None-clause-rows t c = take_here c.args.first.now c.args.rest.now c.args.map.now.entries _ c.requires (no_names _ c.in-None.ensures.cases) c.remove.ensures.entries

pub change::take_in-returns-in-None-clause-whole : goal.change::take_in-returns-in-None-clause-whole
change::take_in-returns-in-None-clause-whole t c =
    taken_here c.args.first.now c.args.rest.now c.args.map.now.entries c.remove.result c.requires (no_names _ c.in-None.ensures.cases) (sym c.remove.ensures.value)

pub change::take_in-returns-in-Some-get_mut-clause-rows : goal.change::take_in-returns-in-Some-get_mut-clause-rows
change::take_in-returns-in-Some-get_mut-clause-rows t c =
    let found = found_mut c.get_mut.result c.in-Some-get_mut.child _ c.in-Some-get_mut.is c.get_mut.ensures.value in
    take_through _ _ _ _ _ c.take.new.self c.args.map.now.entries _ c.requires c.in-Some.ensures.cases.0 found c.take.ensures.rows (c.get_mut.follows.holds c.take.new.self).0

pub change::take_in-returns-in-Some-get_mut-clause-whole : goal.change::take_in-returns-in-Some-get_mut-clause-whole
change::take_in-returns-in-Some-get_mut-clause-whole t c =
    let found = found_mut c.get_mut.result c.in-Some-get_mut.child _ c.in-Some-get_mut.is c.get_mut.ensures.value in
    taken_through _ c.in-Some.next.now c.in-Some.more.now c.args.rest.now c.args.map.now.entries _ c.take.result c.requires c.in-Some.ensures.cases.0 found c.take.ensures.whole

pub change::take_in-returns-in-None-get_mut-clause-rows : goal.change::take_in-returns-in-None-get_mut-clause-rows
change::take_in-returns-in-None-get_mut-clause-rows t c =
    let missed = missed_mut c.get_mut.result _ c.in-None-get_mut.is c.get_mut.ensures.value in
    ap (λ (m : BTreeMap (List ℕ) Node). flatten m.entries) c.get_mut.follows.holds-at-none
    ∙ missing_entry (without (c.args.first.now ∷ c.args.rest.now)) c.args.first.now (without-kept c.args.first.now c.args.rest.now) c.args.map.now.entries c.requires missed

pub change::take_in-returns-in-None-get_mut-clause-whole : goal.change::take_in-returns-in-None-get_mut-clause-whole
change::take_in-returns-in-None-get_mut-clause-whole t c =
    taken_none c.args.first.now c.args.rest.now c.args.map.now.entries c.requires (missed_mut c.get_mut.result _ c.in-None-get_mut.is c.get_mut.ensures.value)

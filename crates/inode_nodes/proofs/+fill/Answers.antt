use Rattle.std.proofs.Common.{arith, [], ◌∷◌, ◌++◌}
use Rattle.inode_nodes.proofs.Through.{found_mut, missed_mut, no_names, held_sorted, held_there, there_beneath, not_beneath, not_here, fill_here, put_through}
use Rattle.inode_nodes.proofs.+fill.Goals as goal

pub node::Node::fill-fill_in-requires : goal.node::Node::fill-fill_in-requires
node::Node::fill-fill_in-requires t c = (
  omega (arith, c.decreases),
  (
    held_sorted c.self.inside.held c.in-Directory.map c.in-Directory.is c.self.invariant,
    held_there (c.args.above.now ++ c.args.name.now ∷ []) c.self.inside c.in-Directory.map c.args.self.now c.self.view_is c.in-Directory.is c.requires,
  ),
)

pub change::fill_in-unreachable-requires : goal.change::fill_in-unreachable-requires
change::fill_in-unreachable-requires t c =
    not_here _ c.args.name.now c.args.map.now.entries c.requires.sorted (no_names _ c.in-None.ensures.cases) (missed_mut c.get_mut.result _ c.in-None-get_mut.is c.get_mut.ensures.value) c.requires.there

pub change::fill_in-unreachable-requires-in-None-get_mut-2 :
    goal.change::fill_in-unreachable-requires-in-None-get_mut-2
change::fill_in-unreachable-requires-in-None-get_mut-2 t c =
    not_beneath _ _ _ c.args.name.now c.args.map.now.entries c.requires.sorted c.in-Some.ensures.cases.0 (missed_mut c.get_mut-in-Some.result _ c.in-None-get_mut-2.is c.get_mut-in-Some.ensures.value) c.requires.there

pub change::fill_in-fill-requires : goal.change::fill_in-fill-requires
change::fill_in-fill-requires t c =
    let names = c.in-Some.ensures.cases in
    let found = found_mut c.get_mut-in-Some.result c.in-Some-get_mut-2.child _ c.in-Some-get_mut-2.is c.get_mut-in-Some.ensures.value in
    (omega (arith, c.decreases, names.1), there_beneath _ _ _ c.args.name.now c.args.map.now.entries _ c.requires.sorted names.0 found c.requires.there)

pub change::fill_in-returns-in-Some-get_mut-clause-rows :
    goal.change::fill_in-returns-in-Some-get_mut-clause-rows
change::fill_in-returns-in-Some-get_mut-clause-rows t c =
    let found = found_mut c.get_mut.result c.in-Some-get_mut.place _ c.in-Some-get_mut.is c.get_mut.ensures.value in
    fill_here _ c.args.name.now _ c.args.new c.args.map.now.entries _ c.requires.sorted (no_names _ c.in-None.ensures.cases) found (c.get_mut.follows.holds c.args.new).0

pub change::fill_in-returns-in-Some-get_mut-2-clause-rows :
    goal.change::fill_in-returns-in-Some-get_mut-2-clause-rows
change::fill_in-returns-in-Some-get_mut-2-clause-rows t c =
    let found = found_mut c.get_mut-in-Some.result c.in-Some-get_mut-2.child _ c.in-Some-get_mut-2.is c.get_mut-in-Some.ensures.value in
    put_through _ _ _ c.args.name.now c.args.new _ c.fill.new.self c.args.map.now.entries _ c.requires.sorted c.in-Some.ensures.cases.0 found c.fill.ensures (c.get_mut-in-Some.follows.holds c.fill.new.self).0

use Rattle.std.proofs.Common.{arith}
use Rattle.inode_nodes.proofs.Through.{on_ok, on_err, found_mut, missed_mut, no_names, held_sorted, held_parent, file_holds_none, child_holds, none_holds, same_through, put_through, put_here}
use Rattle.inode_nodes.proofs.+put.Goals as goal

pub node::Node::put-put_in-requires : goal.node::Node::put-put_in-requires
node::Node::put-put_in-requires t c = (
  omega (arith, c.decreases),
  (
    held_sorted c.self.inside.held c.in-Directory.map c.in-Directory.is c.self.invariant,
    held_parent c.args.above.now c.args.name c.self.inside c.in-Directory.map c.args.self.now c.self.view_is c.in-Directory.is c.requires,
  ),
)

pub node::Node::put-unreachable-requires : goal.node::Node::put-unreachable-requires
node::Node::put-unreachable-requires t c = file_holds_none c.args.above.now c.args.name c.self.inside _ c.args.self.now c.self.view_is c.in-File.is c.requires

pub change::put_in-put-requires : goal.change::put_in-put-requires
change::put_in-put-requires t c =
    let names = c.in-Some.ensures.cases in
    let found = found_mut c.get_mut.result c.in-Some-get_mut.child _ c.in-Some-get_mut.is c.get_mut.ensures.value in
    (omega (arith, c.decreases, names.1), child_holds _ _ _ c.args.name c.args.map.now.entries _ c.requires.sorted names.0 found c.requires.parent)

pub change::put_in-unreachable-requires : goal.change::put_in-unreachable-requires
change::put_in-unreachable-requires t c =
    none_holds _ _ _ c.args.name c.args.map.now.entries c.requires.sorted c.in-Some.ensures.cases.0 (missed_mut c.get_mut.result _ c.in-None-get_mut.is c.get_mut.ensures.value) c.requires.parent

pub change::put_in-returns-in_ok-insert-in-None-clause-ok :
    goal.change::put_in-returns-in_ok-insert-in-None-clause-ok
change::put_in-returns-in_ok-insert-in-None-clause-ok t c =
    put_here c.args.above.now c.args.name c.args.new c.args.map.now.entries _ c.requires.sorted (no_names _ c.in-None.ensures.cases) c.in_ok-insert-in-None.ensures.entries

pub change::put_in-returns-in-Some-get_mut-clause-ok : goal.change::put_in-returns-in-Some-get_mut-clause-ok
change::put_in-returns-in-Some-get_mut-clause-ok t c =
    let names = c.in-Some.ensures.cases in
    let found = found_mut c.get_mut.result c.in-Some-get_mut.child _ c.in-Some-get_mut.is c.get_mut.ensures.value in
    on_ok c.put.result (λ changed. put_through _ _ _ c.args.name c.args.new _ c.put.new.self c.args.map.now.entries _ c.requires.sorted names.0 found changed (c.get_mut.follows.holds c.put.new.self).0) c.put.ensures.ok

pub change::put_in-returns-in-Some-get_mut-clause-err : goal.change::put_in-returns-in-Some-get_mut-clause-err
change::put_in-returns-in-Some-get_mut-clause-err t c =
    let found = found_mut c.get_mut.result c.in-Some-get_mut.child _ c.in-Some-get_mut.is c.get_mut.ensures.value in
    on_err c.put.result (λ same. same_through _ _ c.put.new.self c.args.map.now.entries _ found same (c.get_mut.follows.holds c.put.new.self).0) c.put.ensures.err

use Rattle.std.proofs.Common.{◌≡◌, ◌∷◌, [], true, sym, subst, arith, List, ℕ, BTreeMap}
use Rattle.std.specs.Option.{option_map}
use Rattle.file_table.specs.Place.{placed}
use Rattle.namespace_rows.specs.Rows.{is_missing}
use Rattle.inode_nodes.specs.Node.{Node, flatten}
use Rattle.inode_nodes.proofs.Through.{on_ok, on_err, found_mut, missed_mut, same_through}
use Rattle.inode_nodes.proofs.Makes.{missing_beneath, missing_first, clear_beneath, make_through}
use Rattle.inode_nodes.proofs.+make.Goals as goal

pub change::make_in-make-requires : goal.change::make_in-make-requires
change::make_in-make-requires t c =
    let found = found_mut c.get_mut.result c.in-Some.child _ c.in-Some.is c.get_mut.ensures.value in (
      omega (arith, c.decreases),
      (missing_beneath c.args.first.now c.args.rest.now c.args.map.now.entries _ c.requires.sorted found c.requires.missing, clear_beneath c.args.first.now c.args.rest.now c.args.map.now.entries _ c.requires.sorted found c.requires.clear),
    )

pub change::make_in-returns-in-Some-clause-err : goal.change::make_in-returns-in-Some-clause-err
change::make_in-returns-in-Some-clause-err t c =
    let found = found_mut c.get_mut.result c.in-Some.child _ c.in-Some.is c.get_mut.ensures.value in
    on_err c.make.result (λ same. same_through _ _ c.make.new.self c.args.map.now.entries _ found same (c.get_mut.follows.holds c.make.new.self).0) c.make.ensures.err

pub change::make_in-returns-in-Some-clause-ok : goal.change::make_in-returns-in-Some-clause-ok
change::make_in-returns-in-Some-clause-ok t c =
    let found = found_mut c.get_mut.result c.in-Some.child _ c.in-Some.is c.get_mut.ensures.value in
    on_ok c.make.result
    (λ is top group list. make_through c.args.owner.now c.args.mode (option_map placed c.args.file) c.args.first.now c.args.rest.now top _ c.make.new.self c.args.map.now.entries _ c.requires.sorted c.requires.missing found is (c.get_mut.follows.holds c.make.new.self).0) c.make.ensures.ok

pub change::make_in-make_first-requires-in-None-clause-missing : goal.change::make_in-make_first-requires-in-None-clause-missing
change::make_in-make_first-requires-in-None-clause-missing t c =
    let missed = missed_mut c.get_mut.result _ c.in-None.is c.get_mut.ensures.value in
    subst (λ (m : BTreeMap (List ℕ) Node). is_missing (c.args.first.now ∷ []) (flatten m.entries) ≡ true) (sym c.get_mut.follows.holds-at-none)
    (missing_first c.args.first.now c.args.map.now.entries c.requires.sorted missed)

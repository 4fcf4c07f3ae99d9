use Rattle.std.proofs.Common.{Some, None, ap, refl, subst, sym, ◌∙◌, ◌≡◌}
use Rattle.std.specs.Option.{option_map}
use Rattle.std.specs.Prelude.{filter}
use Rattle.namespace_rows.specs.First.{first}
use Rattle.inode_nodes.specs.Node.{rows, row_placed}
use Rattle.inode_nodes.specs.Part.{IsWhole}
use Rattle.inode_visits.specs.Visits.{is_closed, row_found}
use Rattle.inode_tree.specs.Tree.{branch_at}
use Rattle.inode_tree.proofs.Asked.{found_path, first_there}
use Rattle.inode_tree.proofs.tree.Tree.first_closed.Goals as goal

pub into_row-requires : goal.into_row-requires
into_row-requires c =
    found_path c.args.path.now c.args.path.now refl c.self.inside.nodes c.args.self.now c.self.view_is c.self.invariant (Some (branch_at c.in-Some.inode)) (subst (IsWhole c.args.path.now c.self.inside.nodes) (ap (option_map branch_at) c.in-Some.is) c.find.ensures)
    (is_closed c.args.caller.now c.args.groups.now c.args.need) (row_found c.in-Some-2.found) (λ row. refl) (sym c.in_ok-found.ensures ∙ ap (option_map row_found) c.in-Some-2.is)

pub returns-in_ok-into_row-in-Some-2 : goal.returns-in_ok-into_row-in-Some-2
returns-in_ok-into_row-in-Some-2 c =
    let found : first (filter (is_closed c.args.caller.now c.args.groups.now c.args.need) (rows (branch_at c.in-Some.inode))) ≡ Some (row_found c.in-Some-2.found) = sym c.in_ok-found.ensures ∙ ap (option_map row_found) c.in-Some-2.is in
    ap Some c.in_ok-into_row-in-Some-2.ensures ∙ ap (option_map (row_placed c.args.path.now)) (sym found)
    ∙ first_there c.args.path.now c.args.path.now refl c.self.inside.nodes c.args.self.now c.self.view_is c.self.invariant (Some (branch_at c.in-Some.inode)) (subst (IsWhole c.args.path.now c.self.inside.nodes) (ap (option_map branch_at) c.in-Some.is) c.find.ensures)
    (is_closed c.args.caller.now c.args.groups.now c.args.need) (λ row. refl)

pub returns-in-None : goal.returns-in-None
returns-in-None c =
    let none : first (filter (is_closed c.args.caller.now c.args.groups.now c.args.need) (rows (branch_at c.in-Some.inode))) ≡ None = sym c.in_ok-found.ensures ∙ ap (option_map row_found) c.in-None.is in
    ap (option_map (row_placed c.args.path.now)) (sym none)
    ∙ first_there c.args.path.now c.args.path.now refl c.self.inside.nodes c.args.self.now c.self.view_is c.self.invariant (Some (branch_at c.in-Some.inode)) (subst (IsWhole c.args.path.now c.self.inside.nodes) (ap (option_map branch_at) c.in-Some.is) c.find.ensures)
    (is_closed c.args.caller.now c.args.groups.now c.args.need) (λ row. refl)

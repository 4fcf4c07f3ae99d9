use Rattle.std.proofs.Common.{◌∷◌, Some, None, refl, ap}
use Rattle.inode_nodes.specs.Node.{rows}
use Rattle.inode_files.proofs.KeptChanges.{kept_removed, seen_removed, none_taken}
use Rattle.inode_files.proofs.nodes.Nodes.remove.Goals as goal

pub invariant_of-self : goal.invariant_of-self
invariant_of-self c =
    kept_removed c.self.inside.files c.forget_any.new.files c.self.inside.root c.take.new.self (Some c.in-Some.removed) (c.args.first.now ∷ c.args.rest.now) c.in-Some.ensures.whole (ap rows c.in-Some.ensures.rows)
    c.self.invariant c.forget_any.ensures

pub invariant_of-self-in_default : goal.invariant_of-self-in_default
invariant_of-self-in_default c =
    kept_removed c.self.inside.files c.self.inside.files c.self.inside.root c.take.new.self None (c.args.first.now ∷ c.args.rest.now) c.in_default.ensures.whole (ap rows c.in_default.ensures.rows)
    c.self.invariant (λ k. refl)

pub returns-in-Some : goal.returns-in-Some
returns-in-Some c =
    seen_removed c.self.inside.files c.forget_any.new.files c.self.inside.root c.take.new.self (Some c.in-Some.removed) (c.args.first.now ∷ c.args.rest.now) c.in-Some.ensures.whole (ap rows c.in-Some.ensures.rows)
    c.self.invariant c.forget_any.ensures c.args.self.now c.self.view_is

pub returns-in_default : goal.returns-in_default
returns-in_default c =
    seen_removed c.self.inside.files c.self.inside.files c.self.inside.root c.take.new.self None (c.args.first.now ∷ c.args.rest.now) c.in_default.ensures.whole (ap rows c.in_default.ensures.rows)
    c.self.invariant (λ k. refl) c.args.self.now c.self.view_is

pub forget_any-requires : goal.forget_any-requires
forget_any-requires c = λ none.
    none_taken c.self.inside.files (c.args.first.now ∷ c.args.rest.now) c.self.inside.root (Some c.in-Some.removed) c.in-Some.ensures.whole c.self.invariant c.args.self.now c.self.view_is (c.requires none)

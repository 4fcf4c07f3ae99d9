use Rattle.inode_files.proofs.KeptChanges.{file_stands, part_there, place_told, place_held, kept_replaced, seen_replaced}
use Rattle.inode_files.proofs.nodes.Nodes.replace.Goals as goal

pub unreachable-requires-in_default-place_at : goal.unreachable-requires-in_default-place_at
unreachable-requires-in_default-place_at c =
    place_told c.self.inside.files c.self.inside.root c.args.self.now c.self.view_is c.args.path.now c.requires.there c.requires.namespace c.place_at.result c.place_at.ensures c.in_default-place_at.is

pub fill-requires : goal.fill-requires
fill-requires c =
    part_there c.args.path.now c.in-Some.above.now c.in-Some.name.now c.self.inside.root c.in-Some.ensures.cases.0
    (file_stands c.self.inside.files c.self.inside.root c.args.self.now c.self.view_is c.args.path.now c.requires.there c.requires.namespace)

pub replace-requires : goal.replace-requires
replace-requires c =
    place_held c.self.inside.files c.self.inside.root c.args.self.now c.self.view_is c.args.path.now c.requires.there c.requires.namespace c.place_at.result c.in-Some-place_at.place c.place_at.ensures
    c.in-Some-place_at.is

pub invariant_of-self : goal.invariant_of-self
invariant_of-self c =
    kept_replaced c.self.inside.files c.self.inside.root c.args.self.now c.self.view_is c.args.path.now c.requires.there c.requires.namespace c.replace.new.self c.args.file c.place_at.result c.in-Some-place_at.place
    c.place_at.ensures c.in-Some-place_at.is c.replace.ensures c.self.invariant c.new-new.result c.fill.new.self c.args.owner c.args.group c.args.acl c.new-new.ensures
    c.in-Some.above.now c.in-Some.name.now c.in-Some.ensures.cases.0 c.fill.ensures

pub returns : goal.returns
returns c =
    seen_replaced c.self.inside.files c.self.inside.root c.args.self.now c.self.view_is c.args.path.now c.requires.there c.requires.namespace c.replace.new.self c.args.file c.place_at.result c.in-Some-place_at.place
    c.place_at.ensures c.in-Some-place_at.is c.replace.ensures c.self.invariant c.new-new.result c.fill.new.self c.args.owner c.args.group c.args.acl c.new-new.ensures
    c.in-Some.above.now c.in-Some.name.now c.in-Some.ensures.cases.0 c.fill.ensures

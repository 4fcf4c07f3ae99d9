use Rattle.std.proofs.Common.{◌≡◌, ◌∙◌, true, false, refl, sym, ap}
use Rattle.file_states.specs.declared.kind.ObjectKind.TheVariants.{File}
use Rattle.default_acl.specs.Inheritance.{inherited_acl}
use Rattle.file_effects.proofs.Replacement.{below_root, held_by, parent_stands, replaced_file, some_got, none_got}
use Rattle.file_effects.proofs.make.taken_over.Goals as goal

pub unreachable-requires : goal.unreachable-requires
unreachable-requires c = below_root c.args.path.now c.args.tree.now c.root-root.ensures.tree c.requires.file (sym c.in_ok-front.ensures ∙ c.in_default.is)

pub unreachable-requires-in_default-get : goal.unreachable-requires-in_default-get
unreachable-requires-in_default-get c =
    let stands = parent_stands c.args.path.now c.in-Some.front c.args.tree.now c.root-root.ensures.tree c.requires.there (sym c.in_ok-front.ensures ∙ c.in-Some.is) in
    let missing = none_got _ c.get.result _ c.get.ensures.row c.in_default-get.is in
    let both : false ≡ true = sym stands ∙ missing in cc

pub returns-clause-made : goal.returns-clause-made
returns-clause-made c =
    let is = some_got _ c.get.result _ _ c.get.ensures.row c.in-Some-get.is in
    let parent = sym c.in_ok-front.ensures ∙ c.in-Some.is in
    record {
      held = held_by c.args.path.now c.in-Some.front c.args.tree.now c.root-root.ensures.tree c.requires.there parent;
      made = λ file.
          replaced_file c.args.path.now c.in-Some.front c.args.tree.now _ c.args.mode file c.args.owner.now _ _ _ c.root-root.ensures.tree parent is refl
          c.in_ok-owner.ensures.cases (c.in_ok-group.ensures.cases ∙ c.group.ensures) (c.in_ok-acl.ensures.list ∙ ap (λ acl. inherited_acl acl c.args.mode File) c.acl.ensures);
    }

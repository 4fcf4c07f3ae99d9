use Rattle.std.proofs.Common.{◌≡◌, false, ◌∙◌, subst}
use Rattle.std.specs.List.{list_any}
use Rattle.file_blocks.specs.Blocks.{IsLastPlace, has_id}
use Rattle.file_blocks.proofs.Commits.{none_committed, place_committed, committed_each}
use Rattle.file_blocks.proofs.blocks.OwnBlocks.commit.Goals as goal

pub returns-in-Some-clause-last : goal.returns-in-Some-clause-last
returns-in-Some-clause-last c =
    c.replace.ensures ∙ place_committed c.args.id c.args.bytes c.args.self.now c.in-Some.place (subst (λ l. IsLastPlace c.args.id l c.in-Some.place) (c.deref.ensures.value ∙ c.self.view_is) c.in-Some.ensures)

pub returns-in-Some-clause-each : goal.returns-in-Some-clause-each
returns-in-Some-clause-each c =
    λ distinct. c.replace.ensures ∙ place_committed c.args.id c.args.bytes c.args.self.now c.in-Some.place (subst (λ l. IsLastPlace c.args.id l c.in-Some.place) (c.deref.ensures.value ∙ c.self.view_is) c.in-Some.ensures)
    ∙ committed_each c.args.id c.args.bytes c.args.self.now distinct

pub returns-in_default-clause-last : goal.returns-in_default-clause-last
returns-in_default-clause-last c =
    none_committed c.args.id c.args.bytes c.args.self.now (subst (λ l. list_any (has_id c.args.id) l ≡ false) (c.deref.ensures.value ∙ c.self.view_is) c.in_default.ensures)

pub returns-in_default-clause-each : goal.returns-in_default-clause-each
returns-in_default-clause-each c =
    λ distinct. none_committed c.args.id c.args.bytes c.args.self.now (subst (λ l. list_any (has_id c.args.id) l ≡ false) (c.deref.ensures.value ∙ c.self.view_is) c.in_default.ensures)
    ∙ committed_each c.args.id c.args.bytes c.args.self.now distinct

use Rattle.std.proofs.Common.{◌≡◌, ◌∙◌, ℕ, List, [], cond, false, sym, ap, subst}
use Rattle.block_records.specs.Numbers.{is_number}
use Rattle.block_records.proofs.Standing.{IsOrdered, removed_there, removed_ordered, entry_left}
use Rattle.block_index.specs.Relation.{relates, blocks_at}
use Rattle.block_index.proofs.Relations.{none_at, among, taken_none}
use Rattle.block_index.proofs.Written.{blocks_there, blocks_absent}
use Rattle.block_index.proofs.node_blocks.NodeBlocks.take.Goals as goal
use Rattle.block_index.proofs.node_blocks.NodeBlocks.take.Goals.{in-Ok, in-Err}

pub invariant_of-self : goal.invariant_of-self
invariant_of-self c =
    subst (λ (table : List (ℕ × List ℕ)). IsOrdered table) (sym (c.remove.ensures.items ∙ removed_there c.args.node c.self.inside.nodes.items c.in-Ok.at (rw (← c.deref.ensures.value) c.in-Ok.ensures.there)))
    (removed_ordered c.args.node c.self.inside.nodes.items c.self.invariant)

pub returns-clause-blocks : goal.returns-clause-blocks
returns-clause-blocks c =
    let kept : blocks_at c.self.inside.nodes.items c.args.node ≡ blocks_at c.args.self.now c.args.node = ap (λ (table : List (ℕ × List ℕ)). blocks_at table c.args.node) c.self.view_is in
    elim c.match-place_of.branch [
      | in-Ok w ↦ w.blocks-is ∙ (sym (blocks_there c.args.node c.self.inside.nodes.items w.in-Ok.at w.remove.result (rw (← c.deref.ensures.value) w.in-Ok.ensures.there) w.remove.ensures.value) ∙ kept)
      | in-Err w ↦ w.blocks-is ∙ (w.new-blocks.ensures ∙ (sym (blocks_absent c.args.node c.self.inside.nodes.items w.in-Err.field-0 c.self.invariant (rw (← c.deref.ensures.value) w.in-Err.ensures.absent)) ∙ kept))
    ]

pub returns-clause-left : goal.returns-clause-left
returns-clause-left c = elim c.match-place_of.branch [
  | in-Ok w ↦ λ n b.
      ap (λ (table : List (ℕ × List ℕ)). relates table n b) (w.self-is ∙ (w.remove.ensures.items ∙ removed_there c.args.node c.self.inside.nodes.items w.in-Ok.at (rw (← c.deref.ensures.value) w.in-Ok.ensures.there)))
      ∙ (ap (among b) (entry_left c.args.node n c.self.inside.nodes.items c.self.invariant)
      ∙ (none_at (is_number c.args.node n) b _
      ∙ ap (λ (table : List (ℕ × List ℕ)). cond (is_number c.args.node n) false (relates table n b)) c.self.view_is))
  | in-Err w ↦ λ n b.
      let none : blocks_at c.args.self.now c.args.node ≡ [] =
      ap (λ (table : List (ℕ × List ℕ)). blocks_at table c.args.node) (sym c.self.view_is) ∙ blocks_absent c.args.node c.self.inside.nodes.items w.in-Err.field-0 c.self.invariant (rw (← c.deref.ensures.value) w.in-Err.ensures.absent) in
      ap (λ (table : List (ℕ × List ℕ)). relates table n b) w.self-is ∙ taken_none c.args.self.now c.args.node n b none
]

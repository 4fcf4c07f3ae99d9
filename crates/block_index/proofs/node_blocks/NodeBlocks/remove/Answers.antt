use Rattle.std.proofs.Common.{◌∙◌, ◌&&◌, ℕ, List, cond, false, set, ap}
use Rattle.block_records.specs.Numbers.{is_number}
use Rattle.block_index.specs.Relation.{relates}
use Rattle.block_index.proofs.Relations.{related_at}
use Rattle.block_index.proofs.Written.{key_there, written_ordered, entry_written, blocks_there}
use Rattle.block_index.proofs.node_blocks.NodeBlocks.remove.Goals as goal

pub invariant_of-self : goal.invariant_of-self
invariant_of-self c =
    written_ordered c.args.node c.index_mut.result.now.0 c.remove.new.self c.self.inside.nodes.items c.in-Ok.at (ap (λ (entry : ℕ × List ℕ). entry.0) c.index_mut.ensures.value ∙ key_there c.args.node c.self.inside.nodes.items c.in-Ok.at c.index_mut.result.now (rw (← c.deref.ensures.value) c.in-Ok.ensures.there)) (rw (← c.deref.ensures.value) c.in-Ok.ensures.there) c.self.invariant

pub returns-in-Ok : goal.returns-in-Ok
returns-in-Ok c = λ n b.
    related_at false c.self.inside.nodes.items (set c.self.inside.nodes.items c.in-Ok.at (c.index_mut.result.now.0, c.remove.new.self)) c.args.node c.args.block n b c.index_mut.result.now.1 c.remove.new.self
    (blocks_there c.args.node c.self.inside.nodes.items c.in-Ok.at c.index_mut.result.now (rw (← c.deref.ensures.value) c.in-Ok.ensures.there) c.index_mut.ensures.value)
    c.remove.ensures
    (λ q. entry_written c.args.node c.index_mut.result.now.0 c.remove.new.self c.self.inside.nodes.items c.in-Ok.at q (ap (λ (entry : ℕ × List ℕ). entry.0) c.index_mut.ensures.value ∙ key_there c.args.node c.self.inside.nodes.items c.in-Ok.at c.index_mut.result.now (rw (← c.deref.ensures.value) c.in-Ok.ensures.there)) (rw (← c.deref.ensures.value) c.in-Ok.ensures.there))
    ∙ ap (λ (table : List (ℕ × List ℕ)). cond (is_number c.args.block b && is_number c.args.node n) false (relates table n b)) c.self.view_is

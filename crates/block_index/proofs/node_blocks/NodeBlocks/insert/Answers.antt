use Rattle.std.proofs.Common.{◌∙◌, ◌&&◌, ℕ, List, [], cond, true, set, sym, ap, subst}
use Rattle.std.proofs.lemmas.Result.{on_ok_weaker}
use Rattle.std.specs.List.{list_any}
use Rattle.block_records.specs.Numbers.{is_number, entry_at}
use Rattle.block_records.proofs.Standing.{IsOrdered, inserted_in_gap, inserted_ordered, entry_behind}
use Rattle.block_index.specs.Relation.{relates}
use Rattle.block_index.proofs.Relations.{related_at}
use Rattle.block_index.proofs.Written.{key_there, written_ordered, entry_written, blocks_there, blocks_absent}
use Rattle.block_index.proofs.node_blocks.NodeBlocks.insert.Goals as goal

pub invariant_of-self : goal.invariant_of-self
invariant_of-self c =
    written_ordered c.args.node c.index_mut.result.now.0 c.insert.new.self c.self.inside.nodes.items c.in-Ok.at (ap (λ (entry : ℕ × List ℕ). entry.0) c.index_mut.ensures.value ∙ key_there c.args.node c.self.inside.nodes.items c.in-Ok.at c.index_mut.result.now (rw (← c.deref.ensures.value) c.in-Ok.ensures.there)) (rw (← c.deref.ensures.value) c.in-Ok.ensures.there) c.self.invariant

pub invariant_of-self-in-Err : goal.invariant_of-self-in-Err
invariant_of-self-in-Err c =
    subst (λ (table : List (ℕ × List ℕ)). IsOrdered table) (sym (c.in_ok-insert-in-Err-2.ensures.items ∙ inserted_in_gap c.args.node c.insert-in-Err.new.self c.self.inside.nodes.items c.in-Err.at (rw (← c.deref.ensures.value) c.in-Err.ensures.absent))) (inserted_ordered c.args.node c.insert-in-Err.new.self c.self.inside.nodes.items c.self.invariant)

pub returns-in-Ok-clause-ok : goal.returns-in-Ok-clause-ok
returns-in-Ok-clause-ok c = on_ok_weaker c.insert.result (λ put n b.
    related_at true c.self.inside.nodes.items (set c.self.inside.nodes.items c.in-Ok.at (c.index_mut.result.now.0, c.insert.new.self)) c.args.node c.args.block n b c.index_mut.result.now.1 c.insert.new.self
    (blocks_there c.args.node c.self.inside.nodes.items c.in-Ok.at c.index_mut.result.now (rw (← c.deref.ensures.value) c.in-Ok.ensures.there) c.index_mut.ensures.value)
    put
    (λ q. entry_written c.args.node c.index_mut.result.now.0 c.insert.new.self c.self.inside.nodes.items c.in-Ok.at q (ap (λ (entry : ℕ × List ℕ). entry.0) c.index_mut.ensures.value ∙ key_there c.args.node c.self.inside.nodes.items c.in-Ok.at c.index_mut.result.now (rw (← c.deref.ensures.value) c.in-Ok.ensures.there)) (rw (← c.deref.ensures.value) c.in-Ok.ensures.there))
    ∙ ap (λ (table : List (ℕ × List ℕ)). cond (is_number c.args.block b && is_number c.args.node n) true (relates table n b)) c.self.view_is) c.insert.ensures.ok

pub returns-in_ok-insert-in-Err-2-clause-ok : goal.returns-in_ok-insert-in-Err-2-clause-ok
returns-in_ok-insert-in-Err-2-clause-ok c = λ n b.
    related_at true c.self.inside.nodes.items c.insert-in-Err-2.new.self.items c.args.node c.args.block n b [] c.insert-in-Err.new.self
    (blocks_absent c.args.node c.self.inside.nodes.items c.in-Err.at c.self.invariant (rw (← c.deref.ensures.value) c.in-Err.ensures.absent))
    (λ q. c.in_ok-insert-in-Err.ensures.ok q ∙ ap (λ (blocks : List ℕ). cond (is_number c.args.block q) true (list_any (is_number q) blocks)) c.new-blocks.ensures)
    (λ q. ap (entry_at q) (c.in_ok-insert-in-Err-2.ensures.items ∙ inserted_in_gap c.args.node c.insert-in-Err.new.self c.self.inside.nodes.items c.in-Err.at (rw (← c.deref.ensures.value) c.in-Err.ensures.absent)) ∙ entry_behind c.args.node c.insert-in-Err.new.self q c.self.inside.nodes.items)
    ∙ ap (λ (table : List (ℕ × List ℕ)). cond (is_number c.args.block b && is_number c.args.node n) true (relates table n b)) c.self.view_is

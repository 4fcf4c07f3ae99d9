use Rattle.std.proofs.Common.{◌≡◌, ◌∙◌, ap, cond, true, false, ◌&&◌, rules, ℕ}
use Rattle.block_records.specs.Numbers.{is_number, has_number}
use Rattle.block_index.specs.Relation.{relates}
use Rattle.block_index.proofs.Relations.{not_of_front}
use Rattle.block_index.proofs.node_blocks.NodeBlocks.insert_front.Goals as goal

pub returns-in_err-insert-clause-err : goal.returns-in_err-insert-clause-err
returns-in_err-insert-clause-err c =
    let kept : (n b : ℕ) → (is_number c.args.block b && has_number n c.args.nodes.now) ≡ false → relates c.insert.new.self n b ≡ relates c.args.self.now n b =
    λ n b lacks.
    ap (λ table. relates table n b) c.in_err-insert.ensures.err
    ∙ c.loop-node.invariant n b
    ∙ ap (λ x. cond x true (relates c.args.self.now n b)) (not_of_front (is_number c.args.block b) n c.args.nodes.now c.loop-node.node-index lacks) in
    search (rules, kept)

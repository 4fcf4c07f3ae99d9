use Rattle.std.proofs.Common.{◌≡◌, ◌∙◌, List, ℕ, sym, ap, subst, length, rules}
use Rattle.std.specs.List.Sorted.{IsStrictlySortedBy}
use Rattle.std.specs.Ordering.{nat_cmp}
use Rattle.block_index.specs.Relation.{blocks_at}
use Rattle.block_index.proofs.Relations.{none_ascending}
use Rattle.block_index.proofs.Written.{blocks_there, blocks_absent}
use Rattle.block_index.proofs.node_blocks.NodeBlocks.count.Goals as goal

pub returns-in-Ok-clause-count : goal.returns-in-Ok-clause-count
returns-in-Ok-clause-count c =
    let is : c.index.result.now.1 ≡ blocks_at c.args.self.now c.args.node = sym (blocks_there c.args.node c.self.inside.nodes.items c.in-Ok.at c.index.result.now (rw (← c.deref.ensures.value) c.in-Ok.ensures.there) c.index.ensures) ∙ ap (λ (table : List (ℕ × List ℕ)). blocks_at table c.args.node) c.self.view_is in
    c.len.ensures.count ∙ ap length is

pub returns-in-Ok-clause-ascending : goal.returns-in-Ok-clause-ascending
returns-in-Ok-clause-ascending c =
    let is : c.index.result.now.1 ≡ blocks_at c.args.self.now c.args.node = sym (blocks_there c.args.node c.self.inside.nodes.items c.in-Ok.at c.index.result.now (rw (← c.deref.ensures.value) c.in-Ok.ensures.there) c.index.ensures) ∙ ap (λ (table : List (ℕ × List ℕ)). blocks_at table c.args.node) c.self.view_is in
    subst (λ (blocks : List ℕ). IsStrictlySortedBy nat_cmp blocks) is c.len.ensures.ascending

pub returns-in-Err-clause-ascending : goal.returns-in-Err-clause-ascending
returns-in-Err-clause-ascending c =
    subst (λ (blocks : List ℕ). IsStrictlySortedBy nat_cmp blocks) (sym (blocks_absent c.args.node c.self.inside.nodes.items c.in-Err.field-0 c.self.invariant (rw (← c.deref.ensures.value) c.in-Err.ensures.absent)) ∙ ap (λ (table : List (ℕ × List ℕ)). blocks_at table c.args.node) c.self.view_is) none_ascending

pub returns-in-Err-clause-count : goal.returns-in-Err-clause-count
returns-in-Err-clause-count c = search rules

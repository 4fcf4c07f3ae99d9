use Rattle.std.proofs.Common.{◌≡◌, ◌∙◌, ◌≤◌, sym, ℕ, List, length, IfOk, subst, rules}
use Rattle.std.proofs.lemmas.Bool.{leb-true}
use Rattle.block_placement.proofs.Few.{all_targets}
use Rattle.block_tables.specs.Kept.{load}
use Rattle.block_tables.proofs.block_table.BlockTable.targets.Goals as goal

pub returns-then-are_no_more_than : goal.returns-then-are_no_more_than
returns-then-are_no_more_than c =
    let few : length c.args.nodes.now ≤ c.args.count = leb-true (length c.args.nodes.now) c.args.count (sym c.are_no_more_than.ensures ∙ c.if-are_no_more_than.true) in
    let copied : IfOk c.clone.result (λ chosen. chosen ≡ c.args.nodes.now) = search rules in
    subst (λ (nodes : List ℕ). IfOk c.clone.result (λ chosen. chosen ≡ nodes)) (all_targets (load c.args.self.now) c.args.count c.args.nodes.now few) copied

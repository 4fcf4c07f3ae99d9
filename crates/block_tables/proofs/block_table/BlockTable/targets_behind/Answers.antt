use Rattle.std.proofs.Common.{◌≡◌, ◌∙◌, ◌≤◌, ap, sym, subst, ℕ, List, length, IfOk, rules}
use Rattle.std.proofs.lemmas.Bool.{leb-true}
use Rattle.block_placement.proofs.Few.{all_targets}
use Rattle.block_placement.specs.Placement.{targets}
use Rattle.block_tables.specs.Changes.{with_record_changed, with_length}
use Rattle.block_tables.specs.Kept.{load, load_without}
use Rattle.block_tables.proofs.block_table.BlockTable.targets_behind.Goals as goal

pub returns : goal.returns
returns c =
    let same : load_without c.args.self.now c.deref.result.now ≡ load (with_record_changed (with_length c.args.bytes) c.args.block c.args.self.now) =
    λ i node. (ap (λ nodes. load_without c.args.self.now nodes node) c.deref.ensures.value ∙ c.in_ok-leaving.ensures node) i in
    subst (λ (loads : ℕ → ℕ). IfOk c.targets_without.result (λ chosen. chosen ≡ targets loads c.args.count c.args.nodes.now)) same c.targets_without.ensures

pub returns-then-are_no_more_than : goal.returns-then-are_no_more_than
returns-then-are_no_more_than c =
    let few : length c.args.nodes.now ≤ c.args.count = leb-true (length c.args.nodes.now) c.args.count (sym c.are_no_more_than.ensures ∙ c.if-are_no_more_than.true) in
    let copied : IfOk c.clone.result (λ chosen. chosen ≡ c.args.nodes.now) = search rules in
    subst (λ (nodes : List ℕ). IfOk c.clone.result (λ chosen. chosen ≡ nodes)) (all_targets (load (with_record_changed (with_length c.args.bytes) c.args.block c.args.self.now)) c.args.count c.args.nodes.now few) copied

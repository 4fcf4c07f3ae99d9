use Rattle.std.proofs.Common.{◌≡◌, ◌∙◌, ℕ, List, filter, take, subst, ap, rules}
use Rattle.std.proofs.lemmas.List.{take_all}
use Rattle.std.specs.List.{list_any}
use Rattle.std.specs.Map.{keys_of}
use Rattle.block_records.specs.Numbers.{is_number}
use Rattle.block_records.proofs.Standing.{IsOrdered}
use Rattle.block_index.proofs.Busy.{is_busy_entry, busy_by_entries}
use Rattle.block_index.proofs.Relations.{busy_listed}
use Rattle.block_index.proofs.node_blocks.NodeBlocks.are_busy_among.Goals as goal

pub returns : goal.returns
returns c = λ yes n b some.
    let up = subst (λ (table : List (ℕ × List ℕ)). IsOrdered table) c.self.view_is c.self.invariant in
    let busy = ap (list_any (is_number n)) (busy_by_entries c.args.self.now up) ∙ busy_listed n b c.args.self.now some in
    let all : take c.loop-entry.entry-index c.args.self.now ≡ c.args.self.now =
    subst (λ (table : List (ℕ × List ℕ)). take c.loop-entry.entry-index table ≡ table) (c.deref-entry-items.ensures.value ∙ c.self.view_is) (take_all c.loop-entry.entry-index c.deref-entry-items.result.now (search rules)) in
    c.loop-entry.invariant.among n (ap (λ (table : List (ℕ × List ℕ)). list_any (is_number n) (keys_of (filter is_busy_entry table))) all ∙ busy)

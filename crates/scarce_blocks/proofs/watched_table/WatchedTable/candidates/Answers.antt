use Rattle.std.proofs.Common.{◌≡◌, ◌∙◌, ℕ, true, List, IfOk, ap, sym, subst, refl}
use Rattle.std.specs.List.{list_any}
use Rattle.block_records.specs.Numbers.{is_number}
use Rattle.block_records.specs.declared.block_record.BlockRecord.{BlockRecord}
use Rattle.block_tables.specs.Kept.{holds, blocks_on}
use Rattle.scarce_blocks.specs.Scarce.{CoversLacking}
use Rattle.scarce_blocks.proofs.Covering.{covers_listed, covers_own, listed_covers, own_ascend}
use Rattle.scarce_blocks.proofs.watched_table.WatchedTable.candidates.Goals as goal

pub returns-then-are_holders_among-clause-covers : goal.returns-then-are_holders_among-clause-covers
returns-then-are_holders_among-clause-covers c =
    let table = c.self.inside.table in
    let live = c.args.live.now in
    let all : (n block : ℕ) → holds table n block ≡ true → list_any (is_number n) live ≡ true =
    λ n block held. ap (list_any (is_number n)) (sym c.as_slice.ensures.nodes) ∙ c.if-are_holders_among.ensures refl n block held
    in
    subst
    (λ (own : List (ℕ × BlockRecord)). IfOk c.to_vec.result (λ blocks. CoversLacking own live c.args.node blocks.items))
    c.self.view_is
    (listed_covers c.to_vec.result (λ blocks. blocks.items) table c.self.inside.scarce live c.args.node
    (covers_listed table c.self.inside.scarce live c.args.node c.as_slice.ensures.ascending (c.self.invariant c.if-self.true) all) c.to_vec.ensures.blocks)

pub returns-clause-covers : goal.returns-clause-covers
returns-clause-covers c =
    let table = c.self.inside.table in
    subst
    (λ (own : List (ℕ × BlockRecord)). IfOk c.blocks_of.result (λ blocks. CoversLacking own c.args.live.now c.args.node blocks.items))
    c.self.view_is
    (listed_covers c.blocks_of.result (λ blocks. blocks.items) table (blocks_on table c.args.node) c.args.live.now c.args.node
    (covers_own table c.args.live.now c.args.node c.len-count.ensures.ascending) c.blocks_of.ensures.blocks)

pub returns-clause-ascending : goal.returns-clause-ascending
returns-clause-ascending c = own_ascend c.blocks_of.result (λ blocks. blocks.items) c.self.inside.table c.args.node c.len-count.ensures.ascending c.blocks_of.ensures.blocks

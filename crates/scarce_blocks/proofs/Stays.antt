-- The records of blocks behind a change of one.
use Rattle.std.proofs.Common.{◌≡◌, ◌∙◌, ℕ, false, List, Option, Some, None, refl, ap, cond}
use Rattle.std.proofs.lemmas.Map.{lookup-set_value}
use Rattle.std.specs.Cmp.{eq_by_cmp_equiv, nat_cmp_total}
use Rattle.std.specs.Map.{set_value}
use Rattle.std.specs.Option.{is_some}
use Rattle.block_records.specs.Numbers.{is_number, entry_at}
use Rattle.block_records.specs.declared.block_record.BlockRecord.{BlockRecord}
use Rattle.block_records.proofs.Numbers.{number_is}
use Rattle.block_tables.specs.Changes.{changed_by}

pub put_at : (block q : ℕ) (table : List (ℕ × BlockRecord)) (own new : BlockRecord) → entry_at block table ≡ Some own
    → entry_at q (set_value (is_number block) table new) ≡ cond (is_number block q) (Some new) (entry_at q table)
put_at block q table own new there =
    lookup-set_value (eq_by_cmp_equiv nat_cmp_total) (is_number block) (λ x y at. ap (λ n. is_number n y) (number_is block x at)) q new table (ap is_some there)

-- other blocks stay as they are
pub others_stay : (change : BlockRecord → BlockRecord) (block q : ℕ) (table : List (ℕ × BlockRecord)) (found : Option BlockRecord) → entry_at block table ≡ found → is_number block q ≡ false
    → entry_at q (changed_by change block found table) ≡ entry_at q table
others_stay change block q table None there apart = refl
others_stay change block q table (Some own) there apart = put_at block q table own (change own) there ∙ ap (λ b. cond b (Some (change own)) (entry_at q table)) apart

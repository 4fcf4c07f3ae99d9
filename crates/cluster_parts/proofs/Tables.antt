-- A table whose entry was written back unchanged.
use Rattle.std.proofs.Common.{◌≡◌, ℕ, List, sym, ap, ◌∙◌, Some, Result, Ok, Err}
use Rattle.std.specs.Prelude.{OnErr}
use Rattle.std.specs.Map.{set_value}
use Rattle.std.proofs.lemmas.Map.Steps.{set_value_same}
use Rattle.block_records.specs.Numbers.{is_number, entry_at}

pub unchanged : {X A E : Type 0} (r : Result A E) (number : ℕ) (table left now : List (ℕ × X)) (old new : X)
    → left ≡ set_value (is_number number) table new → Some old ≡ entry_at number table → table ≡ now → new ≡ old → OnErr r (left ≡ now)
unchanged (Ok a) number table left now old new put found seen same = tt
unchanged (Err e) number table left now old new put found seen same = put ∙ (ap (set_value (is_number number) table) same ∙ (set_value_same (is_number number) table old (sym found) ∙ seen))

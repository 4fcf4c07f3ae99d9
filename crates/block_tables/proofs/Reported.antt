-- The table behind a report, which is valid or not.
use Rattle.std.proofs.Common.{◌≡◌, ◌∙◌, ℕ, List, Option, Some, None, refl, sym, ap}
use Rattle.std.specs.Map.{set_value}
use Rattle.std.specs.Option.{is_some}
use Rattle.block_records.specs.Numbers.{is_number, entry_at}
use Rattle.block_records.specs.Verdicts.{verdict_by}
use Rattle.block_records.specs.declared.block_record.BlockRecord.{BlockRecord}
use Rattle.block_records.specs.declared.report.ReportVerdict.{ReportVerdict}
use Rattle.block_records.specs.declared.report.ReportVerdict.TheVariants.{Superseded, Invalid, Valid}
use Rattle.block_index.proofs.Relations.{written_back}
use Rattle.block_tables.specs.Changes.{with_record_changed, changed_by, with_report, with_valid_report, valid_by}

changed_there : (change : BlockRecord → BlockRecord) (block : ℕ) (own : BlockRecord) (table : List (ℕ × BlockRecord)) → entry_at block table ≡ Some own
    → with_record_changed change block table ≡ set_value (is_number block) table (change own)
changed_there change block own table there = ap (λ found. changed_by change block found table) there

not_valid : (verdict : ReportVerdict) (node length : ℕ) (own : BlockRecord) → (verdict ≡ Valid → ⊥) → valid_by verdict node length own ≡ own
not_valid Superseded node length own other = refl
not_valid Invalid node length own other = refl
not_valid Valid node length own other = absurd (other refl)

-- a report that isn't valid leaves the table as it was
pub unreported : (node stamp length block : ℕ) (own : BlockRecord) (table : List (ℕ × BlockRecord)) → entry_at block table ≡ Some own → (verdict_by (Some own) stamp length ≡ Valid → ⊥)
    → with_record_changed (with_valid_report node stamp length) block table ≡ table
unreported node stamp length block own table there other =
    changed_there (with_valid_report node stamp length) block own table there
    ∙ (ap (set_value (is_number block) table) (not_valid (verdict_by (Some own) stamp length) node length own other)
    ∙ written_back (is_number block) table (set_value (is_number block) table own) own there refl)

-- one that is valid is noted
pub reported : (node stamp length block : ℕ) (own : BlockRecord) (table : List (ℕ × BlockRecord)) → entry_at block table ≡ Some own → verdict_by (Some own) stamp length ≡ Valid
    → set_value (is_number block) table (with_report node length own) ≡ with_record_changed (with_valid_report node stamp length) block table
reported node stamp length block own table there valid =
    sym (changed_there (with_valid_report node stamp length) block own table there
    ∙ ap (λ verdict. set_value (is_number block) table (valid_by verdict node length own)) valid)

-- the same of a block that may not be known
pub is_not_reported : (node stamp length block : ℕ) (table : List (ℕ × BlockRecord)) (found : Option BlockRecord) → entry_at block table ≡ found → (verdict_by found stamp length ≡ Valid → ⊥)
    → with_record_changed (with_valid_report node stamp length) block table ≡ table
is_not_reported node stamp length block table None there other = ap (λ found. changed_by (with_valid_report node stamp length) block found table) there
is_not_reported node stamp length block table (Some own) there other = unreported node stamp length block own table there other

-- a report begins and ends no recovery
pub still_recovering : (verdict : ReportVerdict) (node length : ℕ) (own : BlockRecord) → is_some (valid_by verdict node length own).recovering ≡ is_some own.recovering
still_recovering Superseded node length own = refl
still_recovering Invalid node length own = refl
still_recovering Valid node length own = refl

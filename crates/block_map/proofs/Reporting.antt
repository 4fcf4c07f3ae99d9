-- What is known behind a report, by its verdict.
use Rattle.std.proofs.Common.{◌≡◌, ◌∙◌, ℕ, List, Result, Ok, Err, refl, sym, ap}
use Rattle.std.specs.Result.{OnOk, OnErr}
use Rattle.block_records.specs.Verdicts.{verdict_by}
use Rattle.block_records.specs.declared.block_record.BlockRecord.{BlockRecord}
use Rattle.block_records.specs.declared.report.ReportVerdict.{ReportVerdict}
use Rattle.block_records.specs.declared.report.ReportVerdict.TheVariants.{Superseded, Invalid, Valid}
use Rattle.block_tables.specs.Changes.{with_valid_report}
use Rattle.block_tables.proofs.Reported.{is_not_reported}
use Rattle.known_blocks.specs.Known.{KnownBlocks, block_of, with_block_changed}
use Rattle.block_map.specs.BlockFacts.{Blocks}
use Rattle.block_map.specs.BlockEffects.{reported_by, with_replica_reported}

pub superseded_valid : {A : Type 0} → Superseded ≡ Valid → A
superseded_valid e = cc

pub invalid_valid : {A : Type 0} → Invalid ≡ Valid → A
invalid_valid e = cc

-- a report that isn't valid leaves what is known as it was
pub stays : (verdict : ReportVerdict) (node stamp length block : ℕ) (known new : KnownBlocks) → (verdict ≡ Valid → ⊥) → verdict ≡ verdict_by (block_of known block) stamp length
    → new ≡ with_block_changed (with_valid_report node stamp length) block known → new ≡ known
stays verdict node stamp length block known new other told is =
    is ∙ ap (λ (blocks : List (ℕ × BlockRecord)). record known { blocks = blocks })
    (is_not_reported node stamp length block known.blocks (block_of known block) refl (λ valid. other (told ∙ valid)))

-- what becomes of a report with that verdict
pub reported_as : (verdict : ReportVerdict) (facts : Blocks) (known : KnownBlocks) (node block stamp length : ℕ) → facts.known ≡ known → verdict ≡ verdict_by (block_of known block) stamp length
    → with_replica_reported facts node block stamp length ≡ reported_by verdict facts node block stamp length
reported_as verdict facts known node block stamp length is told =
    ap (λ verdict. reported_by verdict facts node block stamp length) (ap (λ (known : KnownBlocks). verdict_by (block_of known block) stamp length) is ∙ sym told)

pub on_ok : {A E : Type 0} {P Q : Type 0} (r : Result A E) → (P → Q) → OnOk r P → OnOk r Q
on_ok (Ok a) f p = f p
on_ok (Err e) f p = tt

pub on_err : {A E : Type 0} {P Q : Type 0} (r : Result A E) → (P → Q) → OnErr r P → OnErr r Q
on_err (Ok a) f p = tt
on_err (Err e) f p = f p

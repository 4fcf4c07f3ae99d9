-- The blocks that too few nodes report are listed, behind a change of one block.
use Rattle.std.proofs.Common.{◌≡◌, ◌≤◌, ◌∙◌, ◌||◌, ℕ, Bool, true, false, nat_le, List, [], ◌∷◌, length, Option, Some, None, IfSome, refl, sym, ap, subst, cond, true≢false, arith}
use Rattle.std.proofs.lemmas.Bool.{leb-true}
use Rattle.std.specs.BTreeMap.{insert_entry}
use Rattle.std.specs.List.{list_any}
use Rattle.std.specs.List.Sorted.{IsStrictlySortedBy}
use Rattle.std.specs.Map.{keys_of}
use Rattle.std.specs.Option.{is_some, is_none}
use Rattle.std.specs.Ordering.{nat_cmp, match_ordering}
use Rattle.std.specs.declared.cmp.Ordering.{Ordering}
use Rattle.std.specs.declared.cmp.Ordering.TheVariants.{Less, Equal, Greater}
use Rattle.block_records.specs.Numbers.{is_number, entry_at}
use Rattle.block_records.specs.Verdicts.{verdict_by}
use Rattle.block_records.specs.declared.block_record.BlockRecord.{BlockRecord}
use Rattle.block_records.specs.declared.report.ReportVerdict.{ReportVerdict}
use Rattle.block_records.specs.declared.report.ReportVerdict.TheVariants.{Superseded, Invalid, Valid}
use Rattle.block_records.proofs.Numbers.{number_is}
use Rattle.block_records.proofs.Standing.{inserted_ordered}
use Rattle.block_tables.specs.Ample.{is_ample}
use Rattle.block_tables.specs.Changes.{with_record_changed, changed_by, with_report, with_valid_report, valid_by, with_hand_out, with_hand_outs}
use Rattle.scarce_blocks.specs.Scarce.{IsAmple, AreAmple, AreOthersAmple}
use Rattle.scarce_blocks.proofs.Stays.{put_at, others_stay}

-- ---- all blocks but one that changed

pub others_changed : (change : BlockRecord → BlockRecord) (block : ℕ) (table new : List (ℕ × BlockRecord)) (scarce : List ℕ) → new ≡ with_record_changed change block table → AreAmple table scarce → AreOthersAmple block new scarce
others_changed change block table new scarce is law q apart unlisted =
    subst IsAmple (sym (ap (entry_at q) is ∙ others_stay change block q table (entry_at block table) refl apart)) (law q unlisted)

pub others_put : (block : ℕ) (own : Option BlockRecord) (table new : List (ℕ × BlockRecord)) (scarce : List ℕ) → ((q : ℕ) → entry_at q new ≡ cond (is_number block q) own (entry_at q table))
    → AreAmple table scarce → AreOthersAmple block new scarce
others_put block own table new scarce put law q apart unlisted = subst IsAmple (sym (put q ∙ ap (λ b. cond b own (entry_at q table)) apart)) (law q unlisted)

pub others_same : (table new : List (ℕ × BlockRecord)) (scarce : List ℕ) → new ≡ table → AreAmple table scarce → AreAmple new scarce
others_same table new scarce is law q unlisted = subst IsAmple (sym (ap (entry_at q) is)) (law q unlisted)

-- ---- that one is looked at

-- it is listed no more
pub ample_less : (block : ℕ) (table : List (ℕ × BlockRecord)) (scarce less : List ℕ) → IsAmple (entry_at block table)
    → ((q : ℕ) → list_any (is_number q) less ≡ cond (is_number block q) false (list_any (is_number q) scarce)) → AreOthersAmple block table scarce → AreAmple table less
ample_less block table scarce less ample taken law q unlisted = by (is_number block q) refl
  where
    by : (b : Bool) → is_number block q ≡ b → IsAmple (entry_at q table)
    by true at = subst (λ n. IsAmple (entry_at n table)) (number_is block q at) ample
    by false apart = law q apart (sym (taken q ∙ ap (λ b. cond b false (list_any (is_number q) scarce)) apart) ∙ unlisted)

-- it is listed
pub ample_more : (block : ℕ) (table : List (ℕ × BlockRecord)) (scarce more : List ℕ)
    → ((q : ℕ) → list_any (is_number q) more ≡ cond (is_number block q) true (list_any (is_number q) scarce)) → AreOthersAmple block table scarce → AreAmple table more
ample_more block table scarce more put law q unlisted = by (is_number block q) refl
  where
    by : (b : Bool) → is_number block q ≡ b → IsAmple (entry_at q table)
    by true at = absurd (true≢false (sym (put q ∙ ap (λ b. cond b true (list_any (is_number q) scarce)) at) ∙ unlisted))
    by false apart = law q apart (sym (put q ∙ ap (λ b. cond b true (list_any (is_number q) scarce)) apart) ∙ unlisted)

pub uncommitted : (own : BlockRecord) → is_some own.committed ≡ false → IsAmple (Some own)
uncommitted own none some = absurd (true≢false (sym some ∙ none))

-- what the table tells of it
pub told_ample : (found : Option BlockRecord) → IfSome found (λ own. IsStrictlySortedBy nat_cmp (keys_of own.reports)) → is_ample found ≡ true → IsAmple found
told_ample None up told = tt
told_ample (Some own) up told = λ some. (enough own.committed some told, up)
  where
    enough : (committed : Option ℕ) → is_some committed ≡ true → (is_none committed || nat_le own.replication (length own.reports)) ≡ true → own.replication ≤ length own.reports
    enough None some many = absurd (true≢false (sym some))
    enough (Some bytes) some many = leb-true own.replication (length own.reports) many

-- ---- a report more

longer : (node bytes : ℕ) (reports : List (ℕ × ℕ)) → length reports ≤ length (insert_entry nat_cmp reports node bytes)
longer node bytes [] = omega arith
longer node bytes (report ∷ reports) = by (nat_cmp node report.0) (longer node bytes reports)
  where
    by : (o : Ordering) → length reports ≤ length (insert_entry nat_cmp reports node bytes)
        → length (report ∷ reports) ≤ length (match_ordering o ((node, bytes) ∷ report ∷ reports) ((report.0, bytes) ∷ reports) (report ∷ insert_entry nat_cmp reports node bytes))
    by Less rest = omega arith
    by Equal rest = omega arith
    by Greater rest = omega (arith, rest)

-- leaves a block with enough of them
ample_reported : (node bytes : ℕ) (own : BlockRecord) → IsAmple (Some own) → IsAmple (Some (with_report node bytes own))
ample_reported node bytes own ample some =
    let enough : own.replication ≤ length own.reports = (ample some).0 in
    let more : length own.reports ≤ length (insert_entry nat_cmp own.reports node bytes) = longer node bytes own.reports in
    (omega (arith, enough, more), inserted_ordered node bytes own.reports (ample some).1)

-- and so does one that isn't valid
ample_by : (verdict : ReportVerdict) (node bytes : ℕ) (own : BlockRecord) → IsAmple (Some own) → IsAmple (Some (valid_by verdict node bytes own))
ample_by Superseded node bytes own ample = ample
ample_by Invalid node bytes own ample = ample
ample_by Valid node bytes own ample = ample_reported node bytes own ample

ample_behind : (node stamp bytes block q : ℕ) (table : List (ℕ × BlockRecord)) (found : Option BlockRecord) → entry_at block table ≡ found → IsAmple (entry_at q table)
    → IsAmple (entry_at q (changed_by (with_valid_report node stamp bytes) block found table))
ample_behind node stamp bytes block q table None there ample = ample
ample_behind node stamp bytes block q table (Some own) there ample =
    subst IsAmple (sym (put_at block q table own (with_valid_report node stamp bytes own) there)) (by (is_number block q) refl)
  where
    by : (b : Bool) → is_number block q ≡ b → IsAmple (cond b (Some (with_valid_report node stamp bytes own)) (entry_at q table))
    by true at =
        let same : entry_at q table ≡ Some own = ap (λ n. entry_at n table) (sym (number_is block q at)) ∙ there in
        let whole : IsAmple (Some own) = subst IsAmple same ample in
        ample_by (verdict_by (Some own) stamp bytes) node bytes own whole
    by false apart = ample

pub ample_held : (node stamp bytes block : ℕ) (table new : List (ℕ × BlockRecord)) (scarce : List ℕ) → new ≡ with_record_changed (with_valid_report node stamp bytes) block table
    → AreAmple table scarce → AreAmple new scarce
ample_held node stamp bytes block table new scarce is law q unlisted =
    subst (λ left. IsAmple (entry_at q left)) (sym is) (ample_behind node stamp bytes block q table (entry_at block table) refl (law q unlisted))

-- ---- hand-outs change nothing of it

ample_told : (now block q : ℕ) (table : List (ℕ × BlockRecord)) (found : Option BlockRecord) → entry_at block table ≡ found → IsAmple (entry_at q table)
    → IsAmple (entry_at q (changed_by (with_hand_out now) block found table))
ample_told now block q table None there ample = ample
ample_told now block q table (Some own) there ample = subst IsAmple (sym (put_at block q table own (with_hand_out now own) there)) (by (is_number block q) refl)
  where
    by : (b : Bool) → is_number block q ≡ b → IsAmple (cond b (Some (with_hand_out now own)) (entry_at q table))
    by true at =
        let same : entry_at q table ≡ Some own = ap (λ n. entry_at n table) (sym (number_is block q at)) ∙ there in
        let whole : IsAmple (Some own) = subst IsAmple same ample in
        whole
    by false apart = ample

pub ample_handed : (now : ℕ) (blocks : List ℕ) (table new : List (ℕ × BlockRecord)) (scarce : List ℕ) → new ≡ with_hand_outs now table blocks → AreAmple table scarce → AreAmple new scarce
ample_handed now [] table new scarce is law = others_same table new scarce is law
ample_handed now (block ∷ blocks) table new scarce is law =
    ample_handed now blocks (with_record_changed (with_hand_out now) block table) new scarce is (λ q unlisted. ample_told now block q table (entry_at block table) refl (law q unlisted))

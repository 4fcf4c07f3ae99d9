-- The blocks that are being recovered are listed, so those whose recovery is due are among these.
use Rattle.std.proofs.Common.{◌≡◌, ℕ, Bool, true, false, ◌&&◌, List, [], ◌∷◌, filter, Option, Some, None, Result, Ok, Err, refl, sym, ap, ◌∙◌, cond, true≢false}
use Rattle.std.proofs.lemmas.List.Kept.{IsStrictlySortedBy-filter}
use Rattle.std.proofs.lemmas.Map.Entries.{lookup-filter-values, option_filter}
use Rattle.std.proofs.lemmas.Map.Keys.{IsDistinct-from_sorted}
use Rattle.std.proofs.lemmas.Map.Views.{any-filter_same}
use Rattle.std.specs.Cmp.{eq_by_cmp_equiv, nat_cmp_total}
use Rattle.std.specs.List.{list_any}
use Rattle.std.specs.List.Sorted.{IsStrictlySortedBy}
use Rattle.std.specs.Map.{keys_of}
use Rattle.std.specs.Option.{is_some}
use Rattle.std.specs.Result.{OnOk, OnErr}
use Rattle.std.specs.Ordering.{nat_cmp}
use Rattle.block_records.specs.Numbers.{is_number, entry_at}
use Rattle.block_records.specs.declared.block_record.BlockRecord.{BlockRecord}
use Rattle.block_records.proofs.Ascending.{same_ascending, kept_ascending}
use Rattle.block_records.proofs.Numbers.{number_is}
use Rattle.block_tables.specs.Changes.{with_record_changed, changed_by, with_recovery, with_recovered, with_hand_out, with_hand_outs}
use Rattle.block_tables.proofs.Held.{has_entry}
use Rattle.scarce_blocks.proofs.Stays.{put_at, others_stay}
use Rattle.known_blocks.specs.Kept.{AreListed, is_recovering_by}
use Rattle.known_blocks.specs.Known.{is_due, is_due_by}

-- ---- a block whose record changes

recovering_still : (change : BlockRecord → BlockRecord) (block q : ℕ) (table : List (ℕ × BlockRecord)) (found : Option BlockRecord) → entry_at block table ≡ found
    → ((own : BlockRecord) → is_some (change own).recovering ≡ is_some own.recovering)
    → is_recovering_by (entry_at q (changed_by change block found table)) ≡ is_recovering_by (entry_at q table)
recovering_still change block q table None there still = refl
recovering_still change block q table (Some own) there still = ap is_recovering_by (put_at block q table own (change own) there) ∙ by (is_number block q) refl
  where
    by : (b : Bool) → is_number block q ≡ b → is_recovering_by (cond b (Some (change own)) (entry_at q table)) ≡ is_recovering_by (entry_at q table)
    by true at = still own ∙ (ap is_recovering_by (sym there) ∙ ap (λ n. is_recovering_by (entry_at n table)) (number_is block q at))
    by false apart = refl

-- ---- what stays listed

-- a change of a block that leaves its recovery alone
pub listed_still : (change : BlockRecord → BlockRecord) (block : ℕ) (table new : List (ℕ × BlockRecord)) (running : List ℕ) → new ≡ with_record_changed change block table
    → ((own : BlockRecord) → is_some (change own).recovering ≡ is_some own.recovering) → AreListed table running → AreListed new running
listed_still change block table new running is still law q recovers =
    law q (sym (ap (λ t. is_recovering_by (entry_at q t)) is ∙ recovering_still change block q table (entry_at block table) refl still) ∙ recovers)

pub listed_alike : (table new : List (ℕ × BlockRecord)) (running : List ℕ) → new ≡ table → AreListed table running → AreListed new running
listed_alike table new running is law q recovers = law q (sym (ap (λ t. is_recovering_by (entry_at q t)) is) ∙ recovers)

pub listed_where_done : {A E : Type 0} (r : Result A E) (change : BlockRecord → BlockRecord) (block : ℕ) (table new : List (ℕ × BlockRecord)) (running : List ℕ)
    → OnOk r (new ≡ with_record_changed change block table) → OnErr r (new ≡ table) → ((own : BlockRecord) → is_some (change own).recovering ≡ is_some own.recovering)
    → AreListed table running → AreListed new running
listed_where_done (Ok u) change block table new running ok err still law = listed_still change block table new running ok still law
listed_where_done (Err e) change block table new running ok err still law = listed_alike table new running err law

pub listed_handed : (now : ℕ) (blocks : List ℕ) (table new : List (ℕ × BlockRecord)) (running : List ℕ) → new ≡ with_hand_outs now table blocks → AreListed table running → AreListed new running
listed_handed now [] table new running is law = listed_alike table new running is law
listed_handed now (block ∷ blocks) table new running is law =
    listed_handed now blocks (with_record_changed (with_hand_out now) block table) new running is
    (listed_still (with_hand_out now) block table (with_record_changed (with_hand_out now) block table) running refl (λ own. refl) law)

-- a new block isn't being recovered
pub listed_new : (block : ℕ) (own : BlockRecord) (table new : List (ℕ × BlockRecord)) (running : List ℕ) → ((q : ℕ) → entry_at q new ≡ cond (is_number block q) (Some own) (entry_at q table))
    → is_some own.recovering ≡ false → AreListed table running → AreListed new running
listed_new block own table new running put idle law q recovers = by (is_number block q) (sym (ap is_recovering_by (put q)) ∙ recovers)
  where
    by : (b : Bool) → is_recovering_by (cond b (Some own) (entry_at q table)) ≡ true → list_any (is_number q) running ≡ true
    by true some = absurd (true≢false (sym some ∙ idle))
    by false some = law q some

-- one more is listed
pub listed_more : (block : ℕ) (table : List (ℕ × BlockRecord)) (running more : List ℕ)
    → ((q : ℕ) → list_any (is_number q) more ≡ cond (is_number block q) true (list_any (is_number q) running)) → AreListed table running → AreListed table more
listed_more block table running more put law q recovers = put q ∙ by (is_number block q)
  where
    by : (b : Bool) → cond b true (list_any (is_number q) running) ≡ true
    by true = refl
    by false = law q recovers

pub listed_begun : (stamp now block : ℕ) (table new : List (ℕ × BlockRecord)) (running more : List ℕ) → new ≡ with_record_changed (with_recovery stamp now) block table
    → ((q : ℕ) → list_any (is_number q) more ≡ cond (is_number block q) true (list_any (is_number q) running)) → AreListed table running → AreListed new more
listed_begun stamp now block table new running more is put law q recovers = put q ∙ by (is_number block q) refl
  where
    by : (b : Bool) → is_number block q ≡ b → cond b true (list_any (is_number q) running) ≡ true
    by true at = refl
    by false apart = law q (sym (ap (λ t. is_recovering_by (entry_at q t)) is ∙ ap is_recovering_by (others_stay (with_recovery stamp now) block q table (entry_at block table) refl apart)) ∙ recovers)

-- one less, which isn't being recovered any more
pub listed_less : (block : ℕ) (table new : List (ℕ × BlockRecord)) (running less : List ℕ)
    → ((q : ℕ) → list_any (is_number q) less ≡ cond (is_number block q) false (list_any (is_number q) running))
    → ((q : ℕ) → is_number block q ≡ true → is_recovering_by (entry_at q new) ≡ false)
    → ((q : ℕ) → is_number block q ≡ false → entry_at q new ≡ entry_at q table) → AreListed table running → AreListed new less
listed_less block table new running less taken idle stays law q recovers = taken q ∙ by (is_number block q) refl
  where
    by : (b : Bool) → is_number block q ≡ b → cond b false (list_any (is_number q) running) ≡ true
    by true at = absurd (true≢false (sym recovers ∙ idle q at))
    by false apart = law q (sym (ap is_recovering_by (stays q apart)) ∙ recovers)

pub listed_removed : (block : ℕ) (table new : List (ℕ × BlockRecord)) (running less : List ℕ)
    → ((q : ℕ) → list_any (is_number q) less ≡ cond (is_number block q) false (list_any (is_number q) running))
    → ((q : ℕ) → entry_at q new ≡ cond (is_number block q) None (entry_at q table)) → AreListed table running → AreListed new less
listed_removed block table new running less taken gone law =
    listed_less block table new running less taken
    (λ q at. ap is_recovering_by (gone q ∙ ap (λ b. cond b None (entry_at q table)) at))
    (λ q apart. gone q ∙ ap (λ b. cond b None (entry_at q table)) apart) law

ended : (length : ℕ) (nodes : List ℕ) (block q : ℕ) (table : List (ℕ × BlockRecord)) (found : Option BlockRecord) → entry_at block table ≡ found → is_number block q ≡ true
    → is_recovering_by (entry_at q (changed_by (with_recovered length nodes) block found table)) ≡ false
ended length nodes block q table None there at = ap (λ n. is_recovering_by (entry_at n table)) (sym (number_is block q at)) ∙ ap is_recovering_by there
ended length nodes block q table (Some own) there at =
    ap is_recovering_by (put_at block q table own (with_recovered length nodes own) there ∙ ap (λ b. cond b (Some (with_recovered length nodes own)) (entry_at q table)) at)

pub listed_ended : (length : ℕ) (nodes : List ℕ) (block : ℕ) (table new : List (ℕ × BlockRecord)) (running less : List ℕ) → new ≡ with_record_changed (with_recovered length nodes) block table
    → ((q : ℕ) → list_any (is_number q) less ≡ cond (is_number block q) false (list_any (is_number q) running)) → AreListed table running → AreListed new less
listed_ended length nodes block table new running less is taken law =
    listed_less block table new running less taken
    (λ q at. ap (λ t. is_recovering_by (entry_at q t)) is ∙ ended length nodes block q table (entry_at block table) refl at)
    (λ q apart. ap (entry_at q) is ∙ others_stay (with_recovered length nodes) block q table (entry_at block table) refl apart) law

-- ---- those that are due

due_runs : (retry now : ℕ) (since : Option ℕ) → is_due retry now since ≡ true → is_some since ≡ true
due_runs retry now None due = due
due_runs retry now (Some since) due = refl

due_recovers : (retry now : ℕ) (found : Option BlockRecord) → is_due_by retry now found ≡ true → is_recovering_by found ≡ true
due_recovers retry now None due = due
due_recovers retry now (Some own) due = due_runs retry now own.recovering due

due_found : (retry now : ℕ) (found : Option BlockRecord) → is_some (option_filter (λ own. is_due retry now own.recovering) found) ≡ is_due_by retry now found
due_found retry now None = refl
due_found retry now (Some own) = by (is_due retry now own.recovering)
  where
    by : (b : Bool) → is_some (cond b (Some own) None) ≡ b
    by true = refl
    by false = refl

pub due_listed : (retry now : ℕ) (table : List (ℕ × BlockRecord)) (running : List ℕ) → AreListed table running → IsStrictlySortedBy nat_cmp (keys_of table) → IsStrictlySortedBy nat_cmp running
    → filter (λ block. is_due_by retry now (entry_at block table)) running ≡ keys_of (filter (λ entry. is_due retry now entry.1.recovering) table)
due_listed retry now table running law up order =
    same_ascending (filter due running) (keys_of (filter (λ entry. is_due retry now entry.1.recovering) table))
    (IsStrictlySortedBy-filter nat_cmp due running order) (kept_ascending (λ entry. is_due retry now entry.1.recovering) table up) same
  where
    due : ℕ → Bool
    due block = is_due_by retry now (entry_at block table)

    both : (q : ℕ) (b : Bool) → due q ≡ b → (b && list_any (is_number q) running) ≡ b
    both q true is = law q (due_recovers retry now (entry_at q table) is)
    both q false is = refl

    same : (q : ℕ) → list_any (is_number q) (filter due running) ≡ list_any (is_number q) (keys_of (filter (λ entry. is_due retry now entry.1.recovering) table))
    same q =
        any-filter_same (is_number q) due (due q) (λ k is. ap due (sym (number_is q k is))) running
        ∙ (both q (due q) refl
        ∙ sym (has_entry q (filter (λ entry. is_due retry now entry.1.recovering) table)
        ∙ (ap is_some (lookup-filter-values (eq_by_cmp_equiv nat_cmp_total) (λ own. is_due retry now own.recovering) q table (IsDistinct-from_sorted nat_cmp (keys_of table) up))
        ∙ due_found retry now (entry_at q table))))

-- The blocks that are known stand below the number that is given next.
use Rattle.std.proofs.Common.{◌≡◌, ◌<◌, ◌+◌, ℕ, Bool, true, false, List, [], ◌∷◌, Option, Some, None, Result, Ok, Err, refl, sym, ap, ◌∙◌, cond, arith}
use Rattle.std.specs.Map.{set_value, remove_entry}
use Rattle.std.specs.Option.{is_some}
use Rattle.std.specs.Result.{OnOk, OnErr}
use Rattle.block_records.specs.Numbers.{is_number, entry_at}
use Rattle.block_tables.specs.Changes.{with_record_changed, changed_by, with_hand_out, with_hand_outs}
use Rattle.known_blocks.specs.Kept.{AreBelow}
use Rattle.block_records.specs.declared.block_record.BlockRecord.{BlockRecord}
use Rattle.block_records.proofs.Numbers.{number_is}

some_set : (block q : ℕ) (table : List (ℕ × BlockRecord)) (own : BlockRecord) → is_some (entry_at q (set_value (is_number block) table own)) ≡ is_some (entry_at q table)
some_set block q [] own = refl
some_set block q (entry ∷ table) own = by (is_number block entry.0) (some_set block q table own)
  where
    head : (x : Bool) → is_some (cond x (Some own) (entry_at q table)) ≡ is_some (cond x (Some entry.1) (entry_at q table))
    head true = refl
    head false = refl

    tail : (x : Bool) → is_some (entry_at q (set_value (is_number block) table own)) ≡ is_some (entry_at q table) → is_some (cond x (Some entry.1) (entry_at q (set_value (is_number block) table own))) ≡ is_some (cond x (Some entry.1) (entry_at q table))
    tail true rest = refl
    tail false rest = rest

    by : (b : Bool) → is_some (entry_at q (set_value (is_number block) table own)) ≡ is_some (entry_at q table) → is_some (entry_at q (cond b ((entry.0, own) ∷ table) (entry ∷ set_value (is_number block) table own))) ≡ is_some (entry_at q (entry ∷ table))
    by true rest = head (is_number q entry.0)
    by false rest = tail (is_number q entry.0) rest

some_changed : (change : BlockRecord → BlockRecord) (block q : ℕ) (table : List (ℕ × BlockRecord)) (found : Option BlockRecord) → is_some (entry_at q (changed_by change block found table)) ≡ is_some (entry_at q table)
some_changed change block q table None = refl
some_changed change block q table (Some own) = some_set block q table (change own)

pub below_changed : (change : BlockRecord → BlockRecord) (block next : ℕ) (table new : List (ℕ × BlockRecord)) → new ≡ with_record_changed change block table → AreBelow table next → AreBelow new next
below_changed change block next table new is below q there =
    below q (sym (ap (λ t. is_some (entry_at q t)) is ∙ some_changed change block q table (entry_at block table)) ∙ there)

pub below_where_done : {A E : Type 0} (r : Result A E) (change : BlockRecord → BlockRecord) (block next : ℕ) (table new : List (ℕ × BlockRecord))
    → OnOk r (new ≡ with_record_changed change block table) → OnErr r (new ≡ table) → AreBelow table next → AreBelow new next
below_where_done (Ok u) change block next table new ok err below = below_changed change block next table new ok below
below_where_done (Err e) change block next table new ok err below = λ q there. below q (ap (λ t. is_some (entry_at q t)) (sym err) ∙ there)

-- one block more, which has this number
pub below_more : (next block : ℕ) (own : BlockRecord) (table new : List (ℕ × BlockRecord)) → block ≡ next → ((q : ℕ) → entry_at q new ≡ cond (is_number block q) (Some own) (entry_at q table))
    → AreBelow table next → AreBelow new (next + 1)
below_more next block own table new is put below q there = by (is_number block q) refl (sym (ap is_some (put q)) ∙ there)
  where
    by : (x : Bool) → is_number block q ≡ x → is_some (cond x (Some own) (entry_at q table)) ≡ true → q < next + 1
    by true at some = omega (arith, is, number_is block q at)
    by false at some = omega (arith, below q some)

some_removed : (block q : ℕ) (table : List (ℕ × BlockRecord)) → is_some (entry_at q (remove_entry (is_number block) table)) ≡ true → is_some (entry_at q table) ≡ true
some_removed block q [] there = there
some_removed block q (entry ∷ table) there = by (is_number block entry.0) there (some_removed block q table)
  where
    head : (x : Bool) → is_some (entry_at q table) ≡ true → is_some (cond x (Some entry.1) (entry_at q table)) ≡ true
    head true some = refl
    head false some = some

    tail : (x : Bool) → is_some (cond x (Some entry.1) (entry_at q (remove_entry (is_number block) table))) ≡ true
        → (is_some (entry_at q (remove_entry (is_number block) table)) ≡ true → is_some (entry_at q table) ≡ true) → is_some (cond x (Some entry.1) (entry_at q table)) ≡ true
    tail true some rest = refl
    tail false some rest = rest some

    by : (b : Bool) → is_some (entry_at q (cond b table (entry ∷ remove_entry (is_number block) table))) ≡ true
        → (is_some (entry_at q (remove_entry (is_number block) table)) ≡ true → is_some (entry_at q table) ≡ true) → is_some (entry_at q (entry ∷ table)) ≡ true
    by true some rest = head (is_number q entry.0) some
    by false some rest = tail (is_number q entry.0) some rest

pub below_removed : (block next : ℕ) (table new : List (ℕ × BlockRecord)) → new ≡ remove_entry (is_number block) table → AreBelow table next → AreBelow new next
below_removed block next table new is below q there = below q (some_removed block q table (sym (ap (λ t. is_some (entry_at q t)) is) ∙ there))

pub below_handed : (now : ℕ) (blocks : List ℕ) (next : ℕ) (table new : List (ℕ × BlockRecord)) → new ≡ with_hand_outs now table blocks → AreBelow table next → AreBelow new next
below_handed now [] next table new is below q there = below q (sym (ap (λ t. is_some (entry_at q t)) is) ∙ there)
below_handed now (block ∷ blocks) next table new is below q there =
    below_handed now blocks next (with_record_changed (with_hand_out now) block table) new is
    (below_changed (with_hand_out now) block next table (with_record_changed (with_hand_out now) block table) refl below) q there

pub below_same : (next : ℕ) (table new : List (ℕ × BlockRecord)) → new ≡ table → AreBelow table next → AreBelow new next
below_same next table new is below = λ q there. below q (sym (ap (λ t. is_some (entry_at q t)) is) ∙ there)

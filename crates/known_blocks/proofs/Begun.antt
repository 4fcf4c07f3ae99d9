-- What the counters keep, and the list of the recoveries that run, where many recoveries begin.
use Rattle.std.proofs.Common.{◌≡◌, ℕ, ◌+◌, ◌≤◌, Bool, true, false, ◌||◌, List, [], ◌∷◌, length, fold, refl, ap, ◌∙◌, cond, arith}
use Rattle.std.proofs.lemmas.Bool.Decides.{nat_tests}
use Rattle.std.specs.List.{list_any}
use Rattle.block_records.specs.Numbers.{is_number}
use Rattle.block_records.specs.declared.block_record.BlockRecord.{BlockRecord}
use Rattle.block_tables.specs.Changes.{with_record_changed, with_recovery}
use Rattle.recovery_queue.specs.declared.begun.BegunRecovery.{BegunRecovery}
use Rattle.known_blocks.specs.Kept.{AreBelow, AreListed, is_begun}
use Rattle.known_blocks.specs.Known.{is_spent, with_stamps}
use Rattle.known_blocks.proofs.Below.{below_changed, below_same}
use Rattle.known_blocks.proofs.Listed.{listed_alike, listed_begun}

pub below_begun : (now next : ℕ) (begun : List BegunRecovery) (table new : List (ℕ × BlockRecord)) → new ≡ fold (λ left own. with_record_changed (with_recovery own.stamp now) own.block left) table begun
    → AreBelow table next → AreBelow new next
below_begun now next [] table new is below = below_same next table new is below
below_begun now next (own ∷ begun) table new is below =
    below_begun now next begun (with_record_changed (with_recovery own.stamp now) own.block table) new is
    (below_changed (with_recovery own.stamp now) own.block next table (with_record_changed (with_recovery own.stamp now) own.block table) refl below)

-- more may be listed
pub listed_too : (table : List (ℕ × BlockRecord)) (running more : List ℕ) → ((q : ℕ) → list_any (is_number q) running ≡ true → list_any (is_number q) more ≡ true) → AreListed table running → AreListed table more
listed_too table running more all law q recovers = all q (law q recovers)

-- where those that begin are listed already
pub listed_all : (now : ℕ) (begun : List BegunRecovery) (table new : List (ℕ × BlockRecord)) (running : List ℕ) → new ≡ fold (λ left own. with_record_changed (with_recovery own.stamp now) own.block left) table begun
    → ((q : ℕ) → is_begun q begun ≡ true → list_any (is_number q) running ≡ true) → AreListed table running → AreListed new running
listed_all now [] table new running is there law = listed_alike table new running is law
listed_all now (own ∷ begun) table new running is there law =
    listed_all now begun (with_record_changed (with_recovery own.stamp now) own.block table) new running is (λ q some. there q (later (is_number own.block q) (is_begun q begun) some))
    (listed_begun own.stamp now own.block table (with_record_changed (with_recovery own.stamp now) own.block table) running running refl (λ q. by q (is_number own.block q) refl) law)
  where
    later : (x y : Bool) → y ≡ true → (x || y) ≡ true
    later true y some = refl
    later false y some = some

    by : (q : ℕ) (b : Bool) → is_number own.block q ≡ b → list_any (is_number q) running ≡ cond b true (list_any (is_number q) running)
    by q true at = there q (ap (λ x. x || is_begun q begun) at)
    by q false at = refl

pub all_listed : (begun : List BegunRecovery) (running more : List ℕ) → ((q : ℕ) → list_any (is_number q) more ≡ cond (is_begun q begun) true (list_any (is_number q) running))
    → (q : ℕ) → is_begun q begun ≡ true → list_any (is_number q) more ≡ true
all_listed begun running more put q some = put q ∙ ap (λ b. cond b true (list_any (is_number q) running)) some

-- no stamp is the greatest number
pub stamps_fit : (next : ℕ) (led : List (ℕ × ℕ)) → next ≤ 18446744073709551615 → next + length (with_stamps next led) ≤ 18446744073709551615
stamps_fit next [] small = omega arith
stamps_fit next (own ∷ led) small = by (is_spent next) refl (stamps_fit (next + 1) led)
  where
    by : (b : Bool) → is_spent next ≡ b → (next + 1 ≤ 18446744073709551615 → (next + 1) + length (with_stamps (next + 1) led) ≤ 18446744073709551615)
        → next + length (cond b [] (record { block = own.0; stamp = next; primary = own.1 } ∷ with_stamps (next + 1) led)) ≤ 18446744073709551615
    by true spent rest = omega arith
    by false left rest =
        let more : next + 1 ≤ 18446744073709551615 = grind (arith, nat_tests) in
        let all = rest more in
        omega arith

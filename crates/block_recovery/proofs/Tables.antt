-- Tables by numbers: what is left of them where an entry was lent.
use Rattle.std.proofs.Common.{◌≡◌, ℕ, Bool, true, false, ◌||◌, List, [], ◌∷◌, Some, Result, Ok, Err, OnOk, OnErr, refl, sym, ap, ◌∙◌, cond, true≢false}
use Rattle.std.proofs.lemmas.Map.Keys.{sorted_head, sorted_tail}
use Rattle.std.proofs.lemmas.Map.Steps.{set_value_same}
use Rattle.std.specs.BTreeMap.{insert_entry}
use Rattle.std.specs.Cmp.{nat_cmp_total, tied_itself}
use Rattle.std.specs.List.{list_any}
use Rattle.std.specs.List.Sorted.{IsStrictlySortedBy}
use Rattle.std.specs.Map.{keys_of, set_value}
use Rattle.std.specs.Option.{is_some}
use Rattle.std.specs.Ordering.{is_eq, nat_cmp, match_ordering}
use Rattle.std.specs.declared.cmp.Ordering.{Ordering}
use Rattle.std.specs.declared.cmp.Ordering.TheVariants.{Less, Equal, Greater}
use Rattle.block_records.specs.Numbers.{is_number, entry_at}
use Rattle.block_records.proofs.Ascending.{lacks_lower, above_lower}

pub itself : (n : ℕ) → is_number n n ≡ true
itself n = ap is_eq (tied_itself nat_cmp_total n)

-- a number is among the keys where the table has something at it
pub has_entry : {X : Type 0} (q : ℕ) (table : List (ℕ × X)) → list_any (is_number q) (keys_of table) ≡ is_some (entry_at q table)
has_entry q [] = refl
has_entry {X} q (entry ∷ table) = by (is_number q entry.0) (has_entry q table)
  where
    by : (b : Bool) → list_any (is_number q) (keys_of table) ≡ is_some (entry_at q table) → (b || list_any (is_number q) (keys_of table)) ≡ is_some (cond b (Some entry.1) (entry_at q table))
    by true rest = refl
    by false rest = rest

-- ---- an entry that is there

-- it takes a new value in its place
pub insert_there : {X : Type 0} (k : ℕ) (w : X) (es : List (ℕ × X)) → IsStrictlySortedBy nat_cmp (keys_of es) → is_some (entry_at k es) ≡ true → insert_entry nat_cmp es k w ≡ set_value (is_number k) es w
insert_there k w [] up has = absurd (true≢false (sym has))
insert_there {X} k w (e ∷ es) up has = by (nat_cmp k e.0) refl has (insert_there k w es (sorted_tail nat_cmp e.0 (keys_of es) up))
  where
    by : (o : Ordering) → nat_cmp k e.0 ≡ o → is_some (cond (is_eq o) (Some e.1) (entry_at k es)) ≡ true
        → (is_some (entry_at k es) ≡ true → insert_entry nat_cmp es k w ≡ set_value (is_number k) es w)
        → match_ordering o ((k, w) ∷ e ∷ es) ((e.0, w) ∷ es) (e ∷ insert_entry nat_cmp es k w) ≡ cond (is_eq o) ((e.0, w) ∷ es) (e ∷ set_value (is_number k) es w)
    by Less less h rest =
        absurd (true≢false (sym h ∙ (sym (has_entry k es) ∙ lacks_lower k (keys_of es) (above_lower k e.0 (keys_of es) less (sorted_head nat_cmp e.0 (keys_of es) up)))))
    by Equal at h rest = refl
    by Greater at h rest = ap (λ l. e ∷ l) (rest h)

module _ {X A E : Type 0} (r : Result A E) (block : ℕ) (table left now : List (ℕ × X)) (old new : X)
    (put : left ≡ set_value (is_number block) table new) (found : Some old ≡ entry_at block table) (seen : table ≡ now) where
  -- nothing has changed where the entry hasn't
  pub unchanged : OnErr r (new ≡ old) → OnErr r (left ≡ now)
  unchanged h = by r h
    where
      by : (r : Result A E) → OnErr r (new ≡ old) → OnErr r (left ≡ now)
      by (Ok a) h = tt
      by (Err e) h = put ∙ (ap (set_value (is_number block) table) h ∙ (set_value_same (is_number block) table old (sym found) ∙ seen))

  pub inserted : (own : X) → IsStrictlySortedBy nat_cmp (keys_of table) → OnOk r (new ≡ own) → OnOk r (left ≡ insert_entry nat_cmp now block own)
  inserted own up h = by r h
    where
      by : (r : Result A E) → OnOk r (new ≡ own) → OnOk r (left ≡ insert_entry nat_cmp now block own)
      by (Ok a) h =
          put ∙ (ap (set_value (is_number block) table) h ∙ (sym (insert_there block own table up (ap is_some (sym found))) ∙ ap (λ t. insert_entry nat_cmp t block own) seen))
      by (Err e) h = tt

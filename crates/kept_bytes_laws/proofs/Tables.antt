-- What a table of reports has of one node behind each change of it.
use Rattle.std.proofs.Common.{◌≡◌, ℕ, ◌==◌, Bool, true, false, ◌||◌, List, [], ◌∷◌, Some, None, refl, sym, ap, ◌∙◌, cond}
use Rattle.std.proofs.lemmas.Map.{lookup-remove_entry}
use Rattle.std.proofs.lemmas.Map.Entries.{lookup-filter-values, option_filter}
use Rattle.std.proofs.lemmas.Map.Keys.{IsDistinct-from_sorted}
use Rattle.std.specs.BTreeMap.{insert_entry}
use Rattle.std.specs.Cmp.{eq_by_cmp_equiv, nat_cmp_total, tied_itself}
use Rattle.std.specs.List.Sorted.{IsStrictlySortedBy}
use Rattle.std.specs.Map.{keys_of, remove_entry}
use Rattle.std.specs.Ordering.{nat_cmp, is_eq, match_ordering}
use Rattle.std.specs.declared.cmp.Ordering.{Ordering}
use Rattle.std.specs.declared.cmp.Ordering.TheVariants.{Less, Equal, Greater}
use Rattle.block_records.specs.Numbers.{is_number, has_number, entry_at}
use Rattle.block_records.specs.Reports.{agreeing_reports, with_reports_of}
use Rattle.block_records.proofs.Numbers.{number_is}
use Rattle.block_records.proofs.Reporting.{number_eq}
use Rattle.block_effect_laws.proofs.Orders.{AreInOrder, put_in_order}

-- ---- in order

pub none_in_order : AreInOrder {X = ℕ} []
unfolding IsStrictlySortedBy
none_in_order = tt

pub more_in_order : (length : ℕ) (nodes : List ℕ) (reports : List (ℕ × ℕ)) → AreInOrder reports → AreInOrder (with_reports_of nodes length reports)
more_in_order length [] reports up = up
more_in_order length (node ∷ nodes) reports up = more_in_order length nodes (insert_entry nat_cmp reports node length) (put_in_order node length reports up)

-- ---- of one node

module _ (n : ℕ) where
  -- a report more
  pub put_at : (node length : ℕ) (reports : List (ℕ × ℕ)) → entry_at n (insert_entry nat_cmp reports node length) ≡ cond (is_number n node) (Some length) (entry_at n reports)
  put_at node length [] = refl
  put_at node length (report ∷ reports) = by (nat_cmp node report.0) refl (put_at node length reports)
    where
      level : (b : Bool) → cond b (Some length) (entry_at n reports) ≡ cond b (Some length) (cond b (Some report.1) (entry_at n reports))
      level true = refl
      level false = refl

      apart : nat_cmp node report.0 ≡ Greater → n ≡ report.0 → n ≡ node → {A : Type 0} → A
      apart greater first second = let e : Greater ≡ Equal = sym greater ∙ (ap (nat_cmp node) (sym first ∙ second) ∙ tied_itself nat_cmp_total node) in cc

      swap : nat_cmp node report.0 ≡ Greater → (a b : Bool) → is_number n report.0 ≡ a → is_number n node ≡ b
          → cond a (Some report.1) (cond b (Some length) (entry_at n reports)) ≡ cond b (Some length) (cond a (Some report.1) (entry_at n reports))
      swap greater true true x y = apart greater (number_is n report.0 x) (number_is n node y)
      swap greater true false x y = refl
      swap greater false true x y = refl
      swap greater false false x y = refl

      by : (o : Ordering) → nat_cmp node report.0 ≡ o → entry_at n (insert_entry nat_cmp reports node length) ≡ cond (is_number n node) (Some length) (entry_at n reports)
          → entry_at n (match_ordering o ((node, length) ∷ report ∷ reports) ((report.0, length) ∷ reports) (report ∷ insert_entry nat_cmp reports node length))
          ≡ cond (is_number n node) (Some length) (entry_at n (report ∷ reports))
      by Less is rest = refl
      by Equal is rest = level (is_number n report.0) ∙ ap (λ m. cond (is_number n m) (Some length) (entry_at n (report ∷ reports))) (sym (number_is node report.0 (ap is_eq is)))
      by Greater is rest = ap (cond (is_number n report.0) (Some report.1)) rest ∙ swap is (is_number n report.0) (is_number n node) refl refl

  -- reports of the same length by all these nodes
  pub more_at : (length : ℕ) (nodes : List ℕ) (reports : List (ℕ × ℕ)) → entry_at n (with_reports_of nodes length reports) ≡ cond (has_number n nodes) (Some length) (entry_at n reports)
  more_at length [] reports = refl
  more_at length (node ∷ nodes) reports =
      more_at length nodes (insert_entry nat_cmp reports node length)
      ∙ (ap (cond (has_number n nodes) (Some length)) (put_at node length reports)
      ∙ (either (is_number n node) (has_number n nodes) ∙ ap (λ b. cond (b || has_number n nodes) (Some length) (entry_at n reports)) (number_eq n node)))
    where
      either : (a b : Bool) → cond b (Some length) (cond a (Some length) (entry_at n reports)) ≡ cond (a || b) (Some length) (entry_at n reports)
      either true true = refl
      either true false = refl
      either false true = refl
      either false false = refl

  module _ (reports : List (ℕ × ℕ)) (up : AreInOrder reports) where
    -- a report less
    pub left_at : (node : ℕ) → entry_at n (remove_entry (is_number node) reports) ≡ cond (is_number node n) None (entry_at n reports)
    left_at node =
        lookup-remove_entry (eq_by_cmp_equiv nat_cmp_total) (is_number node) (λ x y at. ap (λ m. is_number m y) (number_is node x at)) n reports (IsDistinct-from_sorted nat_cmp (keys_of reports) up)

    -- those that are of this length
    pub agreeing_at : (length : ℕ) → entry_at n (agreeing_reports length reports) ≡ option_filter (λ own. own == length) (entry_at n reports)
    agreeing_at length = lookup-filter-values (eq_by_cmp_equiv nat_cmp_total) (λ own. own == length) n reports (IsDistinct-from_sorted nat_cmp (keys_of reports) up)

-- The nodes that reported a block: those that are left, and those that aren't.
use Rattle.std.proofs.Common.{◌≡◌, ◌<◌, ℕ, ◌==◌, Bool, true, false, not, ◌&&◌, ◌||◌, List, [], ◌∷◌, ◌++◌, filter, Option, Some, None, refl, sym, ap, ◌∙◌, cond, arith}
use Rattle.std.proofs.lemmas.Bool.{ne_eqb, eq-eqb, eqb-true}
use Rattle.std.proofs.lemmas.List.Folds.{list_any-append}
use Rattle.std.proofs.lemmas.Map.Views.{any-filter_same}
use Rattle.std.proofs.lemmas.Map.Entries.{lookup-filter-values, option_filter}
use Rattle.std.proofs.lemmas.Map.Keys.{IsDistinct-from_sorted}
use Rattle.std.specs.Cmp.{ranked, eq_by_cmp_equiv, nat_cmp_total}
use Rattle.std.specs.List.{IsDistinct}
use Rattle.std.specs.List.Sorted.{IsStrictlySortedBy}
use Rattle.std.specs.Map.{keys_of}
use Rattle.std.specs.Option.{is_some}
use Rattle.std.specs.Ordering.{is_eq, nat_cmp, eq_by_cmp}
use Rattle.std.specs.declared.cmp.Ordering.{Ordering}
use Rattle.std.specs.declared.cmp.Ordering.TheVariants.{Less, Equal, Greater}
use Rattle.block_records.specs.Numbers.{is_number, has_number, entry_at}
use Rattle.block_records.specs.Reports.{agreeing_reports, others_of}
use Rattle.block_records.specs.Verdicts.{holds_by}
use Rattle.block_records.specs.declared.block_record.BlockRecord.{BlockRecord}

pub number_eq : (a b : ℕ) → is_number a b ≡ (b == a)
number_eq a b = by (nat_cmp a b) refl
  where
    by : (o : Ordering) → nat_cmp a b ≡ o → is_eq o ≡ (b == a)
    by Less h = let lt : a < b = ranked a b Less (sym h) in sym (ne_eqb b a (λ e. omega arith))
    by Equal h = let same : a ≡ b = ranked a b Equal (sym h) in sym (eq-eqb b a (sym same))
    by Greater h = let lt : b < a = ranked a b Greater (sym h) in sym (ne_eqb b a (λ e. omega arith))

-- a number is among the keys where the table has something at it
pub has_key : (n : ℕ) (reports : List (ℕ × ℕ)) → has_number n (keys_of reports) ≡ is_some (entry_at n reports)
has_key n [] = refl
has_key n (report ∷ reports) = ap (λ x. x || has_number n (keys_of reports)) (sym (number_eq n report.0)) ∙ by (is_number n report.0) (has_key n reports)
  where
    by : (x : Bool) → has_number n (keys_of reports) ≡ is_some (entry_at n reports) → (x || has_number n (keys_of reports)) ≡ is_some (cond x (Some report.1) (entry_at n reports))
    by true rest = refl
    by false rest = rest

pub kept_reports : (length n : ℕ) (reports : List (ℕ × ℕ)) → IsStrictlySortedBy nat_cmp (keys_of reports)
    → is_some (entry_at n (agreeing_reports length reports)) ≡ (is_some (entry_at n reports) && not (has_number n (others_of length reports)))
kept_reports length n reports sorted =
    ap is_some (lookup-filter-values (eq_by_cmp_equiv nat_cmp_total) (λ own. own == length) n reports distinct)
    ∙ (by (entry_at n reports)
    ∙ ap (λ x. is_some (entry_at n reports) && not x)
    (sym (has_key n (filter (λ report. not (report.1 == length)) reports) ∙ ap is_some (lookup-filter-values (eq_by_cmp_equiv nat_cmp_total) (λ own. not (own == length)) n reports distinct))))
  where
    distinct : IsDistinct (eq_by_cmp nat_cmp) (keys_of reports)
    distinct = IsDistinct-from_sorted nat_cmp (keys_of reports) sorted

    own : (x : Bool) (bytes : ℕ) → is_some (cond x (Some bytes) None) ≡ not (is_some (cond (not x) (Some bytes) None))
    own true bytes = refl
    own false bytes = refl

    by : (found : Option ℕ) → is_some (option_filter (λ bytes. bytes == length) found) ≡ (is_some found && not (is_some (option_filter (λ bytes. not (bytes == length)) found)))
    by None = refl
    by (Some bytes) = own (bytes == length) bytes

left : (expected reported other : Bool) → cond (other && not expected) false (expected || reported) ≡ (expected || (reported && not other))
left true reported true = refl
left true reported false = refl
left false true true = refl
left false true false = refl
left false false true = refl
left false false false = refl

-- those that reported another length, and aren't to hold the block, don't hold it
pub holds_agreeing : (own new : BlockRecord) (length : ℕ) → new.expected ≡ own.expected
    → ((q : ℕ) → is_some (entry_at q new.reports) ≡ (is_some (entry_at q own.reports) && not (has_number q (others_of length own.reports))))
    → (n : ℕ) → cond (has_number n (others_of length own.reports) && not (has_number n own.expected)) false (holds_by n (Some own)) ≡ holds_by n (Some new)
holds_agreeing own new length expected kept n =
    left (has_number n own.expected) (is_some (entry_at n own.reports)) (has_number n (others_of length own.reports))
    ∙ (ap (λ x. has_number n own.expected || x) (sym (kept n)) ∙ ap (λ nodes. has_number n nodes || is_some (entry_at n new.reports)) (sym expected))

-- those of a list that pass a test
pub has_kept : (n : ℕ) (p : ℕ → Bool) (numbers : List ℕ) → has_number n (filter p numbers) ≡ (p n && has_number n numbers)
has_kept n p numbers = any-filter_same (λ other. other == n) p (p n) (λ k same. ap p (eqb-true k n same)) numbers

-- those of two lists that pass a test
pub has_either : (n : ℕ) (p : ℕ → Bool) (xs ys zs : List ℕ) → zs ≡ filter p xs ++ filter p ys → has_number n zs ≡ ((has_number n xs || has_number n ys) && p n)
has_either n p xs ys zs is =
    ap (has_number n) is
    ∙ (list_any-append (λ other. other == n) (filter p xs) (filter p ys)
    ∙ (ap (λ x. x || has_number n (filter p ys)) (has_kept n p xs) ∙ (ap (λ y. (p n && has_number n xs) || y) (has_kept n p ys) ∙ by (p n) (has_number n xs) (has_number n ys))))
  where
    by : (b x y : Bool) → ((b && x) || (b && y)) ≡ ((x || y) && b)
    by true true y = refl
    by true false true = refl
    by true false false = refl
    by false true y = refl
    by false false true = refl
    by false false false = refl

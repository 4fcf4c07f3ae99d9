-- How many blocks the nodes have once the length of a block is committed.
use Rattle.std.proofs.Common.{◌≡◌, ℕ, ◌+◌, ◌-◌, ◌==◌, Bool, true, false, ◌&&◌, ◌||◌, not, List, [], ◌∷◌, filter, length, Some, None, refl, sym, ap, ◌∙◌, cond, arith}
use Rattle.std.proofs.lemmas.List.Sums.{sum_by-cons}
use Rattle.std.proofs.lemmas.Map.Entries.{sum_by-set_value}
use Rattle.std.specs.List.{sum_by}
use Rattle.std.specs.List.Sorted.{IsStrictlySortedBy}
use Rattle.std.specs.Map.{keys_of, values_of, set_value}
use Rattle.std.specs.Option.{is_some}
use Rattle.std.specs.Ordering.{nat_cmp}
use Rattle.block_records.specs.Numbers.{is_number, has_number, entry_at}
use Rattle.block_records.specs.Reports.{others_of}
use Rattle.block_records.specs.Verdicts.{holds_by}
use Rattle.block_records.specs.declared.block_record.BlockRecord.{BlockRecord}
use Rattle.block_records.proofs.Reporting.{has_key, has_kept, kept_reports, holds_agreeing}
use Rattle.block_tables.specs.Changes.{with_record_changed, changed_by, with_length}
use Rattle.block_tables.specs.Kept.{load, load_without}

abbrev pub weight : ℕ → BlockRecord → ℕ
weight node own = cond (holds_by node (Some own)) 1 0

-- a node's load is a sum over all blocks
load_is : (node : ℕ) (table : List (ℕ × BlockRecord)) → load table node ≡ sum_by (weight node) (values_of table)
load_is node [] = refl
load_is node (entry ∷ table) = by (holds_by node (Some entry.1)) (load_is node table) ∙ sym (sum_by-cons (weight node) entry.1 (values_of table))
  where
    rest : List (ℕ × BlockRecord)
    rest = filter (λ own. holds_by node (Some own.1)) table

    by : (b : Bool) → length (keys_of rest) ≡ sum_by (weight node) (values_of table) → length (keys_of (cond b (entry ∷ rest) rest)) ≡ cond b 1 0 + sum_by (weight node) (values_of table)
    by true more = omega (arith, more)
    by false more = omega (arith, more)

other_reported : (bytes node : ℕ) (reports : List (ℕ × ℕ)) → has_number node (others_of bytes reports) ≡ true → is_some (entry_at node reports) ≡ true
other_reported bytes node reports other = sym (has_key node reports) ∙ in_all reports other
  where
    in_all : (some : List (ℕ × ℕ)) → has_number node (others_of bytes some) ≡ true → has_number node (keys_of some) ≡ true
    in_all [] h = h
    in_all (report ∷ some) h = by (not (report.1 == bytes)) h (in_all some)
      where
        either : (x : Bool) → (x || has_number node (others_of bytes some)) ≡ true → (has_number node (others_of bytes some) ≡ true → has_number node (keys_of some) ≡ true) → (x || has_number node (keys_of some)) ≡ true
        either true e rest = refl
        either false e rest = rest e

        behind : (x : Bool) → has_number node (keys_of some) ≡ true → (x || has_number node (keys_of some)) ≡ true
        behind true e = refl
        behind false e = e

        by : (b : Bool) → has_number node (keys_of (cond b (report ∷ filter (λ own. not (own.1 == bytes)) some) (filter (λ own. not (own.1 == bytes)) some))) ≡ true
            → (has_number node (others_of bytes some) ≡ true → has_number node (keys_of some) ≡ true) → has_number node (keys_of (report ∷ some)) ≡ true
        by true e rest = either (report.0 == node) e rest
        by false e rest = behind (report.0 == node) (rest e)

module _ (bytes node : ℕ) (own : BlockRecord) (sorted : IsStrictlySortedBy nat_cmp (keys_of own.reports)) where
  -- the nodes that reported another length and aren't to hold the block
  abbrev pub leaves : List ℕ
  leaves = filter (λ other. not (has_number other own.expected)) (others_of bytes own.reports)

  abbrev pub other : Bool
  other = has_number node (others_of bytes own.reports)

  leaves_is : has_number node leaves ≡ (not (has_number node own.expected) && other)
  leaves_is = has_kept node (λ n. not (has_number n own.expected)) (others_of bytes own.reports)

  holds_after : cond (other && not (has_number node own.expected)) false (holds_by node (Some own)) ≡ holds_by node (Some (with_length bytes own))
  holds_after = holds_agreeing own (with_length bytes own) bytes refl (λ q. kept_reports bytes q own.reports sorted) node

  held_before : other ≡ true → holds_by node (Some own) ≡ true
  held_before is = by (has_number node own.expected) (other_reported bytes node own.reports is)
    where
      by : (b : Bool) → is_some (entry_at node own.reports) ≡ true → (b || is_some (entry_at node own.reports)) ≡ true
      by true e = refl
      by false e = e

  -- what a node has less
  weights : (cond (has_number node leaves) 1 0) + weight node (with_length bytes own) ≡ weight node own
  weights =
      ap (λ b. cond b 1 0 + weight node (with_length bytes own)) leaves_is
      ∙ (ap (λ b. cond (not (has_number node own.expected) && other) 1 0 + cond b 1 0) (sym holds_after)
      ∙ by (has_number node own.expected) other refl (holds_by node (Some own)) held_before)
    where
      by : (expected reported : Bool) → other ≡ reported → (held : Bool) → (other ≡ true → held ≡ true) → cond (not expected && reported) 1 0 + cond (cond (reported && not expected) false held) 1 0 ≡ cond held 1 0
      by true true is held has = omega arith
      by true false is held has = omega arith
      by false true is held has = ap (λ b. cond b 1 0) (sym (has is))
      by false false is held has = omega arith

  pub less : (block : ℕ) (table : List (ℕ × BlockRecord)) → entry_at block table ≡ Some own
      → load_without table leaves node ≡ load (set_value (is_number block) table (with_length bytes own)) node
  less block table found = by (has_number node leaves) weights
    where
      new : List (ℕ × BlockRecord)
      new = set_value (is_number block) table (with_length bytes own)

      sums : sum_by (weight node) (values_of new) + weight node own ≡ sum_by (weight node) (values_of table) + weight node (with_length bytes own)
      sums = sum_by-set_value (weight node) (is_number block) table own (with_length bytes own) found

      by : (b : Bool) → cond b 1 0 + weight node (with_length bytes own) ≡ weight node own → cond b (load table node - 1) (load table node) ≡ load new node
      by true one = omega (arith, one, sums, load_is node table, load_is node new)
      by false none = omega (arith, none, sums, load_is node table, load_is node new)

pub less_behind : (bytes node block : ℕ) (own : BlockRecord) (table : List (ℕ × BlockRecord)) (leaving : List ℕ) → IsStrictlySortedBy nat_cmp (keys_of own.reports) → entry_at block table ≡ Some own
    → leaving ≡ filter (λ other. not (has_number other own.expected)) (others_of bytes own.reports) → load_without table leaving node ≡ load (with_record_changed (with_length bytes) block table) node
less_behind bytes node block own table leaving sorted found is =
    ap (λ nodes. load_without table nodes node) is ∙ (less bytes node own sorted block table found ∙ ap (λ entry. load (changed_by (with_length bytes) block entry table) node) (sym found))

pub none_less : (bytes node block : ℕ) (table : List (ℕ × BlockRecord)) (leaving : List ℕ) → entry_at block table ≡ None → leaving ≡ []
    → load_without table leaving node ≡ load (with_record_changed (with_length bytes) block table) node
none_less bytes node block table leaving unknown is =
    ap (λ nodes. load_without table nodes node) is ∙ ap (λ entry. load (changed_by (with_length bytes) block entry table) node) (sym unknown)

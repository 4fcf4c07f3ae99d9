-- Where all nodes that hold blocks are live, the blocks that lack replicas on live nodes are listed.
use Rattle.std.proofs.Common.{◌≡◌, ◌∙◌, ◌<◌, ℕ, Bool, true, false, ◌&&◌, ◌||◌, nat_lt, List, filter, length, Option, Some, None, Result, Ok, Err, IfOk, refl, sym, ap, subst, true≢false, arith}
use Rattle.std.proofs.lemmas.Bool.{ltb-true}
use Rattle.std.proofs.lemmas.List.Kept.{IsStrictlySortedBy-filter}
use Rattle.std.proofs.lemmas.Map.Entries.{length-keys_of}
use Rattle.std.proofs.lemmas.Map.Keys.{sorted_from_strictly_increasing}
use Rattle.std.proofs.lemmas.Map.Views.{any-filter_same}
use Rattle.std.specs.List.{list_any}
use Rattle.std.specs.List.Sorted.{IsStrictlySortedBy, IsStrictlyIncreasing}
use Rattle.std.specs.Map.{keys_of}
use Rattle.std.specs.Option.{is_some}
use Rattle.std.specs.Ordering.{nat_cmp}
use Rattle.block_records.specs.Numbers.{is_number, has_number, entry_at}
use Rattle.block_records.specs.Verdicts.{holds_by}
use Rattle.block_records.specs.declared.block_record.BlockRecord.{BlockRecord}
use Rattle.block_records.proofs.Ascending.{same_ascending, kept_ascending}
use Rattle.block_records.proofs.Numbers.{number_is}
use Rattle.block_tables.specs.Kept.{holds, blocks_on}
use Rattle.block_tables.proofs.Held.{has_entry, has_block}
use Rattle.scarce_blocks.specs.Scarce.{IsAmple, AreAmple, is_lacking, CoversLacking}

both : (x y : Bool) → (x && y) ≡ true → (x ≡ true) × (y ≡ true)
both true y is = (refl, is)
both false y is = absurd (true≢false (sym is))

or_true : (x : Bool) → (x || true) ≡ true
or_true true = refl
or_true false = refl

module _ (live : List ℕ) (up : IsStrictlyIncreasing live) (own : BlockRecord) (all : (n : ℕ) → is_some (entry_at n own.reports) ≡ true → list_any (is_number n) live ≡ true) where
  abbrev pub reports_it : ℕ → Bool
  reports_it n = is_some (entry_at n own.reports)

  -- the live nodes that report a block are all that reported it
  same : IsStrictlySortedBy nat_cmp (keys_of own.reports) → filter reports_it live ≡ keys_of own.reports
  same sorted =
      same_ascending (filter reports_it live) (keys_of own.reports) (IsStrictlySortedBy-filter nat_cmp reports_it live (sorted_from_strictly_increasing live up)) sorted
      (λ n. any-filter_same (is_number n) reports_it (reports_it n) (λ k is. ap reports_it (sym (number_is n k is))) live ∙ (by n (reports_it n) refl ∙ sym (has_entry n own.reports)))
    where
      by : (n : ℕ) (b : Bool) → reports_it n ≡ b → (b && list_any (is_number n) live) ≡ b
      by n true is = all n is
      by n false is = refl

  not_lacking : IsAmple (Some own) → is_lacking live (Some own) ≡ true → ⊥
  not_lacking ample lacking =
      let split = both (is_some own.committed) (nat_lt (length (filter reports_it live)) own.replication) lacking in
      let enough = ample split.0 in
      let less : length (filter reports_it live) < own.replication = ltb-true (length (filter reports_it live)) own.replication split.1 in
      let count : length (filter reports_it live) ≡ length (keys_of own.reports) = ap length (same enough.1) in
      omega (arith, enough.0, less, count, length-keys_of own.reports)

pub covers_listed : (table : List (ℕ × BlockRecord)) (scarce live : List ℕ) (node : ℕ) → IsStrictlyIncreasing live → AreAmple table scarce
    → ((n block : ℕ) → holds table n block ≡ true → list_any (is_number n) live ≡ true) → CoversLacking table live node scarce
covers_listed table scarce live node up law all q held lacking = by (list_any (is_number q) scarce) refl
  where
    some : (found : Option BlockRecord) → entry_at q table ≡ found → IsAmple found → is_lacking live found ≡ true → ⊥
    some None there ample lacks = true≢false (sym lacks)
    some (Some own) there ample lacks =
        not_lacking live up own
        (λ n reported. all n q (ap (λ (found : Option BlockRecord). holds_by n found) there ∙ (ap (λ x. has_number n own.expected || x) reported ∙ or_true (has_number n own.expected)))) ample lacks

    by : (b : Bool) → list_any (is_number q) scarce ≡ b → list_any (is_number q) scarce ≡ true
    by true is = is
    by false is = absurd (some (entry_at q table) refl (law q is) lacking)

pub covers_own : (table : List (ℕ × BlockRecord)) (live : List ℕ) (node : ℕ) → IsStrictlySortedBy nat_cmp (keys_of table) → CoversLacking table live node (blocks_on table node)
covers_own table live node up q held lacking = has_block table node q up ∙ held

-- ---- what an answer owes

pub listed_covers : {V E : Type 0} (r : Result V E) (blocks_in : V → List ℕ) (table : List (ℕ × BlockRecord)) (scarce live : List ℕ) (node : ℕ) → CoversLacking table live node scarce
    → IfOk r (λ some. blocks_in some ≡ scarce) → IfOk r (λ some. CoversLacking table live node (blocks_in some))
listed_covers (Ok some) blocks_in table scarce live node covers is = subst (λ (blocks : List ℕ). CoversLacking table live node blocks) (sym is) covers
listed_covers (Err fault) blocks_in table scarce live node covers is = tt

pub own_ascend : {V E : Type 0} (r : Result V E) (blocks_in : V → List ℕ) (table : List (ℕ × BlockRecord)) (node : ℕ) → IsStrictlySortedBy nat_cmp (keys_of table)
    → IfOk r (λ some. blocks_in some ≡ blocks_on table node) → IfOk r (λ some. IsStrictlySortedBy nat_cmp (blocks_in some))
own_ascend (Ok some) blocks_in table node up is =
    subst (λ (blocks : List ℕ). IsStrictlySortedBy nat_cmp blocks) (sym is) (kept_ascending (λ (entry : ℕ × BlockRecord). holds_by node (Some entry.1)) table up)
own_ascend (Err fault) blocks_in table node up is = tt

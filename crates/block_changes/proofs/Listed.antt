-- A node copies only blocks that it holds, so it suffices to go over these.
use Rattle.std.proofs.Common.{◌≡◌, ℕ, suc, Bool, true, false, ◌&&◌, ◌||◌, nat_lt, List, [], ◌∷◌, length, filter, Option, Some, None, refl, sym, ap, ◌∙◌, cond, true≢false}
use Rattle.std.proofs.lemmas.Bool.{eqb-true}
use Rattle.std.proofs.lemmas.List.Kept.{IsStrictlySortedBy-filter}
use Rattle.std.proofs.lemmas.Map.Entries.{lookup_from_place}
use Rattle.std.proofs.lemmas.Map.Views.{any-filter_same}
use Rattle.std.proofs.lemmas.Map.Keys.{IsDistinct-from_sorted}
use Rattle.std.specs.Cmp.{eq_by_cmp_equiv, nat_cmp_total}
use Rattle.std.specs.List.{cons_option, find, filter_map, list_any, slice_get}
use Rattle.std.specs.List.Sorted.{IsStrictlySortedBy}
use Rattle.std.specs.Map.{keys_of}
use Rattle.std.specs.Option.{is_some, option_map}
use Rattle.std.specs.Ordering.{nat_cmp}
use Rattle.block_records.specs.Numbers.{is_number, has_number, entry_at}
use Rattle.block_records.specs.Verdicts.{holds_by}
use Rattle.block_records.specs.declared.block_record.BlockRecord.{BlockRecord}
use Rattle.block_records.proofs.Ascending.{same_ascending, kept_ascending}
use Rattle.block_records.proofs.Numbers.{number_is}
use Rattle.block_tables.specs.Kept.{blocks_on, load}
use Rattle.block_tables.proofs.Held.{has_block}
use Rattle.scarce_blocks.specs.Scarce.{is_lacking, CoversLacking}
use Rattle.block_changes.specs.Copies.{may_hand_out, reports, is_the, copies_from, is_short, target_of, transfer_of, transfer_by, transfers_of}
use Rattle.block_changes.specs.declared.transfer.HandOut.{HandOut}
use Rattle.block_changes.specs.declared.transfer.Transfer.{Transfer}

found_passes : (p : ℕ → Bool) (numbers : List ℕ) (node : ℕ) → is_the node (find p numbers) ≡ true → p node ≡ true
found_passes p [] node is = absurd (true≢false (sym is))
found_passes p (n ∷ numbers) node is = by (p n) refl is (found_passes p numbers node)
  where
    by : (b : Bool) → p n ≡ b → is_the node (cond b (Some n) (find p numbers)) ≡ true → (is_the node (find p numbers) ≡ true → p node ≡ true) → p node ≡ true
    by true here same rest = ap p (sym (eqb-true n node same)) ∙ here
    by false here same rest = rest same

-- of a block that it doesn't hold a node makes no copy
nothing : (loads : ℕ → ℕ) (at : HandOut) (node block : ℕ) (own : BlockRecord) → holds_by node (Some own) ≡ false → transfer_of loads at node block own ≡ None
nothing loads at node block own lacks = by (copies_from at.live node own) refl
  where
    holding : (expected reported : Bool) → (expected || reported) ≡ false → reported ≡ true → true ≡ false
    holding true reported none is = none
    holding false reported none is = sym is ∙ none

    by : (b : Bool) → copies_from at.live node own ≡ b → cond (b && is_short at own) (option_map {U = Transfer} (λ target. record { block = block; stamp = own.stamp; target = target }) (target_of loads at.live own)) None ≡ None
    by true copies = absurd (true≢false (holding (has_number node own.expected) (reports own node) lacks (found_passes (reports own) at.live node copies)))
    by false copies = refl

listed_in : (table rest : List (ℕ × BlockRecord)) (at : HandOut) (node : ℕ) → ((i block : ℕ) (own : BlockRecord) → slice_get rest i ≡ Some (block, own) → entry_at block table ≡ Some own)
    → filter_map (λ block. transfer_by (load table) at node block (entry_at block table)) (keys_of (filter (λ entry. holds_by node (Some entry.1)) rest))
    ≡ filter_map (λ entry. transfer_of (load table) at node entry.0 entry.1) rest
listed_in table [] at node there = refl
listed_in table (entry ∷ rest) at node there = by (holds_by node (Some entry.1)) refl (listed_in table rest at node (λ i block own is. there (suc i) block own is))
  where
    f : ℕ → Option Transfer
    f block = transfer_by (load table) at node block (entry_at block table)

    by : (b : Bool) → holds_by node (Some entry.1) ≡ b → filter_map f (keys_of (filter (λ entry. holds_by node (Some entry.1)) rest)) ≡ filter_map (λ entry. transfer_of (load table) at node entry.0 entry.1) rest
        → filter_map f (keys_of (cond b (entry ∷ filter (λ entry. holds_by node (Some entry.1)) rest) (filter (λ entry. holds_by node (Some entry.1)) rest)))
        ≡ cons_option (transfer_of (load table) at node entry.0 entry.1) (filter_map (λ entry. transfer_of (load table) at node entry.0 entry.1) rest)
    by true holds rest_is =
        ap (λ found. cons_option (transfer_by (load table) at node entry.0 found) (filter_map f (keys_of (filter (λ entry. holds_by node (Some entry.1)) rest)))) (there 0 entry.0 entry.1 refl)
        ∙ ap (cons_option (transfer_of (load table) at node entry.0 entry.1)) rest_is
    by false lacks rest_is =
        rest_is ∙ ap (λ one. cons_option one (filter_map (λ entry. transfer_of (load table) at node entry.0 entry.1) rest)) (sym (nothing (load table) at node entry.0 entry.1 lacks))

listed : (table : List (ℕ × BlockRecord)) (at : HandOut) (node : ℕ) → IsStrictlySortedBy nat_cmp (keys_of table)
    → filter_map (λ block. transfer_by (load table) at node block (entry_at block table)) (blocks_on table node) ≡ transfers_of table at node
listed table at node up = listed_in table table at node
    (λ i block own is. lookup_from_place (eq_by_cmp_equiv nat_cmp_total) table i block own (IsDistinct-from_sorted nat_cmp (keys_of table) up) is)

-- ---- fewer blocks suffice

kept_found : (f : ℕ → Option Transfer) (xs : List ℕ) → filter_map f xs ≡ filter_map f (filter (λ q. is_some (f q)) xs)
kept_found f [] = refl
kept_found f (x ∷ xs) = by (f x) refl (kept_found f xs)
  where
    rest : List ℕ
    rest = filter (λ q. is_some (f q)) xs

    by : (o : Option Transfer) → f x ≡ o → filter_map f xs ≡ filter_map f rest → cons_option o (filter_map f xs) ≡ filter_map f (cond (is_some o) (x ∷ rest) rest)
    by None is more = more
    by (Some one) is more = ap (λ l. one ∷ l) more ∙ sym (ap (λ o. cons_option o (filter_map f rest)) is)

-- two ascending lists give the same where both have each block of which something is found
found_alike : (f : ℕ → Option Transfer) (xs ys : List ℕ) → IsStrictlySortedBy nat_cmp xs → IsStrictlySortedBy nat_cmp ys
    → ((q : ℕ) → is_some (f q) ≡ true → (list_any (is_number q) xs ≡ true) × (list_any (is_number q) ys ≡ true)) → filter_map f xs ≡ filter_map f ys
found_alike f xs ys up down all =
    kept_found f xs
    ∙ (ap (filter_map f)
    (same_ascending (filter found xs) (filter found ys) (IsStrictlySortedBy-filter nat_cmp found xs up) (IsStrictlySortedBy-filter nat_cmp found ys down)
    (λ q. any-filter_same (is_number q) found (found q) (λ k is. ap found (sym (number_is q k is))) xs
    ∙ (by q (found q) refl ∙ sym (any-filter_same (is_number q) found (found q) (λ k is. ap found (sym (number_is q k is))) ys))))
    ∙ sym (kept_found f ys))
  where
    found : ℕ → Bool
    found q = is_some (f q)

    by : (q : ℕ) (b : Bool) → found q ≡ b → (b && list_any (is_number q) xs) ≡ (b && list_any (is_number q) ys)
    by q true is = (all q is).0 ∙ sym (all q is).1
    by q false is = refl

-- a block that is copied lacks replicas, and the node that copies it holds it
wants : (loads : ℕ → ℕ) (at : HandOut) (node block : ℕ) (found : Option BlockRecord) → is_some (transfer_by loads at node block found) ≡ true
    → (holds_by node found ≡ true) × (is_lacking at.live found ≡ true)
wants loads at node block None some = absurd (true≢false (sym some))
wants loads at node block (Some own) some = by (copies_from at.live node own) (is_short at own) refl refl some
  where
    reported : (expected : Bool) → reports own node ≡ true → (expected || reports own node) ≡ true
    reported true is = refl
    reported false is = is

    lacks : (x y z : Bool) → (x && (y && z)) ≡ true → (x && z) ≡ true
    lacks true true z is = is
    lacks true false z is = absurd (true≢false (sym is))
    lacks false y z is = is

    by : (copies short : Bool) → copies_from at.live node own ≡ copies → is_short at own ≡ short
        → is_some (cond (copies && short) (option_map {U = Transfer} (λ target. record { block = block; stamp = own.stamp; target = target }) (target_of loads at.live own)) None) ≡ true
        → (holds_by node (Some own) ≡ true) × (is_lacking at.live (Some own) ≡ true)
    by true true copies short one = (
      reported (has_number node own.expected) (found_passes (reports own) at.live node copies),
      lacks (is_some own.committed) (may_hand_out at.retry at.moment own.handed_out) (nat_lt (length (filter (reports own) at.live)) own.replication) short,
    )
    by true false copies short one = absurd (true≢false (sym one))
    by false short copies is one = absurd (true≢false (sym one))

pub covered : (table : List (ℕ × BlockRecord)) (at : HandOut) (node : ℕ) (blocks : List ℕ) → IsStrictlySortedBy nat_cmp (keys_of table) → IsStrictlySortedBy nat_cmp blocks
    → CoversLacking table at.live node blocks → filter_map (λ block. transfer_by (load table) at node block (entry_at block table)) blocks ≡ transfers_of table at node
covered table at node blocks up own covers =
    found_alike (λ block. transfer_by (load table) at node block (entry_at block table)) blocks (blocks_on table node) own (kept_ascending (λ (entry : ℕ × BlockRecord). holds_by node (Some entry.1)) table up)
    (λ q some. let both = wants (load table) at node q (entry_at q table) some in (covers q both.0 both.1, has_block table node q up ∙ both.0))
    ∙ listed table at node up

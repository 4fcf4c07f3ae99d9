-- Which nodes have to do with which blocks, behind a change of one node's blocks.
use Rattle.std.proofs.Common.{◌≡◌, ℕ, ◌==◌, Bool, true, false, ◌&&◌, ◌||◌, nat_lt, List, [], ◌∷◌, length, filter, take, drop, Option, Some, None, unwrap_or, refl, sym, ap, ◌∙◌, cond, true≢false, arith}
use Rattle.std.proofs.lemmas.Bool.{lt-ltb}
use Rattle.std.specs.List.{list_any}
use Rattle.std.specs.Option.{is_some}
use Rattle.std.proofs.lemmas.Map.Views.{any-filter_same}
use Rattle.std.proofs.lemmas.List.{take-append-drop}
use Rattle.std.proofs.lemmas.List.Folds.{list_any-append}
use Rattle.std.specs.List.Sorted.{IsStrictlySortedBy}
use Rattle.std.specs.Map.{lookup, set_value, keys_of}
use Rattle.std.specs.Ordering.{nat_cmp}
use Rattle.std.proofs.lemmas.Map.Steps.{set_value_same}
use Rattle.block_records.specs.Numbers.{is_number, has_number, entry_at}
use Rattle.block_index.specs.Relation.{blocks_at, relates}
use Rattle.block_records.proofs.Numbers.{number_is}

other_node : (v here : Bool) (b : Bool) → here ≡ cond (b && false) v here
other_node v here true = refl
other_node v here false = refl

this_node : (v here : Bool) (b : Bool) → cond b v here ≡ cond (b && true) v here
this_node v here true = refl
this_node v here false = refl

-- one node's blocks are others, which tell apart the block alone
pub related_at : (v : Bool) (old new : List (ℕ × List ℕ)) (node block n b : ℕ) (own now : List ℕ)
    → blocks_at old node ≡ own
    → ((q : ℕ) → list_any (is_number q) now ≡ cond (is_number block q) v (list_any (is_number q) own))
    → ((q : ℕ) → entry_at q new ≡ cond (is_number node q) (Some now) (entry_at q old))
    → relates new n b ≡ cond (is_number block b && is_number node n) v (relates old n b)
related_at v old new node block n b own now there set put =
    ap (λ found. list_any (is_number b) (unwrap_or found [])) (put n) ∙ by (is_number node n) refl
  where
    by : (x : Bool) → is_number node n ≡ x → list_any (is_number b) (unwrap_or (cond x (Some now) (entry_at n old)) []) ≡ cond (is_number block b && x) v (relates old n b)
    by false at = other_node v (relates old n b) (is_number block b)
    by true at =
        set b
        ∙ ap (λ blocks. cond (is_number block b) v (list_any (is_number b) blocks)) (sym there ∙ ap (blocks_at old) (number_is node n at))
        ∙ this_node v (relates old n b) (is_number block b)

-- a node that has none, where its blocks are taken
pub taken_none : (old : List (ℕ × List ℕ)) (node n b : ℕ) → blocks_at old node ≡ [] → relates old n b ≡ cond (is_number node n) false (relates old n b)
taken_none old node n b none = by (is_number node n) refl
  where
    by : (x : Bool) → is_number node n ≡ x → relates old n b ≡ cond x false (relates old n b)
    by false at = refl
    by true at = ap (λ q. list_any (is_number b) (blocks_at old q)) (sym (number_is node n at)) ∙ ap (list_any (is_number b)) none

-- blocks written back change nothing
pub written_back : {K X : Type 0} (test : K → Bool) (table new : List (K × X)) (own : X) → lookup test table ≡ Some own → new ≡ set_value test table own → new ≡ table
written_back test table new own there h = h ∙ set_value_same test table own there

-- a front of nodes has no other nodes
pub front_lacks : (n : ℕ) (nodes : List ℕ) (i : ℕ) → has_number n nodes ≡ false → has_number n (take i nodes) ≡ false
front_lacks n nodes i lacks = by (has_number n (take i nodes)) (has_number n (drop i nodes)) (sym lacks ∙ (ap (has_number n) (sym (take-append-drop i nodes)) ∙ list_any-append (λ other. other == n) (take i nodes) (drop i nodes)))
  where
    by : (x y : Bool) → false ≡ (x || y) → x ≡ false
    by true y h = sym h
    by false y h = refl

pub not_of_front : (x : Bool) (n : ℕ) (nodes : List ℕ) (i : ℕ) → (x && has_number n nodes) ≡ false → (x && has_number n (take i nodes)) ≡ false
not_of_front true n nodes i lacks = front_lacks n nodes i lacks
not_of_front false n nodes i lacks = refl

-- no blocks ascend
pub none_ascending : IsStrictlySortedBy nat_cmp []
unfolding IsStrictlySortedBy
none_ascending = tt

-- a block is among those that are found
abbrev pub among : ℕ → Option (List ℕ) → Bool
among block found = list_any (is_number block) (unwrap_or found [])

pub none_at : (x : Bool) (block : ℕ) (found : Option (List ℕ)) → among block (cond x None found) ≡ cond x false (among block found)
none_at true block found = refl
none_at false block found = refl

-- ---- the nodes that have to do with a block

some_blocks : (block : ℕ) (blocks : List ℕ) → list_any (is_number block) blocks ≡ true → nat_lt 0 (length blocks) ≡ true
some_blocks block [] some = absurd (true≢false (sym some))
some_blocks block (b ∷ blocks) some = lt-ltb 0 (length (b ∷ blocks)) (omega arith)

has_entry : {X : Type 0} (q : ℕ) (table : List (ℕ × X)) → list_any (is_number q) (keys_of table) ≡ is_some (entry_at q table)
has_entry q [] = refl
has_entry {X} q (entry ∷ table) = by (is_number q entry.0) (has_entry q table)
  where
    by : (b : Bool) → list_any (is_number q) (keys_of table) ≡ is_some (entry_at q table) → (b || list_any (is_number q) (keys_of table)) ≡ is_some (cond b (Some entry.1) (entry_at q table))
    by true rest = refl
    by false rest = rest

pub busy_listed : (node block : ℕ) (table : List (ℕ × List ℕ)) → relates table node block ≡ true → list_any (is_number node) (filter (λ n. nat_lt 0 (length (blocks_at table n))) (keys_of table)) ≡ true
busy_listed node block table some =
    any-filter_same (is_number node) busy (busy node) (λ k is. ap busy (sym (number_is node k is))) (keys_of table)
    ∙ (ap (λ b. b && list_any (is_number node) (keys_of table)) (some_blocks block (blocks_at table node) some) ∙ (has_entry node table ∙ there (entry_at node table) some))
  where
    busy : ℕ → Bool
    busy n = nat_lt 0 (length (blocks_at table n))

    there : (found : Option (List ℕ)) → list_any (is_number block) (unwrap_or found []) ≡ true → is_some found ≡ true
    there None none = none
    there (Some blocks) here = refl

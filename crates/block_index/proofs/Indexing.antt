-- An index of the nodes that a table has beside its blocks, behind a change of one block's entry.
use Rattle.std.proofs.Common.{◌≡◌, ℕ, Bool, true, false, ◌&&◌, List, Option, refl, sym, ap, ◌∙◌, cond}
use Rattle.block_records.specs.Numbers.{is_number, entry_at}
use Rattle.block_records.proofs.Numbers.{number_is}
use Rattle.block_index.specs.Relation.{relates, IsIndexBy}

abbrev pub Puts : {X : Type 0} → ℕ → Option X → List (ℕ × X) → List (ℕ × X) → Type 0
Puts block own old new = (q : ℕ) → entry_at q new ≡ cond (is_number block q) own (entry_at q old)

-- of one block the nodes of a test are related, or are not, and all others as before
abbrev pub Relates : Bool → ℕ → (ℕ → Bool) → List (ℕ × List ℕ) → List (ℕ × List ℕ) → Type 0
Relates v block p old new = (n b : ℕ) → relates new n b ≡ cond (is_number block b && p n) v (relates old n b)

-- of the block the nodes are related that its new entry has, and no others
pub indexed : {X : Type 0} (has : ℕ → Option X → Bool) (old new : List (ℕ × X)) (index after : List (ℕ × List ℕ)) (block : ℕ) (own : Option X)
    → IsIndexBy has old index → Puts block own old new → ((n b : ℕ) → relates after n b ≡ cond (is_number block b) (has n own) (relates index n b)) → IsIndexBy has new after
indexed has old new index after block own law put says n b = says n b ∙ (by (is_number block b) ∙ ap (has n) (sym (put b)))
  where
    by : (x : Bool) → cond x (has n own) (relates index n b) ≡ has n (cond x own (entry_at b old))
    by false = law n b
    by true = refl

-- a change of one node's relation to a block gives what is known of the block's nodes
pub step : (v : Bool) (block : ℕ) (p : ℕ → Bool) (was now : ℕ → Bool) (base old new : List (ℕ × List ℕ))
    → ((n b : ℕ) → relates old n b ≡ cond (is_number block b) (was n) (relates base n b)) → Relates v block p old new → ((n : ℕ) → cond (p n) v (was n) ≡ now n)
    → (n b : ℕ) → relates new n b ≡ cond (is_number block b) (now n) (relates base n b)
step v block p was now base old new before change says n b =
    change n b ∙ (ap (cond (is_number block b && p n) v) (before n b) ∙ by (is_number block b))
  where
    by : (x : Bool) → cond (x && p n) v (cond x (was n) (relates base n b)) ≡ cond x (now n) (relates base n b)
    by false = refl
    by true = says n

-- what a block's nodes are to begin with
pub start : {X : Type 0} (has : ℕ → Option X → Bool) (table : List (ℕ × X)) (index : List (ℕ × List ℕ)) (block : ℕ) → IsIndexBy has table index
    → (n b : ℕ) → relates index n b ≡ cond (is_number block b) (has n (entry_at block table)) (relates index n b)
start has table index block law n b = by (is_number block b) refl
  where
    by : (x : Bool) → is_number block b ≡ x → relates index n b ≡ cond x (has n (entry_at block table)) (relates index n b)
    by false at = refl
    by true at = law n b ∙ ap (λ q. has n (entry_at q table)) (sym (number_is block b at))

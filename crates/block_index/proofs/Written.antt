-- A table of nodes by ascending ids in a vector: an entry whose value alone is written.
use Rattle.std.proofs.Common.{◌≡◌, ℕ, zero, suc, cond, List, [], ◌∷◌, get_or, set, Some, unwrap_or, sym, ap, ◌∙◌, subst}
use Rattle.std.specs.BTreeMap.{insert_entry}
use Rattle.std.specs.Ordering.{is_eq, nat_cmp}
use Rattle.block_records.specs.Numbers.{is_number, entry_at}
use Rattle.block_records.specs.Places.{IsPlace, IsGap}
use Rattle.block_records.proofs.Numbers.{number_is}
use Rattle.block_records.proofs.Standing.{IsOrdered, entry_there, entry_absent, set_there, inserted_ordered, entry_behind}
use Rattle.block_index.specs.Relation.{blocks_at}

module _ {X : Type 0} where
  -- the key there is the node's
  pub key_there : (node : ℕ) (table : List (ℕ × X)) (at : ℕ) (d : ℕ × X) → IsPlace node table at → (get_or table at d).0 ≡ node
  key_there node [] at d there = absurd there
  key_there node (entry ∷ table) zero d there = sym (number_is node entry.0 (ap is_eq there))
  key_there node (entry ∷ table) (suc at) d there = key_there node table at d there.1

  -- a write of the value is an entry's insertion
  pub written : (node key : ℕ) (value : X) (table : List (ℕ × X)) (at : ℕ) → key ≡ node → IsPlace node table at → set table at (key, value) ≡ insert_entry nat_cmp table node value
  written node key value table at is there = ap (λ k. set table at (k, value)) is ∙ set_there node value table at there

  pub written_ordered : (node key : ℕ) (value : X) (table : List (ℕ × X)) (at : ℕ) → key ≡ node → IsPlace node table at → IsOrdered table → IsOrdered (set table at (key, value))
  written_ordered node key value table at is there up = subst (λ (left : List (ℕ × X)). IsOrdered left) (sym (written node key value table at is there)) (inserted_ordered node value table up)

  pub entry_written : (node key : ℕ) (value : X) (table : List (ℕ × X)) (at q : ℕ) → key ≡ node → IsPlace node table at → entry_at q (set table at (key, value)) ≡ cond (is_number node q) (Some value) (entry_at q table)
  entry_written node key value table at q is there = ap (entry_at q) (written node key value table at is there) ∙ entry_behind node value q table

-- a node's blocks are those of the entry that was read at its place
pub blocks_there : (node : ℕ) (table : List (ℕ × List ℕ)) (at : ℕ) (entry : ℕ × List ℕ) → IsPlace node table at → entry ≡ get_or table at entry → blocks_at table node ≡ entry.1
blocks_there node table at entry there is = ap (λ found. unwrap_or found []) (entry_there node table at entry there) ∙ sym (ap (λ (read : ℕ × List ℕ). read.1) is)

pub blocks_absent : (node : ℕ) (table : List (ℕ × List ℕ)) (at : ℕ) → IsOrdered table → IsGap node table at → blocks_at table node ≡ []
blocks_absent node table at up gap = ap (λ found. unwrap_or found []) (entry_absent node table at up gap)

-- The bytes of a file once the length of its last block is committed.
use Rattle.std.proofs.Common.{◌≡◌, ℕ, suc, ◌+◌, ◌-◌, ◌^◌, ◌==◌, nat_lt, Bool, true, false, not, ◌&&◌, ◌||◌, List, [], ◌∷◌, length, take, Some, None, refl, sym, ap, ◌∙◌, cond, arith, slice_get}
use Rattle.std.specs.Prelude.{unwrap_or}
use Rattle.std.specs.List.{list_any}
use Rattle.file_blocks.specs.declared.blocks.FileBlock.{FileBlock}
use Rattle.file_blocks.specs.Blocks.{last_of, length_of, told_length, but_last, has_id, with_length_where, committed_in}
use Rattle.flat_rows.specs.BlockOutcome.{has_block_id}

flipped : (a b : ℕ) → (a == b) ≡ true → (b == a) ≡ true
flipped a b h = grind (arith, h)

one_less : (n : ℕ) → suc n - 1 ≡ n
one_less n = omega arith

-- the last of two and more is the last of all but the first
last_behind : (block next : FileBlock) (blocks : List FileBlock) → last_of (block ∷ next ∷ blocks) ≡ last_of (next ∷ blocks)
last_behind block next blocks = ap (slice_get (block ∷ next ∷ blocks)) (one_less (suc (length blocks))) ∙ ap (slice_get (next ∷ blocks)) (sym (one_less (length blocks)))

front_behind : (block next : FileBlock) (blocks : List FileBlock) → but_last (block ∷ next ∷ blocks) ≡ block ∷ but_last (next ∷ blocks)
front_behind block next blocks = ap (λ n. take n (block ∷ next ∷ blocks)) (one_less (suc (length blocks))) ∙ ap (λ n. block ∷ take n (next ∷ blocks)) (sym (one_less (length blocks)))

named_among : (id : ℕ) (blocks : List FileBlock) → has_block_id id (last_of blocks) ≡ true → list_any (has_id id) blocks ≡ true
named_among id [] h = cc
named_among id (block ∷ []) h = ap (λ b. b || false) (flipped id block.id h)
named_among id (block ∷ next ∷ blocks) h = by (has_id id block) (named_among id (next ∷ blocks) (ap (has_block_id id) (sym (last_behind block next blocks)) ∙ h))
  where
    by : (b : Bool) → list_any (has_id id) (next ∷ blocks) ≡ true → (b || list_any (has_id id) (next ∷ blocks)) ≡ true
    by true k = refl
    by false k = k

-- a length that can be told
pub told_is : (n x : ℕ) → Some n ≡ told_length x → n ≡ x
told_is n x h = by (nat_lt x (2 ^ 64)) h
  where
    by : (b : Bool) → Some n ≡ cond b (Some x) None → n ≡ x
    by true e = cc
    by false e = cc

pub length_committed : (id bytes : ℕ) (blocks : List FileBlock) → has_block_id id (last_of blocks) ≡ true → length_of (committed_in id bytes blocks) ≡ length_of (but_last blocks) + bytes
length_committed id bytes [] h = cc
length_committed id bytes (block ∷ []) h = by (has_id id block) (flipped id block.id h)
  where
    by : (b : Bool) → b ≡ true → unwrap_or (with_length_where (b && true) bytes block).committed 0 + 0 ≡ 0 + bytes
    by true e = omega arith
    by false e = cc
length_committed id bytes (block ∷ next ∷ blocks) h =
    let rest = ap (has_block_id id) (sym (last_behind block next blocks)) ∙ h in
    let among = named_among id (next ∷ blocks) rest in
    ap (λ b. unwrap_or (with_length_where (has_id id block && not b) bytes block).committed 0 + length_of (committed_in id bytes (next ∷ blocks))) among
    ∙ (kept (has_id id block) ∙ (ap (λ n. unwrap_or block.committed 0 + n) (length_committed id bytes (next ∷ blocks) rest) ∙ (joined (unwrap_or block.committed 0) (length_of (but_last (next ∷ blocks))) bytes ∙ ap (λ l. length_of l + bytes) (sym (front_behind block next blocks)))))
  where
    kept : (b : Bool) → unwrap_or (with_length_where (b && false) bytes block).committed 0 + length_of (committed_in id bytes (next ∷ blocks)) ≡ unwrap_or block.committed 0 + length_of (committed_in id bytes (next ∷ blocks))
    kept true = refl
    kept false = refl

    joined : (a b c : ℕ) → a + (b + c) ≡ (a + b) + c
    joined a b c = omega arith

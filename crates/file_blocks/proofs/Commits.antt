-- The length of one block of a list is committed.
use Rattle.std.proofs.Common.{◌≡◌, ℕ, zero, suc, ◌+◌, ◌<◌, Bool, true, false, ◌&&◌, ◌||◌, not, length, nat_eq, List, [], ◌∷◌, ◌++◌, map, drop, Some, refl, sym, ap, ◌∙◌, arith}
use Rattle.std.proofs.lemmas.Bool.{eq-eqb, eqb-true}
use Rattle.std.specs.Prelude.{slice_get, slice_set}
use Rattle.std.specs.List.{list_any}
use Rattle.file_blocks.specs.declared.blocks.FileBlock.{FileBlock}
use Rattle.file_blocks.specs.Blocks.{IsLastPlace, are_distinct, has_id, with_length_where, committed_in}

next : (i : ℕ) → suc i + 1 ≡ suc (i + 1)
next i = omega arith

same_number : (a b : ℕ) → a ≡ b → nat_eq a b ≡ true
same_number a b h = eq-eqb a b h

both : (a b : Bool) → (a && b) ≡ true → (a ≡ true) × (b ≡ true)
both true true h = (refl, refl)
both true false h = cc
both false b h = cc

and_false : (a : Bool) → (a && false) ≡ false
and_false true = refl
and_false false = refl

or_left : (a b : Bool) → a ≡ true → (a || b) ≡ true
or_left a b h = rw h refl

or_right : (a b : Bool) → b ≡ true → (a || b) ≡ true
or_right true b h = refl
or_right false b h = h

none_left : (a b : Bool) → (a || b) ≡ false → (a ≡ false) × (b ≡ false)
none_left true b h = cc
none_left false b h = (refl, h)

module _ (id bytes : ℕ) where
  abbrev committed : FileBlock
  committed = record { id = id; committed = Some bytes }

  pub none_committed : (blocks : List FileBlock) → list_any (has_id id) blocks ≡ false → blocks ≡ committed_in id bytes blocks
  none_committed [] h = refl
  none_committed (b ∷ bs) h =
      let parts = none_left (has_id id b) (list_any (has_id id) bs) h in
      ap (λ l. b ∷ l) (none_committed bs parts.1) ∙ ap (λ t. with_length_where (t && not (list_any (has_id id) bs)) bytes b ∷ committed_in id bytes bs) (sym parts.0)

  found_any : (blocks : List FileBlock) (i : ℕ) → i < length blocks → ((block : FileBlock) → slice_get blocks i ≡ Some block → block.id ≡ id) → list_any (has_id id) blocks ≡ true
  found_any [] i within h = absurd (omega (arith, within))
  found_any (b ∷ bs) zero within h = or_left (has_id id b) _ (same_number b.id id (h b refl))
  found_any (b ∷ bs) (suc i) within h = or_right (has_id id b) _ (found_any bs i (omega (arith, within)) h)

  last_committed : (blocks : List FileBlock) (i : ℕ) → i < length blocks → ((block : FileBlock) → slice_get blocks i ≡ Some block → block.id ≡ id) → list_any (has_id id) (drop (i + 1) blocks) ≡ false → slice_set blocks i committed ≡ committed_in id bytes blocks
  last_committed [] i within h behind = absurd (omega (arith, within))
  last_committed (b ∷ bs) zero within h behind = here (h b refl) ∙ ap (λ t. with_length_where (t && not (list_any (has_id id) bs)) bytes b ∷ committed_in id bytes bs) (sym (same_number b.id id (h b refl)))
    where
      here : b.id ≡ id → committed ∷ bs ≡ with_length_where (not (list_any (has_id id) bs)) bytes b ∷ committed_in id bytes bs
      here e = ap (λ k. record { id = k; committed = Some bytes } ∷ bs) (sym e) ∙ ap (λ l. with_length_where true bytes b ∷ l) (none_committed bs behind) ∙ ap (λ t. with_length_where (not t) bytes b ∷ committed_in id bytes bs) (sym behind)
  last_committed (b ∷ bs) (suc i) within h behind =
      ap (λ l. b ∷ l) (last_committed bs i (omega (arith, within)) h (ap (λ k. list_any (has_id id) (drop k (b ∷ bs))) (sym (next i)) ∙ behind))
      ∙ ap (λ t. with_length_where t bytes b ∷ committed_in id bytes bs) (sym (ap (λ t. has_id id b && not t) (found_any bs i (omega (arith, within)) h) ∙ and_false (has_id id b)))

  pub place_committed : (blocks : List FileBlock) (place : ℕ) → IsLastPlace id blocks place → slice_set blocks place committed ≡ committed_in id bytes blocks
  place_committed blocks place last = last_committed blocks place last.within last.here last.behind

-- laws of it

module _ (id bytes : ℕ) where
  length_id : (here : Bool) (b : FileBlock) → (with_length_where here bytes b).id ≡ b.id
  length_id true b = refl
  length_id false b = refl

  -- the blocks stay the same ones
  pub committed_ids : (blocks : List FileBlock) → map (λ block. block.id) (committed_in id bytes blocks) ≡ map (λ block. block.id) blocks
  committed_ids [] = refl
  committed_ids (b ∷ bs) =
      ap (λ n. n ∷ map (λ block. block.id) (committed_in id bytes bs)) (length_id (has_id id b && not (list_any (has_id id) bs)) b) ∙ ap (λ l. b.id ∷ l) (committed_ids bs)

  -- where no two have one id, each one with this id has the length
  pub committed_each : (blocks : List FileBlock) → are_distinct blocks ≡ true → committed_in id bytes blocks ≡ map (λ block. with_length_where (has_id id block) bytes block) blocks
  committed_each [] h = refl
  committed_each (b ∷ bs) h =
      let hs = both (not (list_any (has_id b.id) bs)) (are_distinct bs) h in
      ap (λ t. with_length_where t bytes b ∷ committed_in id bytes bs) (by (has_id id b) refl hs.0) ∙ ap (λ l. with_length_where (has_id id b) bytes b ∷ l) (committed_each bs hs.1)
    where
      by : (t : Bool) → has_id id b ≡ t → not (list_any (has_id b.id) bs) ≡ true → (t && not (list_any (has_id id) bs)) ≡ t
      by true e alone = ap (λ n. not (list_any (has_id n) bs)) (sym (eqb-true b.id id e)) ∙ alone
      by false e alone = refl

  -- a block behind, with another id, stays as it is
  pub committed_before : (blocks : List FileBlock) (new : FileBlock) → has_id id new ≡ false → committed_in id bytes (blocks ++ new ∷ []) ≡ committed_in id bytes blocks ++ new ∷ []
  committed_before [] new other = ap (λ t. with_length_where (t && true) bytes new ∷ []) other
  committed_before (b ∷ bs) new other =
      ap (λ t. with_length_where (has_id id b && not t) bytes b ∷ committed_in id bytes (bs ++ new ∷ [])) (unseen bs) ∙ ap (λ l. with_length_where (has_id id b && not (list_any (has_id id) bs)) bytes b ∷ l) (committed_before bs new other)
    where
      unseen : (xs : List FileBlock) → list_any (has_id id) (xs ++ new ∷ []) ≡ list_any (has_id id) xs
      unseen [] = ap (λ t. t || false) other
      unseen (x ∷ xs) = ap (λ t. has_id id x || t) (unseen xs)

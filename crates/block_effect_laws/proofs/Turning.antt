-- What keeps all that is sound: one block more, one record given anew, one block less, and one such step after another.
use Rattle.std.proofs.Common.{◌≡◌, ℕ, ◌<◌, ◌≤◌, ◌+◌, Bool, true, false, ◌⊎◌, inl, inr, Option, Some, None, refl, sym, ◌∙◌, subst, cond, arith}
use Rattle.std.specs.Option.{option_map}
use Rattle.block_records.specs.Numbers.{is_number}
use Rattle.block_records.specs.declared.block_record.BlockRecord.{BlockRecord}
use Rattle.block_records.proofs.Numbers.{number_is}
use Rattle.known_blocks.specs.Known.{KnownBlocks, block_of}
use Rattle.block_effect_laws.specs.Laws.{AgreeOn, IsSoundAt, AreApart, IsSound, GoesOn, Becomes, KeepsKnown}
use Rattle.block_effect_laws.proofs.Orders.{AreInOrder}

one : (own other : BlockRecord) → Some own ≡ Some other → own ≡ other
one own other e = cc

stays : (before : KnownBlocks) (own : BlockRecord) → GoesOn before own own
stays before own = record { stamp = inl refl; committed = λ length is. is; recovering = λ since is. inl (is, refl) }

pub becomes_itself : (before : KnownBlocks) (block : ℕ) (found : Option BlockRecord) → Becomes before block found found
becomes_itself before block None = tt
becomes_itself before block (Some own) = stays before own

pub kept_same : (known : KnownBlocks) → IsSound known → KeepsKnown known known
kept_same known sound = record { sound = sound; next_block = omega arith; next_stamp = omega arith; blocks = λ block. becomes_itself known block (block_of known block) }

-- ---- one step after another

-- a stamp that stays, or is new, twice
stamp_on : (own mid late first second : ℕ) → (mid ≡ own) ⊎ (first ≤ mid) → (late ≡ mid) ⊎ (second ≤ late) → first ≤ second → (late ≡ own) ⊎ (first ≤ late)
stamp_on own mid late first second (inl h) (inl k) le = inl (k ∙ h)
stamp_on own mid late first second (inr h) (inl k) le = inr (omega (arith, h, k))
stamp_on own mid late first second h (inr k) le = inr (omega (arith, k, le))

new_still : (mid late first second : ℕ) → first ≤ mid → (late ≡ mid) ⊎ (second ≤ late) → first ≤ second → first ≤ late
new_still mid late first second h (inl k) le = omega (arith, h, k)
new_still mid late first second h (inr k) le = omega (arith, k, le)

-- a recovery that runs did before under this stamp, or has a new one, twice
recovering_on : (before between : KnownBlocks) (own mid late : BlockRecord) (since : ℕ) → before.next_stamp ≤ between.next_stamp
    → (mid.recovering ≡ Some since → ((own.recovering ≡ Some since) × (mid.stamp ≡ own.stamp)) ⊎ (before.next_stamp ≤ mid.stamp))
    → ((mid.recovering ≡ Some since) × (late.stamp ≡ mid.stamp)) ⊎ (between.next_stamp ≤ late.stamp) → ((own.recovering ≡ Some since) × (late.stamp ≡ own.stamp)) ⊎ (before.next_stamp ≤ late.stamp)
recovering_on before between own mid late since le first (inr new) = inr (omega (arith, le, new))
recovering_on before between own mid late since le first (inl same) = by (first same.0)
  where
    by : ((own.recovering ≡ Some since) × (mid.stamp ≡ own.stamp)) ⊎ (before.next_stamp ≤ mid.stamp) → ((own.recovering ≡ Some since) × (late.stamp ≡ own.stamp)) ⊎ (before.next_stamp ≤ late.stamp)
    by (inl was) = inl (was.0, same.1 ∙ was.1)
    by (inr new) = let is = same.1 in inr (omega (arith, new, is))

module _ (before between later : KnownBlocks) (sound : IsSound before) (first : KeepsKnown before between) (second : KeepsKnown between later) where
  in_turn : (block : ℕ) (a b c : Option BlockRecord) → block_of before block ≡ a → block_of between block ≡ b → block_of later block ≡ c
      → Becomes before block a b → Becomes between block b c → Becomes before block a c
  in_turn block None None None x y z f s = tt
  in_turn block None None (Some own) x y z f s = (omega (arith, s.0, first.next_block), omega (arith, s.1, first.next_stamp))
  in_turn block None (Some own) None x y z f s = tt
  in_turn block None (Some own) (Some late) x y z f s = (f.0, new_still own.stamp late.stamp before.next_stamp between.next_stamp f.1 s.stamp first.next_stamp)
  in_turn block (Some own) b None x y z f s = tt
  in_turn block (Some own) None (Some late) x y z f s = absurd (omega (arith, (sound.each block own x).given, s.0, first.next_block))
  in_turn block (Some own) (Some mid) (Some late) x y z f s = record {
    stamp = stamp_on own.stamp mid.stamp late.stamp before.next_stamp between.next_stamp f.stamp s.stamp first.next_stamp;
    committed = λ length is. s.committed length (f.committed length is);
    recovering = λ since is. recovering_on before between own mid late since first.next_stamp (f.recovering since) (s.recovering since is);
  }

  pub kept_in_turn : KeepsKnown before later
  kept_in_turn = record {
    sound = second.sound;
    next_block = omega (arith, first.next_block, second.next_block);
    next_stamp = omega (arith, first.next_stamp, second.next_stamp);
    blocks = λ block. in_turn block (block_of before block) (block_of between block) (block_of later block) refl refl refl (first.blocks block) (second.blocks block);
  }

-- ---- stamps

-- where one block at most gets a stamp that wasn't given before, no two have one
module _ (before later : KnownBlocks) (sound : IsSound before) (blocks : (q : ℕ) → Becomes before q (block_of before q) (block_of later q)) (only : ℕ)
    (new : (q : ℕ) (own : BlockRecord) → block_of later q ≡ Some own → (only ≡ q) ⊎ (own.stamp < before.next_stamp)) where
  -- a block that had this stamp before
  abbrev HadIt : ℕ → BlockRecord → Type 0
  HadIt q own = (old : BlockRecord) × (block_of before q ≡ Some old) × (old.stamp ≡ own.stamp)

  had_or_new : (q : ℕ) (own : BlockRecord) → block_of later q ≡ Some own → HadIt q own ⊎ (before.next_stamp ≤ own.stamp)
  had_or_new q own there = by (block_of before q) refl (subst (λ found. Becomes before q (block_of before q) found) there (blocks q))
    where
      kept : (old : BlockRecord) → block_of before q ≡ Some old → (own.stamp ≡ old.stamp) ⊎ (before.next_stamp ≤ own.stamp) → HadIt q own ⊎ (before.next_stamp ≤ own.stamp)
      kept old is (inl same) = inl (old, is, sym same)
      kept old is (inr fresh) = inr fresh

      by : (found : Option BlockRecord) → block_of before q ≡ found → Becomes before q found (Some own) → HadIt q own ⊎ (before.next_stamp ≤ own.stamp)
      by None is turn = inr turn.1
      by (Some old) is turn = kept old is turn.stamp

  is_only : (q : ℕ) (own : BlockRecord) → before.next_stamp ≤ own.stamp → (only ≡ q) ⊎ (own.stamp < before.next_stamp) → only ≡ q
  is_only q own fresh (inl is) = is
  is_only q own fresh (inr less) = absurd (omega (arith, fresh, less))

  pub apart_later : AreApart later
  apart_later p q own also here there same = by (had_or_new p own here) (had_or_new q also there)
    where
      by : HadIt p own ⊎ (before.next_stamp ≤ own.stamp) → HadIt q also ⊎ (before.next_stamp ≤ also.stamp) → p ≡ q
      by (inl a) (inl b) = sound.apart p q a.0 b.0 a.1 b.1 (a.2 ∙ (same ∙ sym b.2))
      by (inl a) (inr fresh) = let was = (sound.each p a.0 a.1).stamped in let old = a.2 in absurd (omega (arith, was, old, same, fresh))
      by (inr fresh) (inl b) = let was = (sound.each q b.0 b.1).stamped in let old = b.2 in absurd (omega (arith, was, old, same, fresh))
      by (inr first) (inr second) = sym (is_only p own first (new p own here)) ∙ is_only q also second (new q also there)

-- ---- one step

module _ (before later : KnownBlocks) (sound : IsSound before) (up : AreInOrder later.blocks) (block : ℕ) where
  -- a record given anew
  pub record IsAllowed (own new : BlockRecord) : Type 0 where
    pub goes_on : GoesOn before own new
    pub stamped : new.stamp < later.next_stamp
    pub agreed : AgreeOn new.committed new.reports

  pub kept_changed : (change : BlockRecord → BlockRecord) → before.next_block ≤ later.next_block → before.next_stamp ≤ later.next_stamp
      → ((q : ℕ) → block_of later q ≡ cond (is_number block q) (option_map change (block_of before block)) (block_of before q))
      → ((own : BlockRecord) → block_of before block ≡ Some own → IsSoundAt before block own → IsAllowed own (change own)) → KeepsKnown before later
  kept_changed change blocks stamps at allowed = record {
    sound = record {
      once = up;
      each = λ q own there. sound_by q own (is_number block q) refl (sym (at q) ∙ there);
      apart = apart_later before later sound turns block (λ q own there. new_by q own (is_number block q) refl (sym (at q) ∙ there));
    };
    next_block = blocks;
    next_stamp = stamps;
    blocks = turns;
  }
    where
      sound_found : (own : BlockRecord) (found : Option BlockRecord) → block_of before block ≡ found → option_map change found ≡ Some own → IsSoundAt later block own
      sound_found own None is there = cc
      sound_found own (Some old) is there =
          let was = sound.each block old is in
          let may = allowed old is was in
          subst (λ new. IsSoundAt later block new) (one (change old) own there) (record { given = omega (arith, was.given, blocks); stamped = may.stamped; agreed = may.agreed })

      sound_by : (q : ℕ) (own : BlockRecord) (b : Bool) → is_number block q ≡ b → cond b (option_map change (block_of before block)) (block_of before q) ≡ Some own → IsSoundAt later q own
      sound_by q own false apart there =
          let was = sound.each q own there in
          record { given = omega (arith, was.given, blocks); stamped = omega (arith, was.stamped, stamps); agreed = was.agreed }
      sound_by q own true same there = subst (λ n. IsSoundAt later n own) (number_is block q same) (sound_found own (block_of before block) refl there)

      becomes_found : (q : ℕ) (found : Option BlockRecord) → block_of before block ≡ found → Becomes before q found (option_map change found)
      becomes_found q None is = tt
      becomes_found q (Some old) is = (allowed old is (sound.each block old is)).goes_on

      becomes_by : (q : ℕ) (b : Bool) → is_number block q ≡ b → Becomes before q (block_of before q) (cond b (option_map change (block_of before block)) (block_of before q))
      becomes_by q false apart = becomes_itself before q (block_of before q)
      becomes_by q true same =
          subst (λ n. Becomes before q (block_of before n) (option_map change (block_of before block))) (number_is block q same) (becomes_found q (block_of before block) refl)

      turns : (q : ℕ) → Becomes before q (block_of before q) (block_of later q)
      turns q = subst (λ found. Becomes before q (block_of before q) found) (sym (at q)) (becomes_by q (is_number block q) refl)

      new_by : (q : ℕ) (own : BlockRecord) (b : Bool) → is_number block q ≡ b → cond b (option_map change (block_of before block)) (block_of before q) ≡ Some own → (block ≡ q) ⊎ (own.stamp < before.next_stamp)
      new_by q own true same there = inl (number_is block q same)
      new_by q own false apart there = inr (sound.each q own there).stamped

  -- a block goes
  pub kept_removed : before.next_block ≤ later.next_block → before.next_stamp ≤ later.next_stamp → ((q : ℕ) → block_of later q ≡ cond (is_number block q) None (block_of before q)) → KeepsKnown before later
  kept_removed blocks stamps at = record {
    sound = record {
      once = up;
      each = λ q own there. sound_by q own (is_number block q) (sym (at q) ∙ there);
      apart = apart_later before later sound turns block (λ q own there. new_by q own (is_number block q) (sym (at q) ∙ there));
    };
    next_block = blocks;
    next_stamp = stamps;
    blocks = turns;
  }
    where
      sound_by : (q : ℕ) (own : BlockRecord) (b : Bool) → cond b None (block_of before q) ≡ Some own → IsSoundAt later q own
      sound_by q own true there = cc
      sound_by q own false there =
          let was = sound.each q own there in
          record { given = omega (arith, was.given, blocks); stamped = omega (arith, was.stamped, stamps); agreed = was.agreed }

      gone : (q : ℕ) (found : Option BlockRecord) → Becomes before q found None
      gone q None = tt
      gone q (Some own) = tt

      becomes_by : (q : ℕ) (b : Bool) → Becomes before q (block_of before q) (cond b None (block_of before q))
      becomes_by q true = gone q (block_of before q)
      becomes_by q false = becomes_itself before q (block_of before q)

      turns : (q : ℕ) → Becomes before q (block_of before q) (block_of later q)
      turns q = subst (λ found. Becomes before q (block_of before q) found) (sym (at q)) (becomes_by q (is_number block q))

      new_by : (q : ℕ) (own : BlockRecord) (b : Bool) → cond b None (block_of before q) ≡ Some own → (block ≡ q) ⊎ (own.stamp < before.next_stamp)
      new_by q own true there = cc
      new_by q own false there = inr (sound.each q own there).stamped

-- a block comes
module _ (before later : KnownBlocks) (sound : IsSound before) (up : AreInOrder later.blocks) (new : BlockRecord) where
  -- the number that was the next is that of no block
  unknown : (found : Option BlockRecord) → block_of before before.next_block ≡ found → found ≡ None
  unknown None is = refl
  unknown (Some own) is = absurd (omega (arith, (sound.each before.next_block own is).given))

  pub kept_added : later.next_block ≡ before.next_block + 1 → before.next_stamp ≤ later.next_stamp
      → ((q : ℕ) → block_of later q ≡ cond (is_number before.next_block q) (Some new) (block_of before q))
      → before.next_stamp ≤ new.stamp → new.stamp < later.next_stamp → AgreeOn new.committed new.reports → KeepsKnown before later
  kept_added blocks stamps at fresh stamped agreed = record {
    sound = record {
      once = up;
      each = λ q own there. sound_by q own (is_number before.next_block q) refl (sym (at q) ∙ there);
      apart = apart_later before later sound turns before.next_block (λ q own there. new_by q own (is_number before.next_block q) refl (sym (at q) ∙ there));
    };
    next_block = omega (arith, blocks);
    next_stamp = stamps;
    blocks = turns;
  }
    where
      sound_by : (q : ℕ) (own : BlockRecord) (b : Bool) → is_number before.next_block q ≡ b → cond b (Some new) (block_of before q) ≡ Some own → IsSoundAt later q own
      sound_by q own true is there =
          let same : before.next_block ≡ q = number_is before.next_block q is in
          subst (λ own. IsSoundAt later q own) (one new own there) (record { given = omega (arith, blocks, same); stamped = stamped; agreed = agreed })
      sound_by q own false is there =
          let was = sound.each q own there in
          record { given = omega (arith, was.given, blocks); stamped = omega (arith, was.stamped, stamps); agreed = was.agreed }

      fresh_at : (found : Option BlockRecord) → found ≡ None → Becomes before before.next_block found (Some new)
      fresh_at None none = (omega arith, fresh)
      fresh_at (Some own) none = cc

      becomes_by : (q : ℕ) (b : Bool) → is_number before.next_block q ≡ b → Becomes before q (block_of before q) (cond b (Some new) (block_of before q))
      becomes_by q true is =
          subst (λ n. Becomes before n (block_of before n) (Some new)) (number_is before.next_block q is)
          (fresh_at (block_of before before.next_block) (unknown (block_of before before.next_block) refl))
      becomes_by q false is = becomes_itself before q (block_of before q)

      turns : (q : ℕ) → Becomes before q (block_of before q) (block_of later q)
      turns q = subst (λ found. Becomes before q (block_of before q) found) (sym (at q)) (becomes_by q (is_number before.next_block q) refl)

      new_by : (q : ℕ) (own : BlockRecord) (b : Bool) → is_number before.next_block q ≡ b → cond b (Some new) (block_of before q) ≡ Some own → (before.next_block ≡ q) ⊎ (own.stamp < before.next_stamp)
      new_by q own true is there = inl (number_is before.next_block q is)
      new_by q own false is there = inr (sound.each q own there).stamped

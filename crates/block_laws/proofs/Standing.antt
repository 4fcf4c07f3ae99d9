-- Files and block facts agree, and go on agreeing where both change alike.
use Rattle.std.proofs.Common.{◌≡◌, ℕ, ◌+◌, ◌≤◌, ◌==◌, Bool, true, false, not, List, is_some, Option, Some, None, refl, sym, ap, ◌∙◌, subst, cond, arith}
use Rattle.std.proofs.lemmas.Bool.{eq-eqb}
use Rattle.std.specs.Option.{option_map, option_and_then}
use Rattle.block_records.specs.Numbers.{is_number, has_number}
use Rattle.block_records.specs.declared.block_record.BlockRecord.{BlockRecord}
use Rattle.block_records.proofs.Numbers.{number_is}
use Rattle.block_records.proofs.Reporting.{number_eq}
use Rattle.file_blocks.specs.declared.blocks.FileBlock.{FileBlock}
use Rattle.namespace_rows.specs.declared.row.Row.{Row}
use Rattle.file_blocks.specs.Blocks.{has_id, with_length_where, new_block}
use Rattle.namespace_rows.specs.Files.{blocks_in}
use Rattle.block_laws.specs.Laws.{times}
use Rattle.block_laws.proofs.Totals.{bit, Weight, in_rows, has, rows_same, rows_less, rows_where, rows_apart, is_gone, times_in, times_some, times_none}
use Rattle.block_laws.proofs.Changes.{committed}
use Rattle.block_laws.proofs.Told.{number_equal, told_by}

abbrev pub Tells : Type 0
Tells = ℕ → Option (Option ℕ)

abbrev pub same_length : Option ℕ → Option ℕ → Bool
same_length None None = true
same_length None (Some other) = false
same_length (Some length) None = false
same_length (Some length) (Some other) = length == other

abbrev pub length_told : Option (Option ℕ) → Option ℕ
length_told None = None
length_told (Some committed) = committed

pub length_of : (found : Option BlockRecord) → option_and_then (λ (own : BlockRecord). own.committed) found ≡ length_told (told_by found)
length_of None = refl
length_of (Some own) = refl

-- a block of which the file has another length
abbrev pub wrong : Tells → Weight
wrong tells block = bit (not (same_length (length_told (tells block.id)) block.committed))

pub record Agree (tells : Tells) (rows : List Row) : Type 0 where
  pub once : (number : ℕ) → in_rows (has number) rows ≡ bit (is_some (tells number))
  pub right : in_rows (wrong tells) rows ≡ 0

pub bit_few : (b : Bool) → bit b ≤ 1
bit_few true = omega arith
bit_few false = omega arith

wrong_same : (tells later : Tells) (block : FileBlock) → later block.id ≡ tells block.id → wrong later block ≡ wrong tells block
wrong_same tells later block same = ap (λ told. bit (not (same_length (length_told told) block.committed))) same

-- ---- nothing changes

module _ (tells later : Tells) (rows left : List Row) (agree : Agree tells rows) where
  pub agree_same : ((number : ℕ) → later number ≡ tells number) → ((w : Weight) → in_rows w left ≡ in_rows w rows) → Agree later left
  agree_same told same = record {
    once = λ number. same (has number) ∙ (agree.once number ∙ ap (λ t. bit (is_some t)) (sym (told number)));
    right = same (wrong later) ∙ (rows_same (wrong later) (wrong tells) (λ block. wrong_same tells later block (told block.id)) rows ∙ agree.right);
  }

  -- ---- blocks go, with the files that they stand in

  pub agree_taken : (unders : List Row) → ((number : ℕ) → later number ≡ cond (has_number number (blocks_in unders)) None (tells number))
      → ((w : Weight) → in_rows w left + in_rows w unders ≡ in_rows w rows) → Agree later left
  agree_taken unders told parts = record {
    once = λ number. once_by number (has_number number (blocks_in unders)) refl;
    right =
        rows_where (is_gone (blocks_in unders)) (wrong tells) (wrong later)
        (λ block stays. wrong_same tells later block (told block.id ∙ ap (λ b. cond b None (tells block.id)) stays)) left (rows_apart (blocks_in unders) left few)
        ∙ zero (in_rows (wrong tells) left) (in_rows (wrong tells) unders) (in_rows (wrong tells) rows) (parts (wrong tells)) agree.right;
  }
    where
      zero : (a b c : ℕ) → a + b ≡ c → c ≡ 0 → a ≡ 0
      zero a b c h k = omega (arith, h, k)

      sum : (number : ℕ) → times number (blocks_in unders) + in_rows (has number) left ≡ bit (is_some (tells number))
      sum number = turned (in_rows (has number) left) (in_rows (has number) unders) (times number (blocks_in unders)) (in_rows (has number) rows) (bit (is_some (tells number))) (times_in number unders) (parts (has number)) (agree.once number)
        where
          turned : (left under times rows one : ℕ) → times ≡ under → left + under ≡ rows → rows ≡ one → times + left ≡ one
          turned left under times rows one h i j = omega (arith, h, i, j)

      few : (number : ℕ) → times number (blocks_in unders) + in_rows (has number) left ≤ 1
      few number = subst (λ n. n ≤ 1) (sym (sum number)) (bit_few (is_some (tells number)))

      none_left : (a b : ℕ) → 1 ≤ a → a + b ≤ 1 → b ≡ 0
      none_left a b h k = omega (arith, h, k)

      all_left : (a b c : ℕ) → a ≡ 0 → a + b ≡ c → b ≡ c
      all_left a b c h k = omega (arith, h, k)

      once_by : (number : ℕ) (b : Bool) → has_number number (blocks_in unders) ≡ b → in_rows (has number) left ≡ bit (is_some (later number))
      once_by number true is =
          none_left (times number (blocks_in unders)) (in_rows (has number) left) (times_some number (blocks_in unders) is) (few number)
          ∙ sym (ap (λ t. bit (is_some t)) (told number ∙ ap (λ b. cond b None (tells number)) is))
      once_by number false is =
          all_left (times number (blocks_in unders)) (in_rows (has number) left) (bit (is_some (tells number))) (times_none number (blocks_in unders) is) (sum number)
          ∙ sym (ap (λ t. bit (is_some t)) (told number ∙ ap (λ b. cond b None (tells number)) is))

  -- ---- a block more, at the end of a file

  pub agree_added : (block : ℕ) → tells block ≡ None → ((number : ℕ) → later number ≡ cond (is_number block number) (Some None) (tells number))
      → ((w : Weight) → in_rows w left ≡ in_rows w rows + w (new_block block)) → Agree later left
  agree_added block unknown told more = record {
    once = λ number. more (has number) ∙ (ap (λ n. n + has number (new_block block)) (agree.once number) ∙ once_by number (is_number block number) refl);
    right =
        more (wrong later)
        ∙ (ap (λ n. n + wrong later (new_block block)) (rows_where (λ own. own.id == block) (wrong tells) (wrong later) elsewhere rows nowhere ∙ agree.right)
        ∙ ap (λ t. 0 + bit (not (same_length (length_told t) None))) (told block ∙ ap (λ b. cond b (Some None) (tells block)) (number_equal block block ∙ eq-eqb block block refl)));
  }
    where
      nowhere : in_rows (has block) rows ≡ 0
      nowhere = agree.once block ∙ ap (λ t. bit (is_some t)) unknown

      elsewhere : (own : FileBlock) → (own.id == block) ≡ false → wrong later own ≡ wrong tells own
      elsewhere own apart = wrong_same tells later own (told own.id ∙ ap (λ b. cond b (Some None) (tells own.id)) (number_eq block own.id ∙ apart))

      once_by : (number : ℕ) (b : Bool) → is_number block number ≡ b → bit (is_some (tells number)) + has number (new_block block) ≡ bit (is_some (later number))
      once_by number true is =
          ap (λ t. bit (is_some t) + bit (block == number)) (ap tells (sym (number_is block number is)) ∙ unknown)
          ∙ (ap (λ b. 0 + bit b) (sym (number_equal block number) ∙ is) ∙ sym (ap (λ t. bit (is_some t)) (told number ∙ ap (λ b. cond b (Some None) (tells number)) is)))
      once_by number false is =
          ap (λ b. bit (is_some (tells number)) + bit b) (sym (number_equal block number) ∙ is)
          ∙ (nothing (bit (is_some (tells number))) ∙ sym (ap (λ t. bit (is_some t)) (told number ∙ ap (λ b. cond b (Some None) (tells number)) is)))
        where
          nothing : (n : ℕ) → n + 0 ≡ n
          nothing n = omega arith

  -- ---- a length is committed, wherever the block stands

  pub agree_committed : (block length : ℕ) → is_some (tells block) ≡ true
      → ((number : ℕ) → later number ≡ cond (is_number block number) (option_map (λ (was : Option ℕ). Some length) (tells block)) (tells number))
      → ((w : Weight) → in_rows w left ≡ in_rows (committed w block length) rows) → Agree later left
  agree_committed block length known told same = record {
    once = λ number. same (has number) ∙ (rows_same (committed (has number) block length) (has number) (λ own. id_stays number own (has_id block own)) rows ∙ (agree.once number ∙ once_by number (is_number block number) refl));
    right = same (wrong later) ∙ none (in_rows (committed (wrong later) block length) rows) (in_rows (wrong tells) rows) (rows_less (committed (wrong later) block length) (wrong tells) (λ own. less own (has_id block own) refl) rows) agree.right;
  }
    where
      none : (a b : ℕ) → a ≤ b → b ≡ 0 → a ≡ 0
      none a b h k = omega (arith, h, k)

      id_stays : (number : ℕ) (own : FileBlock) (b : Bool) → has number (with_length_where b length own) ≡ has number own
      id_stays number own true = refl
      id_stays number own false = refl

      some_still : (t : Option (Option ℕ)) → is_some t ≡ is_some (option_map (λ (was : Option ℕ). Some length) t)
      some_still None = refl
      some_still (Some was) = refl

      once_by : (number : ℕ) (b : Bool) → is_number block number ≡ b → bit (is_some (tells number)) ≡ bit (is_some (later number))
      once_by number true is =
          ap (λ n. bit (is_some (tells n))) (sym (number_is block number is))
          ∙ (ap bit (some_still (tells block)) ∙ sym (ap (λ t. bit (is_some t)) (told number ∙ ap (λ b. cond b (option_map (λ (was : Option ℕ). Some length) (tells block)) (tells number)) is)))
      once_by number false is = sym (ap (λ t. bit (is_some t)) (told number ∙ ap (λ b. cond b (option_map (λ (was : Option ℕ). Some length) (tells block)) (tells number)) is))

      right_now : (t : Option (Option ℕ)) → is_some t ≡ true → bit (not (same_length (length_told (option_map (λ (was : Option ℕ). Some length) t)) (Some length))) ≡ 0
      right_now None h = cc
      right_now (Some was) h = ap (λ b. bit (not b)) (eq-eqb length length refl)

      nothing : (a b : ℕ) → a ≡ 0 → a ≤ b
      nothing a b h = omega (arith, h)

      less : (own : FileBlock) (b : Bool) → has_id block own ≡ b → wrong later (with_length_where b length own) ≤ wrong tells own
      less own true is =
          nothing (wrong later (with_length_where true length own)) (wrong tells own)
          (ap (λ t. bit (not (same_length (length_told t) (Some length)))) (told own.id ∙ ap (λ b. cond b (option_map (λ (was : Option ℕ). Some length) (tells block)) (tells own.id)) (number_eq block own.id ∙ is))
          ∙ right_now (tells block) known)
      less own false is =
          subst (λ n. n ≤ wrong tells own)
          (sym (wrong_same tells later own (told own.id ∙ ap (λ b. cond b (option_map (λ (was : Option ℕ). Some length) (tells block)) (tells own.id)) (number_eq block own.id ∙ is))))
          (itself (wrong tells own))
        where
          itself : (n : ℕ) → n ≤ n
          itself n = omega arith

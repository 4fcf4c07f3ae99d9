-- The recoveries that run, as the states of files and the block facts tell, and that a file recovers its last block, whose length isn't
-- committed.
use Rattle.std.proofs.Common.{◌≡◌, ℕ, ◌+◌, ◌-◌, ◌≤◌, ◌==◌, ◌&&◌, Bool, true, false, not, List, [], ◌∷◌, map, filter, fold, length, is_some, Option, Some, None, Ok, refl, sym, ap, ◌∙◌, subst, cond, arith}
use Rattle.std.proofs.lemmas.Bool.{eq-eqb, eqb-true}
use Rattle.std.specs.List.{last_or}
use Rattle.std.specs.Option.{option_map, option_and_then}
use Rattle.file_states.specs.declared.state.FileState.{FileState}
use Rattle.file_states.specs.declared.state.FileState.TheVariants.{Closed, Open, Recovering}
use Rattle.block_records.specs.Numbers.{is_number, has_number, entry_at}
use Rattle.block_records.specs.declared.block_record.BlockRecord.{BlockRecord}
use Rattle.block_tables.specs.Changes.{with_recovery}
use Rattle.block_tables.specs.Changes as table
use Rattle.recovery_queue.specs.Queue.{all_put}
use Rattle.recovery_queue.specs.declared.begun.BegunRecovery.{BegunRecovery}
use Rattle.known_blocks.specs.Known as known
use Rattle.known_blocks.specs.Known.{KnownBlocks, block_of}
use Rattle.block_map.specs.BlockFacts.{Blocks}
use Rattle.block_map.specs.BlockEffects.{recoveries_begun, with_recoveries_begun}
use Rattle.block_map.proofs.InTurn.{all_begun_where_done}
use Rattle.block_effect_laws.proofs.Looking.{changed_at}
use Rattle.file_blocks.specs.declared.blocks.FileBlock.{FileBlock}
use Rattle.namespace_rows.specs.declared.file_row.FileRow.{FileRow}
use Rattle.namespace_rows.specs.declared.row.Row.{Row}
use Rattle.file_blocks.specs.Blocks.{last_of, if_uncommitted, unfinished_block}
use Rattle.namespace_rows.specs.Files.{blocks_in}
use Rattle.namespace_rows.specs.Rows.{row_at}
use Rattle.flat_rows.specs.Takeover.{stamp_in}
use Rattle.block_laws.proofs.Sums.{once, Count, sum_files, sum_given, spare, sum_spared, none_both, part}
use Rattle.block_laws.proofs.Totals.{bit, Weight, total, by_blocks, in_rows, has, rows_less, times_in, times_none}
use Rattle.block_laws.proofs.Changes.{counted}
use Rattle.block_laws.proofs.Unrefused.{is_recovery}
use Rattle.block_laws.proofs.Told.{seen, seen_by, seen_at, Ignores, told, told_by, number_equal}
use Rattle.block_laws.proofs.Standing.{Agree, Tells, wrong, same_length, length_told}

-- ---- in the block facts

-- stamp and begin of the recovery of a block, if one runs
abbrev pub run_of : BlockRecord → Option (ℕ × ℕ)
run_of own = option_map (λ since. (own.stamp, since)) own.recovering

pub runs_ignore : Ignores run_of
runs_ignore = record { replication = λ replication own. refl; hand_out = λ now own. refl; report = λ node length own. refl; no_report = λ node own. refl }

-- what a stamp and a begin count
abbrev pub RunWeight : Type 0
RunWeight = ℕ → ℕ → ℕ

abbrev pub one : RunWeight
one stamp begun = 1

abbrev pub worth : RunWeight → Option (Option (ℕ × ℕ)) → ℕ
worth v None = 0
worth v (Some None) = 0
worth v (Some (Some run)) = v run.0 run.1

pub worth_few : (found : Option (Option (ℕ × ℕ))) → worth one found ≤ 1
worth_few None = omega arith
worth_few (Some None) = omega arith
worth_few (Some (Some run)) = omega arith

-- ---- in the states of files

abbrev pub in_state : ℕ → RunWeight → FileState → ℕ
in_state number v Closed = 0
in_state number v (Open client) = 0
in_state number v (Recovering block stamp begun) = cond (block == number) (v stamp begun) 0

abbrev pub in_file : ℕ → RunWeight → Count
in_file number v None = 0
in_file number v (Some its) = in_state number v its.state

-- a file in recovery whose last block is another, or has its length committed
abbrev pub is_block : ℕ → Option ℕ → Bool
is_block number None = false
is_block number (Some block) = block == number

abbrev pub amiss_state : Option ℕ → FileState → ℕ
amiss_state block Closed = 0
amiss_state block (Open client) = 0
amiss_state block (Recovering own stamp begun) = bit (not (is_block own block))

abbrev pub amiss : Count
amiss None = 0
amiss (Some its) = amiss_state (unfinished_block its.blocks) its.state

pub record Recover (own : KnownBlocks) (rows : List Row) : Type 0 where
  pub runs : (number : ℕ) (v : RunWeight) → sum_files (in_file number v) rows ≡ worth v (seen run_of own number)
  pub right : sum_files amiss rows ≡ 0

-- ---- states that are no recovery

pub quiet_state : (number : ℕ) (v : RunWeight) (state : FileState) → is_recovery state ≡ false → in_state number v state ≡ 0
quiet_state number v Closed quiet = refl
quiet_state number v (Open client) quiet = refl
quiet_state number v (Recovering block stamp begun) quiet = cc

pub right_state : (block : Option ℕ) (state : FileState) → is_recovery state ≡ false → amiss_state block state ≡ 0
right_state block Closed quiet = refl
right_state block (Open client) quiet = refl
right_state block (Recovering own stamp begun) quiet = cc

-- ---- the last block of a file

-- its length isn't committed
abbrev pub open_at : ℕ → Weight
open_at number block = bit ((block.id == number) && not (is_some block.committed))

module _ (number : ℕ) where
  unset : (b : Bool) → bit (not b) ≡ 0 → b ≡ true
  unset true h = refl
  unset false h = cc

  open_last : (blocks : List FileBlock) → unfinished_block blocks ≡ Some number → 1 ≤ total (open_at number) blocks
  open_last blocks h = by (last_of blocks) refl h
    where
      more : (a b : ℕ) → a ≤ b → a ≡ 1 → 1 ≤ b
      more a b le is = omega (arith, le, is)

      of_block : (block : FileBlock) (committed : Option ℕ) → block.committed ≡ committed → cond (is_some committed) None (Some block.id) ≡ Some number → open_at number block ≡ 1
      of_block block None is e = ap (λ c. bit ((block.id == number) && not (is_some c))) is ∙ ap (λ b. bit (b && true)) (eq-eqb block.id number (id_is block.id e))
        where
          id_is : (id : ℕ) → Some id ≡ Some number → id ≡ number
          id_is id e = cc
      of_block block (Some length) is e = cc

      by : (found : Option FileBlock) → last_of blocks ≡ found → option_and_then if_uncommitted found ≡ Some number → 1 ≤ total (open_at number) blocks
      by None at e = cc
      by (Some block) at e = more (open_at number block) (total (open_at number) blocks) (counted (open_at number) blocks (length blocks - 1) block at) (of_block block block.committed refl e)

  open_has : (block : FileBlock) → open_at number block ≤ has number block
  open_has block = by (block.id == number) (not (is_some block.committed))
    where
      by : (a b : Bool) → bit (a && b) ≤ bit a
      by true true = omega arith
      by true false = omega arith
      by false b = omega arith

  total_upto : (blocks : List FileBlock) → total (open_at number) blocks ≤ total (has number) blocks
  total_upto [] = omega arith
  total_upto (block ∷ blocks) = both (open_at number block) (has number block) (total (open_at number) blocks) (total (has number) blocks) (open_has block) (total_upto blocks)
    where
      both : (a b c d : ℕ) → a ≤ b → c ≤ d → a + c ≤ b + d
      both a b c d h k = omega (arith, h, k)

  pub has_last : (blocks : List FileBlock) → unfinished_block blocks ≡ Some number → 1 ≤ total (has number) blocks
  has_last blocks h = onward (total (open_at number) blocks) (total (has number) blocks) (open_last blocks h) (total_upto blocks)
    where
      onward : (a b : ℕ) → 1 ≤ a → a ≤ b → 1 ≤ b
      onward a b h k = omega (arith, h, k)

  -- a file in recovery has the block, uncommitted
  module _ (w : Weight) (last : (blocks : List FileBlock) → unfinished_block blocks ≡ Some number → 1 ≤ total w blocks) where
    recovered_upto : (its : Option FileRow) → amiss its ≡ 0 → in_file number one its ≤ by_blocks w its
    recovered_upto None right = omega arith
    recovered_upto (Some its) right = by its.state right
      where
        of_last : (block : ℕ) (found : Option ℕ) → is_block block found ≡ true → found ≡ Some block
        of_last block None h = cc
        of_last block (Some own) h = ap (λ n. Some n) (eqb-true own block h)

        by_number : (block : ℕ) (b : Bool) → (block == number) ≡ b → unfinished_block its.blocks ≡ Some block → once b ≤ total w its.blocks
        by_number block true is e = last its.blocks (e ∙ ap (λ n. Some n) (eqb-true block number is))
        by_number block false is e = omega arith

        by : (state : FileState) → amiss_state (unfinished_block its.blocks) state ≡ 0 → in_state number one state ≤ total w its.blocks
        by Closed h = omega arith
        by (Open client) h = omega arith
        by (Recovering block stamp begun) h = by_number block (block == number) refl (of_last block (unfinished_block its.blocks) (unset (is_block block (unfinished_block its.blocks)) h))

  pub recovered_has : (its : Option FileRow) → amiss its ≡ 0 → in_file number one its ≤ by_blocks (has number) its
  recovered_has its right = recovered_upto (has number) has_last its right

  pub recovered_open : (its : Option FileRow) → amiss its ≡ 0 → in_file number one its ≤ by_blocks (open_at number) its
  recovered_open its right = recovered_upto (open_at number) open_last its right

  -- a file that doesn't recover the block counts nothing
  pub none_by_state : (v : RunWeight) (state : FileState) → in_state number one state ≡ 0 → in_state number v state ≡ 0
  none_by_state v Closed h = refl
  none_by_state v (Open client) h = refl
  none_by_state v (Recovering block stamp begun) h = by (block == number) h
    where
      by : (b : Bool) → once b ≡ 0 → cond b (v stamp begun) 0 ≡ 0
      by true h = cc
      by false h = refl

  pub none_by_file : (v : RunWeight) (its : Option FileRow) → in_file number one its ≡ 0 → in_file number v its ≡ 0
  none_by_file v None h = refl
  none_by_file v (Some its) h = none_by_state v its.state h

  pub none_by_rows : (v : RunWeight) (rows : List Row) → sum_files (in_file number one) rows ≡ 0 → sum_files (in_file number v) rows ≡ 0
  none_by_rows v rows h = sum_given (in_file number one) (in_file number v) (in_file number one) (λ its none. none_by_file v its none ∙ sym none) rows h ∙ h

  -- where the block stands in no file, none recovers it
  pub none_absent : (v : RunWeight) (rows : List Row) → sum_files amiss rows ≡ 0 → in_rows (has number) rows ≡ 0 → sum_files (in_file number v) rows ≡ 0
  none_absent v rows right absent =
      none_by_rows v rows
      (first (sum_files (in_file number one) rows) (sum_files (spare (in_file number one) (by_blocks (has number))) rows) (in_rows (has number) rows)
      (sum_spared amiss (in_file number one) (by_blocks (has number)) recovered_has rows right) absent)
    where
      first : (a b c : ℕ) → a + b ≡ c → c ≡ 0 → a ≡ 0
      first a b c h k = omega (arith, h, k)

  -- where it stands in a file that doesn't, no other recovers it
  pub none_elsewhere : (v : RunWeight) (path : List (List ℕ)) (rows : List Row) (row : Row) → sum_files amiss rows ≡ 0 → in_rows (has number) rows ≤ 1
      → row_at path rows ≡ Some row → in_file number one row.file ≡ 0 → 1 ≤ by_blocks (has number) row.file → sum_files (in_file number v) rows ≡ 0
  none_elsewhere v path rows row right few at quiet there =
      none_by_rows v rows
      (sum (sum_files (in_file number one) rows) (sum_files rest rows) (in_rows (has number) rows) (rest row.file) (in_file number one row.file) (by_blocks (has number) row.file)
      (sum_spared amiss (in_file number one) (by_blocks (has number)) recovered_has rows right) few refl quiet there (part rest path rows row at))
    where
      rest : Count
      rest = spare (in_file number one) (by_blocks (has number))

      sum : (all spared total here own has : ℕ) → all + spared ≡ total → total ≤ 1 → here ≡ has - own → own ≡ 0 → 1 ≤ has → here ≤ spared → all ≡ 0
      sum all spared total here own has h few is quiet there le = omega (arith, h, few, is, quiet, there, le)

-- ---- nothing changes

module _ (before later : KnownBlocks) (rows left : List Row) (recover : Recover before rows) where
  pub recover_same : ((number : ℕ) (v : RunWeight) → worth v (seen run_of later number) ≡ worth v (seen run_of before number))
      → ((number : ℕ) (v : RunWeight) → sum_files (in_file number v) left ≡ sum_files (in_file number v) rows) → sum_files amiss left ≡ 0 → Recover later left
  recover_same told same right = record { runs = λ number v. same number v ∙ (recover.runs number v ∙ sym (told number v)); right = right }

  -- ---- blocks go, with the files that they stand in

  pub recover_taken : (unders : List Row) (tells : Tells) → Agree tells left → ((number : ℕ) → has_number number (blocks_in unders) ≡ true → tells number ≡ None)
      → ((number : ℕ) → seen run_of later number ≡ cond (has_number number (blocks_in unders)) None (seen run_of before number))
      → ((number : ℕ) (v : RunWeight) → sum_files (in_file number v) left + sum_files (in_file number v) unders ≡ sum_files (in_file number v) rows)
      → sum_files amiss left + sum_files amiss unders ≡ sum_files amiss rows → Recover later left
  recover_taken unders tells agree gone told parts rights = record { runs = λ number v. by number v (has_number number (blocks_in unders)) refl; right = right.0 }
    where
      right : (sum_files amiss left ≡ 0) × (sum_files amiss unders ≡ 0)
      right = none_both (sum_files amiss left) (sum_files amiss unders) (rights ∙ recover.right)

      alone : (a b c : ℕ) → a + b ≡ c → b ≡ 0 → a ≡ c
      alone a b c h k = omega (arith, h, k)

      by : (number : ℕ) (v : RunWeight) (b : Bool) → has_number number (blocks_in unders) ≡ b → sum_files (in_file number v) left ≡ worth v (seen run_of later number)
      by number v true is =
          none_absent number v left right.0 (agree.once number ∙ ap (λ t. bit (is_some t)) (gone number is))
          ∙ sym (ap (worth v) (told number ∙ ap (λ b. cond b None (seen run_of before number)) is))
      by number v false is =
          alone (sum_files (in_file number v) left) (sum_files (in_file number v) unders) (sum_files (in_file number v) rows) (parts number v)
          (none_absent number v unders right.1 (sym (times_in number unders) ∙ times_none number (blocks_in unders) is))
          ∙ (recover.runs number v ∙ sym (ap (worth v) (told number ∙ ap (λ b. cond b None (seen run_of before number)) is)))

-- ---- recoveries that begin

-- what a recovery that begins leaves, if one does
abbrev pub begun_by : ℕ → Option ℕ → Option (Option (ℕ × ℕ)) → Option (Option (ℕ × ℕ))
begun_by now None was = was
begun_by now (Some stamp) was = Some (Some (stamp, now))

of_known : (stamp now : ℕ) (found : Option BlockRecord) → is_some found ≡ true → seen_by run_of (option_map (with_recovery stamp now) found) ≡ Some (Some (stamp, now))
of_known stamp now None there = cc
of_known stamp now (Some own) there = refl

still_known : (stamp now : ℕ) (found : Option BlockRecord) → is_some (option_map (with_recovery stamp now) found) ≡ is_some found
still_known stamp now None = refl
still_known stamp now (Some own) = refl

pub run_begun : (stamp now block number : ℕ) (own : List (ℕ × BlockRecord)) → is_some (entry_at block own) ≡ true
    → seen_by run_of (entry_at number (table.with_record_changed (with_recovery stamp now) block own)) ≡ cond (is_number block number) (Some (Some (stamp, now))) (seen_by run_of (entry_at number own))
run_begun stamp now block number own there =
    seen_at run_of (with_recovery stamp now) block own number
    ∙ ap (λ t. cond (is_number block number) t (seen_by run_of (entry_at number own))) (of_known stamp now (entry_at block own) there)

module _ (now number : ℕ) where
  changed_same : (own : BegunRecovery) (blocks : List (ℕ × BlockRecord)) → (own.block == number) ≡ false → entry_at number (table.with_record_changed (with_recovery own.stamp now) own.block blocks) ≡ entry_at number blocks
  changed_same own blocks apart =
      changed_at (with_recovery own.stamp now) own.block blocks number
      ∙ ap (λ b. cond b (option_map (with_recovery own.stamp now) (entry_at own.block blocks)) (entry_at number blocks)) (number_equal own.block number ∙ apart)

  changed_here : (own : BegunRecovery) (blocks : List (ℕ × BlockRecord)) → (own.block == number) ≡ true
      → entry_at number (table.with_record_changed (with_recovery own.stamp now) own.block blocks) ≡ option_map (with_recovery own.stamp now) (entry_at number blocks)
  changed_here own blocks same =
      changed_at (with_recovery own.stamp now) own.block blocks number
      ∙ (ap (λ b. cond b (option_map (with_recovery own.stamp now) (entry_at own.block blocks)) (entry_at number blocks)) (number_equal own.block number ∙ same)
      ∙ ap (λ n. option_map (with_recovery own.stamp now) (entry_at n blocks)) (eqb-true own.block number same))

  -- the last of those of a block counts
  begun_in_turn : (begun : List BegunRecovery) (stamp : Option ℕ) (was : Option (Option (ℕ × ℕ))) (blocks : List (ℕ × BlockRecord)) → is_some (entry_at number blocks) ≡ true
      → seen_by run_of (entry_at number blocks) ≡ begun_by now stamp was
      → seen_by run_of (entry_at number (fold (λ left (own : BegunRecovery). table.with_record_changed (with_recovery own.stamp now) own.block left) blocks begun))
      ≡ begun_by now (last_or stamp (map (λ (own : BegunRecovery). own.stamp) (filter (λ (own : BegunRecovery). own.block == number) begun))) was
  begun_in_turn [] stamp was blocks there h = h
  begun_in_turn (own ∷ begun) stamp was blocks there h = by (own.block == number) refl (λ later left known is. begun_in_turn begun later was left known is)
    where
      next : List (ℕ × BlockRecord)
      next = table.with_record_changed (with_recovery own.stamp now) own.block blocks

      by : (b : Bool) → (own.block == number) ≡ b
          → ((later : Option ℕ) (left : List (ℕ × BlockRecord)) → is_some (entry_at number left) ≡ true → seen_by run_of (entry_at number left) ≡ begun_by now later was
          → seen_by run_of (entry_at number (fold (λ left (own : BegunRecovery). table.with_record_changed (with_recovery own.stamp now) own.block left) left begun))
          ≡ begun_by now (last_or later (map (λ (own : BegunRecovery). own.stamp) (filter (λ (own : BegunRecovery). own.block == number) begun))) was)
          → seen_by run_of (entry_at number (fold (λ left (own : BegunRecovery). table.with_record_changed (with_recovery own.stamp now) own.block left) next begun))
          ≡ begun_by now (last_or stamp (map (λ (own : BegunRecovery). own.stamp) (cond b (own ∷ filter (λ (own : BegunRecovery). own.block == number) begun) (filter (λ (own : BegunRecovery). own.block == number) begun)))) was
      by true same rest =
          rest (Some own.stamp) next
          (ap is_some (changed_here own blocks same) ∙ (still_known own.stamp now (entry_at number blocks) ∙ there))
          (ap (seen_by run_of) (changed_here own blocks same) ∙ of_known own.stamp now (entry_at number blocks) there)
      by false apart rest = rest stamp next (ap is_some (changed_same own blocks apart) ∙ there) (ap (seen_by run_of) (changed_same own blocks apart) ∙ h)

  pub runs_begun : (facts : Blocks) (blocks : List ℕ) → is_some (block_of facts.known number) ≡ true
      → seen run_of (with_recoveries_begun facts blocks now).known number ≡ begun_by now (stamp_in (recoveries_begun facts blocks now) number) (seen run_of facts.known number)
  runs_begun facts blocks there =
      let begun = recoveries_begun facts blocks now in
      ap (λ (left : Blocks). seen run_of left.known number)
      (sym (all_begun_where_done {E = ℕ} (Ok tt) facts blocks now begun (known.with_next_recoveries facts.known begun now) (all_put facts.queued begun) refl refl refl))
      ∙ begun_in_turn begun None (seen run_of facts.known number) facts.known.blocks there refl

-- nothing is seen of a block that isn't known
pub unknown_run : (own : KnownBlocks) (number : ℕ) → told own number ≡ None → seen run_of own number ≡ None
unknown_run own number none = by (block_of own number) none
  where
    by : (found : Option BlockRecord) → told_by found ≡ None → seen_by run_of found ≡ None
    by None h = refl
    by (Some known) h = cc

-- ---- the length of a block that a file recovers isn't committed

pub uncommitted : (tells : Tells) (rows : List Row) (number : ℕ) → Agree tells rows → sum_files amiss rows ≡ 0 → 1 ≤ sum_files (in_file number one) rows → length_told (tells number) ≡ None
uncommitted tells rows number agree right some = by (tells number) refl
  where
    none_wrong : (all spared some : ℕ) → all + spared ≡ some → some ≤ 0 → 1 ≤ all → ⊥
    none_wrong all spared some h le more = omega (arith, h, le, more)

    open_wrong : (length : ℕ) → tells number ≡ Some (Some length) → (block : FileBlock) → open_at number block ≤ wrong tells block
    open_wrong length is block = by_id (block.id == number) refl
      where
        apart : (b : Bool) → bit (false && b) ≤ wrong tells block
        apart b = omega arith

        of_length : (committed : Option ℕ) → bit (true && not (is_some committed)) ≤ bit (not (same_length (Some length) committed))
        of_length None = omega arith
        of_length (Some own) = omega arith

        by_id : (b : Bool) → (block.id == number) ≡ b → bit (b && not (is_some block.committed)) ≤ wrong tells block
        by_id true same = subst (λ t. bit (true && not (is_some block.committed)) ≤ bit (not (same_length (length_told t) block.committed))) (sym (ap tells (eqb-true block.id number same) ∙ is)) (of_length block.committed)
        by_id false same = apart (not (is_some block.committed))

    by : (found : Option (Option ℕ)) → tells number ≡ found → length_told found ≡ None
    by None is = refl
    by (Some None) is = refl
    by (Some (Some length)) is =
        absurd (none_wrong (sum_files (in_file number one) rows) (sum_files (spare (in_file number one) (by_blocks (open_at number))) rows) (in_rows (open_at number) rows)
        (sum_spared amiss (in_file number one) (by_blocks (open_at number)) (recovered_open number) rows right)
        (subst (λ n. in_rows (open_at number) rows ≤ n) agree.right (rows_less (open_at number) (wrong tells) (open_wrong length is) rows)) some)

-- What each change of the rows leaves of the blocks of files: their sums.
use Rattle.std.proofs.Common.{◌≡◌, ℕ, zero, suc, ◌+◌, ◌≤◌, Bool, true, false, ◌&&◌, ◌||◌, not, List, [], ◌∷◌, filter, cond, Option, Some, None, slice_get, refl, sym, ap, ◌∙◌, subst, arith}
use Rattle.std.specs.List.{list_any}
use Rattle.std.specs.Option.{option_map}
use Rattle.file_paths.specs.PathOrder.{same_path}
use Rattle.file_states.specs.declared.state.FileState.{FileState}
use Rattle.file_blocks.specs.declared.blocks.FileBlock.{FileBlock}
use Rattle.namespace_rows.specs.declared.file_row.FileRow.{FileRow}
use Rattle.namespace_rows.specs.declared.row.Row.{Row}
use Rattle.namespace_rows.specs.declared.row.Change.{Change}
use Rattle.namespace_rows.specs.declared.row.Change.TheVariants as change
use Rattle.namespace_rows.specs.First.{first}
use Rattle.file_blocks.specs.Blocks.{with_length_where, has_id, new_block, committed_in}
use Rattle.namespace_rows.specs.Files.{with_state, with_file_replication, with_block, committed_at}
use Rattle.namespace_rows.specs.Rows.{row_at}
use Rattle.namespace_rows.specs.Namespace.{is_ascending}
use Rattle.flat_rows.specs.BlockOutcome as file
use Rattle.namespace_rows.specs.Changes.{with_change, file_edited, row_rewritten, block_added}
use Rattle.block_laws.proofs.Sums.{one_row, sum_rewritten, sum_anew, part}
use Rattle.block_laws.proofs.Totals.{bit, Weight, total, own, by_blocks, in_rows, has, total_append}

-- ---- rows that keep their blocks

state_keeps : (state : FileState) (row : Row) → own (with_change (change.State state) row) ≡ own row
state_keeps state row = by row.file
  where
    by : (its : Option FileRow) → file.blocks_of_file (option_map (with_state state) its) ≡ file.blocks_of_file its
    by None = refl
    by (Some its) = refl

replication_keeps : (replication : ℕ) (row : Row) → own (with_change (change.Replication replication) row) ≡ own row
replication_keeps replication row = by row.file
  where
    by : (its : Option FileRow) → file.blocks_of_file (option_map (with_file_replication replication) its) ≡ file.blocks_of_file its
    by None = refl
    by (Some its) = refl

-- the change of a row leaves its blocks
abbrev pub KeepsBlocks : Change → Type 0
KeepsBlocks what = (row : Row) → own (with_change what row) ≡ own row

pub state_blocks : (state : FileState) → KeepsBlocks (change.State state)
state_blocks state row = state_keeps state row

pub replication_blocks : (replication : ℕ) → KeepsBlocks (change.Replication replication)
replication_blocks replication row = replication_keeps replication row

pub rows_rewritten : (w : Weight) (path : List (List ℕ)) (what : Change) → KeepsBlocks what → (rows : List Row) → in_rows w (row_rewritten path what rows) ≡ in_rows w rows
rows_rewritten w path what h rows = sum_rewritten (by_blocks w) path what (λ row. ap (total w) (h row)) rows

-- ---- a block more

module _ (w : Weight) (path : List (List ℕ)) (block : ℕ) where
  more : (its : Option FileRow) (own : FileRow) → its ≡ Some own → by_blocks w (option_map (with_block block) its) ≡ by_blocks w its + w (new_block block)
  more its own is =
      ap (λ o. by_blocks w (option_map (with_block block) o)) is ∙ (total_append w own.blocks (new_block block ∷ [])
      ∙ (last (total w own.blocks) (w (new_block block)) ∙ ap (λ o. by_blocks w o + w (new_block block)) (sym is)))
    where
      last : (a b : ℕ) → a + (b + 0) ≡ a + b
      last a b = omega arith

  pub rows_added : (rows : List Row) (row : Row) (its : FileRow) → is_ascending rows ≡ true → row_at path rows ≡ Some row → row.file ≡ Some its
      → in_rows w (block_added path block rows) ≡ in_rows w rows + w (new_block block)
  rows_added rows row its up at is =
      sum (in_rows w (block_added path block rows)) (in_rows w rows) (by_blocks w row.file) (by_blocks w (option_map (with_block block) row.file)) (w (new_block block))
      (sum_anew path (file_edited (with_block block)) (by_blocks w) rows row up at) (more row.file its is)
    where
      sum : (a b c d e : ℕ) → a + c ≡ b + d → d ≡ c + e → a ≡ b + e
      sum a b c d e h k = omega (arith, h, k)

-- ---- a length is committed

-- the block with this number has this length committed
abbrev pub with_bytes : ℕ → ℕ → FileBlock → FileBlock
with_bytes id bytes block = with_length_where (has_id id block) bytes block

zero_left : (a b : ℕ) → a + b ≡ 0 → a ≡ 0
zero_left a b h = omega (arith, h)

zero_right : (a b : ℕ) → a + b ≡ 0 → b ≡ 0
zero_right a b h = omega (arith, h)

unset : (b : Bool) → bit b ≡ 0 → b ≡ false
unset true h = cc
unset false h = refl

module _ (w : Weight) (id bytes : ℕ) where
  abbrev pub committed : Weight
  committed block = w (with_bytes id bytes block)

  none_there : (blocks : List FileBlock) → total (has id) blocks ≡ 0 → list_any (has_id id) blocks ≡ false
  none_there [] h = refl
  none_there (block ∷ blocks) h =
      ap (λ b. b || list_any (has_id id) blocks) (unset (has_id id block) (zero_left (has id block) (total (has id) blocks) h)) ∙ none_there blocks (zero_right (has id block) (total (has id) blocks) h)

  -- where it isn't there, nothing changes
  pub unchanged : (blocks : List FileBlock) → total (has id) blocks ≡ 0 → total committed blocks ≡ total w blocks
  unchanged [] h = refl
  unchanged (block ∷ blocks) h =
      ap (λ b. w (with_length_where b bytes block) + total committed blocks) (unset (has_id id block) (zero_left (has id block) (total (has id) blocks) h))
      ∙ ap (λ n. w block + n) (unchanged blocks (zero_right (has id block) (total (has id) blocks) h))

  -- where it stands once at most
  pub changes_one : (blocks : List FileBlock) → total (has id) blocks ≤ 1 → total w (committed_in id bytes blocks) ≡ total committed blocks
  changes_one [] h = refl
  changes_one (block ∷ blocks) h = by (has_id id block) refl (changes_one blocks (fewer (has id block) (total (has id) blocks) h)) (λ e. none_there blocks (alone (has id block) (total (has id) blocks) (ap bit e) h))
    where
      fewer : (a b : ℕ) → a + b ≤ 1 → b ≤ 1
      fewer a b h = omega (arith, h)

      alone : (a b : ℕ) → a ≡ 1 → a + b ≤ 1 → b ≡ 0
      alone a b i h = omega (arith, i, h)

      by : (b : Bool) → has_id id block ≡ b → total w (committed_in id bytes blocks) ≡ total committed blocks → (has_id id block ≡ true → list_any (has_id id) blocks ≡ false)
          → w (with_length_where (b && not (list_any (has_id id) blocks)) bytes block) + total w (committed_in id bytes blocks) ≡ w (with_length_where b bytes block) + total committed blocks
      by true e rest last = ap (λ c. w (with_length_where (not c) bytes block) + total w (committed_in id bytes blocks)) (last e) ∙ ap (λ n. w (with_length_where true bytes block) + n) rest
      by false e rest last = ap (λ n. w block + n) rest

  abbrev after : Row → Row
  after row = with_change (change.Committed id bytes) row

  row_committed : (row : Row) → total (has id) (own row) ≤ 1 → total w (own (after row)) ≡ total committed (own row)
  row_committed row h = by row.file h
    where
      by : (its : Option FileRow) → total (has id) (file.blocks_of_file its) ≤ 1 → total w (file.blocks_of_file (option_map (committed_at id bytes) its)) ≡ total committed (file.blocks_of_file its)
      by None h = refl
      by (Some its) h = changes_one its.blocks h

  module _ (path : List (List ℕ)) where
    rewritten_nowhere : (rows : List Row) → in_rows (has id) rows ≡ 0 → in_rows w (row_rewritten path (change.Committed id bytes) rows) ≡ in_rows committed rows
    rewritten_nowhere [] h = refl
    rewritten_nowhere (row ∷ rows) h =
        ap (λ n. n + in_rows w (row_rewritten path (change.Committed id bytes) rows)) (by (same_path path row.path) (zero_left (total (has id) (own row)) (in_rows (has id) rows) h))
        ∙ ap (λ n. total committed (own row) + n) (rewritten_nowhere rows (zero_right (total (has id) (own row)) (in_rows (has id) rows) h))
      where
        few : (a : ℕ) → a ≡ 0 → a ≤ 1
        few a h = omega (arith, h)

        by : (b : Bool) → total (has id) (own row) ≡ 0 → total w (own (cond b (after row) row)) ≡ total committed (own row)
        by true none = row_committed row (few (total (has id) (own row)) none)
        by false none = sym (unchanged (own row) none)

    -- it stands in the file at the path, and nowhere else
    pub rows_committed : (rows : List Row) (row : Row) → in_rows (has id) rows ≤ 1 → row_at path rows ≡ Some row → 1 ≤ total (has id) (own row)
        → in_rows w (row_rewritten path (change.Committed id bytes) rows) ≡ in_rows committed rows
    rows_committed [] row few at there = cc
    rows_committed (r ∷ rows) row few at there = by (same_path path r.path) at (λ k. rows_committed rows row (fewer (total (has id) (own r)) (in_rows (has id) rows) few) k there)
      where
        fewer : (a b : ℕ) → a + b ≤ 1 → b ≤ 1
        fewer a b h = omega (arith, h)

        first_few : (a b : ℕ) → a + b ≤ 1 → a ≤ 1
        first_few a b h = omega (arith, h)

        none_behind : (a b : ℕ) → 1 ≤ a → a + b ≤ 1 → b ≡ 0
        none_behind a b i h = omega (arith, i, h)

        none_before : (a b c : ℕ) → 1 ≤ c → c ≤ b → a + b ≤ 1 → a ≡ 0
        none_before a b c i j h = omega (arith, i, j, h)

        by : (b : Bool) → first (cond b (r ∷ filter (λ other. same_path path other.path) rows) (filter (λ other. same_path path other.path) rows)) ≡ Some row
            → (row_at path rows ≡ Some row → in_rows w (row_rewritten path (change.Committed id bytes) rows) ≡ in_rows committed rows)
            → in_rows w (cond b (after r) r ∷ row_rewritten path (change.Committed id bytes) rows) ≡ in_rows committed (r ∷ rows)
        by true at rest =
            let here : 1 ≤ total (has id) (own r) = subst (λ x. 1 ≤ total (has id) (own x)) (sym (one_row r row at)) there in
            ap (λ n. n + in_rows w (row_rewritten path (change.Committed id bytes) rows)) (row_committed r (first_few (total (has id) (own r)) (in_rows (has id) rows) few))
            ∙ ap (λ n. total committed (own r) + n) (rewritten_nowhere rows (none_behind (total (has id) (own r)) (in_rows (has id) rows) here few))
        by false at rest =
            let none = none_before (total (has id) (own r)) (in_rows (has id) rows) (total (has id) (own row)) there (part (by_blocks (has id)) path rows row at) few in
            ap (λ n. n + in_rows w (row_rewritten path (change.Committed id bytes) rows)) (sym (unchanged (own r) none)) ∙ ap (λ n. total committed (own r) + n) (rest at)

-- a block of the list is a part of the sum
pub counted : (w : Weight) (blocks : List FileBlock) (i : ℕ) (block : FileBlock) → slice_get blocks i ≡ Some block → w block ≤ total w blocks
counted w [] i block at = cc
counted w (b ∷ bs) zero block at = subst (λ (x : FileBlock). w x ≤ w b + total w bs) (one b block at) (here (w b) (total w bs))
  where
    one : (x y : FileBlock) → Some x ≡ Some y → x ≡ y
    one x y e = cc

    here : (a b : ℕ) → a ≤ a + b
    here a b = omega arith
counted w (b ∷ bs) (suc i) block at = later (w block) (w b) (total w bs) (counted w bs i block at)
  where
    later : (a b c : ℕ) → a ≤ c → a ≤ b + c
    later a b c h = omega (arith, h)

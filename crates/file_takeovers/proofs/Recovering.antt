-- The file whose last block is in a recovery, where that ends.
use Rattle.std.proofs.Common.{◌≡◌, ℕ, ◌+◌, ◌==◌, Bool, true, false, ◌||◌, not, List, [], ◌∷◌, ◌++◌, take, drop, filter, Option, Some, None, refl, sym, ap, ◌∙◌, subst, cond}
use Rattle.std.proofs.lemmas.List.{append_assoc, take-append-drop}
use Rattle.std.proofs.lemmas.List.Folds.{list_any-append}
use Rattle.std.specs.List.{list_any}
use Rattle.std.specs.Option.{IsSome, is_some, option_map, option_and_then}
use Rattle.file_paths.specs.PathOrder.{path_cmp, same_path}
use Rattle.block_records.specs.declared.block_record.BlockRecord.{BlockRecord}
use Rattle.block_records.specs.declared.fault.BlockRefusal.TheVariants.{StaleStamp, NotOpen}
use Rattle.block_map.specs.BlockFacts.{Blocks, known_block, recovering_since, refused_recovered}
use Rattle.block_changes.specs.Ends.{refused_recovered_by}
use Rattle.namespace_rows.specs.declared.file_row.FileRow.{FileRow}
use Rattle.namespace_rows.specs.declared.row.Row.{Row}
use Rattle.namespace_rows.specs.First.{first}
use Rattle.namespace_rows.specs.Rows.{row_at}
use Rattle.namespace_rows.specs.Namespace.{is_ascending, is_before_all}
use Rattle.namespace_rows.specs.Files.{committed_at, recovered_at, state_recovers, with_state}
use Rattle.file_states.specs.declared.state.FileState.TheVariants.{Closed}
use Rattle.namespace_rows.proofs.PathOrders.{less_is}
use Rattle.namespace_rows.proofs.Tests.{both}
use Rattle.std.specs.Ordering.{is_lt}
use Rattle.namespace_rows.specs.Changes.{is_recovered, recovery_ended}
use Rattle.file_takeovers.specs.Recovered.{recovers_at}
use Rattle.file_takeovers.proofs.SoughtFiles.{not_same, path_itself}

abbrev pub recovers_row : ℕ → Row → Bool
recovers_row block row = is_recovered block row.file

-- a row is the one that has its path
pub own_row : (front : List Row) (row : Row) (rest : List Row) → is_ascending (front ++ row ∷ rest) ≡ true → row_at row.path (front ++ row ∷ rest) ≡ Some row
own_row [] row rest up = ap (λ b. first (cond b (row ∷ filter (λ other. same_path row.path other.path) rest) (filter (λ other. same_path row.path other.path) rest))) (path_itself row.path)
own_row (next ∷ front) row rest up =
    let ups = both (is_before_all next (front ++ row ∷ rest)) (is_ascending (front ++ row ∷ rest)) up in
    ap (λ b. first (cond b (next ∷ filter (λ other. same_path row.path other.path) (front ++ row ∷ rest)) (filter (λ other. same_path row.path other.path) (front ++ row ∷ rest)))) (not_same next.path row.path (less_is _ (last_of front ups.0)))
    ∙ own_row front row rest ups.1
  where
    last_of : (front : List Row) → is_before_all next (front ++ row ∷ rest) ≡ true → is_lt (path_cmp next.path row.path) ≡ true
    last_of [] h = (both (is_lt (path_cmp next.path row.path)) (is_before_all next rest) h).0
    last_of (other ∷ others) h = last_of others (both (is_lt (path_cmp next.path other.path)) (is_before_all next (others ++ row ∷ rest)) h).1

-- the row at a place is found by its path
pub found_row : (block : ℕ) (rows : List Row) (i : ℕ) (row : Row) → is_ascending rows ≡ true → take (i + 1) rows ≡ take i rows ++ row ∷ [] → is_recovered block row.file ≡ true → recovers_at block (row_at row.path rows) ≡ true
found_row block rows i row up next is =
    let parted : rows ≡ take i rows ++ row ∷ drop (i + 1) rows =
    sym (take-append-drop (i + 1) rows) ∙ (ap (λ some. some ++ drop (i + 1) rows) next ∙ append_assoc (take i rows) (row ∷ []) (drop (i + 1) rows)) in
    ap (λ some. recovers_at block (row_at row.path some)) parted
    ∙ (ap (recovers_at block) (own_row (take i rows) row (drop (i + 1) rows) (subst (λ some. is_ascending some ≡ true) parted up)) ∙ is)

-- one row more that isn't it
pub none_more : (block : ℕ) (rows : List Row) (i : ℕ) (row : Row) → take (i + 1) rows ≡ take i rows ++ row ∷ [] → is_recovered block row.file ≡ false → list_any (recovers_row block) (take i rows) ≡ false → list_any (recovers_row block) (take (i + 1) rows) ≡ false
none_more block rows i row next isnt none =
    ap (list_any (recovers_row block)) next ∙ (list_any-append (recovers_row block) (take i rows) (row ∷ []) ∙ (ap (λ b. b || (is_recovered block row.file || false)) none ∙ ap (λ b. b || false) isnt))

-- where no file recovers the block nothing ends
pub none_ended : (block bytes : ℕ) (rows : List Row) → list_any (recovers_row block) rows ≡ false → recovery_ended block bytes rows ≡ rows
none_ended block bytes [] none = refl
none_ended block bytes (row ∷ rows) none = by row.file refl none (none_ended block bytes rows)
  where
    rest_of : (a b : Bool) → (a || b) ≡ false → (a ≡ false) × (b ≡ false)
    rest_of true b h = cc
    rest_of false b h = (refl, h)

    by : (file : Option FileRow) → row.file ≡ file → (is_recovered block file || list_any (recovers_row block) rows) ≡ false → (list_any (recovers_row block) rows ≡ false → recovery_ended block bytes rows ≡ rows)
        → recovery_ended block bytes (row ∷ rows) ≡ row ∷ rows
    by None e h rest = ap (λ some. (record row { file = option_map (recovered_at block bytes) some }) ∷ recovery_ended block bytes rows) e ∙ (ap (λ some. (record row { file = some }) ∷ recovery_ended block bytes rows) (sym e) ∙ ap (λ some. row ∷ some) (rest h))
    by (Some file) e h rest =
        let parts = rest_of (state_recovers block file.state) (list_any (recovers_row block) rows) h in
        ap (λ some. (record row { file = option_map (recovered_at block bytes) some }) ∷ recovery_ended block bytes rows) e
        ∙ (ap (λ b. (record row { file = Some (cond b (recovered_file file) file) }) ∷ recovery_ended block bytes rows) parts.0 ∙ (ap (λ some. (record row { file = some }) ∷ recovery_ended block bytes rows) (sym e) ∙ ap (λ some. row ∷ some) (rest parts.1)))
      where
        recovered_file : FileRow → FileRow
        recovered_file own = with_state Closed (committed_at block bytes own)

-- what may end is in a recovery
pub in_recovery : (blocks : Blocks) (block stamp : ℕ) → refused_recovered blocks block stamp ≡ None → IsSome (recovering_since blocks block)
in_recovery blocks block stamp free = by (known_block blocks block) refl free
  where
    by : (own : Option BlockRecord) → known_block blocks block ≡ own → refused_recovered_by own stamp ≡ None → IsSome (recovering_since blocks block)
    by None e h = absurd cc
    by (Some own) e h = subst (λ some. IsSome (option_and_then (λ (o : BlockRecord). o.recovering) some)) (sym e) (stamped (not (stamp == own.stamp)) h)
      where
        stamped : (b : Bool) → cond b (Some (StaleStamp own.stamp)) (cond (is_some own.recovering) None (Some NotOpen)) ≡ None → IsSome own.recovering
        stamped true k = absurd cc
        stamped false k = begun own.recovering k
          where
            begun : (since : Option ℕ) → cond (is_some since) None (Some NotOpen) ≡ None → IsSome since
            begun None l = absurd cc
            begun (Some moment) l = refl

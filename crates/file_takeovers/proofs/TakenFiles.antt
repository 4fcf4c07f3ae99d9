-- Files are taken, one after the other.
use Rattle.std.proofs.Common.{◌≡◌, ℕ, ◌+◌, ◌==◌, Bool, true, false, List, [], ◌∷◌, ◌++◌, map, filter, length, Option, Some, None, Ordering, Less, Equal, Greater, is_eq, arith, refl, sym, ap, ◌∙◌, subst, cond}
use Rattle.std.proofs.lemmas.Bool.Decides.{nat_tests}
use Rattle.std.proofs.lemmas.List.{append_assoc, map-append}
use Rattle.std.proofs.lemmas.List.Elements.{filter-append}
use Rattle.std.specs.List.{AllByRecursion, cons_option, last_or, list_all}
use Rattle.std.specs.List.Sorted.{IsStrictlySortedBy}
use Rattle.std.specs.Map.{keys_of, values_of, lookup}
use Rattle.std.specs.Option.{option_to_list}
use Rattle.std.specs.Ordering.{is_lt, nat_cmp, ordering_reverse}
use Rattle.file_paths.specs.PathOrder.{path_cmp, same_path, paths_total}
use Rattle.file_states.specs.declared.state.FileState.{FileState}
use Rattle.file_states.specs.declared.state.FileState.TheVariants.{Closed, Recovering}
use Rattle.recovery_queue.specs.declared.begun.BegunRecovery.{BegunRecovery}
use Rattle.namespace_rows.specs.declared.row.Row.{Row}
use Rattle.namespace_rows.specs.declared.row.Change.{Change}
use Rattle.namespace_rows.specs.declared.row.Change.TheVariants as change
use Rattle.namespace_rows.specs.First.{first}
use Rattle.namespace_rows.specs.Rows.{row_at}
use Rattle.namespace_rows.specs.Namespace.{IsNamespace, is_ascending, is_before_all}
use Rattle.namespace_rows.specs.Files.{is_client, holder_of, open_files}
use Rattle.namespace_rows.proofs.Namespaces.{namespace_tests}
use Rattle.namespace_rows.proofs.PathOrders.{same_path_is, less_is}
use Rattle.namespace_rows.proofs.Tests.{both}
use Rattle.namespace_rows.specs.Changes.{with_change, row_rewritten, suits_change}
use Rattle.flat_rows.specs.FileOutcome.{holder_at}
use Rattle.flat_rows.specs.declared.takeover.Sought.{Sought}
use Rattle.block_map.specs.BlockFacts.{Blocks}
use Rattle.block_map.specs.BlockEffects.{with_recovery_begun as begun_one, recoveries_begun, with_recoveries_begun}
use Rattle.flat_rows.specs.Takeover.{stamp_in, recovering_from, taken_state, taken_row}
use Rattle.flat_rows.proofs.Changes.{rewritten_namespace}
use Rattle.history.proofs.Counting.{count, bit}
use Rattle.history.proofs.OpenFiles.{count_rewritten, unheld_row, opens}
use Rattle.lease_manager.specs.declared.writers.Writers.{Writers}
use Rattle.file_effects.specs.Effected.{IsExact}
use Rattle.file_takeovers.specs.Expiry.{Expiry, sought_by, sought_entries, files_sought, blocks_to_recover, closed_of, state_from, state_behind, holder_in, rewritten_where, all_taken, AreTaken, IsExpired}
use Rattle.file_takeovers.specs.Taken.{recovered_for, IsTaken}
use Rattle.file_effects.proofs.Effects.{AreCounted}
use Rattle.file_takeovers.proofs.SoughtFiles.{Entries, not_same, path_itself, own_entry, values_sought}

-- ---- the blocks that are to be recovered

pub block_first : (found : Option ℕ) (front rest : List ℕ) → (front ++ option_to_list found) ++ rest ≡ front ++ cons_option found rest
block_first None front rest = append_assoc front [] rest
block_first (Some block) front rest = append_assoc front (block ∷ []) rest

-- ---- the stamps under which recoveries begin

same_number : (a b : ℕ) → is_eq (nat_cmp a b) ≡ (a == b)
same_number a b = grind (arith, nat_tests)

last_more : (first : Option ℕ) (front : List ℕ) (x : ℕ) → last_or first (front ++ x ∷ []) ≡ Some x
last_more first [] x = refl
last_more first (y ∷ front) x = last_more (Some y) front x

pub stamp_more : (begun : List BegunRecovery) (own : BegunRecovery) (block : ℕ) → stamp_in (begun ++ own ∷ []) block ≡ cond (is_eq (nat_cmp own.block block)) (Some own.stamp) (stamp_in begun block)
stamp_more begun own block =
    ap (λ some. last_or None (map stamp some)) (filter-append is_own begun (own ∷ [])) ∙ (by (own.block == block) ∙ ap (λ b. cond b (Some own.stamp) (stamp_in begun block)) (sym (same_number own.block block)))
  where
    is_own : BegunRecovery → Bool
    is_own = λ other. other.block == block

    stamp : BegunRecovery → ℕ
    stamp = λ other. other.stamp

    by : (b : Bool) → last_or None (map stamp (filter is_own begun ++ cond b (own ∷ []) [])) ≡ cond b (Some own.stamp) (last_or None (map stamp (filter is_own begun)))
    by true = ap (last_or None) (map-append stamp (filter is_own begun) (own ∷ [])) ∙ last_more None (map stamp (filter is_own begun)) own.stamp
    by false = ap (λ l. last_or None (map stamp l)) (no_more (filter is_own begun))
      where
        no_more : (l : List BegunRecovery) → l ++ [] ≡ l
        no_more [] = refl
        no_more (x ∷ xs) = ap (λ l. x ∷ l) (no_more xs)

-- ---- the state that a file gets

pub unheld_behind : (stamps : ℕ → Option ℕ) (now : ℕ) (block : Option ℕ) → holder_in (state_behind stamps now block) ≡ None
unheld_behind stamps now None = refl
unheld_behind stamps now (Some block) = by (stamps block)
  where
    by : (stamp : Option ℕ) → holder_in (state_from now block stamp) ≡ None
    by None = refl
    by (Some stamp) = refl

same_state : (f g : ℕ → Option ℕ) (now : ℕ) (block : Option ℕ) → ((number : ℕ) → f number ≡ g number) → state_behind f now block ≡ state_behind g now block
same_state f g now None same = refl
same_state f g now (Some block) same = ap (state_from now block) (same block)

-- ---- one row

abbrev pub changed_where : Option FileState → Row → Row
changed_where None row = row
changed_where (Some state) row = with_change (change.State state) row

path_stays : (state : Option FileState) (row : Row) → (changed_where state row).path ≡ row.path
path_stays None row = refl
path_stays (Some state) row = refl

abbrev pub at_path : List (List ℕ) → Option FileState → Row → Row
at_path path state row = cond (same_path path row.path) (changed_where state row) row

rewritten_is : (path : List (List ℕ)) (state : Option FileState) (rows : List Row) → rewritten_where path state rows ≡ map (at_path path state) rows
rewritten_is path (Some state) rows = refl
rewritten_is path None [] = refl
rewritten_is path None (row ∷ rows) = ap (λ rest. row ∷ rest) (rewritten_is path None rows) ∙ ap (λ first. first ∷ map (at_path path None) rows) (by (same_path path row.path))
  where
    by : (b : Bool) → row ≡ cond b row row
    by true = refl
    by false = refl

-- a path stands before all of these
abbrev pub list_before : List (List ℕ) → List Row → Bool
list_before path rows = list_all (λ other. is_lt (path_cmp path other.path)) rows

module _ (begun : List BegunRecovery) (now : ℕ) where
  -- what is left of a row by the entries of files that are taken
  abbrev pub taken_by : Entries → Row → Row
  taken_by entries row = taken_row begun now (lookup (same_path row.path) entries) row

  given_state : (sought : Sought) (row : Row) → taken_row begun now (Some sought) row ≡ changed_where (state_behind (stamp_in begun) now sought.block) row
  given_state sought row = by sought.block
    where
      by_stamp : (block : ℕ) (stamp : Option ℕ) → recovering_from now block stamp row ≡ changed_where (state_from now block stamp) row
      by_stamp block None = refl
      by_stamp block (Some stamp) = refl

      by : (block : Option ℕ) → taken_row begun now (Some (record { holder = sought.holder; block = block })) row ≡ changed_where (state_behind (stamp_in begun) now block) row
      by None = refl
      by (Some block) = by_stamp block (stamp_in begun block)

  -- a path that stands before all others has no entry
  absent : (path : List (List ℕ)) (entries : Entries) → AllByRecursion (λ q. path_cmp path q ≡ Less) (keys_of entries) → lookup (same_path path) entries ≡ None
  absent path [] lows = refl
  absent path (entry ∷ entries) lows = ap (λ o. cond (is_eq o) (Some entry.1) (lookup (same_path path) entries)) lows.0 ∙ absent path entries lows.1

  flipped : (p q : List (List ℕ)) → same_path p q ≡ same_path q p
  flipped p q = ap is_eq (paths_total.antisymm p q) ∙ by (path_cmp q p)
    where
      by : (o : Ordering) → is_eq (ordering_reverse o) ≡ is_eq o
      by Less = refl
      by Equal = refl
      by Greater = refl

  one_row : (path : List (List ℕ)) (sought : Sought) (entries : Entries) → AllByRecursion (λ q. path_cmp path q ≡ Less) (keys_of entries) → (row : Row)
      → taken_by entries (at_path path (state_behind (stamp_in begun) now sought.block) row) ≡ taken_by ((path, sought) ∷ entries) row
  one_row path sought entries lows row = by (same_path path row.path) refl ∙ ap (λ b. taken_row begun now (cond b (Some sought) (lookup (same_path row.path) entries)) row) (flipped path row.path)
    where
      state : Option FileState
      state = state_behind (stamp_in begun) now sought.block

      none : same_path path row.path ≡ true → lookup (same_path (changed_where state row).path) entries ≡ None
      none at = ap (λ q. lookup (same_path q) entries) (path_stays state row ∙ sym (same_path_is path row.path at)) ∙ absent path entries lows

      by : (b : Bool) → same_path path row.path ≡ b → taken_by entries (cond b (changed_where state row) row) ≡ taken_row begun now (cond b (Some sought) (lookup (same_path row.path) entries)) row
      by true at = ap (λ found. taken_row begun now found (changed_where state row)) (none at) ∙ sym (given_state sought row)
      by false at = refl

  one_file : (path : List (List ℕ)) (sought : Sought) (entries : Entries) → AllByRecursion (λ q. path_cmp path q ≡ Less) (keys_of entries) → (rows : List Row)
      → map (taken_by entries) (map (at_path path (state_behind (stamp_in begun) now sought.block)) rows) ≡ map (taken_by ((path, sought) ∷ entries)) rows
  one_file path sought entries lows [] = refl
  one_file path sought entries lows (row ∷ rows) =
      ap (λ first. first ∷ map (taken_by entries) (map (at_path path (state_behind (stamp_in begun) now sought.block)) rows)) (one_row path sought entries lows row)
      ∙ ap (λ rest. taken_by ((path, sought) ∷ entries) row ∷ rest) (one_file path sought entries lows rows)

  pub none_left : (rows : List Row) → map (taken_by []) rows ≡ rows
  none_left [] = refl
  none_left (row ∷ rows) = ap (λ rest. row ∷ rest) (none_left rows)

  -- an entry of a row before all others leaves these
  skipped : (path : List (List ℕ)) (sought : Sought) (entries : Entries) (rows : List Row) → list_before path rows ≡ true → map (taken_by ((path, sought) ∷ entries)) rows ≡ map (taken_by entries) rows
  skipped path sought entries [] low = refl
  skipped path sought entries (row ∷ rows) low =
      let lows = both (is_lt (path_cmp path row.path)) (list_before path rows) low in
      ap (λ b. taken_row begun now (cond b (Some sought) (lookup (same_path row.path) entries)) row ∷ map (taken_by ((path, sought) ∷ entries)) rows) (not_same path row.path (less_is _ lows.0))
      ∙ ap (λ rest. taken_by entries row ∷ rest) (skipped path sought entries rows lows.1)

  module _ (expiry : Expiry) where
    keys_behind : (path : List (List ℕ)) (rows : List Row) → list_before path rows ≡ true → AllByRecursion (λ q. path_cmp path q ≡ Less) (keys_of (sought_entries expiry rows))
    keys_behind path [] low = tt
    keys_behind path (row ∷ rows) low =
        let lows = both (is_lt (path_cmp path row.path)) (list_before path rows) low in
        by (sought_by expiry row.file) (less_is _ lows.0) (keys_behind path rows lows.1)
      where
        by : (found : Option Sought) → path_cmp path row.path ≡ Less → AllByRecursion (λ q. path_cmp path q ≡ Less) (keys_of (sought_entries expiry rows))
            → AllByRecursion (λ q. path_cmp path q ≡ Less) (keys_of (cons_option (own_entry row found) (sought_entries expiry rows)))
        by None here rest = rest
        by (Some sought) here rest = (here, rest)

    -- by the entries of all files that are taken
    pub by_all : (rows : List Row) → is_ascending rows ≡ true → map (taken_by (sought_entries expiry rows)) rows ≡ map (λ row. taken_row begun now (sought_by expiry row.file) row) rows
    by_all [] up = refl
    by_all (row ∷ rows) up =
        let ups = both (is_before_all row rows) (is_ascending rows) up in
        by (sought_by expiry row.file) (absent row.path (sought_entries expiry rows) (keys_behind row.path rows ups.0)) (λ sought. skipped row.path sought (sought_entries expiry rows) rows ups.0)
        ∙ ap (λ rest. taken_row begun now (sought_by expiry row.file) row ∷ rest) (by_all rows ups.1)
      where
        by : (found : Option Sought) → lookup (same_path row.path) (sought_entries expiry rows) ≡ None
            → ((sought : Sought) → map (taken_by ((row.path, sought) ∷ sought_entries expiry rows)) rows ≡ map (taken_by (sought_entries expiry rows)) rows)
            → map (taken_by (cons_option (own_entry row found) (sought_entries expiry rows))) (row ∷ rows) ≡ taken_row begun now found row ∷ map (taken_by (sought_entries expiry rows)) rows
        by None none rest = ap (λ found. taken_row begun now found row ∷ map (taken_by (sought_entries expiry rows)) rows) none
        by (Some sought) none rest =
            ap (λ b. taken_row begun now (cond b (Some sought) (lookup (same_path row.path) (sought_entries expiry rows))) row ∷ map (taken_by ((row.path, sought) ∷ sought_entries expiry rows)) rows) (path_itself row.path)
            ∙ ap (λ some. taken_row begun now (Some sought) row ∷ some) (rest sought)

-- ---- another row

other_row : (path q : List (List ℕ)) (state : Option FileState) → path_cmp path q ≡ Less → (rows : List Row) → row_at q (map (at_path path state) rows) ≡ row_at q rows
other_row path q state low [] = refl
other_row path q state low (r ∷ rows) = by (same_path path r.path) refl (other_row path q state low rows)
  where
    at_q : List Row → List Row
    at_q some = filter (λ other. same_path q other.path) some

    either : (b : Bool) → row_at q (map (at_path path state) rows) ≡ row_at q rows → first (cond b (r ∷ at_q (map (at_path path state) rows)) (at_q (map (at_path path state) rows))) ≡ first (cond b (r ∷ at_q rows) (at_q rows))
    either true rest = refl
    either false rest = rest

    by : (b : Bool) → same_path path r.path ≡ b → row_at q (map (at_path path state) rows) ≡ row_at q rows → first (at_q (cond b (changed_where state r) r ∷ map (at_path path state) rows)) ≡ first (at_q (r ∷ rows))
    by true k rest =
        let apart : same_path q r.path ≡ false = ap (same_path q) (sym (same_path_is path r.path k)) ∙ not_same path q low in
        ap (λ b. first (cond b (changed_where state r ∷ at_q (map (at_path path state) rows)) (at_q (map (at_path path state) rows)))) (ap (same_path q) (path_stays state r) ∙ apart)
        ∙ (rest ∙ sym (ap (λ b. first (cond b (r ∷ at_q rows) (at_q rows))) apart))
    by false k rest = either (same_path q r.path) rest

abbrev pub IsHeld : List Row → List (List ℕ) × Sought → Type 0
IsHeld rows entry = holder_at (row_at entry.0 rows) ≡ entry.1.holder

held_still : (path : List (List ℕ)) (state : Option FileState) (rows : List Row) (entries : Entries) → AllByRecursion (λ q. path_cmp path q ≡ Less) (keys_of entries) → AllByRecursion (IsHeld rows) entries
    → AllByRecursion (IsHeld (map (at_path path state) rows)) entries
held_still path state rows [] lows all = tt
held_still path state rows (entry ∷ entries) lows all = (ap holder_at (other_row path entry.0 state lows.0 rows) ∙ all.0, held_still path state rows entries lows.1 all.1)

suits_state : (state : FileState) (at : Option Row) → suits_change (change.State state) at ≡ true
suits_state state None = refl
suits_state state (Some row) = refl

pub namespace_where : (path : List (List ℕ)) (state : Option FileState) (rows : List Row) → IsNamespace rows → IsNamespace (rewritten_where path state rows)
namespace_where path None rows namespace = namespace
namespace_where path (Some state) rows namespace = rewritten_namespace path (change.State state) rows namespace (suits_state state (row_at path rows))

-- ---- the loop

pub first_held : (rows : List Row) (path : List (List ℕ)) (sought : Sought) (it next : Entries) → it ≡ (path, sought) ∷ next → AllByRecursion (IsHeld rows) it → holder_at (row_at path rows) ≡ sought.holder
first_held rows path sought it next steps all = (subst (AllByRecursion (IsHeld rows)) steps all).0

pub record IsStep (stamps : ℕ → Option ℕ) (now : ℕ) (rows left : List Row) (it next : Entries) : Type 0 where
  pub ordered : IsStrictlySortedBy path_cmp (keys_of next)
  pub held : AllByRecursion (IsHeld left) next
  pub namespace : IsNamespace left
  pub left_is : (begun : List BegunRecovery) → ((block : ℕ) → stamps block ≡ stamp_in begun block) → map (taken_by begun now next) left ≡ map (taken_by begun now it) rows

pub step_one : (stamps : ℕ → Option ℕ) (now : ℕ) (path : List (List ℕ)) (sought : Sought) (rows left : List Row) (it next : Entries) → it ≡ (path, sought) ∷ next → IsNamespace rows → IsStrictlySortedBy path_cmp (keys_of it) → AllByRecursion (IsHeld rows) it
    → left ≡ rewritten_where path (state_behind stamps now sought.block) rows → IsStep stamps now rows left it next
unfolding IsStrictlySortedBy
step_one stamps now path sought rows left it next steps namespace ordered held made =
    let order : IsStrictlySortedBy path_cmp (path ∷ keys_of next) = subst (λ es. IsStrictlySortedBy path_cmp (keys_of es)) steps ordered in
    let state : Option FileState = state_behind stamps now sought.block in
    let mapped : left ≡ map (at_path path state) rows = made ∙ rewritten_is path state rows in
    record {
      ordered = order.1;
      held = subst (λ rs. AllByRecursion (IsHeld rs) next) (sym mapped) (held_still path state rows next order.0 (subst (AllByRecursion (IsHeld rows)) steps held).1);
      namespace = subst IsNamespace (sym made) (namespace_where path state rows namespace);
      left_is = λ begun agree.
          ap (map (taken_by begun now next)) (mapped ∙ ap (λ s. map (at_path path s) rows) (same_state stamps (stamp_in begun) now sought.block agree))
          ∙ (one_file begun now path sought next order.0 rows ∙ sym (ap (λ es. map (taken_by begun now es) rows) steps));
    }

pub all_are_taken : (begun : List BegunRecovery) (expiry : Expiry) (now : ℕ) (rows left : List Row) (before after : Writers) (entries it : Entries) → expiry.now ≡ now → IsNamespace rows → it ≡ [] → entries ≡ sought_entries expiry rows
    → map (taken_by begun now it) left ≡ map (taken_by begun now entries) rows → ((last : List ℕ → Option ℕ) → IsExact last rows before → IsExact last left after) → AreTaken begun expiry rows before left after
all_are_taken begun expiry now rows left before after entries it at namespace done all left_is exact =
    record {
      tree =
          sym (none_left begun now left)
          ∙ (ap (λ es. map (taken_by begun now es) left) (sym done)
          ∙ (left_is
          ∙ (ap (λ es. map (taken_by begun now es) rows) all ∙ (by_all begun now expiry rows (namespace_tests rows namespace).ascending ∙ ap (λ n. map (λ row. taken_row begun n (sought_by expiry row.file) row) rows) (sym at)))));
      exact = exact;
    }

-- ---- a file that nobody has open

untouched : (path : List (List ℕ)) (what : Change) (rows : List Row) → row_at path rows ≡ None → row_rewritten path what rows ≡ rows
untouched path what [] none = refl
untouched path what (row ∷ rows) none = by (same_path path row.path) none (untouched path what rows)
  where
    by : (b : Bool) → first (cond b (row ∷ filter (λ other. same_path path other.path) rows) (filter (λ other. same_path path other.path) rows)) ≡ None → (row_at path rows ≡ None → row_rewritten path what rows ≡ rows)
        → cond b (with_change what row) row ∷ row_rewritten path what rows ≡ row ∷ rows
    by true h rest = absurd (some_none row h)
      where
        some_none : (x : Row) → Some x ≡ None → ⊥
        some_none x e = cc
    by false h rest = ap (λ l. row ∷ l) (rest h)

pub counted_unheld : (path : List (List ℕ)) (state : FileState) (rows left : List Row) (writers : Writers) → IsNamespace rows → holder_at (row_at path rows) ≡ None → holder_of state ≡ None → left ≡ row_rewritten path (change.State state) rows → AreCounted rows writers → AreCounted left writers
counted_unheld path state rows left writers namespace held unheld made counted client = counted client ∙ (by (row_at path rows) refl held ∙ ap (λ rs. length (open_files client rs)) (sym made))
  where
    total : (new old p q : ℕ) → new + p ≡ old + q → p ≡ 0 → q ≡ 0 → old ≡ new
    total new old p q e1 e2 e3 = omega (arith, e1, e2, e3)

    by : (at : Option Row) → row_at path rows ≡ at → holder_at at ≡ None → count (opens client) rows ≡ count (opens client) (row_rewritten path (change.State state) rows)
    by None e h = ap (count (opens client)) (sym (untouched path (change.State state) rows e))
    by (Some row) e h =
        total (count (opens client) (row_rewritten path (change.State state) rows)) (count (opens client) rows) (bit (opens client row)) (bit (opens client (with_change (change.State state) row)))
        (count_rewritten (opens client) path (change.State state) rows row (namespace_tests rows namespace).ascending e) (ap (λ who. bit (is_client client who)) h) (ap bit (unheld_row client state unheld row))

pub exact_unheld : (path : List (List ℕ)) (state : FileState) (rows left : List Row) (writers : Writers) → IsNamespace rows → holder_at (row_at path rows) ≡ None → holder_of state ≡ None → left ≡ row_rewritten path (change.State state) rows
    → (last : List ℕ → Option ℕ) → IsExact last rows writers → IsExact last left writers
exact_unheld path state rows left writers namespace held unheld made last exact = record { files = counted_unheld path state rows left writers namespace held unheld made exact.files; leased = exact.leased }

-- ---- one file, from the client who has it open

pub taken_closed : (path : List (List ℕ)) (now : ℕ) (block : Option ℕ) (rows left : List Row) (blocks : Blocks) (before after : Writers) → block ≡ None → left ≡ row_rewritten path (change.State Closed) rows
    → ((last : List ℕ → Option ℕ) → IsExact last rows before → IsExact last left after) → IsTaken path now block rows blocks before left blocks after
taken_closed path now block rows left blocks before after none made exact =
    record {
      tree = made ∙ ap (λ b. row_rewritten path (change.State (taken_state blocks now b)) rows) (sym none);
      blocks_is = ap (recovered_for blocks now) (sym none);
      exact = exact;
    }

pub taken_recovering : (path : List (List ℕ)) (now : ℕ) (block : Option ℕ) (own stamp : ℕ) (rows left : List Row) (blocks blocks_left : Blocks) (before after : Writers) → block ≡ Some own → stamp ≡ blocks.known.next_stamp
    → left ≡ row_rewritten path (change.State (Recovering own stamp now)) rows → blocks_left ≡ begun_one blocks own now → ((last : List ℕ → Option ℕ) → IsExact last rows before → IsExact last left after)
    → IsTaken path now block rows blocks before left blocks_left after
taken_recovering path now block own stamp rows left blocks blocks_left before after some next made known exact =
    record {
      tree = made ∙ (ap (λ s. row_rewritten path (change.State (Recovering own s now)) rows) next ∙ ap (λ b. row_rewritten path (change.State (taken_state blocks now b)) rows) (sym some));
      blocks_is = known ∙ ap (recovered_for blocks now) (sym some);
      exact = exact;
    }

-- ---- a tick

pub expired_is : (last : List ℕ → Option ℕ) (expiry : Expiry) (rows left : List Row) (blocks blocks_left : Blocks) (before after : Writers) (entries : Entries) (sought : List ℕ) (begun : List BegunRecovery) (closed recovering : ℕ)
    → entries ≡ sought_entries expiry rows → sought ≡ blocks_to_recover (values_of entries) → begun ≡ recoveries_begun blocks sought expiry.now → blocks_left ≡ with_recoveries_begun blocks sought expiry.now → closed ≡ length (closed_of (values_of entries))
    → recovering ≡ length begun → AreTaken begun expiry rows before left after → IsExact last rows before → IsExpired last expiry rows blocks (record { closed = closed; recovering = recovering }) left blocks_left after
expired_is last expiry rows left blocks blocks_left before after entries sought begun closed recovering all sought_are planned known closed_is recovering_is taken exact =
    let files : values_of entries ≡ files_sought expiry rows = ap values_of all ∙ values_sought expiry rows in
    let own : sought ≡ blocks_to_recover (files_sought expiry rows) = sought_are ∙ ap blocks_to_recover files in
    let begun_are : begun ≡ recoveries_begun blocks (blocks_to_recover (files_sought expiry rows)) expiry.now = planned ∙ ap (λ numbers. recoveries_begun blocks numbers expiry.now) own in
    record {
      tree = taken.tree ∙ ap (λ some. all_taken some expiry rows) begun_are;
      blocks_are = known ∙ ap (λ numbers. with_recoveries_begun blocks numbers expiry.now) own;
      told =
          ap (λ n. record { closed = n; recovering = recovering }) (closed_is ∙ ap (λ some. length (closed_of some)) files)
          ∙ ap (λ n. record { closed = length (closed_of (files_sought expiry rows)); recovering = n }) (recovering_is ∙ ap length begun_are);
      exact = taken.exact last exact;
    }

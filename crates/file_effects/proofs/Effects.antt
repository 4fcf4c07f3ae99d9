-- The clients who have files open, behind what an operation leaves of the rows.
use Rattle.std.proofs.Common.{◌≡◌, ℕ, ◌+◌, ◌-◌, Bool, true, false, List, [], ◌∷◌, filter, length, not, Option, Some, None, arith, refl, sym, ap, ◌∙◌, subst, cond}
use Rattle.std.specs.List.{list_all}
use Rattle.std.specs.Option.{option_or, option_map}
use Rattle.hdfs_values.specs.Text.{same}
use Rattle.hdfs_values.proofs.Texts.{same_is, same_symm}
use Rattle.file_paths.specs.PathOrder.{same_path}
use Rattle.hdfs_types.specs.declared.op.Op.TheVariants as op
use Rattle.file_states.specs.declared.state.FileState.{FileState}
use Rattle.file_states.specs.declared.state.FileState.TheVariants.{Closed, Open, Recovering}
use Rattle.block_records.specs.declared.last_block.LastBlock.{LastBlock}
use Rattle.refusals.specs.declared.refusal.Refusal.{Refusal}
use Rattle.refusals.specs.declared.refusal.Refusal.TheVariants.{IsDirectory, IsRoot, NoLease, NotDirectory}
use Rattle.principals.specs.Users.{Users}
use Rattle.namespace_rows.specs.declared.file_row.FileRow.{FileRow}
use Rattle.namespace_rows.specs.declared.row.Row.{Row}
use Rattle.namespace_rows.specs.declared.row.Change.TheVariants as change
use Rattle.namespace_rows.specs.First.{first}
use Rattle.namespace_rows.specs.Rows.{is_directory, row_at, ancestor, file_above}
use Rattle.namespace_rows.specs.Namespace.{IsNamespace, suits_kind, suits_parts, is_root}
use Rattle.namespace_rows.specs.Files.{new_file, holder_of, holder_of_file, is_client, open_files, holders}
use Rattle.flat_rows.specs.FileOutcome.{directory_there, file_there, holder_at, of_file, if_some_file, refused_write, refused_by_state}
use Rattle.flat_rows.specs.Outcome.{beneath_file, nothing_at, with_new, refused_where}
use Rattle.namespace_rows.specs.Changes.{rows_under, without, with_change, row_rewritten}
use Rattle.namespace_rows.proofs.Tests.{both, all_kept}
use Rattle.namespace_rows.proofs.Namespaces.{namespace_tests}
use Rattle.history.proofs.Counting.{count, bit, count_without}
use Rattle.history.proofs.Apart.{no_ancestor}
use Rattle.history.proofs.OpenFiles.{count_new, count_rewritten, count_holders, with_holder, unheld_row, opens}
use Rattle.lease_manager.specs.declared.writers.Writers.{Writers}
use Rattle.lease_manager.specs.Writers.{count_of}
use Rattle.file_effects.specs.Effected.{IsFree}

some_none : {X : Type 0} (x : X) → Some x ≡ None → ⊥
some_none x e = cc

-- ---- what an operation is free of

none_first : (a b : Option Refusal) → option_or a b ≡ None → a ≡ None
none_first None b h = refl
none_first (Some x) b h = cc

none_then : (a b : Option Refusal) → option_or a b ≡ None → b ≡ None
none_then None b h = h
none_then (Some x) b h = cc

module _ (path : List (List ℕ)) (rows : List Row) where
  -- no file is above the path
  pub clear_above : beneath_file path rows ≡ None → file_above path rows ≡ None
  clear_above h = by (file_above path rows) h
    where
      by : (above : Option Row) → option_map (λ file. NotDirectory file.path) above ≡ None → above ≡ None
      by None e = refl
      by (Some row) e = cc

pub free_create : (path : List (List ℕ)) (mode replication : ℕ) (over : Bool) (caller : List ℕ) (rows : List Row) (users : Users) → IsFree (op.Create path mode replication over) caller rows users
    → (beneath_file path rows ≡ None) × (directory_there (row_at path rows) ≡ None) × (file_there over (row_at path rows) ≡ None)
free_create path mode replication over caller rows users free =
    let a = beneath_file path rows in
    let b = directory_there (row_at path rows) in
    let c = file_there over (row_at path rows) in
    let bc = none_then a (option_or b (option_or c None)) free.1 in
    (none_first a (option_or b (option_or c None)) free.1, none_first b (option_or c None) bc, none_first c None (none_then b (option_or c None) bc))

-- what has the path is a file
pub record IsFileAt (path : List (List ℕ)) (rows : List Row) : Type 0 where
  pub row : Row
  pub file : FileRow
  pub at : row_at path rows ≡ Some row
  pub has : row.file ≡ Some file

-- a row that isn't a directory's has a file
file_of_row : (row : Row) → suits_kind row ≡ true → is_directory row ≡ false → (file : FileRow) × (row.file ≡ Some file)
file_of_row row suits kind = by row.file refl (ap (λ b. suits_parts b row.acl row.file) (sym kind) ∙ suits)
  where
    by : (file : Option FileRow) → row.file ≡ file → suits_parts false row.acl file ≡ true → (file : FileRow) × (row.file ≡ Some file)
    by None e h = cc
    by (Some file) e h = (file, e)

found_suits : (path : List (List ℕ)) (rows : List Row) (row : Row) → list_all suits_kind rows ≡ true → row_at path rows ≡ Some row → suits_kind row ≡ true
found_suits path rows row suits at = first_of (filter (λ r. same_path path r.path) rows) (all_kept (λ r. same_path path r.path) suits_kind rows suits) at
  where
    first_of : (some : List Row) → list_all suits_kind some ≡ true → first some ≡ Some row → suits_kind row ≡ true
    first_of [] h e = cc
    first_of (r ∷ rs) h e = subst (λ x. suits_kind x ≡ true) (one r row e) (both (suits_kind r) (list_all suits_kind rs) h).0
      where
        one : (x y : Row) → Some x ≡ Some y → x ≡ y
        one x y k = cc

pub file_at_path : (path : List (List ℕ)) (rows : List Row) → IsNamespace rows → nothing_at (row_at path rows) ≡ None → directory_there (row_at path rows) ≡ None → IsFileAt path rows
file_at_path path rows namespace there file = by (row_at path rows) refl there file
  where
    kind_of : (b : Bool) → cond b (Some IsDirectory) None ≡ None → b ≡ false
    kind_of true e = cc
    kind_of false e = refl

    by : (at : Option Row) → row_at path rows ≡ at → nothing_at at ≡ None → directory_there at ≡ None → IsFileAt path rows
    by None e h k = cc
    by (Some row) e h k =
        let found = file_of_row row (found_suits path rows row (namespace_tests rows namespace).suit e) (kind_of (is_directory row) k) in
        record { row = row; file = found.0; at = e; has = found.1 }

pub free_complete : (path : List (List ℕ)) (stated : Option LastBlock) (caller : List ℕ) (rows : List Row) (users : Users) → IsNamespace rows → IsFree (op.Complete path stated) caller rows users → holder_at (row_at path rows) ≡ Some caller
free_complete path stated caller rows users namespace free =
    let a = beneath_file path rows in
    let b = nothing_at (row_at path rows) in
    let c = directory_there (row_at path rows) in
    let d = of_file (refused_write caller) (row_at path rows) in
    let bc = none_then a _ free.1 in
    let cd = none_then b _ bc in
    let de = none_then c _ cd in
    let found = file_at_path path rows namespace (none_first b _ bc) (none_first c _ cd) in
    let writes : refused_by_state caller found.file.state ≡ None =
    sym (ap (of_file (refused_write caller)) found.at ∙ ap (if_some_file (refused_write caller)) found.has) ∙ none_first d _ de in
    ap holder_at found.at ∙ (ap holder_of_file found.has ∙ by_state found.file.state writes)
  where
    by_state : (state : FileState) → refused_by_state caller state ≡ None → holder_of state ≡ Some caller
    by_state Closed e = cc
    by_state (Recovering block stamp begun) e = cc
    by_state (Open holder) e = by (same caller holder) refl e
      where
        by : (b : Bool) → same caller holder ≡ b → cond b None (Some NoLease) ≡ None → Some holder ≡ Some caller
        by true at k = ap (λ who. Some who) (sym (same_is caller holder at))
        by false at k = cc

pub free_delete : (path : List (List ℕ)) (recursive : Bool) (caller : List ℕ) (rows : List Row) (users : Users) → IsFree (op.Delete path recursive) caller rows users → not (is_root path) ≡ true
free_delete path recursive caller rows users free = by (is_root path) (none_first (refused_where (is_root path) IsRoot) _ free.1)
  where
    by : (b : Bool) → refused_where b IsRoot ≡ None → not b ≡ true
    by true e = cc
    by false e = refl

-- ---- one file more or less

plus_one : (f : List ℕ → ℕ) (client other : List ℕ) → cond (same client other) (f client + 1) (f other) ≡ f other + bit (same other client)
plus_one f client other = by (same client other) refl
  where
    nothing : (n : ℕ) → n ≡ n + 0
    nothing n = omega arith

    by : (b : Bool) → same client other ≡ b → cond b (f client + 1) (f other) ≡ f other + bit (same other client)
    by true at = ap (λ who. f who + 1) (same_is client other at) ∙ ap (λ c. f other + bit c) (sym (same_symm other client ∙ at))
    by false at = nothing (f other) ∙ ap (λ c. f other + bit c) (sym (same_symm other client ∙ at))

minus_one : (f : List ℕ → ℕ) (client other : List ℕ) → cond (same client other) (f client - 1) (f other) ≡ f other - bit (same other client)
minus_one f client other = by (same client other) refl
  where
    nothing : (n : ℕ) → n ≡ n - 0
    nothing n = omega arith

    by : (b : Bool) → same client other ≡ b → cond b (f client - 1) (f other) ≡ f other - bit (same other client)
    by true at = ap (λ who. f who - 1) (same_is client other at) ∙ ap (λ c. f other - bit c) (sym (same_symm other client ∙ at))
    by false at = nothing (f other) ∙ ap (λ c. f other - bit c) (sym (same_symm other client ∙ at))

abbrev pub AreCounted : List Row → Writers → Type 0
AreCounted rows writers = (client : List ℕ) → count_of writers.files client ≡ length (open_files client rows)

abbrev pub OneMore : List ℕ → Writers → Writers → Type 0
OneMore client before after = (other : List ℕ) → count_of after.files other ≡ cond (same client other) (count_of before.files client + 1) (count_of before.files other)

abbrev pub OneLess : List ℕ → Writers → Writers → Type 0
OneLess client before after = (other : List ℕ) → count_of after.files other ≡ cond (same client other) (count_of before.files client - 1) (count_of before.files other)

abbrev pub EachLess : List (List ℕ) → Writers → Writers → Type 0
EachLess clients before after = (other : List ℕ) → count_of after.files other ≡ count_of before.files other - length (filter (same other) clients)

-- a file is made, in the place of one
pub counted_create : (path : List (List ℕ)) (mode replication : ℕ) (caller : List ℕ) (rows left : List Row) (before between after : Writers) → IsNamespace rows → directory_there (row_at path rows) ≡ None
    → left ≡ with_new path mode (Some (new_file replication caller)) caller (ancestor path rows) rows → AreCounted rows before → OneMore caller before between → EachLess (holders (rows_under path rows)) between after → AreCounted left after
counted_create path mode replication caller rows left before between after namespace file made counted more less client = by (ancestor path rows) refl
  where
    total : (w2 w1 w0 h u c b new : ℕ) → w2 ≡ w1 - h → h ≡ u → w1 ≡ w0 + b → w0 ≡ c → new + u ≡ b + c → w2 ≡ new
    total w2 w1 w0 h u c b new e1 e2 e3 e4 e5 = omega (arith, e1, e2, e3, e4, e5)

    by : (above : Option Row) → ancestor path rows ≡ above → count_of after.files client ≡ length (open_files client left)
    by None e = absurd (some_none IsDirectory (sym (no_ancestor path rows namespace e) ∙ file))
    by (Some above) e =
        total (count_of after.files client) (count_of between.files client) (count_of before.files client) (length (filter (same client) (holders (rows_under path rows)))) (count (opens client) (rows_under path rows)) (count (opens client) rows) (bit (same client caller))
        (count (opens client) (with_new path mode (Some (new_file replication caller)) caller (Some above) rows))
        (less client) (count_holders client (rows_under path rows)) (more client ∙ plus_one (count_of before.files) caller client) (counted client) (count_new client path mode (Some (new_file replication caller)) caller rows above namespace e)
        ∙ ap (λ rs. length (open_files client rs)) (ap (λ a. with_new path mode (Some (new_file replication caller)) caller a rows) (sym e) ∙ sym made)

-- a closed file is opened
pub counted_reopen : (path : List (List ℕ)) (caller : List ℕ) (rows left : List Row) (before after : Writers) → IsNamespace rows → IsFileAt path rows → holder_at (row_at path rows) ≡ None
    → left ≡ row_rewritten path (change.State (Open caller)) rows → AreCounted rows before → OneMore caller before after → AreCounted left after
counted_reopen path caller rows left before after namespace found closed made counted more client =
    total (count_of after.files client) (count_of before.files client) (count (opens client) rows) (bit (same client caller)) (count (opens client) (row_rewritten path (change.State (Open caller)) rows)) (bit (opens client found.row)) (bit (opens client (with_change (change.State (Open caller)) found.row)))
    (more client ∙ plus_one (count_of before.files) caller client) (counted client) (count_rewritten (opens client) path (change.State (Open caller)) rows found.row (namespace_tests rows namespace).ascending found.at)
    (ap (λ h. bit (is_client client h)) (sym (ap holder_at found.at) ∙ closed)) (ap bit (with_holder client (Open caller) found.row found.file found.has))
    ∙ ap (λ rs. length (open_files client rs)) (sym made)
  where
    total : (w1 w0 c b new p q : ℕ) → w1 ≡ w0 + b → w0 ≡ c → new + p ≡ c + q → p ≡ 0 → q ≡ b → w1 ≡ new
    total w1 w0 c b new p q e1 e2 e3 e4 e5 = omega (arith, e1, e2, e3, e4, e5)

-- a file is taken from the client who has it open
pub counted_close : (path : List (List ℕ)) (state : FileState) (holder : List ℕ) (rows left : List Row) (before after : Writers) → IsNamespace rows → holder_at (row_at path rows) ≡ Some holder → holder_of state ≡ None
    → left ≡ row_rewritten path (change.State state) rows → AreCounted rows before → OneLess holder before after → AreCounted left after
counted_close path state holder rows left before after namespace held unheld made counted less client = by (row_at path rows) refl held
  where
    total : (w1 w0 c b new p q : ℕ) → w1 ≡ w0 - b → w0 ≡ c → new + p ≡ c + q → p ≡ b → q ≡ 0 → w1 ≡ new
    total w1 w0 c b new p q e1 e2 e3 e4 e5 = omega (arith, e1, e2, e3, e4, e5)

    by : (at : Option Row) → row_at path rows ≡ at → holder_at at ≡ Some holder → count_of after.files client ≡ length (open_files client left)
    by None e h = cc
    by (Some row) e h =
        total (count_of after.files client) (count_of before.files client) (count (opens client) rows) (bit (same client holder)) (count (opens client) (row_rewritten path (change.State state) rows)) (bit (opens client row)) (bit (opens client (with_change (change.State state) row)))
        (less client ∙ minus_one (count_of before.files) holder client) (counted client) (count_rewritten (opens client) path (change.State state) rows row (namespace_tests rows namespace).ascending e)
        (ap (λ h. bit (is_client client h)) h) (ap bit (unheld_row client state unheld row))
        ∙ ap (λ rs. length (open_files client rs)) (sym made)

-- what has a path is deleted
pub counted_delete : (path : List (List ℕ)) (rows left : List Row) (before after : Writers) → left ≡ without path rows → AreCounted rows before → EachLess (holders (rows_under path rows)) before after → AreCounted left after
counted_delete path rows left before after made counted less client =
    total (count_of after.files client) (count_of before.files client) (count (opens client) rows) (length (filter (same client) (holders (rows_under path rows)))) (count (opens client) (rows_under path rows)) (count (opens client) (without path rows))
    (less client) (counted client) (count_holders client (rows_under path rows)) (count_without (opens client) path rows)
    ∙ ap (λ rs. length (open_files client rs)) (sym made)
  where
    total : (w1 w0 c h u new : ℕ) → w1 ≡ w0 - h → w0 ≡ c → h ≡ u → new + u ≡ c → w1 ≡ new
    total w1 w0 c h u new e1 e2 e3 e4 = omega (arith, e1, e2, e3, e4)

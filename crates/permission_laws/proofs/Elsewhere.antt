-- What an operation leaves where it has no matter.
use Rattle.std.proofs.Common.{◌≡◌, ℕ, zero, suc, ◌≤◌, Bool, true, false, ◌&&◌, ◌||◌, not, List, [], ◌∷◌, ◌++◌, Option, Some, None, map, length, drop, append_assoc, refl, sym, ap, ◌∙◌, cond, arith}
use Rattle.std.specs.Prelude.{filter, unwrap_or, Result, Ok, Err}
use Rattle.std.specs.List.{list_all, list_any}
use Rattle.std.specs.Option.{option_map}
use Rattle.std.proofs.lemmas.List.{take-append-drop}
use Rattle.permission_specs.specs.declared.acl_change.AclChange.{AclChange}
use Rattle.file_paths.specs.Path.{is_prefix, is_beneath}
use Rattle.file_paths.specs.PathOrder.{same_path}
use Rattle.hdfs_types.specs.declared.op.Op.{Op}
use Rattle.hdfs_types.specs.declared.op.Op.TheVariants as op
use Rattle.file_states.specs.declared.state.FileState.TheVariants.{Closed}
use Rattle.block_records.specs.declared.last_block.LastBlock.{LastBlock}
use Rattle.refusals.specs.declared.refusal.Refusal.{Refusal}
use Rattle.refusals.specs.declared.refusal.Refusal.TheVariants.{IsDirectory}
use Rattle.acl_entries.specs.Acl.{Acl}
use Rattle.partial_acl.specs.AclChange.{acl_change, with_mode}
use Rattle.principals.specs.Users.{Users}
use Rattle.namespace_rows.specs.declared.file_row.FileRow.{FileRow}
use Rattle.namespace_rows.specs.declared.row.Row.{Row}
use Rattle.namespace_rows.specs.declared.row.Change.{Change}
use Rattle.namespace_rows.specs.declared.row.Change.TheVariants as change
use Rattle.namespace_rows.specs.Files.{new_file, with_block}
use Rattle.namespace_rows.specs.Rows.{is_directory, is_missing, is_none, row_at, ancestor, with_sub_tree}
use Rattle.namespace_rows.specs.Namespace.{IsNamespace, is_child, has_parent, is_root}
use Rattle.namespace_rows.proofs.Namespaces.{namespace_tests, ascending_filter}
use Rattle.namespace_rows.proofs.PathOrders.{same_path_is}
use Rattle.namespace_rows.proofs.Tests.{both, and}
use Rattle.flat_rows.specs.BlockOutcome.{last_committed, with_block_at, ended_at}
use Rattle.namespace_rows.specs.Changes.{without, with_rows_moved, moved_row, rows_under, with_change, file_edited, row_rewritten, block_added}
use Rattle.flat_rows.specs.FileOutcome.{directory_there, file_there, holder_at}
use Rattle.flat_rows.specs.Takeover.{unfinished_at, state_after_append}
use Rattle.flat_rows.specs.Facts.{Facts}
use Rattle.flat_rows.specs.Outcome.{first_refusal, first_some, beneath_file, rows_after, with_new, made_at, new_row, new_rows, mode_of_new, file_of_new, with_mode_at, with_owner_at, with_acl_at, with_list_at}
use Rattle.flat_rows.proofs.Changes.{same_self, any_kept, changed_path}
use Rattle.flat_rows.proofs.Firsts.{first_passes}
use Rattle.flat_rows.proofs.Holders.{all_apart}
use Rattle.flat_rows.proofs.Making.{all_upto, not_upto, upto, beneath_more}
use Rattle.flat_rows.proofs.Missing.{found, missing_any, child_shorter}
use Rattle.flat_rows.proofs.Moves.{front_inside, parent_inside}
use Rattle.flat_rows.proofs.NewDirectories.{beneath_parts, ancestor_above, starts_self, starts_longer, starts_onward}
use Rattle.permission_laws.specs.Attempt.{is_above_named, concerns}
use Rattle.permission_laws.proofs.Deciding.{or_none, path_of_row}
use Rattle.permission_laws.proofs.RowsAt.{at_kept, at_dropped, at_absent, at_map_same, at_replaced, at_new, at_moved, only_row, front_is, same_back}

differ : true ≡ false → ⊥
differ e = cc

left_false : (a b : Bool) → (a || b) ≡ false → a ≡ false
left_false true b h = cc
left_false false b h = refl

right_false : (a b : Bool) → (a || b) ≡ false → b ≡ false
right_false true b h = cc
right_false false b h = h

-- ---- nothing is beneath a file

module _ (rows : List Row) (namespace : IsNamespace rows) (top : List (List ℕ)) where
  abbrev at : List (List ℕ) → Row → Bool
  at path row = same_path path row.path

  directory_above : (k : ℕ) (path : List (List ℕ)) → length path ≤ k → list_any (at path) rows ≡ true → is_prefix top path ≡ true → same_path top path ≡ false
      → list_any (λ r. at top r && is_directory r) rows ≡ true
  directory_above k [] le there inside apart = by top inside apart
    where
      by : (p : List (List ℕ)) → is_prefix p [] ≡ true → same_path p [] ≡ false → list_any (λ r. at top r && is_directory r) rows ≡ true
      by [] h e = cc
      by (n ∷ ns) h e = cc
  directory_above zero (n ∷ ns) le there inside apart = absurd (omega (arith, le))
  directory_above (suc k) (n ∷ ns) le there inside apart =
      let one = found (at (n ∷ ns)) rows there in
      let path : (n ∷ ns) ≡ one.row.path = same_path_is (n ∷ ns) one.row.path one.passes in
      let parent : has_parent (n ∷ ns) rows ≡ true = ap (λ p. is_root p || has_parent p rows) path ∙ one.shared (λ row. is_root row.path || has_parent row.path rows) (namespace_tests rows namespace).held in
      let above = found (λ a. is_child (n ∷ ns) a.path && is_directory a) rows parent in
      let parts = both (is_child (n ∷ ns) above.row.path) (is_directory above.row) above.passes in
      let within : is_prefix top above.row.path ≡ true = parent_inside top (n ∷ ns) above.row.path inside apart parts.0 in
      by above.row (same_path top above.row.path) refl parts.1 above.among
      (λ e. directory_above k above.row.path (omega (arith, le, child_shorter (n ∷ ns) above.row.path parts.0)) (above.among (at above.row.path) (same_self above.row.path)) within e)
    where
      by : (above : Row) (b : Bool) → same_path top above.path ≡ b → is_directory above ≡ true → ((q : Row → Bool) → q above ≡ true → list_any q rows ≡ true)
          → (same_path top above.path ≡ false → list_any (λ r. at top r && is_directory r) rows ≡ true) → list_any (λ r. at top r && is_directory r) rows ≡ true
      by above true e kind among rest = among (λ r. at top r && is_directory r) (and _ _ e kind)
      by above false e kind among rest = rest e

  -- where a file has the path
  pub none_beneath_file : (file : Row) (path : List (List ℕ)) (row : Row) → row_at top rows ≡ Some file → is_directory file ≡ false → row_at path rows ≡ Some row → is_prefix top path ≡ true → same_path top path ≡ false → ⊥
  none_beneath_file file path row is kind there inside apart =
      let stands : list_any (at path) rows ≡ true = some_any (list_any (at path) rows) (sym (missing_any path rows) ∙ ap is_none there) in
      let directory = directory_above (length path) path (omega arith) stands inside apart in
      differ (sym (only_row top is_directory rows file (namespace_tests rows namespace).ascending is directory) ∙ kind)
    where
      some_any : (b : Bool) → not b ≡ false → b ≡ true
      some_any true h = refl
      some_any false h = cc

-- ---- what is made

module _ (owner : List ℕ) (mode : ℕ) (file : Option FileRow) where
  pub made_inside : (top : List (List ℕ)) (above : Row) (names : List (List ℕ)) → is_prefix top above.path ≡ true → list_all (λ r. is_prefix top r.path) (new_rows above owner mode file names) ≡ true
  made_inside top above [] h = refl
  made_inside top above (name ∷ names) h =
      let longer : is_prefix top (above.path ++ name ∷ []) ≡ true = starts_onward top above.path (above.path ++ name ∷ []) h (starts_longer above.path name) in
      and _ _ longer (made_inside top (new_row above owner (mode_of_new mode names) (file_of_new file names) name) names longer)

  made_on_path : (path : List (List ℕ)) (above : Row) (names : List (List ℕ)) → above.path ++ names ≡ path → list_all (λ r. is_prefix r.path path) (new_rows above owner mode file names) ≡ true
  made_on_path path above [] whole = refl
  made_on_path path above (name ∷ names) whole =
      let onward : (above.path ++ name ∷ []) ++ names ≡ path = append_assoc above.path (name ∷ []) names ∙ whole in
      and _ _ (ap (is_prefix (above.path ++ name ∷ [])) (sym onward) ∙ front_inside (above.path ++ name ∷ []) names)
      (made_on_path path (new_row above owner (mode_of_new mode names) (file_of_new file names) name) names onward)

  module _ (rows : List Row) (namespace : IsNamespace rows) (path : List (List ℕ)) where
    abbrev left : List Row
    left = with_new path mode file owner (ancestor path rows) rows

    -- the first component that is made, and the place where the new rows stand
    pub record Place (above : Row) : Type 0 where
      pub name : List ℕ
      pub names : List (List ℕ)
      pub whole : path ≡ above.path ++ name ∷ names
      pub put : with_new path mode file owner (Some above) rows ≡ with_sub_tree rows (new_rows above owner mode file (name ∷ names))

    place : (above : Row) → ancestor path rows ≡ Some above → Place above
    place above e =
        let parts = beneath_parts path above.path (ancestor_above path rows above e) in
        record {
          name = parts.name;
          names = parts.names;
          whole = sym (take-append-drop (length above.path) path) ∙ ap (λ t. t ++ drop (length above.path) path) parts.front ∙ ap (λ t. above.path ++ t) parts.left;
          put = ap (λ t. with_sub_tree rows (new_rows above owner mode file t)) parts.left;
        }

    block_inside : (above : Row) (name : List ℕ) (names : List (List ℕ)) → list_all (λ r. is_prefix (above.path ++ name ∷ []) r.path) (new_rows above owner mode file (name ∷ names)) ≡ true
    block_inside above name names =
        let top : List (List ℕ) = above.path ++ name ∷ [] in
        and _ _ (starts_self top) (made_inside top (new_row above owner (mode_of_new mode names) (file_of_new file names) name) names (starts_self top))

    -- nothing stands at or beneath the first component that is made, unless it is the path itself
    module _ (other : List (List ℕ)) where
      free_beneath : (top : List (List ℕ)) (row : Row) → is_missing top rows ≡ true → row_at other rows ≡ Some row → is_prefix top other ≡ true → ⊥
      free_beneath top row missing there inside =
          let apart = first_passes (λ r. same_path other r.path) (λ r. not (is_prefix top r.path)) rows row (all_apart top rows namespace missing) there in
          differ (sym apart ∙ ap (λ p. not (is_prefix top p)) (sym (path_of_row other rows row there)) ∙ ap not inside)

      -- a component between the last that exists and the path doesn't stand
      none_between : (above : Row) (name next : List ℕ) (more : List (List ℕ)) → ancestor path rows ≡ Some above → path ≡ above.path ++ name ∷ next ∷ more → list_any (λ r. same_path (above.path ++ name ∷ []) r.path) rows ≡ true → ⊥
      none_between above name next more e whole there =
          let top : List (List ℕ) = above.path ++ name ∷ [] in
          let test : Row → Bool = λ row. is_beneath path row.path in
          let beneath : is_beneath path top ≡ true = ap (λ p. is_beneath p top) whole ∙ beneath_more above.path name more next in
          let inside : list_any (λ r. same_path top r.path) (filter test rows) ≡ true =
          any_kept test (λ r. same_path top r.path) (λ row k. ap (is_beneath path) (sym (same_path_is top row.path k)) ∙ beneath) rows there in
          let one = found (λ r. same_path top r.path) (filter test rows) inside in
          let low = one.shared (upto above) (all_upto above (filter test rows) (ascending_filter test rows (namespace_tests rows namespace).ascending) e) in
          differ (sym low ∙ not_upto above name one.row (sym (same_path_is top one.row.path one.passes)))

      -- where nothing has the path, or a file
      abbrev Takeable : Type 0
      Takeable = (directory : Row) → row_at path rows ≡ Some directory → is_directory directory ≡ false

      not_inside : (above : Row) (name : List ℕ) (names : List (List ℕ)) (row : Row) → ancestor path rows ≡ Some above → path ≡ above.path ++ name ∷ names → Takeable → same_path other path ≡ false
          → row_at other rows ≡ Some row → is_prefix (above.path ++ name ∷ []) other ≡ true → ⊥
      not_inside above name names row e whole takeable apart there inside = by_top (list_any (λ r. same_path (above.path ++ name ∷ []) r.path) rows) refl
        where
          by_names : (rest : List (List ℕ)) → path ≡ above.path ++ name ∷ rest → list_any (λ r. same_path (above.path ++ name ∷ []) r.path) rows ≡ true → ⊥
          by_names [] full k = by_path (row_at path rows) refl
            where
              by_path : (o : Option Row) → row_at path rows ≡ o → ⊥
              by_path None g = differ (sym (ap (λ p. list_any (λ r. same_path p r.path) rows) full ∙ k) ∙ none_any (list_any (λ r. same_path path r.path) rows) (sym (missing_any path rows) ∙ ap is_none g))
                where
                  none_any : (b : Bool) → not b ≡ true → b ≡ false
                  none_any true h = cc
                  none_any false h = refl
              by_path (Some file) g = none_beneath_file rows namespace path file other row g (takeable file g) there (ap (λ p. is_prefix p other) full ∙ inside) (same_back other path apart)
          by_names (next ∷ more) full k = none_between above name next more e full k

          by_top : (b : Bool) → list_any (λ r. same_path (above.path ++ name ∷ []) r.path) rows ≡ b → ⊥
          by_top true k = by_names names whole k
          by_top false k = free_beneath (above.path ++ name ∷ []) row (missing_any (above.path ++ name ∷ []) rows ∙ ap not k) there inside

      pub made_keeps : (row : Row) → Takeable → same_path other path ≡ false → row_at other rows ≡ Some row → row_at other left ≡ Some row
      made_keeps row takeable apart there = by (ancestor path rows) refl
        where
          by : (o : Option Row) → ancestor path rows ≡ o → row_at other (with_new path mode file owner o rows) ≡ Some row
          by None e = there
          by (Some above) e =
              let p = place above e in
              ap (row_at other) p.put ∙ by_place above p.name p.names (is_prefix (above.path ++ p.name ∷ []) other) refl (not_inside above p.name p.names row e p.whole takeable apart there)
            where
              by_place : (above : Row) (name : List ℕ) (names : List (List ℕ)) (b : Bool) → is_prefix (above.path ++ name ∷ []) other ≡ b → (is_prefix (above.path ++ name ∷ []) other ≡ true → ⊥)
                  → row_at other (with_sub_tree rows (new_rows above owner mode file (name ∷ names))) ≡ Some row
              by_place above name names true g never = absurd (never g)
              by_place above name names false g never = at_replaced other (above.path ++ name ∷ []) (new_rows above owner mode file (name ∷ names)) rows g (block_inside above name names) ∙ there

      pub made_adds_no_other : same_path other path ≡ false → is_beneath path other ≡ false → row_at other rows ≡ None → row_at other left ≡ None
      made_adds_no_other apart not_above there = by (ancestor path rows) refl
        where
          no_front : (b : Bool) → is_prefix other path ≡ b → b ≡ false
          no_front true g = absurd (differ (sym (front_is other path g apart) ∙ not_above))
          no_front false g = refl

          by : (o : Option Row) → ancestor path rows ≡ o → row_at other (with_new path mode file owner o rows) ≡ None
          by None e = there
          by (Some above) e = let p = place above e in ap (row_at other) p.put ∙ by_place above p.name p.names p.whole (is_prefix (above.path ++ p.name ∷ []) other) refl
            where
              by_place : (above : Row) (name : List ℕ) (names : List (List ℕ)) → path ≡ above.path ++ name ∷ names → (b : Bool) → is_prefix (above.path ++ name ∷ []) other ≡ b
                  → row_at other (with_sub_tree rows (new_rows above owner mode file (name ∷ names))) ≡ None
              by_place above name names whole true g =
                  at_new other (above.path ++ name ∷ []) (new_rows above owner mode file (name ∷ names)) rows g
                  ∙ at_absent other (λ r. is_prefix r.path path) (new_rows above owner mode file (name ∷ names)) (made_on_path path above (name ∷ names) (sym whole))
                  (λ r k. ap (λ p. is_prefix p path) (sym (same_path_is other r.path k)) ∙ no_front (is_prefix other path) refl)
              by_place above name names whole false g = at_replaced other (above.path ++ name ∷ []) (new_rows above owner mode file (name ∷ names)) rows g (block_inside above name names) ∙ there

-- ---- of each operation

-- the row of a path is given anew, with its path
module _ (other path : List (List ℕ)) (given : Row → Row) (paths : (row : Row) → (given row).path ≡ row.path) where
  abbrev anew_at : Row → Row
  anew_at row = cond (same_path path row.path) (given row) row

  given_elsewhere : (rows : List Row) → (same_path other path || false) ≡ false → row_at other (map anew_at rows) ≡ row_at other rows
  given_elsewhere rows apart = at_map_same other anew_at keeps stays rows
    where
      keeps : (row : Row) → (anew_at row).path ≡ row.path
      keeps row = by (same_path path row.path)
        where
          by : (b : Bool) → (cond b (given row) row).path ≡ row.path
          by true = paths row
          by false = refl

      stays : (row : Row) → same_path other row.path ≡ true → anew_at row ≡ row
      stays row e = ap (λ b. cond b (given row) row) (ap (same_path path) (sym (same_path_is other row.path e)) ∙ same_back other path (left_false (same_path other path) false apart))

module _ (rows : List Row) (other : List (List ℕ)) where
  pub rewritten_elsewhere : (path : List (List ℕ)) (given : Change) → (same_path other path || false) ≡ false → row_at other (row_rewritten path given rows) ≡ row_at other rows
  rewritten_elsewhere path given apart = given_elsewhere other path (with_change given) (changed_path given) rows apart

  added_elsewhere : (path : List (List ℕ)) (block : ℕ) → (same_path other path || false) ≡ false → row_at other (block_added path block rows) ≡ row_at other rows
  added_elsewhere path block apart = given_elsewhere other path (file_edited (with_block block)) (λ row. refl) rows apart

  committed_elsewhere : (path : List (List ℕ)) (last : Option LastBlock) → (same_path other path || false) ≡ false → row_at other (last_committed path last rows) ≡ row_at other rows
  committed_elsewhere path None apart = refl
  committed_elsewhere path (Some last) apart = rewritten_elsewhere path (change.Committed last.block last.length) apart

-- the rows with a block more, and those with a file ended
module _ (rows : List Row) (other path : List (List ℕ)) (last : Option LastBlock) (apart : (same_path other path || false) ≡ false) where
  with_block_elsewhere : (block : ℕ) → row_at other (with_block_at path last block rows) ≡ row_at other rows
  with_block_elsewhere block = committed_elsewhere (block_added path block rows) other path last apart ∙ added_elsewhere rows other path block apart

  ended_elsewhere : row_at other (ended_at path last rows) ≡ row_at other rows
  ended_elsewhere = committed_elsewhere (row_rewritten path (change.State Closed) rows) other path last apart ∙ rewritten_elsewhere rows other path (change.State Closed) apart

module _ (rows : List Row) (other : List (List ℕ)) where
  mode_elsewhere : (path : List (List ℕ)) (mode : ℕ) (o : Option Row) → (same_path other path || false) ≡ false → row_at other (with_mode_at path mode o rows) ≡ row_at other rows
  mode_elsewhere path mode None apart = refl
  mode_elsewhere path mode (Some row) apart = rewritten_elsewhere rows other path (change.List (with_mode mode row.kind row.acl)) apart

  owner_elsewhere : (path : List (List ℕ)) (owner group : Option (List ℕ)) (o : Option Row) → (same_path other path || false) ≡ false → row_at other (with_owner_at path owner group o rows) ≡ row_at other rows
  owner_elsewhere path owner group None apart = refl
  owner_elsewhere path owner group (Some row) apart = rewritten_elsewhere rows other path (change.Owner (unwrap_or owner row.owner) (unwrap_or group row.group)) apart

  acl_elsewhere : (path : List (List ℕ)) (form : AclChange) (o : Option Row) → (same_path other path || false) ≡ false → row_at other (with_acl_at path form o rows) ≡ row_at other rows
  acl_elsewhere path form None apart = refl
  acl_elsewhere path form (Some row) apart = by (acl_change form row.kind row.acl)
    where
      by : (made : Result Acl Refusal) → row_at other (with_list_at path made rows) ≡ row_at other rows
      by (Ok acl) = rewritten_elsewhere rows other path (change.List acl) apart
      by (Err refusal) = refl

  pub without_elsewhere : (path : List (List ℕ)) → is_prefix path other ≡ false → row_at other (without path rows) ≡ row_at other rows
  without_elsewhere path apart = at_kept other (λ row. not (is_prefix path row.path)) rows (λ row e. ap (λ p. not (is_prefix path p)) (sym (same_path_is other row.path e)) ∙ ap not apart)

  pub without_there : (path : List (List ℕ)) → is_prefix path other ≡ true → row_at other (without path rows) ≡ None
  without_there path inside = at_dropped other (λ row. not (is_prefix path row.path)) rows (λ row e. ap (λ p. not (is_prefix path p)) (sym (same_path_is other row.path e)) ∙ ap not inside)

  moved_in_place : (from to : List (List ℕ)) (some : List Row) → list_all (λ row. is_prefix to row.path) (map (moved_row from to) some) ≡ true
  moved_in_place from to [] = refl
  moved_in_place from to (row ∷ some) = and _ _ (front_inside to (drop (length from) row.path)) (moved_in_place from to some)

  pub moved_beside : (from to : List (List ℕ)) → is_prefix to other ≡ false → row_at other (with_rows_moved from to rows) ≡ row_at other (without from rows)
  moved_beside from to apart = at_replaced other to (map (moved_row from to) (rows_under from rows)) (without from rows) apart (moved_in_place from to (rows_under from rows))

  pub moved_away : (from to : List (List ℕ)) → is_prefix from other ≡ true → is_prefix to other ≡ false → row_at other (with_rows_moved from to rows) ≡ None
  moved_away from to inside apart = moved_beside from to apart ∙ without_there from inside

  module _ (facts : Facts) (users : Users) (name : List ℕ) (namespace : IsNamespace rows) where
    -- a new file stands in no directory's place
    takeable : (path : List (List ℕ)) (rest : List (Option Refusal)) (a : Option Refusal) → first_some (a ∷ directory_there (row_at path rows) ∷ rest) ≡ None → (directory : Row) → row_at path rows ≡ Some directory → is_directory directory ≡ false
    takeable path rest a h directory e =
        let first = or_none a (first_some (directory_there (row_at path rows) ∷ rest)) h in
        by (is_directory directory) (ap directory_there (sym e) ∙ (or_none (directory_there (row_at path rows)) (first_some rest) first.1).0)
      where
        by : (b : Bool) → cond b (Some IsDirectory) None ≡ None → b ≡ false
        by true k = cc
        by false k = refl

    no_row : (row : Row) → None ≡ Some row → ⊥
    no_row row e = cc

    pub stays : (what : Op) (row : Row) → first_refusal facts name what rows users ≡ None → concerns what other ≡ false → row_at other rows ≡ Some row → row_at other (rows_after facts what name rows) ≡ Some row
    stays (op.Mkdirs path mode) row h apart there = by (row_at path rows) refl
      where
        by : (o : Option Row) → row_at path rows ≡ o → row_at other (made_at path mode name o rows) ≡ Some row
        by None e = made_keeps name mode None rows namespace path other row (λ directory k. absurd (no_row directory (sym e ∙ k))) (left_false (same_path other path) false apart) there
        by (Some standing) e = there
    stays (op.Create path mode replication over) row h apart there =
        made_keeps name mode (Some (new_file replication name)) rows namespace path other row
        (takeable path (file_there over (row_at path rows) ∷ []) (beneath_file path rows) h) (left_false (same_path other path) false apart) there
    stays (op.Delete path recursive) row h apart there = without_elsewhere path apart ∙ there
    stays (op.Rename from to) row h apart there = moved_beside from to (right_false (is_prefix from other) (is_prefix to other) apart) ∙ without_elsewhere from (left_false (is_prefix from other) (is_prefix to other) apart) ∙ there
    stays (op.SetMode path mode) row h apart there = mode_elsewhere path mode (row_at path rows) apart ∙ there
    stays (op.SetOwner path owner group) row h apart there = owner_elsewhere path owner group (row_at path rows) apart ∙ there
    stays (op.SetAcl path form) row h apart there = acl_elsewhere path form (row_at path rows) apart ∙ there
    stays (op.Append path) row h apart there = rewritten_elsewhere rows other path (change.State (state_after_append facts.blocks facts.now name (holder_at (row_at path rows)) (unfinished_at (row_at path rows)))) apart ∙ there
    stays (op.AddBlock path last) row h apart there = with_block_elsewhere rows other path last apart facts.blocks.known.next_block ∙ there
    stays (op.Complete path last) row h apart there = ended_elsewhere rows other path last apart ∙ there
    stays (op.SetReplication path replication) row h apart there = rewritten_elsewhere rows other path (change.Replication replication) apart ∙ there
    stays op.Tick row h apart there = cc
    stays (op.CommitRecovery recovered) row h apart there = cc
    stays _ row h apart there = there

    pub appears_nowhere_else : (what : Op) → concerns what other ≡ false → is_above_named other what ≡ false → row_at other rows ≡ None → row_at other (rows_after facts what name rows) ≡ None
    appears_nowhere_else (op.Mkdirs path mode) apart not_above there = by (row_at path rows) refl
      where
        by : (o : Option Row) → row_at path rows ≡ o → row_at other (made_at path mode name o rows) ≡ None
        by None e = made_adds_no_other name mode None rows namespace path other (left_false (same_path other path) false apart) (left_false (is_beneath path other) false not_above) there
        by (Some standing) e = there
    appears_nowhere_else (op.Create path mode replication over) apart not_above there =
        made_adds_no_other name mode (Some (new_file replication name)) rows namespace path other (left_false (same_path other path) false apart) (left_false (is_beneath path other) false not_above) there
    appears_nowhere_else (op.Delete path recursive) apart not_above there = without_elsewhere path apart ∙ there
    appears_nowhere_else (op.Rename from to) apart not_above there = moved_beside from to (right_false (is_prefix from other) (is_prefix to other) apart) ∙ without_elsewhere from (left_false (is_prefix from other) (is_prefix to other) apart) ∙ there
    appears_nowhere_else (op.SetMode path mode) apart not_above there = mode_elsewhere path mode (row_at path rows) apart ∙ there
    appears_nowhere_else (op.SetOwner path owner group) apart not_above there = owner_elsewhere path owner group (row_at path rows) apart ∙ there
    appears_nowhere_else (op.SetAcl path form) apart not_above there = acl_elsewhere path form (row_at path rows) apart ∙ there
    appears_nowhere_else (op.Append path) apart not_above there = rewritten_elsewhere rows other path (change.State (state_after_append facts.blocks facts.now name (holder_at (row_at path rows)) (unfinished_at (row_at path rows)))) apart ∙ there
    appears_nowhere_else (op.AddBlock path last) apart not_above there = with_block_elsewhere rows other path last apart facts.blocks.known.next_block ∙ there
    appears_nowhere_else (op.Complete path last) apart not_above there = ended_elsewhere rows other path last apart ∙ there
    appears_nowhere_else (op.SetReplication path replication) apart not_above there = rewritten_elsewhere rows other path (change.Replication replication) apart ∙ there
    appears_nowhere_else op.Tick apart not_above there = cc
    appears_nowhere_else (op.CommitRecovery recovered) apart not_above there = cc
    appears_nowhere_else _ apart not_above there = there

-- ---- what is moved

dropped : (from names : List (List ℕ)) → drop (length from) (from ++ names) ≡ names
dropped [] names = refl
dropped (n ∷ ns) names = dropped ns names

pub moved_there : (from to names : List (List ℕ)) (rows : List Row) (row : Row) → row_at (from ++ names) rows ≡ Some row → row_at (to ++ names) (with_rows_moved from to rows) ≡ Some (record row { path = to ++ names })
moved_there from to names rows row there =
    at_new (to ++ names) to (map (moved_row from to) (rows_under from rows)) (without from rows) (front_inside to names)
    ∙ at_moved from to names rows
    ∙ ap (option_map (moved_row from to)) there
    ∙ ap (λ (p : List (List ℕ)). Some (record row { path = to ++ p })) (ap (drop (length from)) (sym (path_of_row (from ++ names) rows row there)) ∙ dropped from names)

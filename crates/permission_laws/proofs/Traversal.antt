-- Directories that a caller can't traverse: what is beneath them is neither reached nor named by a denial.
use Rattle.std.proofs.Common.{◌≡◌, ℕ, Bool, true, false, ◌&&◌, ◌||◌, not, List, [], ◌∷◌, ◌++◌, Option, Some, None, take, length, refl, sym, ap, ◌∙◌, cond}
use Rattle.std.specs.List.{list_all, list_any, flat_map}
use Rattle.std.specs.Option.{option_to_list}
use Rattle.std.specs.Ordering.{is_lt}
use Rattle.std.specs.Int.RustNames.{bit_and}
use Rattle.permission_bits.specs.Rights.{rights}
use Rattle.permission_bits.specs.declared.rights.Rights as bits
use Rattle.file_paths.specs.Path.{is_prefix, is_beneath}
use Rattle.file_paths.specs.PathOrder.{same_path}
use Rattle.hdfs_types.specs.declared.op.Op.{Op}
use Rattle.hdfs_types.specs.declared.op.Op.TheVariants as op
use Rattle.principals.specs.Users.{Users, Caller, caller_of, groups_of, is_super}
use Rattle.namespace_rows.specs.declared.row.Row.{Row}
use Rattle.namespace_rows.specs.Judgement.{judgement}
use Rattle.namespace_rows.specs.Namespace.{IsNamespace}
use Rattle.namespace_rows.specs.Rows.{is_directory, row_at, if_directory, ancestor, directories_above, directories_beneath}
use Rattle.namespace_rows.proofs.Namespaces.{namespace_tests, ascending_filter}
use Rattle.namespace_rows.proofs.PathOrders.{same_path_is}
use Rattle.namespace_rows.proofs.Tests.{both, and, and_false, or_left, or_right, all_filtered}
use Rattle.required_rights.specs.declared.need.Need.TheVariants.{Rights, Node}
use Rattle.required_rights.specs.declared.demand.Role.TheVariants.{Ancestor, Parent, Final}
use Rattle.required_rights.specs.RequiredRights.{Demand, traversal, strict_traversal, sticky_bit, creation, write_above, removal, access, overwriting, over_demands, listing, sub_tree, ownership, giving_away, membership, administration, node_identity, owner_demands, group_demands, required_rights}
use Rattle.flat_rows.specs.Denial.{Denial}
use Rattle.flat_rows.specs.Decision.{asks_of, denial_among, rows_in_role, condition_holds, without_rank_where, asking_caller}
use Rattle.flat_rows.proofs.NewDirectories.{starts_self, ancestor_above}
use Rattle.permission_laws.specs.Attempt.{paths_of}
use Rattle.permission_laws.proofs.Deciding.{path_of_row, of_standing, each_met}
use Rattle.permission_laws.proofs.Stops.{stands, each_stands, each_filtered, found_in, found_front, found_behind, Parted, parted, Stops, stops, passed, denied_among}
use Rattle.permission_laws.proofs.Above.{above_less, above_above, above_front, comparable, front_comparable, above_is_front, take_is_front}
use Rattle.permission_laws.proofs.Wider.{wider}

or_false : (b : Bool) → (b || false) ≡ true → b ≡ true
or_false true h = refl
or_false false h = h

differ : true ≡ false → ⊥
differ e = cc

none_is_none : {X : Type 0} {x : X} → None ≡ Some x → ⊥
none_is_none e = cc

module _ (rows : List Row) (namespace : IsNamespace rows) (users : Users) (name : List ℕ) where
  abbrev who : Caller
  who = caller_of users name

  abbrev Found : Demand → Denial → Type 0
  Found demand denial = found_in who (asks_of rows demand) ≡ Some denial

  abbrev None_found : Demand → Type 0
  None_found demand = found_in who (asks_of rows demand) ≡ None

  abbrev allows : Row → Bool
  allows row = (judgement row name (groups_of users name) (rights 1)).granted

  abbrev closed : Row → Bool
  closed row = is_directory row && not (is_super users name || allows row)

  -- each directory above can be traversed
  abbrev Open : List (List ℕ) → Type 0
  Open path = (directory : Row) → row_at directory.path rows ≡ Some directory → is_beneath path directory.path ≡ true → closed directory ≡ false

  allowed_open : (row : Row) → allows row ≡ true → closed row ≡ false
  allowed_open row h = ap (λ b. is_directory row && not b) (or_right (is_super users name) _ h) ∙ and_false (is_directory row)

  abbrev on_the_way : List (List ℕ) → Row → Bool
  on_the_way path row = is_beneath path row.path && is_directory row

  -- ---- traversal

  abbrev Shut : List (List ℕ) → Denial → Type 0
  Shut path denial = Stops who rows (Rights (rights 1)) (directories_above path rows) denial

  shut_at : (path : List (List ℕ)) (denial : Denial) → Found (traversal path) denial → Shut path denial
  shut_at path denial h = stops who rows (Rights (rights 1)) (directories_above path rows) (ascending_filter (on_the_way path) rows (namespace_tests rows namespace).ascending) denial h

  is_on_the_way : (path : List (List ℕ)) (denial : Denial) → Shut path denial → (is_beneath path denial.row.path ≡ true) × (is_directory denial.row ≡ true)
  is_on_the_way path denial shut = both _ _ (shut.among (on_the_way path) (all_filtered (on_the_way path) rows))

  reached_on_the_way : (path : List (List ℕ)) (denial : Denial) → Shut path denial → Open denial.row.path
  reached_on_the_way path denial shut directory at up = by (is_directory directory) refl
    where
      by : (b : Bool) → is_directory directory ≡ b → closed directory ≡ false
      by false e = ap (λ b. b && not (is_super users name || allows directory)) e
      by true e =
          let inside : on_the_way path directory ≡ true = and _ _ (above_above path denial.row.path directory.path (is_on_the_way path denial shut).0 up) e in
          let fine = of_standing (passed who rows (Rights (rights 1)) denial.row) (on_the_way path) directory.path rows directory shut.before at inside in
          allowed_open directory (ap (λ o. not (is_lt o) || allows directory) (sym (above_less denial.row.path directory.path up)) ∙ fine)

  open_path : (path : List (List ℕ)) → None_found (traversal path) → Open path
  open_path path h directory at up = by_super (is_super users name) refl
    where
      by_kind : is_super users name ≡ false → (b : Bool) → is_directory directory ≡ b → closed directory ≡ false
      by_kind plain false e = ap (λ b. b && not (is_super users name || allows directory)) e
      by_kind plain true e =
          allowed_open directory (of_standing allows (on_the_way path) directory.path rows directory (each_met who plain rows (Rights (rights 1)) (directories_above path rows) h) at (and _ _ up e))

      by_super : (s : Bool) → is_super users name ≡ s → closed directory ≡ false
      by_super true e = ap (λ s. is_directory directory && not (s || allows directory)) e ∙ and_false (is_directory directory)
      by_super false e = by_kind e (is_directory directory) refl

  -- ---- later needs, on a path that can be reached

  all_cond : (q : Row → Bool) (some : List Row) (b : Bool) → list_all q some ≡ true → list_all q (cond b some []) ≡ true
  all_cond q some true h = h
  all_cond q some false h = refl

  near : (demand : Demand) → Open demand.path → list_all (λ r. is_prefix r.path demand.path) (rows_in_role demand.role demand.path rows) ≡ true → (denial : Denial) → Found demand denial → Open denial.row.path
  near demand free inside denial h directory at up =
      let some = cond (condition_holds demand.condition demand.path rows) (rows_in_role demand.role demand.path rows) [] in
      let front : is_prefix denial.row.path demand.path ≡ true =
      denied_among who rows demand.need (λ r. is_prefix r.path demand.path) some denial h (all_cond (λ r. is_prefix r.path demand.path) (rows_in_role demand.role demand.path rows) (condition_holds demand.condition demand.path rows) inside) in
      free directory at (above_front demand.path denial.row.path directory.path front up)

  final_inside : (path : List (List ℕ)) → list_all (λ r. is_prefix r.path path) (rows_in_role Final path rows) ≡ true
  final_inside path = by (row_at path rows) refl
    where
      by : (o : Option Row) → row_at path rows ≡ o → list_all (λ r. is_prefix r.path path) (option_to_list o) ≡ true
      by None e = refl
      by (Some row) e = and _ _ (ap (λ p. is_prefix p path) (sym (path_of_row path rows row e)) ∙ starts_self path) refl

  ancestor_inside : (path : List (List ℕ)) → list_all (λ r. is_prefix r.path path) (rows_in_role Ancestor path rows) ≡ true
  ancestor_inside path = by (ancestor path rows) refl
    where
      by : (o : Option Row) → ancestor path rows ≡ o → list_all (λ r. is_prefix r.path path) (option_to_list o) ≡ true
      by None e = refl
      by (Some row) e = and _ _ (above_is_front path row.path (ancestor_above path rows row e)) refl

  parent_inside : (path : List (List ℕ)) → list_all (λ r. is_prefix r.path path) (rows_in_role Parent path rows) ≡ true
  parent_inside [] = refl
  parent_inside (n ∷ ns) = by (row_at (take (length ns) (n ∷ ns)) rows) refl
    where
      by_kind : (row : Row) (b : Bool) → is_prefix row.path (n ∷ ns) ≡ true → list_all (λ r. is_prefix r.path (n ∷ ns)) (option_to_list (cond b (Some row) None)) ≡ true
      by_kind row true h = and _ _ h refl
      by_kind row false h = refl

      by : (o : Option Row) → row_at (take (length ns) (n ∷ ns)) rows ≡ o → list_all (λ r. is_prefix r.path (n ∷ ns)) (option_to_list (if_directory o)) ≡ true
      by None e = refl
      by (Some row) e = by_kind row (is_directory row) (ap (λ p. is_prefix p (n ∷ ns)) (sym (path_of_row (take (length ns) (n ∷ ns)) rows row e)) ∙ take_is_front (length ns) (n ∷ ns))

  -- the sub-tree, from its top
  abbrev within : List (List ℕ) → Row → Bool
  within path row = is_prefix path row.path && is_directory row

  beneath_reached : (asked : ℕ) → bit_and asked 1 ≡ 1 → (path : List (List ℕ)) → Open path → (denial : Denial) → Found (sub_tree (rights asked) path) denial → Open denial.row.path
  beneath_reached asked part path free denial h directory at up = by_kind (is_directory directory) refl
    where
      shut : Stops who rows (Rights (rights asked)) (directories_beneath path rows) denial
      shut = stops who rows (Rights (rights asked)) (directories_beneath path rows) (ascending_filter (within path) rows (namespace_tests rows namespace).ascending) denial h

      by_place : (b c : Bool) → is_prefix path directory.path ≡ b → is_beneath path directory.path ≡ c → (b || c) ≡ true → is_directory directory ≡ true → closed directory ≡ false
      by_place true c e g k kind =
          let fine = of_standing (passed who rows (Rights (rights asked)) denial.row) (within path) directory.path rows directory shut.before at (and _ _ e kind) in
          allowed_open directory (wider asked 1 part directory name (groups_of users name) (ap (λ o. not (is_lt o) || (judgement directory name (groups_of users name) (rights asked)).granted) (sym (above_less denial.row.path directory.path up)) ∙ fine))
      by_place false true e g k kind = free directory at g
      by_place false false e g k kind = cc

      by_kind : (b : Bool) → is_directory directory ≡ b → closed directory ≡ false
      by_kind false e = ap (λ b. b && not (is_super users name || allows directory)) e
      by_kind true e =
          by_place (is_prefix path directory.path) (is_beneath path directory.path) refl refl
          (front_comparable path denial.row.path directory.path (both _ _ (shut.among (within path) (all_filtered (within path) rows))).0 up) e

  -- ---- all denials of an operation

  abbrev Reached : List Demand → Type 0
  Reached demands = (denial : Denial) → denial_among rows who demands ≡ Some denial → Open denial.row.path

  after : (demand : Demand) (demands : List Demand) → ((denial : Denial) → Found demand denial → Open denial.row.path) → (None_found demand → Reached demands) → Reached (demand ∷ demands)
  after demand demands first rest denial h = by (found_in who (asks_of rows demand)) refl (parted who (asks_of rows demand) (flat_map (asks_of rows) demands) denial h)
    where
      by : (o : Option Denial) → found_in who (asks_of rows demand) ≡ o → Parted who (asks_of rows demand) (flat_map (asks_of rows) demands) denial o → Open denial.row.path
      by None e parts = rest e denial (parts.behind_it refl)
      by (Some other) e parts = first denial (e ∙ ap (λ d. Some d) (parts.in_front other refl))

  nothing : Reached []
  nothing denial h = cc

  -- first the way to a path
  along : (path : List (List ℕ)) (demands : List Demand) → (Open path → Reached demands) → Reached (traversal path ∷ demands)
  along path demands rest = after (traversal path) demands (λ denial h. reached_on_the_way path denial (shut_at path denial h)) (λ h. rest (open_path path h))

  groups_reached : (path : List (List ℕ)) (group : Option (List ℕ)) → Open path → Reached (group_demands path group)
  groups_reached path None free = nothing
  groups_reached path (Some group) free = after (membership path group) [] (near (membership path group) free (final_inside path)) (λ h. nothing)

  owners_reached : (path : List (List ℕ)) (owner group : Option (List ℕ)) → Open path → Reached (owner_demands path owner ++ group_demands path group)
  owners_reached path None group free = groups_reached path group free
  owners_reached path (Some user) group free = after (giving_away path user) (group_demands path group) (near (giving_away path user) free (final_inside path)) (λ h. groups_reached path group free)

  managed : (path : List (List ℕ)) (demands : List Demand) → (Open path → Reached demands) → Reached (strict_traversal path ∷ ownership path ∷ demands)
  managed path demands rest = along path (ownership path ∷ demands) (λ free. after (ownership path) demands (near (ownership path) free (final_inside path)) (λ h. rest free))

  accessed : (path : List (List ℕ)) (asked : bits.Rights) → Reached (traversal path ∷ access asked path ∷ [])
  accessed path asked = along path (access asked path ∷ []) (λ free. after (access asked path) [] (near (access asked path) free (final_inside path)) (λ h. nothing))

  administered : Reached (administration ∷ [])
  administered = after administration [] (near administration (λ directory at up. cc) (final_inside [])) (λ h. nothing)

  -- nothing is above the root
  rootless : (directory : Row) → is_beneath [] directory.path ≡ true → closed directory ≡ false
  rootless directory up = cc

  nodes_reached : (denial : Denial) → denial_among rows (without_rank_where true who) (node_identity ∷ []) ≡ Some denial → Open denial.row.path
  nodes_reached denial h directory at up = by (found_in (without_rank_where true who) (asks_of rows node_identity)) refl (parted (without_rank_where true who) (asks_of rows node_identity) [] denial h)
    where
      by : (o : Option Denial) → found_in (without_rank_where true who) (asks_of rows node_identity) ≡ o → Parted (without_rank_where true who) (asks_of rows node_identity) [] denial o → closed directory ≡ false
      by None e parts = absurd (none_is_none (parts.behind_it refl))
      by (Some other) e parts =
          let front = denied_among (without_rank_where true who) rows Node (λ r. is_prefix r.path []) (rows_in_role Final [] rows) denial (e ∙ ap (λ d. Some d) (parts.in_front other refl)) (final_inside []) in
          rootless directory (above_front [] denial.row.path directory.path front up)

  overwritten : (path : List (List ℕ)) (over : Bool) → Open path → Reached (over_demands path over)
  overwritten path true free = after (overwriting path) [] (near (overwriting path) free (final_inside path)) (λ h. nothing)
  overwritten path false free = nothing

  pub reached : (what : Op) (denial : Denial) → denial_among rows (asking_caller users name what) (required_rights what) ≡ Some denial → Open denial.row.path
  reached (op.Mkdirs path mode) = along path (creation path ∷ []) (λ free. after (creation path) [] (near (creation path) free (ancestor_inside path)) (λ h. nothing))
  reached (op.Stat path) = along path [] (λ free. nothing)
  reached (op.List path) = along path (listing path ∷ []) (λ free. after (listing path) [] (near (listing path) free (final_inside path)) (λ h. nothing))
  reached (op.Summary path) = along path (sub_tree (rights 5) path ∷ []) (λ free. after (sub_tree (rights 5) path) [] (beneath_reached 5 refl path free) (λ h. nothing))
  reached (op.GetAcl path) = along path [] (λ free. nothing)
  reached (op.Delete path recursive) =
      along path (sticky_bit path ∷ removal path ∷ sub_tree (rights 7) path ∷ []) (λ free.
      after (sticky_bit path) (removal path ∷ sub_tree (rights 7) path ∷ []) (near (sticky_bit path) free (final_inside path)) (λ h.
      after (removal path) (sub_tree (rights 7) path ∷ []) (near (removal path) free (parent_inside path)) (λ h.
      after (sub_tree (rights 7) path) [] (beneath_reached 7 refl path free) (λ h. nothing))))
  reached (op.Rename from to) =
      along from (traversal to ∷ sticky_bit from ∷ write_above to ∷ removal from ∷ []) (λ free.
      along to (sticky_bit from ∷ write_above to ∷ removal from ∷ []) (λ free_too.
      after (sticky_bit from) (write_above to ∷ removal from ∷ []) (near (sticky_bit from) free (final_inside from)) (λ h.
      after (write_above to) (removal from ∷ []) (near (write_above to) free_too (ancestor_inside to)) (λ h.
      after (removal from) [] (near (removal from) free (parent_inside from)) (λ h. nothing)))))
  reached (op.SetMode path mode) = managed path [] (λ free. nothing)
  reached (op.SetOwner path owner group) = managed path (owner_demands path owner ++ group_demands path group) (owners_reached path owner group)
  reached (op.SetAcl path change) = managed path [] (λ free. nothing)
  reached (op.AddUser user groups) = administered
  reached (op.SetGroups user groups) = administered
  reached (op.SetChecking on) = administered
  reached (op.Create path mode replication over) =
      along path (write_above path ∷ over_demands path over) (λ free.
      after (write_above path) (over_demands path over) (near (write_above path) free (ancestor_inside path)) (λ h. overwritten path over free))
  reached (op.Append path) = accessed path (rights 2)
  reached (op.AddBlock path last) = along path [] (λ free. nothing)
  reached (op.Complete path last) = along path [] (λ free. nothing)
  reached (op.Open path) = accessed path (rights 4)
  reached (op.SetReplication path replication) = accessed path (rights 2)
  reached (op.RollKey key) = administered
  reached op.Renew = nothing
  reached op.Tick = administered
  reached op.Heartbeat = nodes_reached
  reached (op.Reported replica) = nodes_reached
  reached (op.CommitRecovery recovered) = nodes_reached

  -- ---- turned back at a closed directory

  -- of an operation with these needs, that names these paths
  pub record Turned (caller : Caller) (demands : List Demand) (paths : List (List (List ℕ))) (path : List (List ℕ)) (directory : Row) : Type 0 where
    pub denial : Denial
    pub decided : denial_among rows caller demands ≡ Some denial
    pub stands_there : row_at denial.row.path rows ≡ Some denial.row
    pub shut : closed denial.row ≡ true
    pub above : list_any (λ named. is_beneath named denial.row.path) paths ≡ true
    pub on_way : (is_prefix denial.row.path directory.path || list_any (λ named. not (same_path named path) && is_beneath named denial.row.path) paths) ≡ true

  shut_row : (path : List (List ℕ)) (denial : Denial) → Shut path denial → closed denial.row ≡ true
  shut_row path denial shut = and _ _ (is_on_the_way path denial shut).1 (ap (λ s. not (s || allows denial.row)) shut.plain ∙ ap not shut.fails)

  shut_stands : (path : List (List ℕ)) (denial : Denial) → Shut path denial → row_at denial.row.path rows ≡ Some denial.row
  shut_stands path denial shut = shut.there (each_filtered (stands rows) (on_the_way path) rows (each_stands rows (namespace_tests rows namespace).ascending))

  -- at or above the closed directory, where both are above the path
  before_closed : (path : List (List ℕ)) (directory : Row) (denial : Denial) → Shut path denial → row_at directory.path rows ≡ Some directory → is_beneath path directory.path ≡ true → closed directory ≡ true
      → is_prefix denial.row.path directory.path ≡ true
  before_closed path directory denial shut at up is_shut =
      by (is_prefix denial.row.path directory.path) (is_beneath denial.row.path directory.path) refl (comparable path denial.row.path directory.path (is_on_the_way path denial shut).0 up)
    where
      by : (b c : Bool) → is_beneath denial.row.path directory.path ≡ c → (b || c) ≡ true → b ≡ true
      by true c e k = refl
      by false true e k = absurd (differ (sym is_shut ∙ reached_on_the_way path denial shut directory at e))
      by false false e k = k

  module _ (directory : Row) (at : row_at directory.path rows ≡ Some directory) (is_shut : closed directory ≡ true) where
    one_path : (top : List (List ℕ)) (demands : List Demand) (path : List (List ℕ)) → (same_path path top || false) ≡ true → is_beneath path directory.path ≡ true → Turned who (traversal top ∷ demands) (top ∷ []) path directory
    one_path top demands path n up = by (found_in who (asks_of rows (traversal top))) refl
      where
        is : path ≡ top
        is = same_path_is path top (or_false _ n)

        up_top : is_beneath top directory.path ≡ true
        up_top = ap (λ p. is_beneath p directory.path) (sym is) ∙ up

        by : (o : Option Denial) → found_in who (asks_of rows (traversal top)) ≡ o → Turned who (traversal top ∷ demands) (top ∷ []) path directory
        by None e = absurd (differ (sym is_shut ∙ open_path top e directory at up_top))
        by (Some denial) e =
            let shut = shut_at top denial e in
            record {
              denial = denial;
              decided = found_front who (asks_of rows (traversal top)) (flat_map (asks_of rows) demands) denial e;
              stands_there = shut_stands top denial shut;
              shut = shut_row top denial shut;
              above = or_left _ _ (is_on_the_way top denial shut).0;
              on_way = or_left _ _ (before_closed top directory denial shut at up_top is_shut);
            }

    two_paths : (from to : List (List ℕ)) (demands : List Demand) (path : List (List ℕ)) → (same_path path from || (same_path path to || false)) ≡ true → is_beneath path directory.path ≡ true
        → Turned who (traversal from ∷ traversal to ∷ demands) (from ∷ to ∷ []) path directory
    two_paths from to demands path n up = by_from (found_in who (asks_of rows (traversal from))) refl
      where
        -- at the other path, or at this one
        away : (denial : Denial) (other : List (List ℕ)) → Shut other denial → (b : Bool) → same_path other path ≡ b → (is_prefix denial.row.path directory.path || (not b && is_beneath other denial.row.path)) ≡ true
        away denial other shut true e = or_left _ _ (before_closed other directory denial shut at (ap (λ p. is_beneath p directory.path) (same_path_is other path e) ∙ up) is_shut)
        away denial other shut false e = or_right (is_prefix denial.row.path directory.path) _ (is_on_the_way other denial shut).0

        from_first : (a b c : Bool) → (a || b) ≡ true → (a || (b || c)) ≡ true
        from_first true b c h = refl
        from_first false true c h = refl
        from_first false false c h = cc

        then_to : (a b c : Bool) → (a || c) ≡ true → (a || (b || (c || false))) ≡ true
        then_to true b c h = refl
        then_to false true c h = refl
        then_to false false true h = refl
        then_to false false false h = cc

        closed_on : (b c : Bool) → same_path path from ≡ b → same_path path to ≡ c → (b || (c || false)) ≡ true → Open from → Open to → ⊥
        closed_on true c e g k first second = differ (sym is_shut ∙ first directory at (ap (λ p. is_beneath p directory.path) (sym (same_path_is path from e)) ∙ up))
        closed_on false true e g k first second = differ (sym is_shut ∙ second directory at (ap (λ p. is_beneath p directory.path) (sym (same_path_is path to g)) ∙ up))
        closed_on false false e g k first second = cc

        by_to : None_found (traversal from) → (o : Option Denial) → found_in who (asks_of rows (traversal to)) ≡ o → Turned who (traversal from ∷ traversal to ∷ demands) (from ∷ to ∷ []) path directory
        by_to e None g = absurd (closed_on (same_path path from) (same_path path to) refl refl n (open_path from e) (open_path to g))
        by_to e (Some denial) g =
            let shut = shut_at to denial g in
            record {
              denial = denial;
              decided = found_behind who (asks_of rows (traversal from)) (flat_map (asks_of rows) (traversal to ∷ demands)) e ∙ found_front who (asks_of rows (traversal to)) (flat_map (asks_of rows) demands) denial g;
              stands_there = shut_stands to denial shut;
              shut = shut_row to denial shut;
              above = or_right (is_beneath from denial.row.path) _ (or_left _ _ (is_on_the_way to denial shut).0);
              on_way = then_to (is_prefix denial.row.path directory.path) (not (same_path from path) && is_beneath from denial.row.path) (not (same_path to path) && is_beneath to denial.row.path) (away denial to shut (same_path to path) refl);
            }

        by_from : (o : Option Denial) → found_in who (asks_of rows (traversal from)) ≡ o → Turned who (traversal from ∷ traversal to ∷ demands) (from ∷ to ∷ []) path directory
        by_from None e = by_to e (found_in who (asks_of rows (traversal to))) refl
        by_from (Some denial) e =
            let shut = shut_at from denial e in
            record {
              denial = denial;
              decided = found_front who (asks_of rows (traversal from)) (flat_map (asks_of rows) (traversal to ∷ demands)) denial e;
              stands_there = shut_stands from denial shut;
              shut = shut_row from denial shut;
              above = or_left _ _ (is_on_the_way from denial shut).0;
              on_way = from_first (is_prefix denial.row.path directory.path) (not (same_path from path) && is_beneath from denial.row.path) ((not (same_path to path) && is_beneath to denial.row.path) || false) (away denial from shut (same_path from path) refl);
            }

    -- what asks of traversal also while permission checking is off asks the same here
    strict : (top : List (List ℕ)) (demands : List Demand) (path : List (List ℕ)) → (same_path path top || false) ≡ true → is_beneath path directory.path ≡ true → Turned who (strict_traversal top ∷ demands) (top ∷ []) path directory
    strict top demands path n up =
        let same = one_path top demands path n up in
        record { denial = same.denial; decided = same.decided; stands_there = same.stands_there; shut = same.shut; above = same.above; on_way = same.on_way }

    pub turned : (what : Op) (path : List (List ℕ)) → list_any (same_path path) (paths_of what) ≡ true → is_beneath path directory.path ≡ true → Turned (asking_caller users name what) (required_rights what) (paths_of what) path directory
    turned (op.Mkdirs top mode) path n up = one_path top (creation top ∷ []) path n up
    turned (op.Stat top) path n up = one_path top [] path n up
    turned (op.List top) path n up = one_path top (listing top ∷ []) path n up
    turned (op.Summary top) path n up = one_path top (sub_tree (rights 5) top ∷ []) path n up
    turned (op.GetAcl top) path n up = one_path top [] path n up
    turned (op.Delete top recursive) path n up = one_path top (sticky_bit top ∷ removal top ∷ sub_tree (rights 7) top ∷ []) path n up
    turned (op.Rename from to) path n up = two_paths from to (sticky_bit from ∷ write_above to ∷ removal from ∷ []) path n up
    turned (op.SetMode top mode) path n up = strict top (ownership top ∷ []) path n up
    turned (op.SetOwner top owner group) path n up = strict top (ownership top ∷ (owner_demands top owner ++ group_demands top group)) path n up
    turned (op.SetAcl top change) path n up = strict top (ownership top ∷ []) path n up
    turned (op.Create top mode replication over) path n up = one_path top (write_above top ∷ over_demands top over) path n up
    turned (op.Append top) path n up = one_path top (access (rights 2) top ∷ []) path n up
    turned (op.AddBlock top last) path n up = one_path top [] path n up
    turned (op.Complete top last) path n up = one_path top [] path n up
    turned (op.Open top) path n up = one_path top (access (rights 4) top ∷ []) path n up
    turned (op.SetReplication top replication) path n up = one_path top (access (rights 2) top ∷ []) path n up
    turned _ path n up = cc

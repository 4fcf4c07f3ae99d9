-- The rights that an attempt had that is done.
use Rattle.std.proofs.Common.{◌≡◌, ℕ, Bool, true, false, ◌&&◌, ◌||◌, not, List, [], ◌∷◌, ◌++◌, Option, Some, None, map, refl, sym, ap, ◌∙◌, cond}
use Rattle.std.specs.Prelude.{unwrap_or, filter}
use Rattle.std.specs.Option.{option_map, option_to_list, is_some}
use Rattle.node_ids.specs.NodeId.{node_of}
use Rattle.hdfs_values.specs.Text.{same}
use Rattle.hdfs_values.proofs.Texts.{same_is}
use Rattle.permission_bits.specs.Rights.{rights}
use Rattle.permission_bits.specs.declared.rights.Rights as bits
use Rattle.hdfs_values.specs.Groups.{has_group}
use Rattle.file_paths.specs.Path.{is_prefix}
use Rattle.file_paths.specs.PathOrder.{same_path}
use Rattle.hdfs_types.specs.Request.{is_for_nodes}
use Rattle.hdfs_types.specs.declared.op.Op.{Op}
use Rattle.hdfs_types.specs.declared.op.Op.TheVariants as op
use Rattle.file_states.specs.declared.state.FileState.{FileState}
use Rattle.file_states.specs.declared.state.FileState.TheVariants.{Closed, Open, Recovering}
use Rattle.refusals.specs.declared.refusal.Refusal.{Refusal}
use Rattle.refusals.specs.declared.refusal.Refusal.TheVariants.{IsDirectory, NoLease}
use Rattle.principals.specs.Users.{Users, Caller, caller_of, groups_of, is_super}
use Rattle.acl_entries.specs.Acl.{Acl}
use Rattle.namespace_rows.specs.declared.file_row.FileRow.{FileRow}
use Rattle.namespace_rows.specs.declared.row.Row.{Row}
use Rattle.namespace_rows.specs.First.{first_answer, first}
use Rattle.namespace_rows.specs.Files.{holder_of, holder_of_file}
use Rattle.namespace_rows.specs.Judgement.{judgement}
use Rattle.namespace_rows.specs.Namespace.{IsNamespace, suits_parts, suits_kind, is_rooted, is_root}
use Rattle.namespace_rows.specs.Rows.{is_directory, row_at, is_none, is_missing, has_file, has_directory, ancestor, directory_of, owner_above, is_some_where}
use Rattle.namespace_rows.proofs.Namespaces.{namespace_tests}
use Rattle.namespace_rows.proofs.Tests.{and, both}
use Rattle.required_rights.specs.declared.need.Need.TheVariants.{Rights, Sticky, Owner, Member, Superuser, Node}
use Rattle.required_rights.specs.RequiredRights.{Demand, traversal, strict_traversal, sticky_bit, creation, write_above, removal, access, overwriting, over_demands, listing, sub_tree, ownership, giving_away, membership, owner_demands, group_demands, administration, node_identity}
use Rattle.flat_rows.specs.Denial.{Denial}
use Rattle.flat_rows.specs.Decision.{ask_at, asks_of, denial_of, denial_among, without_rank_where}
use Rattle.flat_rows.specs.FileOutcome.{directory_there, if_some_file, of_file, refused_by_state, refused_write, holder_at}
use Rattle.flat_rows.specs.BlockOutcome.{refused_unless_last, refused_new, refused_end}
use Rattle.flat_rows.specs.Facts.{Facts}
use Rattle.flat_rows.specs.Outcome.{beneath_file, nothing_at, first_some, first_refusal}
use Rattle.flat_rows.proofs.Firsts.{first_passes}
use Rattle.permission_laws.specs.Attempt.{taken_path, managed_path, made_path, altered_path, written_path, administers}
use Rattle.permission_laws.proofs.Checked.{decision}
use Rattle.permission_laws.proofs.Deciding.{or_none, path_of_row, of_standing, first_met, each_met, one_met}

pub unless : (b x : Bool) → (b ≡ false → x ≡ true) → (b || x) ≡ true
unless true x f = refl
unless false x f = f refl

pub first_only : (a b : Bool) → b ≡ false → (a || b) ≡ true → a ≡ true
first_only true b none h = refl
first_only false true none h = cc
first_only false false none h = h

the_same : {X : Type 0} (x y : X) → Some x ≡ Some y → x ≡ y
the_same x y e = cc

module _ (rows : List Row) (users : Users) (name : List ℕ) where
  abbrev who : Caller
  who = caller_of users name

  abbrev Met : Demand → Type 0
  Met demand = first_answer (denial_of who) (asks_of rows demand) ≡ None

  abbrev has : bits.Rights → Row → Bool
  has asked row = (judgement row name (groups_of users name) asked).granted

  module _ (plain : is_super users name ≡ false) where
    abbrev stuck : Option Row → Option Row → Option Denial
    stuck held at = first_answer (denial_of who) (map (ask_at rows Sticky) (cond (is_some_where (λ r. r.acl.sticky) held) (option_to_list at) []))

    sticky_met : (path : List (List ℕ)) (row directory : Row) → Met (sticky_bit path) → row_at path rows ≡ Some row → directory_of path rows ≡ Some directory → directory.acl.sticky ≡ true
        → (same name row.owner || same name directory.owner) ≡ true
    sticky_met path row directory h at held sticky =
        let there : stuck (Some directory) (Some row) ≡ None = ap (λ d. stuck d (Some row)) (sym held) ∙ ap (λ r. stuck (directory_of path rows) r) (sym at) ∙ h in
        let lone : first_answer (denial_of who) (map (ask_at rows Sticky) (row ∷ [])) ≡ None = ap (λ b. first_answer (denial_of who) (map (ask_at rows Sticky) (cond b (row ∷ []) []))) (sym sticky) ∙ there in
        let above : owner_above row rows ≡ directory.owner = ap (λ d. unwrap_or (option_map (λ a. a.owner) d) row.owner) (ap (λ p. directory_of p rows) (sym (path_of_row path rows row at)) ∙ held) in
        ap (λ o. same name row.owner || same name o) (sym above) ∙ one_met who plain rows Sticky row lone

    removal_met : (path : List (List ℕ)) (directory : Row) → Met (removal path) → directory_of path rows ≡ Some directory → has (rights 2) directory ≡ true
    removal_met path directory h held =
        one_met who plain rows (Rights (rights 2)) directory (ap (λ d. first_answer (denial_of who) (map (ask_at rows (Rights (rights 2))) (option_to_list d))) (sym held) ∙ h)

    ownership_met : (path : List (List ℕ)) (row : Row) → Met (ownership path) → row_at path rows ≡ Some row → same name row.owner ≡ true
    ownership_met path row h at = one_met who plain rows Owner row (ap (λ r. first_answer (denial_of who) (map (ask_at rows Owner) (option_to_list r))) (sym at) ∙ h)

    membership_met : (path : List (List ℕ)) (group : List ℕ) (row : Row) → Met (membership path group) → row_at path rows ≡ Some row → has_group (groups_of users name) group ≡ true
    membership_met path group row h at = one_met who plain rows (Member group) row (ap (λ r. first_answer (denial_of who) (map (ask_at rows (Member group)) (option_to_list r))) (sym at) ∙ h)

    giving_met : (path : List (List ℕ)) (user : List ℕ) (row : Row) → Met (giving_away path user) → row_at path rows ≡ Some row → same user row.owner ≡ true
    giving_met path user row h at =
        by (same user row.owner)
        (ap (λ r. first_answer (denial_of who) (map (ask_at rows Superuser) (cond (is_some_where (λ r. not (same user r.owner)) r) (option_to_list r) []))) (sym at) ∙ h)
      where
        by : (b : Bool) → first_answer (denial_of who) (map (ask_at rows Superuser) (cond (not b) (row ∷ []) [])) ≡ None → b ≡ true
        by true k = refl
        by false k = one_met who plain rows Superuser row k

    sub_tree_met : (asked : bits.Rights) (path : List (List ℕ)) (directory : Row) → Met (sub_tree asked path) → row_at directory.path rows ≡ Some directory → is_directory directory ≡ true
        → is_prefix path directory.path ≡ true → has asked directory ≡ true
    sub_tree_met asked path directory h at kind inside =
        of_standing (has asked) (λ r. is_prefix path r.path && is_directory r) directory.path rows directory
        (each_met who plain rows (Rights asked) _ h) at (and _ _ inside kind)

  -- ---- of each operation

  abbrev at_delete : List (List ℕ) → List Demand
  at_delete path = removal path ∷ sub_tree (rights 7) path ∷ []

  pub sticky_held : (what : Op) (path : List (List ℕ)) (row directory : Row) → decision rows users name what ≡ None → taken_path what ≡ Some path → row_at path rows ≡ Some row
      → directory_of path rows ≡ Some directory → directory.acl.sticky ≡ true → (is_super users name || (same name row.owner || same name directory.owner)) ≡ true
  sticky_held (op.Delete top recursive) path row directory h t at held sticky = unless _ _ (λ plain.
      let is : top ≡ path = the_same top path t in
      let past = first_met who rows (traversal top) (sticky_bit top ∷ at_delete top) h in
      sticky_met plain top row directory (first_met who rows (sticky_bit top) (at_delete top) past.1).0 (ap (λ p. row_at p rows) is ∙ at) (ap (λ p. directory_of p rows) is ∙ held) sticky)
  sticky_held (op.Rename from to) path row directory h t at held sticky = unless _ _ (λ plain.
      let is : from ≡ path = the_same from path t in
      let rest = write_above to ∷ removal from ∷ [] in
      let past = first_met who rows (traversal from) (traversal to ∷ sticky_bit from ∷ rest) h in
      let both = first_met who rows (traversal to) (sticky_bit from ∷ rest) past.1 in
      sticky_met plain from row directory (first_met who rows (sticky_bit from) rest both.1).0 (ap (λ p. row_at p rows) is ∙ at) (ap (λ p. directory_of p rows) is ∙ held) sticky)
  sticky_held _ path row directory h t at held sticky = cc

  pub parent_held : (what : Op) (path : List (List ℕ)) (directory : Row) → decision rows users name what ≡ None → taken_path what ≡ Some path → directory_of path rows ≡ Some directory
      → (is_super users name || has (rights 2) directory) ≡ true
  parent_held (op.Delete top recursive) path directory h t held = unless _ _ (λ plain.
      let past = first_met who rows (traversal top) (sticky_bit top ∷ at_delete top) h in
      let stuck = first_met who rows (sticky_bit top) (at_delete top) past.1 in
      removal_met plain top directory (first_met who rows (removal top) (sub_tree (rights 7) top ∷ []) stuck.1).0 (ap (λ p. directory_of p rows) (the_same top path t) ∙ held))
  parent_held (op.Rename from to) path directory h t held = unless _ _ (λ plain.
      let past = first_met who rows (traversal from) (traversal to ∷ sticky_bit from ∷ write_above to ∷ removal from ∷ []) h in
      let both = first_met who rows (traversal to) (sticky_bit from ∷ write_above to ∷ removal from ∷ []) past.1 in
      let stuck = first_met who rows (sticky_bit from) (write_above to ∷ removal from ∷ []) both.1 in
      let above = first_met who rows (write_above to) (removal from ∷ []) stuck.1 in
      removal_met plain from directory (first_met who rows (removal from) [] above.1).0 (ap (λ p. directory_of p rows) (the_same from path t) ∙ held))
  parent_held _ path directory h t held = cc

  pub all_held : (path : List (List ℕ)) (recursive : Bool) (directory : Row) → decision rows users name (op.Delete path recursive) ≡ None → row_at directory.path rows ≡ Some directory
      → is_directory directory ≡ true → is_prefix path directory.path ≡ true → (is_super users name || has (rights 7) directory) ≡ true
  all_held path recursive directory h at kind inside = unless _ _ (λ plain.
      let past = first_met who rows (traversal path) (sticky_bit path ∷ at_delete path) h in
      let stuck = first_met who rows (sticky_bit path) (at_delete path) past.1 in
      let gone = first_met who rows (removal path) (sub_tree (rights 7) path ∷ []) stuck.1 in
      sub_tree_met plain (rights 7) path directory (first_met who rows (sub_tree (rights 7) path) [] gone.1).0 at kind inside)

  owner_held : (path : List (List ℕ)) (row : Row) (others : List Demand) → denial_among rows who (strict_traversal path ∷ ownership path ∷ others) ≡ None → row_at path rows ≡ Some row
      → (is_super users name || same name row.owner) ≡ true
  owner_held path row others h at = unless _ _ (λ plain.
      let past = first_met who rows (strict_traversal path) (ownership path ∷ others) h in
      ownership_met plain path row (first_met who rows (ownership path) others past.1).0 at)

  pub managed_held : (what : Op) (path : List (List ℕ)) (row : Row) → decision rows users name what ≡ None → managed_path what ≡ Some path → row_at path rows ≡ Some row
      → (is_super users name || same name row.owner) ≡ true
  managed_held (op.SetMode top mode) path row h t at = owner_held top row [] h (ap (λ p. row_at p rows) (the_same top path t) ∙ at)
  managed_held (op.SetOwner top owner group) path row h t at = owner_held top row (owner_demands top owner ++ group_demands top group) h (ap (λ p. row_at p rows) (the_same top path t) ∙ at)
  managed_held (op.SetAcl top change) path row h t at = owner_held top row [] h (ap (λ p. row_at p rows) (the_same top path t) ∙ at)
  managed_held _ path row h t at = cc

  pub kept_by_owner : (path : List (List ℕ)) (user : List ℕ) (group : Option (List ℕ)) (row : Row) → decision rows users name (op.SetOwner path (Some user) group) ≡ None → row_at path rows ≡ Some row
      → (is_super users name || same user row.owner) ≡ true
  kept_by_owner path user group row h at = unless _ _ (λ plain.
      let rest = group_demands path group in
      let past = first_met who rows (strict_traversal path) (ownership path ∷ giving_away path user ∷ rest) h in
      let own = first_met who rows (ownership path) (giving_away path user ∷ rest) past.1 in
      giving_met plain path user row (first_met who rows (giving_away path user) rest own.1).0 at)

  pub given_to_own_group : (path : List (List ℕ)) (owner : Option (List ℕ)) (group : List ℕ) (row : Row) → decision rows users name (op.SetOwner path owner (Some group)) ≡ None → row_at path rows ≡ Some row
      → (is_super users name || has_group (groups_of users name) group) ≡ true
  given_to_own_group path None group row h at = unless _ _ (λ plain.
      let past = first_met who rows (strict_traversal path) (ownership path ∷ membership path group ∷ []) h in
      let own = first_met who rows (ownership path) (membership path group ∷ []) past.1 in
      membership_met plain path group row (first_met who rows (membership path group) [] own.1).0 at)
  given_to_own_group path (Some user) group row h at = unless _ _ (λ plain.
      let past = first_met who rows (strict_traversal path) (ownership path ∷ giving_away path user ∷ membership path group ∷ []) h in
      let own = first_met who rows (ownership path) (giving_away path user ∷ membership path group ∷ []) past.1 in
      let given = first_met who rows (giving_away path user) (membership path group ∷ []) own.1 in
      membership_met plain path group row (first_met who rows (membership path group) [] given.1).0 at)

  -- ---- administration

  root_stands : (some : List Row) → is_rooted some ≡ true → (root : Row) × (row_at [] some ≡ Some root)
  root_stands [] h = cc
  root_stands (root ∷ some) h = (root, by root.path (both (is_root root.path) (is_directory root) h).0)
    where
      by : (p : List (List ℕ)) → is_root p ≡ true → first (cond (same_path [] p) (root ∷ filter (λ r. same_path [] r.path) some) (filter (λ r. same_path [] r.path) some)) ≡ Some root
      by [] k = refl
      by (n ∷ ns) k = cc

  administered : IsNamespace rows → denial_among rows who (administration ∷ []) ≡ None → is_super users name ≡ true
  administered namespace h = by (is_super users name) refl
    where
      root : (root : Row) × (row_at [] rows ≡ Some root)
      root = root_stands rows (namespace_tests rows namespace).rooted

      by : (s : Bool) → is_super users name ≡ s → s ≡ true
      by true e = refl
      by false e = one_met who e rows Superuser root.0 (ap (λ r. first_answer (denial_of who) (map (ask_at rows Superuser) (option_to_list r))) (sym root.1) ∙ (first_met who rows administration [] h).0)

  pub administration_held : IsNamespace rows → (what : Op) → decision rows users name what ≡ None → administers what ≡ true → is_super users name ≡ true
  administration_held namespace (op.AddUser user groups) h t = administered namespace h
  administration_held namespace (op.SetGroups user groups) h t = administered namespace h
  administration_held namespace (op.SetChecking on) h t = administered namespace h
  administration_held namespace (op.RollKey key) h t = administered namespace h
  administration_held namespace op.Tick h t = administered namespace h
  administration_held namespace _ h t = cc

  -- ---- DataNodes

  node_met : IsNamespace rows → denial_among rows (without_rank_where true who) (node_identity ∷ []) ≡ None → is_some (node_of name) ≡ true
  node_met namespace h =
      let root = root_stands rows (namespace_tests rows namespace).rooted in
      one_met (without_rank_where true who) refl rows Node root.0
      (ap (λ r. first_answer (denial_of (without_rank_where true who)) (map (ask_at rows Node) (option_to_list r))) (sym root.1) ∙ (first_met (without_rank_where true who) rows node_identity [] h).0)

  pub node_held : IsNamespace rows → (what : Op) → decision rows users name what ≡ None → is_for_nodes what ≡ true → is_some (node_of name) ≡ true
  node_held namespace op.Heartbeat h t = node_met namespace h
  node_held namespace (op.Reported replica) h t = node_met namespace h
  node_held namespace (op.CommitRecovery recovered) h t = node_met namespace h
  node_held namespace _ h t = cc

  -- ---- what is made, read and altered

  access_met : is_super users name ≡ false → (asked : bits.Rights) (path : List (List ℕ)) (row : Row) → Met (access asked path) → row_at path rows ≡ Some row → has asked row ≡ true
  access_met plain asked path row h at = one_met who plain rows (Rights asked) row (ap (λ r. first_answer (denial_of who) (map (ask_at rows (Rights asked)) (option_to_list r))) (sym at) ∙ h)

  -- a need that is judged where a condition holds, which does
  where_met : is_super users name ≡ false → (asked : bits.Rights) (condition : Bool) (row : Row) (o : Option Row) → o ≡ Some row → condition ≡ true
      → first_answer (denial_of who) (map (ask_at rows (Rights asked)) (cond condition (option_to_list o) [])) ≡ None → has asked row ≡ true
  where_met plain asked condition row o at holding h =
      one_met who plain rows (Rights asked) row
      (ap (λ r. first_answer (denial_of who) (map (ask_at rows (Rights asked)) (option_to_list r))) (sym at)
      ∙ ap (λ b. first_answer (denial_of who) (map (ask_at rows (Rights asked)) (cond b (option_to_list o) []))) (sym holding) ∙ h)

  above_met : is_super users name ≡ false → (path : List (List ℕ)) (above : Row) → Met (write_above path) → ancestor path rows ≡ Some above → has (rights 2) above ≡ true
  above_met plain path above h at = where_met plain (rights 2) true above (ancestor path rows) at refl h

  pub made_held : (what : Op) (path : List (List ℕ)) (above : Row) → decision rows users name what ≡ None → made_path what ≡ Some path → row_at path rows ≡ None → ancestor path rows ≡ Some above
      → (is_super users name || has (rights 2) above) ≡ true
  made_held (op.Mkdirs top mode) path above h t missing at = unless _ _ (λ plain.
      let is : top ≡ path = the_same top path t in
      let past = first_met who rows (traversal top) (creation top ∷ []) h in
      where_met plain (rights 2) (is_missing top rows) above (ancestor top rows) (ap (λ p. ancestor p rows) is ∙ at) (ap (λ p. is_missing p rows) is ∙ ap is_none missing)
      (first_met who rows (creation top) [] past.1).0)
  made_held (op.Create top mode replication over) path above h t missing at = unless _ _ (λ plain.
      let past = first_met who rows (traversal top) (write_above top ∷ over_demands top over) h in
      above_met plain top above (first_met who rows (write_above top) (over_demands top over) past.1).0 (ap (λ p. ancestor p rows) (the_same top path t) ∙ at))
  made_held (op.Rename from to) path above h t missing at = unless _ _ (λ plain.
      let past = first_met who rows (traversal from) (traversal to ∷ sticky_bit from ∷ write_above to ∷ removal from ∷ []) h in
      let both = first_met who rows (traversal to) (sticky_bit from ∷ write_above to ∷ removal from ∷ []) past.1 in
      let stuck = first_met who rows (sticky_bit from) (write_above to ∷ removal from ∷ []) both.1 in
      above_met plain to above (first_met who rows (write_above to) (removal from ∷ []) stuck.1).0 (ap (λ p. ancestor p rows) (the_same to path t) ∙ at))
  made_held _ path above h t missing at = cc

  accessed : (path : List (List ℕ)) (asked : bits.Rights) (row : Row) → denial_among rows who (traversal path ∷ access asked path ∷ []) ≡ None → row_at path rows ≡ Some row → (is_super users name || has asked row) ≡ true
  accessed path asked row h at = unless _ _ (λ plain.
      let past = first_met who rows (traversal path) (access asked path ∷ []) h in access_met plain asked path row (first_met who rows (access asked path) [] past.1).0 at)

  pub opened_held : (path : List (List ℕ)) (file : Row) → decision rows users name (op.Open path) ≡ None → row_at path rows ≡ Some file → (is_super users name || has (rights 4) file) ≡ true
  opened_held path file h at = accessed path (rights 4) file h at

  pub altered_held : (what : Op) (path : List (List ℕ)) (file : Row) → decision rows users name what ≡ None → altered_path what ≡ Some path → row_at path rows ≡ Some file → is_directory file ≡ false
      → (is_super users name || has (rights 2) file) ≡ true
  altered_held (op.Append top) path file h t at kind = accessed top (rights 2) file h (ap (λ p. row_at p rows) (the_same top path t) ∙ at)
  altered_held (op.SetReplication top replication) path file h t at kind = accessed top (rights 2) file h (ap (λ p. row_at p rows) (the_same top path t) ∙ at)
  altered_held (op.Create top mode replication true) path file h t at kind = unless _ _ (λ plain.
      let there : row_at top rows ≡ Some file = ap (λ p. row_at p rows) (the_same top path t) ∙ at in
      let past = first_met who rows (traversal top) (write_above top ∷ overwriting top ∷ []) h in
      let above = first_met who rows (write_above top) (overwriting top ∷ []) past.1 in
      where_met plain (rights 2) (has_file top rows) file (row_at top rows) there (ap (is_some_where (λ r. not (is_directory r))) there ∙ ap not kind) (first_met who rows (overwriting top) [] above.1).0)
  altered_held _ path file h t at kind = cc

  pub listed_held : (path : List (List ℕ)) (directory : Row) → decision rows users name (op.List path) ≡ None → row_at path rows ≡ Some directory → is_directory directory ≡ true → (is_super users name || has (rights 5) directory) ≡ true
  listed_held path directory h at kind = unless _ _ (λ plain.
      let past = first_met who rows (traversal path) (listing path ∷ []) h in
      where_met plain (rights 5) (has_directory path rows) directory (row_at path rows) at (ap (is_some_where is_directory) at ∙ kind) (first_met who rows (listing path) [] past.1).0)

  pub counted_held : (path : List (List ℕ)) (directory : Row) → decision rows users name (op.Summary path) ≡ None → row_at directory.path rows ≡ Some directory → is_directory directory ≡ true
      → is_prefix path directory.path ≡ true → (is_super users name || has (rights 5) directory) ≡ true
  counted_held path directory h at kind inside = unless _ _ (λ plain.
      let past = first_met who rows (traversal path) (sub_tree (rights 5) path ∷ []) h in
      sub_tree_met plain (rights 5) path directory (first_met who rows (sub_tree (rights 5) path) [] past.1).0 at kind inside)

-- ---- who writes a file

module _ (name : List ℕ) where
  writer_of_state : (state : FileState) → refused_by_state name state ≡ None → holder_of state ≡ Some name
  writer_of_state Closed h = cc
  writer_of_state (Recovering block stamp begun) h = cc
  writer_of_state (Open holder) h = ap (λ w. Some w) (sym (same_is name holder (by (same name holder) h)))
    where
      by : (b : Bool) → cond b None (Some NoLease) ≡ None → b ≡ true
      by true k = refl
      by false k = cc

  writer_of_file : (kind : Bool) (acl : Acl) (file : Option FileRow) → cond kind (Some IsDirectory) None ≡ None → suits_parts kind acl file ≡ true → if_some_file (refused_write name) file ≡ None → holder_of_file file ≡ Some name
  writer_of_file true acl file d s h = cc
  writer_of_file false acl None d s h = cc
  writer_of_file false acl (Some file) d s h = writer_of_state file.state h

  writer_at : (at : Option Row) → ((row : Row) → at ≡ Some row → suits_kind row ≡ true) → nothing_at at ≡ None → directory_there at ≡ None → of_file (refused_write name) at ≡ None → holder_at at ≡ Some name
  writer_at None suits n d h = cc
  writer_at (Some row) suits n d h = writer_of_file (is_directory row) row.acl row.file d (suits row refl) h

  module _ (facts : Facts) (rows : List Row) (users : Users) (namespace : IsNamespace rows) where
    fourth : (path : List (List ℕ)) (rest : List (Option Refusal)) → first_some (beneath_file path rows ∷ nothing_at (row_at path rows) ∷ directory_there (row_at path rows) ∷ of_file (refused_write name) (row_at path rows) ∷ rest) ≡ None
        → holder_at (row_at path rows) ≡ Some name
    fourth path rest h =
        let at = row_at path rows in
        let a = or_none (beneath_file path rows) (first_some (nothing_at at ∷ directory_there at ∷ of_file (refused_write name) at ∷ rest)) h in
        let b = or_none (nothing_at at) (first_some (directory_there at ∷ of_file (refused_write name) at ∷ rest)) a.1 in
        let c = or_none (directory_there at) (first_some (of_file (refused_write name) at ∷ rest)) b.1 in
        let d = or_none (of_file (refused_write name) at) (first_some rest) c.1 in
        writer_at at (λ row is. first_passes (λ r. same_path path r.path) suits_kind rows row (namespace_tests rows namespace).suit is) b.0 c.0 d.0

    pub writer_held : (what : Op) (path : List (List ℕ)) → first_refusal facts name what rows users ≡ None → written_path what ≡ Some path → holder_at (row_at path rows) ≡ Some name
    writer_held (op.AddBlock top last) path h t =
        ap (λ p. holder_at (row_at p rows)) (sym (the_same top path t)) ∙ fourth top (of_file (refused_unless_last last) (row_at top rows) ∷ refused_new facts.blocks last facts.now ∷ []) h
    writer_held (op.Complete top last) path h t =
        ap (λ p. holder_at (row_at p rows)) (sym (the_same top path t)) ∙ fourth top (of_file (refused_unless_last last) (row_at top rows) ∷ refused_end facts.blocks last ∷ []) h
    writer_held _ path h t = cc

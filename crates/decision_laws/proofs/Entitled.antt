-- Who is entitled to an operation meets its needs.
use Rattle.std.proofs.Common.{◌≡◌, ℕ, Bool, true, false, ◌&&◌, ◌||◌, not, List, [], ◌∷◌, ◌++◌, cond, Option, Some, None, map, refl, sym, ap, subst, ◌∙◌}
use Rattle.std.specs.Prelude.{filter, unwrap_or}
use Rattle.std.specs.Option.{is_some, option_map, option_to_list}
use Rattle.node_ids.specs.NodeId.{node_of}
use Rattle.hdfs_values.specs.Text.{same}
use Rattle.hdfs_values.specs.Groups.{has_group}
use Rattle.permission_bits.specs.Rights.{rights}
use Rattle.file_paths.specs.Path.{is_prefix, is_beneath}
use Rattle.hdfs_types.specs.Request.{is_for_nodes}
use Rattle.hdfs_types.specs.declared.op.Op.{Op}
use Rattle.hdfs_types.specs.declared.op.Op.TheVariants as op
use Rattle.principals.specs.Users.{Users, Caller, caller_of, groups_of, is_super}
use Rattle.namespace_rows.specs.declared.row.Row.{Row}
use Rattle.namespace_rows.specs.Judgement.{judgement}
use Rattle.namespace_rows.specs.Namespace.{IsNamespace}
use Rattle.namespace_rows.specs.Rows.{ancestor, directory_of, has_directory, has_file, has_sticky_parent, is_directory, is_missing, is_none, is_some_where, owner_above, row_at}
use Rattle.namespace_rows.proofs.Namespaces.{namespace_tests}
use Rattle.namespace_rows.proofs.Tests.{both}
use Rattle.required_rights.specs.declared.need.Need.TheVariants.{Rights, Sticky, Owner, Member, Superuser, Node}
use Rattle.required_rights.specs.RequiredRights.{Demand, access, creation, giving_away, group_demands, listing, membership, node_identity, over_demands, overwriting, owner_demands, ownership, removal, required_rights, sticky_bit, strict_traversal, sub_tree, traversal, write_above}
use Rattle.namespace_rows.specs.First.{first_answer}
use Rattle.flat_rows.specs.Decision as judged
use Rattle.flat_rows.specs.Decision.{ask_at, asks_of, denial_among, denial_of}
use Rattle.flat_rows.specs.Judging.{is_strict}
use Rattle.flat_rows.proofs.Judging.{judged_as_decided, while_checking, strictly_decided}
use Rattle.flat_rows.specs.Facts.{Facts}
use Rattle.flat_rows.specs.Outcome.{step}
use Rattle.flat_rows.specs.Verdicts.{is_denied}
use Rattle.permission_laws.specs.Attempt.{administers}
use Rattle.permission_laws.proofs.Checked.{decision, while_on, if_strict, administration_strict, nodes_strict}
use Rattle.permission_laws.proofs.Deciding.{first_met, one_met, path_of_row}
use Rattle.permission_laws.proofs.Held.{administration_held, all_held, altered_held, counted_held, given_to_own_group, kept_by_owner, listed_held, made_held, managed_held, node_held, parent_held, sticky_held, unless}
use Rattle.permission_laws.proofs.Stops.{Each, each_stands, stands}
use Rattle.permission_laws.proofs.Superusers.{never_denied}
use Rattle.decision_laws.specs.Laws.{AdministrationNeedsASuperuser, AppendNeedsWrite, ChownNeedsTheOwnerAndTheGroup, CreateNeedsWriteAbove, DeleteNeedsAllBeneath, ListNeedsReadAndTraverse, ListsAndModesNeedTheOwner, MkdirsNeedsWriteAbove, NodesNeedTheirName, OpenNeedsRead, RenameNeedsBothDirectories, RenewNeedsNothing, ReplicationNeedsWrite, SummaryNeedsAllBeneath, TheWayIsEnough, has_list_or_mode_set, is_told_by_nodes, looked_at}
use Rattle.decision_laws.proofs.Passing.{Passes, PassesAt, all_standing, allowed, demand_passes, each_passes, let_in, one_passes, where_passes}

-- where all needs are judged, what none of them denies isn't denied
module _ (rows : List Row) (users : Users) (name : List ℕ) (what : Op) where
  turned_on : users.checking ≡ true → decision rows users name what ≡ None → judged.decision rows users name what ≡ None
  turned_on on none = while_checking rows users name what on ∙ none

  turned_strict : is_strict what ≡ true → decision rows users name what ≡ None → judged.decision rows users name what ≡ None
  turned_strict strict none = sym (strictly_decided rows users name what strict) ∙ none

-- a superuser isn't denied, and of others is what they have
pub by_rank : (facts : Facts) (rows : List Row) (users : Users) (name : List ℕ) (what : Op) → is_for_nodes what ≡ false → (decision rows users name what ≡ None → judged.decision rows users name what ≡ None)
    → (is_super users name ≡ false → decision rows users name what ≡ None) → is_denied (step facts rows users name what).verdict ≡ false
by_rank facts rows users name what plain turn h = by (is_super users name) refl
  where
    by : (b : Bool) → is_super users name ≡ b → is_denied (step facts rows users name what).verdict ≡ false
    by true k = never_denied facts rows users name what k plain
    by false k = let_in facts rows users name what (turn (h k))

module _ (rows : List Row) (users : Users) (name : List ℕ) (plain : is_super users name ≡ false) where
  abbrev who : Caller
  who = caller_of users name

  abbrev has : ℕ → Row → Bool
  has asked row = (judgement row name (groups_of users name) (rights asked)).granted

  -- what somebody has without a rank
  own : (granted : Bool) → (is_super users name || granted) ≡ true → granted ≡ true
  own granted h = ap (λ b. b || granted) (sym plain) ∙ h

  abbrev Met : Demand → Type 0
  Met demand = Passes who rows (asks_of rows demand)

  abbrev HasAt : ℕ → Option Row → Type 0
  HasAt asked there = (row : Row) → there ≡ Some row → (is_super users name || has asked row) ≡ true

  at_one : (asked : ℕ) (there : Option Row) → HasAt asked there → PassesAt who rows (Rights (rights asked)) (option_to_list there)
  at_one asked there h = one_passes who rows (Rights (rights asked)) there (λ row k. own (has asked row) (h row k))

  removal_met : (path : List (List ℕ)) → HasAt 2 (directory_of path rows) → Met (removal path)
  removal_met path h = at_one 2 (directory_of path rows) h

  above_met : (path : List (List ℕ)) → HasAt 2 (ancestor path rows) → Met (write_above path)
  above_met path h = at_one 2 (ancestor path rows) h

  access_met : (asked : ℕ) (path : List (List ℕ)) → HasAt asked (row_at path rows) → Met (access (rights asked) path)
  access_met asked path h = at_one asked (row_at path rows) h

  missing : (there : Option Row) → is_none there ≡ true → there ≡ None
  missing None h = refl
  missing (Some row) h = cc

  creation_met : (path : List (List ℕ)) → (row_at path rows ≡ None → HasAt 2 (ancestor path rows)) → Met (creation path)
  creation_met path h = where_passes who rows (is_missing path rows) (Rights (rights 2)) (option_to_list (ancestor path rows)) (λ k. at_one 2 (ancestor path rows) (h (missing (row_at path rows) k)))

  -- where what stands there is of a kind
  of_kind : (test : Row → Bool) (there : Option Row) (row : Row) → there ≡ Some row → is_some_where test there ≡ true → test row ≡ true
  of_kind test there row is h = ap (is_some_where test) (sym is) ∙ h

  listing_met : (path : List (List ℕ)) → ((row : Row) → row_at path rows ≡ Some row → is_directory row ≡ true → (is_super users name || has 5 row) ≡ true) → Met (listing path)
  listing_met path h = where_passes who rows (has_directory path rows) (Rights (rights 5)) (option_to_list (row_at path rows))
      (λ k. at_one 5 (row_at path rows) (λ row is. h row is (of_kind is_directory (row_at path rows) row is k)))

  not_true : (b : Bool) → not b ≡ true → b ≡ false
  not_true true h = cc
  not_true false h = refl

  overwriting_met : (path : List (List ℕ)) → ((row : Row) → row_at path rows ≡ Some row → is_directory row ≡ false → (is_super users name || has 2 row) ≡ true) → Met (overwriting path)
  overwriting_met path h = where_passes who rows (has_file path rows) (Rights (rights 2)) (option_to_list (row_at path rows))
      (λ k. at_one 2 (row_at path rows) (λ row is. h row is (not_true (is_directory row) (of_kind (λ r. not (is_directory r)) (row_at path rows) row is k))))

  sticky_met : (path : List (List ℕ))
      → ((row directory : Row) → row_at path rows ≡ Some row → directory_of path rows ≡ Some directory → directory.acl.sticky ≡ true → (is_super users name || (same name row.owner || same name directory.owner)) ≡ true)
      → Met (sticky_bit path)
  sticky_met path h = where_passes who rows (has_sticky_parent path rows) Sticky (option_to_list (row_at path rows)) (λ k. one_passes who rows Sticky (row_at path rows) (λ row is. by row is (directory_of path rows) refl k))
    where
      by : (row : Row) → row_at path rows ≡ Some row → (held : Option Row) → directory_of path rows ≡ held → is_some_where (λ r. r.acl.sticky) held ≡ true → (same name row.owner || same name (owner_above row rows)) ≡ true
      by row is None at k = cc
      by row is (Some directory) at k =
          let above : owner_above row rows ≡ directory.owner = ap (λ d. unwrap_or (option_map (λ a. a.owner) d) row.owner) (ap (λ p. directory_of p rows) (sym (path_of_row path rows row is)) ∙ at) in
          ap (λ o. same name row.owner || same name o) above ∙ own (same name row.owner || same name directory.owner) (h row directory is at k)

  ownership_met : (path : List (List ℕ)) → ((row : Row) → row_at path rows ≡ Some row → (is_super users name || same name row.owner) ≡ true) → Met (ownership path)
  ownership_met path h = one_passes who rows Owner (row_at path rows) (λ row is. own (same name row.owner) (h row is))

  membership_met : (path : List (List ℕ)) (group : List ℕ) → ((row : Row) → row_at path rows ≡ Some row → (is_super users name || has_group (groups_of users name) group) ≡ true) → Met (membership path group)
  membership_met path group h = one_passes who rows (Member group) (row_at path rows) (λ row is. own (has_group (groups_of users name) group) (h row is))

  -- nobody else owns it, so nobody is asked for his rank
  giving_met : (path : List (List ℕ)) (user : List ℕ) → ((row : Row) → row_at path rows ≡ Some row → (is_super users name || same user row.owner) ≡ true) → Met (giving_away path user)
  giving_met path user h = by (row_at path rows) h
    where
      by : (there : Option Row) → ((row : Row) → there ≡ Some row → (is_super users name || same user row.owner) ≡ true)
          → PassesAt who rows Superuser (cond (is_some_where (λ r. not (same user r.owner)) there) (option_to_list there) [])
      by None k = refl
      by (Some row) k = ap (λ b. first_answer (denial_of who) (map (ask_at rows Superuser) (cond (not b) (row ∷ []) []))) (own (same user row.owner) (k row refl))

  module _ (namespace : IsNamespace rows) where
    standing : Each (stands rows) rows
    standing = each_stands rows (namespace_tests rows namespace).ascending

    abbrev ReachesIt : List (List ℕ) → Type 0
    ReachesIt path = (directory : Row) → row_at directory.path rows ≡ Some directory → is_directory directory ≡ true → is_beneath path directory.path ≡ true → (is_super users name || has 1 directory) ≡ true

    -- the directories above a path, each of which lets the caller through
    on_the_way : (path : List (List ℕ)) → ReachesIt path → PassesAt who rows (Rights (rights 1)) (filter (λ row. is_beneath path row.path && is_directory row) rows)
    on_the_way path h = each_passes who rows (Rights (rights 1)) (filter (λ row. is_beneath path row.path && is_directory row) rows)
        (all_standing (λ row. has 1 row) (λ row. is_beneath path row.path && is_directory row) rows rows standing
        (λ row at k. let parts = both (is_beneath path row.path) (is_directory row) k in own (has 1 row) (h row at parts.1 parts.0)))

    -- traversal stands in front
    behind_traversal : (path : List (List ℕ)) (demands : List Demand) → ReachesIt path → denial_among rows who demands ≡ None → denial_among rows who (traversal path ∷ demands) ≡ None
    behind_traversal path demands h k = demand_passes who rows (traversal path) demands (on_the_way path h) k

    behind_strict : (path : List (List ℕ)) (demands : List Demand) → ReachesIt path → denial_among rows who demands ≡ None → denial_among rows who (strict_traversal path ∷ demands) ≡ None
    behind_strict path demands h k = demand_passes who rows (strict_traversal path) demands (on_the_way path h) k

    behind : (demand : Demand) (demands : List Demand) → Met demand → denial_among rows who demands ≡ None → denial_among rows who (demand ∷ demands) ≡ None
    behind demand demands h k = demand_passes who rows demand demands h k

    sub_tree_met : (asked : ℕ) (path : List (List ℕ))
        → ((directory : Row) → row_at directory.path rows ≡ Some directory → is_directory directory ≡ true → is_prefix path directory.path ≡ true → (is_super users name || has asked directory) ≡ true)
        → Met (sub_tree (rights asked) path)
    sub_tree_met asked path h = each_passes who rows (Rights (rights asked)) (filter (λ row. is_prefix path row.path && is_directory row) rows)
        (all_standing (λ row. has asked row) (λ row. is_prefix path row.path && is_directory row) rows rows standing
        (λ row at k. let parts = both (is_prefix path row.path) (is_directory row) k in own (has asked row) (h row at parts.1 parts.0)))

-- ---- each operation

same_path_of : (path other : List (List ℕ)) → Some path ≡ Some other → path ≡ other
same_path_of path other h = cc

-- what is asked at a path, where the operation is known
module _ (facts : Facts) (rows : List Row) (users : Users) (name : List ℕ) where
  abbrev IsIn : Op → Type 0
  IsIn what = is_denied (step facts rows users name what).verdict ≡ false

  abbrev Way : List (List ℕ) → Type 0
  Way path = (directory : Row) → row_at directory.path rows ≡ Some directory → is_directory directory ≡ true → is_beneath path directory.path ≡ true
      → (is_super users name || (judgement directory name (groups_of users name) (rights 1)).granted) ≡ true

  way_alone : users.checking ≡ true → (namespace : IsNamespace rows) (what : Op) (path other : List (List ℕ)) → is_for_nodes what ≡ false → required_rights what ≡ traversal path ∷ [] → path ≡ other → Way other
      → decision rows users name what ≡ denial_among rows (caller_of users name) (required_rights what) → IsIn what
  way_alone on namespace what path other plain needs is way asked =
      by_rank facts rows users name what plain (turned_on rows users name what on) (λ k. asked ∙ ap (denial_among rows (caller_of users name)) needs
      ∙ behind_traversal rows users name k namespace path [] (subst Way (sym is) way) refl)

  reached : users.checking ≡ true → IsNamespace rows → (what : Op) (path : List (List ℕ)) → looked_at what ≡ Some path → Way path → IsIn what
  reached on namespace (op.Stat own) path h way = way_alone on namespace (op.Stat own) own path refl refl (same_path_of own path h) way refl
  reached on namespace (op.GetAcl own) path h way = way_alone on namespace (op.GetAcl own) own path refl refl (same_path_of own path h) way refl
  reached on namespace (op.AddBlock own last) path h way = way_alone on namespace (op.AddBlock own last) own path refl refl (same_path_of own path h) way refl
  reached on namespace (op.Complete own last) path h way = way_alone on namespace (op.Complete own last) own path refl refl (same_path_of own path h) way refl
  reached on namespace _ path h way = cc

  managing : IsNamespace rows → (what : Op) (path : List (List ℕ)) → has_list_or_mode_set what ≡ Some path → Way path
      → ((row : Row) → row_at path rows ≡ Some row → (is_super users name || same name row.owner) ≡ true) → IsIn what
  managing namespace (op.SetMode top mode) path h way own =
      let is : path ≡ top = sym (same_path_of top path h) in
      by_rank facts rows users name (op.SetMode top mode) refl (turned_strict rows users name (op.SetMode top mode) refl) (λ k. behind_strict rows users name k namespace top (ownership top ∷ []) (subst Way is way)
      (behind rows users name k namespace (ownership top) [] (ownership_met rows users name k top (λ row at. own row (ap (λ p. row_at p rows) is ∙ at))) refl))
  managing namespace (op.SetAcl top change) path h way own =
      let is : path ≡ top = sym (same_path_of top path h) in
      by_rank facts rows users name (op.SetAcl top change) refl (turned_strict rows users name (op.SetAcl top change) refl) (λ k. behind_strict rows users name k namespace top (ownership top ∷ []) (subst Way is way)
      (behind rows users name k namespace (ownership top) [] (ownership_met rows users name k top (λ row at. own row (ap (λ p. row_at p rows) is ∙ at))) refl))
  managing namespace _ path h way own = cc

  module _ (namespace : IsNamespace rows) (path : List (List ℕ)) (way : Way path) where
    abbrev HasThere : ℕ → Type 0
    HasThere asked = (row : Row) → row_at path rows ≡ Some row → (is_super users name || (judgement row name (groups_of users name) (rights asked)).granted) ≡ true

    abbrev HasHolding : ℕ → Type 0
    HasHolding asked = (row : Row) → directory_of path rows ≡ Some row → (is_super users name || (judgement row name (groups_of users name) (rights asked)).granted) ≡ true

    abbrev HasLast : ℕ → Type 0
    HasLast asked = (row : Row) → ancestor path rows ≡ Some row → (is_super users name || (judgement row name (groups_of users name) (rights asked)).granted) ≡ true

    abbrev HasAllBeneath : ℕ → Type 0
    HasAllBeneath asked = (directory : Row) → row_at directory.path rows ≡ Some directory → is_directory directory ≡ true → is_prefix path directory.path ≡ true
        → (is_super users name || (judgement directory name (groups_of users name) (rights asked)).granted) ≡ true

    abbrev MayTake : Type 0
    MayTake = (row directory : Row) → row_at path rows ≡ Some row → directory_of path rows ≡ Some directory → directory.acl.sticky ≡ true
        → (is_super users name || (same name row.owner || same name directory.owner)) ≡ true

    opening : users.checking ≡ true → HasThere 4 → IsIn (op.Open path)
    opening on h = by_rank facts rows users name (op.Open path) refl (turned_on rows users name (op.Open path) on) (λ k. behind_traversal rows users name k namespace path (access (rights 4) path ∷ []) way
        (behind rows users name k namespace (access (rights 4) path) [] (access_met rows users name k 4 path h) refl))

    appending : users.checking ≡ true → HasThere 2 → IsIn (op.Append path)
    appending on h = by_rank facts rows users name (op.Append path) refl (turned_on rows users name (op.Append path) on) (λ k. behind_traversal rows users name k namespace path (access (rights 2) path ∷ []) way
        (behind rows users name k namespace (access (rights 2) path) [] (access_met rows users name k 2 path h) refl))

    replicating : users.checking ≡ true → (replication : ℕ) → HasThere 2 → IsIn (op.SetReplication path replication)
    replicating on replication h = by_rank facts rows users name (op.SetReplication path replication) refl (turned_on rows users name (op.SetReplication path replication) on) (λ k. behind_traversal rows users name k namespace path (access (rights 2) path ∷ []) way
        (behind rows users name k namespace (access (rights 2) path) [] (access_met rows users name k 2 path h) refl))

    listing_in : users.checking ≡ true → ((row : Row) → row_at path rows ≡ Some row → is_directory row ≡ true → (is_super users name || (judgement row name (groups_of users name) (rights 5)).granted) ≡ true) → IsIn (op.List path)
    listing_in on h = by_rank facts rows users name (op.List path) refl (turned_on rows users name (op.List path) on) (λ k. behind_traversal rows users name k namespace path (listing path ∷ []) way
        (behind rows users name k namespace (listing path) [] (listing_met rows users name k path h) refl))

    counting : users.checking ≡ true → HasAllBeneath 5 → IsIn (op.Summary path)
    counting on h = by_rank facts rows users name (op.Summary path) refl (turned_on rows users name (op.Summary path) on) (λ k. behind_traversal rows users name k namespace path (sub_tree (rights 5) path ∷ []) way
        (behind rows users name k namespace (sub_tree (rights 5) path) [] (sub_tree_met rows users name k namespace 5 path h) refl))

    making : users.checking ≡ true → (mode : ℕ) → (row_at path rows ≡ None → HasLast 2) → IsIn (op.Mkdirs path mode)
    making on mode h = by_rank facts rows users name (op.Mkdirs path mode) refl (turned_on rows users name (op.Mkdirs path mode) on) (λ k. behind_traversal rows users name k namespace path (creation path ∷ []) way
        (behind rows users name k namespace (creation path) [] (creation_met rows users name k path h) refl))

    creating : users.checking ≡ true → (mode replication : ℕ) (over : Bool) → HasLast 2
        → (over ≡ true → (row : Row) → row_at path rows ≡ Some row → is_directory row ≡ false → (is_super users name || (judgement row name (groups_of users name) (rights 2)).granted) ≡ true)
        → IsIn (op.Create path mode replication over)
    creating on mode replication over h w = by_rank facts rows users name (op.Create path mode replication over) refl (turned_on rows users name (op.Create path mode replication over) on) (λ k.
        behind_traversal rows users name k namespace path (write_above path ∷ over_demands path over) way
        (behind rows users name k namespace (write_above path) (over_demands path over) (above_met rows users name k path h) (replacing k over w)))
      where
        replacing : (k : is_super users name ≡ false) (over : Bool)
            → (over ≡ true → (row : Row) → row_at path rows ≡ Some row → is_directory row ≡ false → (is_super users name || (judgement row name (groups_of users name) (rights 2)).granted) ≡ true)
            → denial_among rows (caller_of users name) (over_demands path over) ≡ None
        replacing k true w = behind rows users name k namespace (overwriting path) [] (overwriting_met rows users name k path (w refl)) refl
        replacing k false w = refl

    removing : users.checking ≡ true → (recursive : Bool) → MayTake → HasHolding 2 → HasAllBeneath 7 → IsIn (op.Delete path recursive)
    removing on recursive free held all = by_rank facts rows users name (op.Delete path recursive) refl (turned_on rows users name (op.Delete path recursive) on) (λ k.
        behind_traversal rows users name k namespace path (sticky_bit path ∷ removal path ∷ sub_tree (rights 7) path ∷ []) way
        (behind rows users name k namespace (sticky_bit path) (removal path ∷ sub_tree (rights 7) path ∷ []) (sticky_met rows users name k path free)
        (behind rows users name k namespace (removal path) (sub_tree (rights 7) path ∷ []) (removal_met rows users name k path held)
        (behind rows users name k namespace (sub_tree (rights 7) path) [] (sub_tree_met rows users name k namespace 7 path all) refl))))

    moving : users.checking ≡ true → (to : List (List ℕ)) → Way to → MayTake
        → ((row : Row) → ancestor to rows ≡ Some row → (is_super users name || (judgement row name (groups_of users name) (rights 2)).granted) ≡ true) → HasHolding 2 → IsIn (op.Rename path to)
    moving on to there free above held = by_rank facts rows users name (op.Rename path to) refl (turned_on rows users name (op.Rename path to) on) (λ k.
        behind_traversal rows users name k namespace path (traversal to ∷ sticky_bit path ∷ write_above to ∷ removal path ∷ []) way
        (behind_traversal rows users name k namespace to (sticky_bit path ∷ write_above to ∷ removal path ∷ []) there
        (behind rows users name k namespace (sticky_bit path) (write_above to ∷ removal path ∷ []) (sticky_met rows users name k path free)
        (behind rows users name k namespace (write_above to) (removal path ∷ []) (above_met rows users name k to above)
        (behind rows users name k namespace (removal path) [] (removal_met rows users name k path held) refl)))))

    giving : (owner group : Option (List ℕ)) → ((row : Row) → row_at path rows ≡ Some row → (is_super users name || same name row.owner) ≡ true)
        → ((user : List ℕ) (row : Row) → owner ≡ Some user → row_at path rows ≡ Some row → (is_super users name || same user row.owner) ≡ true)
        → ((group_name : List ℕ) (row : Row) → group ≡ Some group_name → row_at path rows ≡ Some row → (is_super users name || has_group (groups_of users name) group_name) ≡ true) → IsIn (op.SetOwner path owner group)
    giving owner group own stays member = by_rank facts rows users name (op.SetOwner path owner group) refl (turned_strict rows users name (op.SetOwner path owner group) refl) (λ k.
        behind_strict rows users name k namespace path (ownership path ∷ (owner_demands path owner ++ group_demands path group)) way
        (behind rows users name k namespace (ownership path) (owner_demands path owner ++ group_demands path group) (ownership_met rows users name k path own)
        (to_owner k owner group stays (to_group k group member))))
      where
        to_group : (k : is_super users name ≡ false) (group : Option (List ℕ))
            → ((group_name : List ℕ) (row : Row) → group ≡ Some group_name → row_at path rows ≡ Some row → (is_super users name || has_group (groups_of users name) group_name) ≡ true)
            → denial_among rows (caller_of users name) (group_demands path group) ≡ None
        to_group k None member = refl
        to_group k (Some group_name) member = behind rows users name k namespace (membership path group_name) [] (membership_met rows users name k path group_name (λ row at. member group_name row refl at)) refl

        to_owner : (k : is_super users name ≡ false) (owner group : Option (List ℕ)) → ((user : List ℕ) (row : Row) → owner ≡ Some user → row_at path rows ≡ Some row → (is_super users name || same user row.owner) ≡ true)
            → denial_among rows (caller_of users name) (group_demands path group) ≡ None → denial_among rows (caller_of users name) (owner_demands path owner ++ group_demands path group) ≡ None
        to_owner k None group stays rest = rest
        to_owner k (Some user) group stays rest =
            behind rows users name k namespace (giving_away path user) (group_demands path group) (giving_met rows users name k path user (λ row at. stays user row refl at)) rest

-- ---- what it takes

module _ (rows : List Row) (users : Users) (name : List ℕ) where
  abbrev may_there : ℕ → Row → Bool
  may_there asked row = is_super users name || (judgement row name (groups_of users name) (rights asked)).granted

  -- the rights that one need asks at the one component that there is
  one_taken : (is_super users name ≡ false) → (asked : ℕ) (there : Option Row) (row : Row) → PassesAt (caller_of users name) rows (Rights (rights asked)) (option_to_list there) → there ≡ Some row
      → (judgement row name (groups_of users name) (rights asked)).granted ≡ true
  one_taken plain asked there row h at =
      one_met (caller_of users name) plain rows (Rights (rights asked)) row (ap (λ r. first_answer (denial_of (caller_of users name)) (map (ask_at rows (Rights (rights asked))) (option_to_list r))) (sym at) ∙ h)

  access_taken : (asked : ℕ) (path : List (List ℕ)) (row : Row) → denial_among rows (caller_of users name) (traversal path ∷ access (rights asked) path ∷ []) ≡ None → row_at path rows ≡ Some row
      → may_there asked row ≡ true
  access_taken asked path row h at = unless _ _ (λ plain.
      let past = first_met (caller_of users name) rows (traversal path) (access (rights asked) path ∷ []) h in
      one_taken plain asked (row_at path rows) row (first_met (caller_of users name) rows (access (rights asked) path) [] past.1).0 at)

  created_taken : (path : List (List ℕ)) (over : Bool) (above : Row) → denial_among rows (caller_of users name) (traversal path ∷ write_above path ∷ over_demands path over) ≡ None
      → ancestor path rows ≡ Some above → may_there 2 above ≡ true
  created_taken path over above h at = unless _ _ (λ plain.
      let past = first_met (caller_of users name) rows (traversal path) (write_above path ∷ over_demands path over) h in
      one_taken plain 2 (ancestor path rows) above (first_met (caller_of users name) rows (write_above path) (over_demands path over) past.1).0 at)

  moved_taken : (from to : List (List ℕ)) (above : Row) → decision rows users name (op.Rename from to) ≡ None → ancestor to rows ≡ Some above → may_there 2 above ≡ true
  moved_taken from to above h at = unless _ _ (λ plain.
      let rest = write_above to ∷ removal from ∷ [] in
      let past = first_met (caller_of users name) rows (traversal from) (traversal to ∷ sticky_bit from ∷ rest) h in
      let both_ways = first_met (caller_of users name) rows (traversal to) (sticky_bit from ∷ rest) past.1 in
      let stuck = first_met (caller_of users name) rows (sticky_bit from) rest both_ways.1 in
      one_taken plain 2 (ancestor to rows) above (first_met (caller_of users name) rows (write_above to) (removal from ∷ []) stuck.1).0 at)

-- ---- the laws

-- an attempt whose operation is known
known : (facts : Facts) (rows : List Row) (users : Users) (name : List ℕ) (what own : Op) → what ≡ own → is_denied (step facts rows users name own).verdict ≡ false → is_denied (step facts rows users name what).verdict ≡ false
known facts rows users name what own is h = ap (λ o. is_denied (step facts rows users name o).verdict) is ∙ h

-- and what it takes to be let in
passed : (facts : Facts) (rows : List Row) (users : Users) (name : List ℕ) (what own : Op) → users.checking ≡ true → what ≡ own → is_denied (step facts rows users name what).verdict ≡ false → decision rows users name own ≡ None
passed facts rows users name what own on is h = while_on rows users name own None on (allowed facts rows users name own (ap (λ o. is_denied (step facts rows users name o).verdict) (sym is) ∙ h))

pub way_enough : TheWayIsEnough
way_enough a path namespace on h way = reached a.facts a.rows a.users a.caller on namespace a.op path h way

pub open_exact : OpenNeedsRead
open_exact a path namespace on is way = (
  λ h. known a.facts a.rows a.users a.caller a.op (op.Open path) is (opening a.facts a.rows a.users a.caller namespace path way on h),
  λ h row at. access_taken a.rows a.users a.caller 4 path row (passed a.facts a.rows a.users a.caller a.op (op.Open path) on is h) at,
)

pub append_exact : AppendNeedsWrite
append_exact a path namespace on is way = (
  λ h. known a.facts a.rows a.users a.caller a.op (op.Append path) is (appending a.facts a.rows a.users a.caller namespace path way on h),
  λ h row at. access_taken a.rows a.users a.caller 2 path row (passed a.facts a.rows a.users a.caller a.op (op.Append path) on is h) at,
)

pub replication_exact : ReplicationNeedsWrite
replication_exact a path replication namespace on is way = (
  λ h. known a.facts a.rows a.users a.caller a.op (op.SetReplication path replication) is (replicating a.facts a.rows a.users a.caller namespace path way on replication h),
  λ h row at. access_taken a.rows a.users a.caller 2 path row (passed a.facts a.rows a.users a.caller a.op (op.SetReplication path replication) on is h) at,
)

pub list_exact : ListNeedsReadAndTraverse
list_exact a path namespace on is way = (
  λ h. known a.facts a.rows a.users a.caller a.op (op.List path) is (listing_in a.facts a.rows a.users a.caller namespace path way on h),
  λ h directory at kind. listed_held a.rows a.users a.caller path directory (passed a.facts a.rows a.users a.caller a.op (op.List path) on is h) at kind,
)

pub summary_exact : SummaryNeedsAllBeneath
summary_exact a path namespace on is way = (
  λ h. known a.facts a.rows a.users a.caller a.op (op.Summary path) is (counting a.facts a.rows a.users a.caller namespace path way on h),
  λ h directory at kind inside. counted_held a.rows a.users a.caller path directory (passed a.facts a.rows a.users a.caller a.op (op.Summary path) on is h) at kind inside,
)

pub mkdirs_exact : MkdirsNeedsWriteAbove
mkdirs_exact a path mode namespace on is way = (
  λ h. known a.facts a.rows a.users a.caller a.op (op.Mkdirs path mode) is (making a.facts a.rows a.users a.caller namespace path way on mode h),
  λ h missing above at. made_held a.rows a.users a.caller (op.Mkdirs path mode) path above (passed a.facts a.rows a.users a.caller a.op (op.Mkdirs path mode) on is h) refl missing at,
)

replaced_taken : (rows : List Row) (users : Users) (name : List ℕ) (path : List (List ℕ)) (mode replication : ℕ) (over : Bool) → decision rows users name (op.Create path mode replication over) ≡ None
    → over ≡ true → (file : Row) → row_at path rows ≡ Some file → is_directory file ≡ false → may_there rows users name 2 file ≡ true
replaced_taken rows users name path mode replication true h is file at kind = altered_held rows users name (op.Create path mode replication true) path file h refl at kind
replaced_taken rows users name path mode replication false h is file at kind = cc

pub create_exact : CreateNeedsWriteAbove
create_exact a path mode replication over namespace on is way = (
  λ h. known a.facts a.rows a.users a.caller a.op (op.Create path mode replication over) is (creating a.facts a.rows a.users a.caller namespace path way on mode replication over h.0 h.1),
  λ h. let none = passed a.facts a.rows a.users a.caller a.op (op.Create path mode replication over) on is h in
      (λ above at. created_taken a.rows a.users a.caller path over above none at, replaced_taken a.rows a.users a.caller path mode replication over none),
)

pub delete_exact : DeleteNeedsAllBeneath
delete_exact a path recursive namespace on is way = (
  λ h. known a.facts a.rows a.users a.caller a.op (op.Delete path recursive) is (removing a.facts a.rows a.users a.caller namespace path way on recursive h.0 h.1 h.2),
  λ h. let none = passed a.facts a.rows a.users a.caller a.op (op.Delete path recursive) on is h in (
    λ row directory at held sticky. sticky_held a.rows a.users a.caller (op.Delete path recursive) path row directory none refl at held sticky,
    λ directory held. parent_held a.rows a.users a.caller (op.Delete path recursive) path directory none refl held,
    λ directory at kind inside. all_held a.rows a.users a.caller path recursive directory none at kind inside,
  ),
)

pub rename_exact : RenameNeedsBothDirectories
rename_exact a from to namespace on is way there = (
  λ h. known a.facts a.rows a.users a.caller a.op (op.Rename from to) is (moving a.facts a.rows a.users a.caller namespace from way on to there h.0 h.1 h.2),
  λ h. let none = passed a.facts a.rows a.users a.caller a.op (op.Rename from to) on is h in (
    λ row directory at held sticky. sticky_held a.rows a.users a.caller (op.Rename from to) from row directory none refl at held sticky,
    λ above at. moved_taken a.rows a.users a.caller from to above none at,
    λ directory held. parent_held a.rows a.users a.caller (op.Rename from to) from directory none refl held,
  ),
)

owned : (rows : List Row) (users : Users) (name : List ℕ) (what : Op) (path : List (List ℕ)) → has_list_or_mode_set what ≡ Some path → decision rows users name what ≡ None → (row : Row) → row_at path rows ≡ Some row
    → (is_super users name || same name row.owner) ≡ true
owned rows users name (op.SetMode top mode) path h none row at = managed_held rows users name (op.SetMode top mode) path row none h at
owned rows users name (op.SetAcl top change) path h none row at = managed_held rows users name (op.SetAcl top change) path row none h at
owned rows users name _ path h none row at = cc

set_strict : (what : Op) (path : List (List ℕ)) → has_list_or_mode_set what ≡ Some path → is_strict what ≡ true
set_strict (op.SetMode top mode) path h = refl
set_strict (op.SetAcl top change) path h = refl
set_strict _ path h = cc

pub lists_exact : ListsAndModesNeedTheOwner
lists_exact a path namespace h way = (
  λ own. managing a.facts a.rows a.users a.caller namespace a.op path h way own,
  λ k row at. owned a.rows a.users a.caller a.op path h (if_strict a.rows a.users a.caller a.op None (set_strict a.op path h) (allowed a.facts a.rows a.users a.caller a.op k)) row at,
)

owner_kept : (rows : List Row) (users : Users) (name : List ℕ) (path : List (List ℕ)) (owner group : Option (List ℕ)) → decision rows users name (op.SetOwner path owner group) ≡ None
    → (user : List ℕ) (row : Row) → owner ≡ Some user → row_at path rows ≡ Some row → (is_super users name || same user row.owner) ≡ true
owner_kept rows users name path owner group h user row is at = kept_by_owner rows users name path user group row (ap (λ o. decision rows users name (op.SetOwner path o group)) (sym is) ∙ h) at

group_own : (rows : List Row) (users : Users) (name : List ℕ) (path : List (List ℕ)) (owner group : Option (List ℕ)) → decision rows users name (op.SetOwner path owner group) ≡ None
    → (group_name : List ℕ) (row : Row) → group ≡ Some group_name → row_at path rows ≡ Some row → (is_super users name || has_group (groups_of users name) group_name) ≡ true
group_own rows users name path owner group h group_name row is at =
    given_to_own_group rows users name path owner group_name row (ap (λ o. decision rows users name (op.SetOwner path owner o)) (sym is) ∙ h) at

pub chown_exact : ChownNeedsTheOwnerAndTheGroup
chown_exact a path owner group namespace is way = (
  λ h. known a.facts a.rows a.users a.caller a.op (op.SetOwner path owner group) is (giving a.facts a.rows a.users a.caller namespace path way owner group h.0 h.1 h.2),
  λ h. let none = if_strict a.rows a.users a.caller (op.SetOwner path owner group) None refl (allowed a.facts a.rows a.users a.caller (op.SetOwner path owner group) (ap (λ o. is_denied (step a.facts a.rows a.users a.caller o).verdict) (sym is) ∙ h)) in (
    λ row at. managed_held a.rows a.users a.caller (op.SetOwner path owner group) path row none refl at,
    owner_kept a.rows a.users a.caller path owner group none,
    group_own a.rows a.users a.caller path owner group none,
  ),
)

pub renew_free : RenewNeedsNothing
renew_free a is = known a.facts a.rows a.users a.caller a.op op.Renew is (by_rank a.facts a.rows a.users a.caller op.Renew refl (λ none. sym (judged_as_decided a.rows a.users a.caller op.Renew)) (λ k. refl))

no_node_op : (what : Op) → administers what ≡ true → is_for_nodes what ≡ false
no_node_op (op.AddUser user groups) h = refl
no_node_op (op.SetGroups user groups) h = refl
no_node_op (op.SetChecking on) h = refl
no_node_op (op.RollKey key) h = refl
no_node_op op.Tick h = refl
no_node_op _ h = cc

pub administration_exact : AdministrationNeedsASuperuser
administration_exact a namespace h = (
  λ super. never_denied a.facts a.rows a.users a.caller a.op super (no_node_op a.op h),
  λ k. administration_held a.rows a.users a.caller namespace a.op (if_strict a.rows a.users a.caller a.op None (administration_strict a.op h) (allowed a.facts a.rows a.users a.caller a.op k)) h,
)

-- whatever stands at the root, its need is met
node_met : (rows : List Row) (caller : Caller) → is_some (node_of caller.name) ≡ true → denial_among rows caller (node_identity ∷ []) ≡ None
node_met rows caller h = demand_passes caller rows node_identity [] (one_passes caller rows Node (row_at [] rows) (λ row is. h)) refl

nodes_pass : (facts : Facts) (rows : List Row) (users : Users) (name : List ℕ) (what : Op) → is_told_by_nodes what ≡ true → is_some (node_of name) ≡ true → is_denied (step facts rows users name what).verdict ≡ false
nodes_pass facts rows users name op.Heartbeat h k = let_in facts rows users name op.Heartbeat (turned_strict rows users name op.Heartbeat refl (node_met rows (record (caller_of users name) { is_superuser = false }) k))
nodes_pass facts rows users name (op.Reported replica) h k = let_in facts rows users name (op.Reported replica) (turned_strict rows users name (op.Reported replica) refl (node_met rows (record (caller_of users name) { is_superuser = false }) k))
nodes_pass facts rows users name (op.CommitRecovery recovered) h k = let_in facts rows users name (op.CommitRecovery recovered) (turned_strict rows users name (op.CommitRecovery recovered) refl (node_met rows (record (caller_of users name) { is_superuser = false }) k))
nodes_pass facts rows users name _ h k = cc

for_nodes : (what : Op) → is_told_by_nodes what ≡ true → is_for_nodes what ≡ true
for_nodes op.Heartbeat h = refl
for_nodes (op.Reported replica) h = refl
for_nodes (op.CommitRecovery recovered) h = refl
for_nodes _ h = cc

pub nodes_exact : NodesNeedTheirName
nodes_exact a namespace h = (
  λ node. nodes_pass a.facts a.rows a.users a.caller a.op h node,
  λ k. node_held a.rows a.users a.caller namespace a.op (if_strict a.rows a.users a.caller a.op None (nodes_strict a.op (for_nodes a.op h)) (allowed a.facts a.rows a.users a.caller a.op k)) (for_nodes a.op h),
)

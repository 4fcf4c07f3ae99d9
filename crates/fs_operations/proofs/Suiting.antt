-- What stands at a path keeps a list that suits it when its list is changed.
use Rattle.std.proofs.Common.{◌≡◌, ℕ, Bool, true, false, ◌||◌, not, List, cond, Option, Some, None, Ok, Err, refl, ap, ◌∙◌, subst}
use Rattle.std.specs.Prelude.{if◌then◌else◌}
use Rattle.std.specs.Option.{is_none}
use Rattle.permission_specs.specs.declared.acl_change.AclChange.{AclChange}
use Rattle.permission_specs.specs.declared.acl_change.AclChange.TheVariants.{Set, Modify, Remove, RemoveDefault, Clear}
use Rattle.permission_specs.specs.declared.entry.Scope.TheVariants.{Default}
use Rattle.hdfs_values.specs.declared.fault.AclFault.{AclFault}
use Rattle.hdfs_values.specs.declared.fault.AclFault.TheVariants.{DefaultOnFile, NoBase, BaseRemoved, MaskRemoved}
use Rattle.file_states.specs.declared.kind.ObjectKind.{ObjectKind}
use Rattle.file_states.specs.declared.kind.ObjectKind.TheVariants.{File, Directory}
use Rattle.refusals.specs.declared.refusal.Refusal.TheVariants.{TooManyEntries}
use Rattle.acl_entries.specs.Acl.{Acl, EntryList, suits_file}
use Rattle.partial_acl.specs.AclChange.{acl_change, acl_after, unless_fault, first_acl_fault, lacks_base, removes_base, removes_mask, touches, spec_in, default_after, access_after, with_mode}
use Rattle.namespace_rows.specs.declared.row.Row.{Row}
use Rattle.namespace_rows.specs.declared.file_row.FileRow.{FileRow}
use Rattle.namespace_rows.specs.declared.row.Change.TheVariants as given
use Rattle.namespace_rows.specs.Rows.{is_directory_kind, row_at}
use Rattle.namespace_rows.specs.Namespace.{suits_kind, suits_parts}
use Rattle.namespace_rows.specs.Changes.{suits_change}
use Rattle.namespace_rows.proofs.Tests.{both, and}
use Rattle.inode_tree.specs.Tree.{IsTree}
use Rattle.perm_walk.proofs.Standing.{row_suits}

-- a list suits a file or a directory
abbrev suits : ObjectKind → Acl → Bool
suits File acl = suits_file acl
suits Directory acl = true

own_suits : (row : Row) → suits_kind row ≡ true → suits row.kind row.acl ≡ true
own_suits row h = by row.kind row.file h
  where
    by : (kind : ObjectKind) (file : Option FileRow) → suits_parts (is_directory_kind kind) row.acl file ≡ true → suits kind row.acl ≡ true
    by File None h = cc
    by File (Some file) h = h
    by Directory file h = refl

suited_list : (row : Row) (acl : Acl) → suits row.kind acl ≡ true → suits_change (given.List acl) (Some row) ≡ true
suited_list row acl h = by row.kind h
  where
    by : (kind : ObjectKind) → suits kind acl ≡ true → (is_directory_kind kind || suits_file acl) ≡ true
    by File h = h
    by Directory h = refl

mode_suits : (mode : ℕ) (kind : ObjectKind) (acl : Acl) → suits kind acl ≡ true → suits kind (with_mode mode kind acl) ≡ true
mode_suits mode File acl h = (both (not acl.sticky) (is_none acl.default) h).1
mode_suits mode Directory acl h = refl

fitting : (b : Bool) (acl new : Acl) → cond b (Ok acl) (Err TooManyEntries) ≡ Ok new → acl ≡ new
fitting true acl new h = cc
fitting false acl new h = cc

accepted : (fault : Option AclFault) (acl new : Acl) → unless_fault fault acl ≡ Ok new → acl ≡ new
accepted (Some fault) acl new h = cc
accepted None acl new h = fitting _ acl new h

untouched : (change : AclChange) (access : EntryList) (default : Option EntryList) → touches Default (spec_in change) ≡ false → is_none default ≡ true → is_none (default_after change access default) ≡ true
untouched (Set spec) access default h none = rw h none
untouched (Modify spec) access default h none = rw h none
untouched (Remove spec) access default h none = rw h none
untouched RemoveDefault access default h none = refl
untouched Clear access default h none = refl

abbrev other_fault : AclChange → Acl → Option AclFault
other_fault change acl =
    if lacks_base change then Some NoBase else
    if removes_base change then Some BaseRemoved else
    if removes_mask change acl.access then Some MaskRemoved else None

refused : (fault : AclFault) (acl new : Acl) → unless_fault (Some fault) acl ≡ Ok new → suits_file new ≡ true
refused fault acl new h = cc

change_suits : (change : AclChange) (kind : ObjectKind) (acl new : Acl) → suits kind acl ≡ true → acl_change change kind acl ≡ Ok new → suits kind new ≡ true
change_suits change Directory acl new h is = refl
change_suits change File acl new h is = by (touches Default (spec_in change)) refl
  where
    parts : (not acl.sticky ≡ true) × (is_none acl.default ≡ true)
    parts = both (not acl.sticky) (is_none acl.default) h

    by : (touched : Bool) → touches Default (spec_in change) ≡ touched → suits_file new ≡ true
    by true e = refused DefaultOnFile (acl_after change acl) new (subst (λ t. unless_fault (cond t (Some DefaultOnFile) (other_fault change acl)) (acl_after change acl) ≡ Ok new) e is)
    by false e = subst (λ a. suits_file a ≡ true) (accepted (first_acl_fault change File acl) (acl_after change acl) new is)
        (and _ _ parts.0 (untouched change (access_after change acl.access) acl.default e parts.1))

pub list_of_mode_suits : (mode : ℕ) (path : List (List ℕ)) (rows : List Row) (row : Row) (acl : Acl) → IsTree rows → row_at path rows ≡ Some row → acl ≡ with_mode mode row.kind row.acl
    → suits_change (given.List acl) (row_at path rows) ≡ true
list_of_mode_suits mode path rows row acl tree is made =
    ap (suits_change (given.List acl)) is ∙ ap (λ a. suits_change (given.List a) (Some row)) made
    ∙ suited_list row (with_mode mode row.kind row.acl) (mode_suits mode row.kind row.acl (own_suits row (row_suits path rows row tree is)))

pub changed_list_suits : (change : AclChange) (path : List (List ℕ)) (rows : List Row) (row : Row) (acl : Acl) → IsTree rows → row_at path rows ≡ Some row → acl_change change row.kind row.acl ≡ Ok acl
    → suits_change (given.List acl) (row_at path rows) ≡ true
changed_list_suits change path rows row acl tree is made =
    ap (suits_change (given.List acl)) is ∙ suited_list row acl (change_suits change row.kind row.acl acl (own_suits row (row_suits path rows row tree is)) made)

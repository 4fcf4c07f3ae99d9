-- The text of an entry of an access control list: `[default:]TYPE:[NAME]:RIGHTS`.
-- (HDFS Permissions Guide, "ACLs Shell Commands".)
use Rattle.std.specs.Prelude.{ℕ, List, [], ◌∷◌, ◌++◌, Option, Some, None, codes}
use Rattle.permission_bits.specs.Rights.{rights_text}
use Rattle.permission_specs.specs.declared.entry.Scope.{Scope}
use Rattle.permission_specs.specs.declared.entry.Scope.TheVariants.{Access, Default}
use Rattle.permission_specs.specs.declared.entry.EntryKind.{EntryKind}
use Rattle.permission_specs.specs.declared.entry.EntryKind.TheVariants.{User, Group, Mask, Other}
use Rattle.permission_specs.specs.declared.entry.Entry.{Entry}

abbrev pub scope_text : Scope → List ℕ
scope_text Access = []
scope_text Default = codes "default:"

abbrev pub kind_text : EntryKind → List ℕ
kind_text User = codes "user"
kind_text Group = codes "group"
kind_text Mask = codes "mask"
kind_text Other = codes "other"

abbrev pub name_text : Option (List ℕ) → List ℕ
name_text None = []
name_text (Some name) = name

abbrev pub entry_text : Entry → List ℕ
entry_text entry = scope_text entry.scope ++ (kind_text entry.kind ++ (58 ∷ (name_text entry.name ++ (58 ∷ rights_text entry.rights.0))))

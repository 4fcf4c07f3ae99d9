-- The text of a list, entry by entry: the first, and each of the others behind a comma.
use Rattle.std.specs.Prelude.{ℕ, List, [], ◌∷◌, ◌++◌, Option, Some, None}
use Rattle.std.specs.List.{flat_map}
use Rattle.permission_specs.specs.Entry.{entry_text}
use Rattle.permission_specs.specs.declared.entry.Entry.{Entry}
use Rattle.permission_specs.specs.declared.entry.EntryKind.TheVariants.{User, Group, Other}
use Rattle.permission_specs.specs.declared.entry.Scope.{Scope}
use Rattle.permission_specs.specs.declared.entry.Scope.TheVariants.{Access, Default}
use Rattle.acl_entries.specs.Acl.{Acl, EntryList, base_entry, named_entry, mask_entries}

abbrev pub behind_comma : Entry → List ℕ
behind_comma entry = 44 ∷ entry_text entry

abbrev pub text_in : Scope → EntryList → List ℕ
text_in scope list =
    entry_text (base_entry scope User list.user) ++ (flat_map (λ entry. behind_comma (named_entry scope User entry)) list.users
    ++ (behind_comma (base_entry scope Group list.group) ++ (flat_map (λ entry. behind_comma (named_entry scope Group entry)) list.groups
    ++ (flat_map behind_comma (mask_entries scope list.mask) ++ behind_comma (base_entry scope Other list.other)))))

abbrev pub default_text : Option EntryList → List ℕ
default_text None = []
default_text (Some list) = 44 ∷ text_in Default list

abbrev pub acl_text : Acl → List ℕ
acl_text acl = text_in Access acl.access ++ default_text acl.default

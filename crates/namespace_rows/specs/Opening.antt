-- The namespace that a core opens with: the root alone, of mode 0755, owned by the superuser and the supergroup.
use Rattle.std.specs.Prelude.{ℕ, List, [], None}
use Rattle.file_states.specs.declared.kind.ObjectKind.TheVariants.{Directory}
use Rattle.acl_entries.specs.Acl.{acl_of_mode}
use Rattle.namespace_rows.specs.declared.row.Row.{Row}

abbrev pub root_row : List ℕ → List ℕ → Row
root_row superuser supergroup = record { path = []; kind = Directory; owner = superuser; group = supergroup; acl = acl_of_mode 493 Directory; file = None }

-- What an entry of a row's access list says of a caller.
use Rattle.std.specs.Prelude.{ℕ, List}
use Rattle.permission_bits.specs.declared.rights.Rights as bits
use Rattle.acl_entries.specs.JudgedEntry.{Chosen, judged_entry}
use Rattle.namespace_rows.specs.declared.row.Row.{Row}

-- the entry of the row that decides for a caller with these groups
abbrev pub judgement : Row → List ℕ → List (List ℕ) → bits.Rights → Chosen
judgement row caller groups asked = judged_entry row.owner row.group row.acl caller groups asked

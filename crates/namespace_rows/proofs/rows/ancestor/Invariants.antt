use Rattle.std.proofs.Common.{◌≡◌, drop}
use Rattle.std.specs.Prelude.{filter}
use Rattle.std.specs.List.{last_or}
use Rattle.std.specs.Option.{option_copied}
use Rattle.file_paths.specs.Path.{is_beneath}
use Rattle.namespace_rows.specs.Rows.{ancestor}
use Rattle.namespace_rows.proofs.rows.ancestor.Given as goal

abbrev pub invariant-loop-row : goal.invariant-loop-row
invariant-loop-row l = last_or (option_copied l.last) (filter (λ row. is_beneath l.path row.path) (drop l.row-index l.rows)) ≡ ancestor l.path l.rows

use Rattle.std.proofs.Common.{◌≡◌, ◌∙◌, sym, ap, List, ℕ, true, false, Bor, Option, Some, None}
use Rattle.std.specs.Prelude.{is_some}
use Rattle.std.specs.Option.{option_copied}
use Rattle.namespace_rows.specs.declared.row.Row.{Row}
use Rattle.namespace_rows.specs.Rows.{directory_of, is_none}
use Rattle.namespace_rows.specs.Namespace.{has_parent}
use Rattle.fs_operations.proofs.Renaming.{parent_there}
use Rattle.core_tests.proofs.namespaces.is_held.Goals as goal

held : (found : Option (Bor Row)) (path : List (List ℕ)) (rows : List Row) → option_copied found ≡ directory_of path rows → is_some found ≡ true → has_parent path rows ≡ true
held None path rows e there = cc
held (Some row) path rows e there = parent_there path rows (ap is_none (sym e))

pub returns : goal.returns
returns c = λ is. held c.directory_of.result c.args.path.now c.args.rows.now (c.directory_of.ensures ∙ ap (λ p. directory_of p c.args.rows.now) c.names.ensures.names) (sym c.is_some.ensures ∙ is)

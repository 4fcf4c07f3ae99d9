use Rattle.std.proofs.Common.{◌≡◌, ◌∷◌, [], List, refl, sym, ap, ◌∙◌, subst}
use Rattle.namespace_rows.specs.Changes.{rows_under}
use Rattle.namespace_rows.specs.declared.row.Row.{Row}
use Rattle.namespace_rows.specs.Namespace.{IsNamespace}
use Rattle.core_tests.proofs.namespaces.rows_of.Goals as goal

all_under : (rows : List Row) → rows_under [] rows ≡ rows
all_under [] = refl
all_under (row ∷ rows) = ap (λ l. row ∷ l) (all_under rows)

pub from_vec-requires : goal.from_vec-requires
from_vec-requires c =
    subst IsNamespace (sym (c.in_ok-rows.ensures ∙ ap (λ path. rows_under path c.args.tree.now) c.root.ensures ∙ all_under c.args.tree.now)) c.root-root.ensures.tree.namespace

pub returns : goal.returns
returns c = c.from_vec.ensures ∙ c.in_ok-rows.ensures ∙ ap (λ path. rows_under path c.args.tree.now) c.root.ensures ∙ all_under c.args.tree.now

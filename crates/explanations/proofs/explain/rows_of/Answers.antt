use Rattle.std.proofs.Common.{◌∙◌, sym, ap, subst}
use Rattle.namespace_rows.specs.Changes.{rows_under}
use Rattle.namespace_rows.specs.Namespace.{IsNamespace}
use Rattle.explanations.proofs.Fronts.{all_under}
use Rattle.explanations.proofs.explain.rows_of.Goals as goal

pub from_vec-requires : goal.from_vec-requires
from_vec-requires c =
    subst IsNamespace (sym (c.in_ok-rows.ensures ∙ ap (λ path. rows_under path c.args.tree.now) c.root.ensures ∙ all_under c.args.tree.now)) c.root-root.ensures.tree.namespace

pub returns : goal.returns
returns c = c.from_vec.ensures ∙ c.in_ok-rows.ensures ∙ ap (λ path. rows_under path c.args.tree.now) c.root.ensures ∙ all_under c.args.tree.now

use Rattle.std.proofs.Common.{subst}
use Rattle.namespace_rows.specs.Namespace.{IsNamespace}
use Rattle.namespace_rows.proofs.Namespaces.{namespace_tests}
use Rattle.history.specs.State.{rows_of}
use Rattle.history.proofs.Writers.{one_writer}
use Rattle.name_core.proofs.laws.files_have_one_writer.Goals as goal

pub returns : goal.returns
returns c = λ path client other.
    let rows = rows_of c.args.core.now.opening c.args.core.now.entries in
    one_writer rows path client other (namespace_tests rows (subst IsNamespace c.tree.ensures c.root-root.ensures.tree.namespace)).ascending

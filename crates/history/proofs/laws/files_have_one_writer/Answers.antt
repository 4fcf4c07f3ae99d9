use Rattle.namespace_rows.proofs.Namespaces.{namespace_tests}
use Rattle.history.proofs.Writers.{one_writer}
use Rattle.history.proofs.laws.files_have_one_writer.Goals as goal

pub returns : goal.returns
returns c = λ rows path client other namespace. one_writer rows path client other (namespace_tests rows namespace).ascending

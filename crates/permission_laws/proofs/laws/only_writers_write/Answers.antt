use Rattle.permission_laws.proofs.Endings.{done}
use Rattle.permission_laws.proofs.Held.{writer_held}
use Rattle.permission_laws.proofs.laws.only_writers_write.Goals as goal

pub returns : goal.returns
returns c = λ a path namespace is_done written. writer_held a.caller a.facts a.rows a.users namespace a.op path (done a.facts a.rows a.users a.caller a.op is_done).unrefused written

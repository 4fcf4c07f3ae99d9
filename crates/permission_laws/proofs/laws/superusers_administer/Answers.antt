use Rattle.std.proofs.Common.{None}
use Rattle.permission_laws.proofs.Checked.{if_strict, administration_strict}
use Rattle.permission_laws.proofs.Endings.{done, users_stay}
use Rattle.permission_laws.proofs.Held.{administration_held}
use Rattle.permission_laws.proofs.laws.superusers_administer.Goals as goal

pub returns-clause-others : goal.returns-clause-others
returns-clause-others c = λ a namespace is_done administers. administration_held a.rows a.users a.caller namespace a.op (if_strict a.rows a.users a.caller a.op None (administration_strict a.op administers) (done a.facts a.rows a.users a.caller a.op is_done).allowed) administers

pub returns-clause-users : goal.returns-clause-users
returns-clause-users c = λ a plain. users_stay a.facts a.rows a.users a.caller a.op plain

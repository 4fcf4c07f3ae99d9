use Rattle.history.proofs.Unchanged.{same_where_rests, not_done_rests, look_rests}
use Rattle.history.proofs.laws.nothing_changes.Goals as goal

pub returns-clause-not_done : goal.returns-clause-not_done
returns-clause-not_done c = λ opening entry earlier h. same_where_rests opening entry earlier (not_done_rests entry.request.op entry.verdict h)

pub returns-clause-looks : goal.returns-clause-looks
returns-clause-looks c = λ opening entry earlier h. same_where_rests opening entry earlier (look_rests entry.request.op entry.verdict h)

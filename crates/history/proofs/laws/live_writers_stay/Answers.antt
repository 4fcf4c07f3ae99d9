use Rattle.std.proofs.Common.{ap, ◌∙◌}
use Rattle.flat_rows.specs.Outcome.{step}
use Rattle.history.specs.State.{users_of, rows_of, facts_of}
use Rattle.history.specs.LegalHistory.{now_at}
use Rattle.flat_rows.specs.Verdicts.{is_done}
use Rattle.history.proofs.Writers.{turned_away, named}
use Rattle.history.proofs.laws.live_writers_stay.Goals as goal

pub returns-clause-stay : goal.returns-clause-stay
returns-clause-stay c = λ opening earlier request path writer asked at live.
    let rows = rows_of opening earlier in
    let facts = facts_of opening earlier (now_at earlier request) in
    ap (λ o. is_done (step facts rows (users_of earlier) request.caller o).verdict) asked ∙ turned_away facts rows (users_of earlier) request.caller path writer at live

pub returns-clause-named : goal.returns-clause-named
returns-clause-named c = λ opening earlier request path row writer asked at file holds clear granted live.
    let rows = rows_of opening earlier in
    let facts = facts_of opening earlier (now_at earlier request) in
    ap (λ o. (step facts rows (users_of earlier) request.caller o).verdict) asked ∙ named facts rows (users_of earlier) request.caller path row writer at file holds clear granted live
